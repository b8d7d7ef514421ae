-- A fold over a node that stands over parts is the step from the folds over the parts.
use Rattle.std.proofs.Common.{◌≡◌, ℕ, zero, suc, ◌+◌, ◌<◌, ◌≤◌, List, [], ◌∷◌, ◌++◌, length, map, Option, Some, None, slice_get, refl, sym, ap, ◌∙◌, subst, arith, length-append}
use Rattle.std.specs.Prelude.{option_map}
use Rattle.std.specs.List.{AllByRecursion}
use Rattle.std.specs.Option.{option_map_or}
use Rattle.functor_terms.specs.declared.node.Node.{Node}
use Rattle.functor_terms.specs.declared.node.Branch.{Branch}
use Rattle.functor_terms.specs.Terms.{Nodes, Part, branch, placed, over, starts, nodes_of, fold_within, fold}
use Rattle.functor_terms.proofs.TermLaws.{ChildrenFit, IsBlock, placed-length}

-- a node with its children by number, where its own number is q
abbrev moved : ℕ → Branch → Branch
moved q b = branch b.node (map (λ child. q + child) b.children)

-- from place k on stand these nodes, their children by number
abbrev StandAt : Nodes → ℕ → Nodes → Type 0
StandAt t k nodes = (p : ℕ) → p < length nodes → slice_get t (k + p) ≡ option_map (moved (k + p))
    (slice_get nodes p)

get-placed : (k : ℕ) (nodes : Nodes) (p : ℕ) → slice_get (placed k nodes) p ≡ option_map
    (moved (k + p)) (slice_get nodes p)
get-placed k [] p = refl
get-placed k (b ∷ nodes) zero = let same : k ≡ k + zero = omega arith in
    ap (λ q. Some (moved q b)) same
get-placed k (b ∷ nodes) (suc p) = let same : k + 1 + p ≡ k + suc p = omega arith in
    get-placed (k + 1) nodes p ∙ ap (λ q. option_map (moved q) (slice_get nodes p)) same

placed-stand : (nodes : Nodes) → StandAt (placed 0 nodes) 0 nodes
placed-stand nodes p inside = let same : 0 + p ≡ p = omega arith in
    ap (slice_get (placed 0 nodes)) same ∙ get-placed 0 nodes p

get-front : {X : Type 0} (xs ys : List X) (p : ℕ) → p < length xs
    → slice_get (xs ++ ys) p ≡ slice_get xs p
get-front [] ys p inside = absurd (omega (arith, inside))
get-front (x ∷ xs) ys zero inside = refl
get-front (x ∷ xs) ys (suc p) inside = get-front xs ys p (omega (arith, inside))

get-back : {X : Type 0} (xs ys : List X) (p : ℕ) → slice_get (xs ++ ys) (length xs + p)
    ≡ slice_get ys p
get-back [] ys p = let same : 0 + p ≡ p = omega arith in ap (slice_get ys) same
get-back (x ∷ xs) ys p = let same : suc (length xs) + p ≡ suc (length xs + p) = omega arith in
    ap (slice_get (x ∷ (xs ++ ys))) same ∙ get-back xs ys p

stand-front : (t : Nodes) (k : ℕ) (xs ys : Nodes) → StandAt t k (xs ++ ys) → StandAt t k xs
stand-front t k xs ys at p inside = at p (omega (arith, inside, length-append xs ys))
    ∙ ap (option_map (moved (k + p))) (get-front xs ys p inside)

stand-back : (t : Nodes) (k : ℕ) (xs ys : Nodes) → StandAt t k (xs ++ ys)
    → StandAt t (k + length xs) ys
stand-back t k xs ys at p inside =
    let same : k + length xs + p ≡ k + (length xs + p) = omega arith in
    ap (slice_get t) same ∙ at (length xs + p) (omega (arith, inside, length-append xs ys))
    ∙ (λ i. option_map (moved (sym same i)) (get-back xs ys p i))

-- the children of a node stand inside
children-inside : (nodes : Nodes) (p : ℕ) (b : Branch) → ChildrenFit nodes
    → slice_get nodes p ≡ Some b → AllByRecursion (λ child. (0 < child) ×
    (p + child < length nodes)) b.children
children-inside [] p b fit is = cc
children-inside (a ∷ nodes) zero b fit is = let same : a ≡ b = cc in
    subst (λ (c : Branch). AllByRecursion (λ child. (0 < child) ×
    (0 + child < suc (length nodes))) c.children) same (all a.children fit.0)
  where
    all : (cs : List ℕ) → AllByRecursion (λ child. (0 < child) × (child ≤ length nodes)) cs
        → AllByRecursion (λ child. (0 < child) × (0 + child < suc (length nodes))) cs
    all [] h = tt
    all (c ∷ cs) h = ((h.0.0, let le = h.0.1 in omega (arith, le)), all cs h.1)
children-inside (a ∷ nodes) (suc p) b fit is = all b.children (children-inside nodes p b fit.1 is)
  where
    all : (cs : List ℕ) → AllByRecursion (λ child. (0 < child) × (p + child < length nodes)) cs
        → AllByRecursion (λ child. (0 < child) × (suc p + child < suc (length nodes))) cs
    all [] h = tt
    all (c ∷ cs) h = ((h.0.0, let lt = h.0.1 in omega (arith, lt)), all cs h.1)

module _ {A : Type 0} (other : A) (step : Node → List A → A) where
  abbrev at : (ℕ → A) → Option Branch → A
  at below b = option_map_or (λ b. step b.node (map below b.children)) b other

  -- two folds agree at the children of a node
  children-agree : (f g : ℕ → A) (q r : ℕ) (cs : List ℕ)
      → AllByRecursion (λ child. f (q + child) ≡ g (r + child)) cs
      → map f (map (λ child. q + child) cs) ≡ map g (map (λ child. r + child) cs)
  children-agree f g q r [] all = refl
  children-agree f g q r (c ∷ cs) all = λ i. all.0 i ∷ children-agree f g q r cs all.1 i

  -- a block is folded alike wherever it stands, and however many levels are looked at past its own
  fold-block : (t : Nodes) (k : ℕ) (nodes : Nodes) → StandAt t k nodes → ChildrenFit nodes
      → (n m p : ℕ) → p < length nodes → length nodes ≤ n + p → length nodes ≤ m + p
      → fold_within other step t n (k + p) ≡ fold_within other step (placed 0 nodes) m p
  fold-block t k nodes stand fit zero m p inside far also = absurd (omega (arith, inside, far))
  fold-block t k nodes stand fit (suc n) zero p inside far also =
      absurd (omega (arith, inside, also))
  fold-block t k nodes stand fit (suc n) (suc m) p inside far also =
      by (fold-block t k nodes stand fit n m) (slice_get nodes p) refl
    where
      children : ((p : ℕ) → p < length nodes → length nodes ≤ n + p → length nodes ≤ m + p
          → fold_within other step t n (k + p) ≡ fold_within other step (placed 0 nodes) m p)
          → (cs : List ℕ) → AllByRecursion (λ child. (0 < child) × (p + child < length nodes)) cs
          → AllByRecursion (λ child. fold_within other step t n (k + p + child)
          ≡ fold_within other step (placed 0 nodes) m (0 + p + child)) cs
      children below [] h = tt
      children below (c ∷ cs) h =
          let some = h.0.0 in
          let within = h.0.1 in
          let here : k + p + c ≡ k + (p + c) = omega arith in
          let there : p + c ≡ 0 + p + c = omega arith in (
            ap (fold_within other step t n) here ∙ below (p + c) within (omega (arith, far, some))
                (omega (arith, also, some)) ∙ ap (fold_within other step (placed 0 nodes) m) there,
            children below cs h.1,
          )

      by : ((p : ℕ) → p < length nodes → length nodes ≤ n + p → length nodes ≤ m + p
          → fold_within other step t n (k + p) ≡ fold_within other step (placed 0 nodes) m p)
          → (r : Option Branch) → slice_get nodes p ≡ r → at (fold_within other step t n)
          (slice_get t (k + p)) ≡ at (fold_within other step (placed 0 nodes) m)
          (slice_get (placed 0 nodes) p)
      by below None is =
          ap (at (fold_within other step t n)) (stand p inside ∙ ap (option_map (moved (k + p))) is)
          ∙ sym (ap (at (fold_within other step (placed 0 nodes) m))
          (get-placed 0 nodes p ∙ ap (option_map (moved (0 + p))) is))
      by below (Some b) is =
          ap (at (fold_within other step t n)) (stand p inside ∙ ap (option_map (moved (k + p))) is)
          ∙ ap (step b.node) (children-agree (fold_within other step t n)
          (fold_within other step (placed 0 nodes) m) (k + p) (0 + p) b.children
          (children below b.children (children-inside nodes p b fit is)))
          ∙ sym (ap (at (fold_within other step (placed 0 nodes) m))
          (get-placed 0 nodes p ∙ ap (option_map (moved (0 + p))) is))

  -- the fold over a part
  abbrev pub fold_part : Part → A
  fold_part part = fold other step (placed 0 part.0) 0

  parts-folded : (t : Nodes) (n s q : ℕ) (parts : List Part) → q ≡ 0 → StandAt t s (nodes_of parts)
      → AllByRecursion IsBlock parts → length (nodes_of parts) ≤ n
      → map (fold_within other step t n) (map (λ child. q + child) (starts s parts))
      ≡ map fold_part parts
  parts-folded t n s q [] zero_is stand blocks far = refl
  parts-folded t n s q (x ∷ xs) zero_is stand blocks far =
      let size = length-append x.0 (nodes_of xs) in
      let here : q + s ≡ s + 0 = omega (arith, zero_is) in
      let some : 0 < length x.0 = blocks.0.0 in
      let whole = placed-length 0 x.0 in
      let first : fold_within other step t n (q + s) ≡ fold_part x =
      ap (fold_within other step t n) here
      ∙ fold-block t s x.0 (stand-front t s x.0 (nodes_of xs) stand) blocks.0.1 n
      (length (placed 0 x.0)) 0 some (omega (arith, far, size)) (omega (arith, whole)) in
      λ i. first i ∷ parts-folded t n (s + length x.0) q xs zero_is
      (stand-back t s x.0 (nodes_of xs) stand) blocks.1 (omega (arith, far, size)) i

  -- the fold over a node and its parts
  pub fold-over : (node : Node) (parts : List Part) → AllByRecursion IsBlock parts
      → fold_part (over node parts) ≡ step node (map fold_part parts)
  fold-over node parts blocks =
      let t : Nodes = placed 0 (over node parts).0 in
      let size = placed-length 1 (nodes_of parts) in
      ap (step node) (parts-folded (placed 0 (over node parts).0)
      (length (placed 1 (nodes_of parts))) 1 0 parts refl
      (stand-back (placed 0 (over node parts).0) 0 (branch node (starts 1 parts) ∷ [])
      (nodes_of parts) (placed-stand (over node parts).0)) blocks (omega (arith, size)))
