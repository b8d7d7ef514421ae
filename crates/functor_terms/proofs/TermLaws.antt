-- Children stand behind their node, and inside the term.
use Rattle.std.proofs.Common.{◌≡◌, ℕ, zero, suc, ◌+◌, ◌<◌, ◌≤◌, List, [], ◌∷◌, ◌++◌, length, map, Contains, refl, sym, ap, ◌∙◌, subst, arith, length-append}
use Rattle.std.specs.List.{AllByRecursion}
use Rattle.functor_terms.specs.declared.node.Node.{Node}
use Rattle.functor_terms.specs.declared.node.Branch.{Branch}
use Rattle.functor_terms.specs.declared.node.Node.TheVariants.{State, Powerset}
use Rattle.std.specs.Prelude.{IsTrue, slice_index, ◌^◌}
use Rattle.std.proofs.Common.{lit≤, append_assoc}
use Rattle.functor_terms.specs.Spelling.{sets_of_states}
use Rattle.functor_terms.specs.Terms.{Nodes, Part, IsPart, IsTerm, IsWithin, Stands, HasLabels, takes, deepest, branch, starts, nodes_of, over, placed, children_at, depth_limit}

-- a child stands behind its node, and no further than the last node
abbrev pub ChildrenFit : Nodes → Type 0
ChildrenFit [] = Unit {0}
ChildrenFit (b ∷ nodes) =
    AllByRecursion (λ child. (0 < child) × (child ≤ length nodes)) b.children × ChildrenFit nodes

all_weaker : {A : Type 0} (R S : A → Type 0) (xs : List A) → ((x : A) → R x → S x)
    → AllByRecursion R xs → AllByRecursion S xs
all_weaker R S [] h all = tt
all_weaker R S (x ∷ xs) h all = (h x all.0, all_weaker R S xs h all.1)

fit-append : (xs ys : Nodes) → ChildrenFit xs → ChildrenFit ys → ChildrenFit (xs ++ ys)
fit-append [] ys a b = b
fit-append (x ∷ xs) ys a b = (
  all_weaker _ _ x.children (λ child h. (
    h.0,
    let within = h.1 in
        omega (arith, length-append xs ys),
  )) a.0,
  fit-append xs ys a.1 b,
)

-- some nodes whose children fit
abbrev pub IsBlock : Part → Type 0
IsBlock part = (0 < length part.0) × ChildrenFit part.0

fit-parts : (parts : List Part) → AllByRecursion IsBlock parts → ChildrenFit (nodes_of parts)
fit-parts [] all = tt
fit-parts (x ∷ xs) all = fit-append x.0 (nodes_of xs) all.0.1 (fit-parts xs all.1)

starts-within : (n : ℕ) (parts : List Part) → 0 < n → AllByRecursion IsBlock parts
    → AllByRecursion (λ child. (0 < child) × (child < n + length (nodes_of parts))) (starts n parts)
starts-within n [] positive all = tt
starts-within n (x ∷ xs) positive all =
    let size = length-append x.0 (nodes_of xs) in
    let some : 0 < length x.0 = all.0.0 in (
      (positive, omega arith),
      all_weaker _ _ (starts (n + length x.0) xs)
          (λ child h. (h.0, let within = h.1 in omega arith)) (starts-within (n + length x.0) xs
          (omega arith) all.1),
    )

-- a node over blocks is a block
over-block : (node : Node) (parts : List Part) → AllByRecursion IsBlock parts
    → IsBlock (over node parts)
over-block node parts all = (
  omega arith,
  (
    all_weaker _ _ (starts 1 parts) (λ child h. (
      h.0,
      let within = h.1 in
          omega arith,
    )) (starts-within 1 parts (omega arith) all),
    fit-parts parts all,
  ),
)

-- so is each part
pub part-block : (n : ℕ) (part : Part) → IsPart n part → IsBlock part
unfolding IsPart
part-block zero part is = absurd is
part-block (suc n) part (node, parts, takes, labels, each, made) =
    subst IsBlock (sym made) (over-block node parts (blocks (part-block n) parts each))
  where
    blocks : ((x : Part) → IsPart n x → IsBlock x) → (xs : List Part) → AllByRecursion (IsPart n) xs
        → AllByRecursion IsBlock xs
    blocks f [] all = tt
    blocks f (x ∷ xs) all = (f x all.0, blocks f xs all.1)

-- the children of a placed node
placed-children : (k : ℕ) (nodes : Nodes) → ChildrenFit nodes → (p q : ℕ)
    → Contains (children_at (placed k nodes) p) q → (k + p < q) × (q < k + length nodes)
placed-children k [] fit p q (i, below, is) = absurd (omega (arith, below))
placed-children k (b ∷ nodes) fit zero q found = moved b.children fit.0 found
  where
    moved : (cs : List ℕ) → AllByRecursion (λ child. (0 < child) × (child ≤ length nodes)) cs
        → Contains (map (λ child. k + child) cs) q → (k + 0 < q) × (q < k + suc (length nodes))
    moved [] all (i, below, is) = absurd (omega (arith, below))
    moved (c ∷ cs) all (zero, below, is) = let h = all.0 in let e : k + c ≡ q = is in
        (omega (arith, h.0, e), omega (arith, h.1, e))
    moved (c ∷ cs) all (suc i, below, is) = moved cs all.1 (i, omega (arith, below), is)
placed-children k (b ∷ nodes) fit (suc p) q found =
    let (low, high) = placed-children (k + 1) nodes fit.1 p q found in
    (omega (arith, low), omega (arith, high))

-- nodes that are placed are as many
pub placed-length : (k : ℕ) (nodes : Nodes) → length (placed k nodes) ≡ length nodes
placed-length k [] = refl
placed-length k (b ∷ nodes) = ap suc (placed-length (k + 1) nodes)

-- a child comes behind its node, and within the term
pub term-later : (t : Nodes) → IsTerm t → (p q : ℕ) → Contains (children_at t p) q
    → (p < q) × (q < length t)
term-later t is p q found =
    let fit : ChildrenFit is.part.0 = (part-block depth_limit is.part is.within.built).1 in
    let size : length t ≡ length is.part.0 = ap length is.numbered ∙ placed-length 0 is.part.0 in
    let (low, high) = placed-children 0 is.part.0 fit p q
    (subst (λ (u : Nodes). Contains (children_at u p) q) is.numbered found) in
    (omega (arith, low), omega (arith, high, size))

-- a term has from 1 to 256 nodes
pub term-some : (t : Nodes) → IsTerm t → (0 < length t) × (length t ≤ 256)
term-some t is =
    let some : 0 < length is.part.0 = (part-block depth_limit is.part is.within.built).0 in
    let few : length is.part.0 ≤ 256 = is.within.few in
    let size : length t ≡ length is.part.0 = ap length is.numbered ∙ placed-length 0 is.part.0 in
    (omega (arith, some, size), omega (arith, few, size))

-- a node over parts is a part one deeper
pub over-part : (n : ℕ) (node : Node) (parts : List Part) → IsTrue (takes node (length parts))
    → HasLabels node → AllByRecursion (IsPart n) parts → IsPart (suc n) (over node parts)
unfolding IsPart
over-part n node parts arity labels each = (node, parts, arity, labels, each, refl)

-- the sets of states are a term
pub sets-term : IsTerm sets_of_states
sets-term =
    record {
      part = over Powerset (over State [] ∷ []);
      within = record {
        built = over-part 31 Powerset (over State [] ∷ []) refl tt (
          over-part 30 State [] refl tt
              tt,
          tt,
        );
        few = lit≤ tt;
      };
      numbered = refl;
    }

-- a part is one of any greater depth
pub part-deeper : (n m : ℕ) → n ≤ m → (part : Part) → IsPart n part → IsPart m part
unfolding IsPart
part-deeper zero m le part is = absurd is
part-deeper (suc n) zero le part is = absurd (omega (arith, le))
part-deeper (suc n) (suc m) le part (node, parts, arity, labels, each, made) = (
  node,
  parts,
  arity,
  labels,
  all_weaker (IsPart n) (IsPart m) parts
      (part-deeper n m (omega (arith, le))) each,
  made,
)

-- parts are as deep as the deepest of them
pub each-deeper : (parts : List Part) (d : ℕ) → deepest parts ≤ d
    → AllByRecursion (λ part. IsPart part.1 part) parts → AllByRecursion (IsPart d) parts
each-deeper [] d le each = tt
each-deeper (x ∷ xs) d le each = (
  part-deeper x.1 d (omega (arith, le)) x each.0,
  each-deeper xs d
      (omega (arith, le)) each.1,
)

-- and of its own depth
pub part-tight : (n : ℕ) (part : Part) → IsPart n part → IsPart part.1 part
unfolding IsPart
part-tight zero part is = absurd is
part-tight (suc n) part (node, parts, arity, labels, each, made) =
    let own = each-deeper parts (deepest parts) (omega arith)
    (all_weaker (IsPart n) (λ part. IsPart part.1 part) parts (part-tight n) each) in
    let depth : suc (deepest parts) ≡ part.1 = omega (arith, ap (λ (x : Part). x.1) made) in
    subst (λ d. IsPart d part) depth (node, parts, arity, labels, own, made)

-- a node over parts within the bounds
pub over-within : (node : Node) (parts : List Part) → Stands node parts
    → AllByRecursion IsWithin parts → IsWithin (over node parts)
over-within node parts stands within = record {
  built = over-part 31 node parts stands.arity stands.labels
      (each-deeper parts 31 (let shallow : deepest parts < 32 = stands.small.shallow in
      omega (arith, shallow)) (all_weaker IsWithin (λ part. IsPart part.1 part) parts
      (λ part is. part-tight depth_limit part is.built) within));
  few = let few : length (nodes_of parts) < 256 = stands.small.few in
      let fits : suc (length (nodes_of parts)) ≤ 256 = omega (arith, few) in fits;
}

children-numbered : (p n : ℕ) (cs : List ℕ) → AllByRecursion (λ child. (0 < child) × (child ≤ n)) cs
    → p + suc n ≤ 256 → (k : ℕ) → k < length cs → p + slice_index cs k < 2 ^ 32
children-numbered p n [] all few k inside = absurd (omega (arith, inside))
children-numbered p n (c ∷ cs) all few zero inside = let le = all.0.1 in omega (arith, le, few)
children-numbered p n (c ∷ cs) all few (suc k) inside = children-numbered p n cs all.1 few k
    (omega (arith, inside))

-- the numbers of the first node's children fit
pub children-fit : (p : ℕ) (nodes rest : Nodes) (b : Branch) → nodes ≡ b ∷ rest → ChildrenFit nodes
    → p + length nodes ≤ 256 → (k : ℕ) → k < length b.children
    → p + slice_index b.children k < 2 ^ 32
children-fit p nodes rest b is fit few =
    let fit' : ChildrenFit (b ∷ rest) = subst (λ (l : Nodes). ChildrenFit l) is fit in
    children-numbered p (length rest) b.children fit'.0 (subst (λ (l : Nodes). p + length l ≤ 256)
    is few)

-- one node more is placed
pub placed-step : (done new left rest whole : Nodes) (p : ℕ) (b y : Branch)
    → done ++ placed p left ≡ whole → left ≡ b ∷ rest
    → y ≡ branch b.node (map (λ child. p + child) b.children) → new ≡ done ++ y ∷ []
    → new ++ placed (p + 1) rest ≡ whole
placed-step done new left rest whole p b y so_far is made pushed =
    ap (λ l. l ++ placed (p + 1) rest) pushed ∙ append_assoc done (y ∷ []) (placed (p + 1) rest)
    ∙ ap (λ x. done ++ x ∷ placed (p + 1) rest) made ∙ sym (ap (λ l. done ++ placed p l) is)
    ∙ so_far

-- what fits over a list of nodes fits over the rest
pub fit-rest : (left rest : Nodes) (b : Branch) → left ≡ b ∷ rest → ChildrenFit left
    → ChildrenFit rest
fit-rest left rest b is fit = let whole : ChildrenFit (b ∷ rest) =
    subst (λ (l : Nodes). ChildrenFit l) is fit in whole.1
