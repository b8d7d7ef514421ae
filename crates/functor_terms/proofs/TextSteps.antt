-- The text of a term is written node by node.
use Rattle.std.proofs.Common.{◌≡◌, ℕ, zero, suc, ◌+◌, ◌<◌, ◌≤◌, List, [], ◌∷◌, ◌++◌, length, map, take, Some, Contains, Bool, true, false, refl, sym, ap, ◌∙◌, subst, append_assoc, append-nil, arith}
use Rattle.std.specs.Prelude.{slice_get, nat_le, ◌==◌, if◌then◌else◌, codes, Result, Ok, Err, is_ok, OnOk}
use Rattle.std.specs.List.{flat_map, join_by}
use Rattle.std.proofs.lemmas.Bool.Decides.{nat_tests}
use Rattle.std.proofs.lemmas.Option.{none-some, same_Some}
use Rattle.functor_terms.specs.declared.node.Node.{Node}
use Rattle.functor_terms.specs.declared.node.Node.TheVariants.{Product, Sum, Power}
use Rattle.functor_terms.specs.Terms.{Nodes, IsTerm, node_at, children_at}
use Rattle.functor_terms.specs.Text.{Shown, shown, prefix_level, sum_level, level_of, enclosed, within, only, node_text, shown_over, shown_at}
use Rattle.functor_terms.proofs.Folds.{fold-at}
use Rattle.functor_terms.proofs.TermLaws.{term-later}

-- a node is shown over how its children are shown
pub shown-at : (t : Nodes) → IsTerm t → (p : ℕ) → p < length t
    → shown_at t p ≡ shown_over (node_at t p) (map (shown_at t) (children_at t p))
unfolding shown_at
shown-at t is p inside = fold-at (shown prefix_level []) shown_over t is p inside

-- a text that binds closely enough stands as it is
pub within-same : (level : ℕ) (s : Shown) → s.level ≤ level → within level s ≡ s.text
within-same level s close = by (nat_le s.level level) (grind (arith, nat_tests))
  where
    by : (b : Bool) → b ≡ true → (if b then s.text else enclosed s.text) ≡ s.text
    by true e = refl
    by false e = cc

-- a looser one stands in parentheses
pub within-enclosed : (level : ℕ) (s : Shown) → level < s.level → within level s ≡ enclosed s.text
within-enclosed level s loose = by (nat_le s.level level) (grind (arith, nat_tests))
  where
    by : (b : Bool) → b ≡ false → (if b then s.text else enclosed s.text) ≡ enclosed s.text
    by false e = refl
    by true e = cc

-- no text binds more loosely than a sum
levels : (node : Node) → level_of node ≤ 3
levels (Power labels) = omega arith
levels Product = omega arith
levels Sum = omega arith
levels _ = omega arith

-- so within the level of sums nothing stands in parentheses
pub shown-loose : (t : Nodes) → IsTerm t → (p : ℕ) → p < length t
    → within sum_level (shown_at t p) ≡ (shown_at t p).text
shown-loose t is p inside = within-same sum_level (shown_at t p)
    (subst (λ (s : Shown). s.level ≤ 3) (sym (shown-at t is p inside)) (levels (node_at t p)))

pub only-loose : (t : Nodes) → IsTerm t → (p : ℕ) → (children : List ℕ)
    → children_at t p ≡ children
    → within sum_level (only (map (shown_at t) children))
    ≡ (only (map (shown_at t) children)).text
only-loose t is p [] e = within-same sum_level (shown prefix_level []) (omega arith)
only-loose t is p (q ∷ qs) e = shown-loose t is q
    (term-later t is p q (subst (λ l. Contains l q) (sym e) (0, omega arith, refl))).1

contained : (xs : List ℕ) (i x : ℕ) → slice_get xs i ≡ Some x → Contains xs x
contained [] i x e = absurd (none-some x e)
contained (y ∷ ys) zero x e = (0, omega arith, same_Some y x e)
contained (y ∷ ys) (suc i) x e =
    let (k, below, same) = contained ys i x e in (suc k, omega (arith, below), same)

-- a child by its place is a node of the term, behind its own
pub child-inside : (t : Nodes) → IsTerm t → (p i q : ℕ)
    → slice_get (children_at t p) i ≡ Some q → (p < q) × (q < length t)
child-inside t is p i q e = term-later t is p q (contained (children_at t p) i q e)

-- the separator stands before each but the first
separated : {X : Type 0} (separator : List X) (i : ℕ)
    → (if suc i == 0 then [] else separator) ≡ separator
separated separator i = by (suc i == 0) (grind (arith, nat_tests))
  where
    by : (b : Bool) → b ≡ false → (if b then [] else separator) ≡ separator
    by false e = refl
    by true e = cc

flat-more : {X A : Type 0} (f : X → List A) (xs : List X) (i : ℕ) (x : X)
    → slice_get xs i ≡ Some x
    → flat_map f (take (i + 1) xs) ≡ flat_map f (take i xs) ++ f x
flat-more f [] i x e = absurd (none-some x e)
flat-more f (y ∷ ys) zero x e = append-nil (f y) ∙ ap f (same_Some y x e)
flat-more f (y ∷ ys) (suc i) x e =
    let same : suc i + 1 ≡ suc (i + 1) = omega arith in
    ap (λ n. flat_map f (take n (y ∷ ys))) same ∙ ap (λ l. f y ++ l) (flat-more f ys i x e)
    ∙ sym (append_assoc (f y) (flat_map f (take i ys)) (f x))

-- one more piece behind others, with the separator before it
join-more : {X A : Type 0} (f : X → List A) (separator : List A) (xs : List X) (i : ℕ) (x : X)
    → slice_get xs i ≡ Some x
    → join_by f separator (take (i + 1) xs)
    ≡ (join_by f separator (take i xs) ++ (if i == 0 then [] else separator)) ++ f x
join-more f separator [] i x e = absurd (none-some x e)
join-more f separator (y ∷ ys) zero x e = append-nil (f y) ∙ ap f (same_Some y x e)
join-more f separator (y ∷ ys) (suc i) x e =
    let same : suc i + 1 ≡ suc (i + 1) = omega arith in
    ap (λ n. join_by f separator (take n (y ∷ ys))) same
    ∙ ap (λ l. f y ++ l) (flat-more (λ z. separator ++ f z) ys i x e)
    ∙ sym (append_assoc (f y) (flat_map (λ z. separator ++ f z) (take i ys)) (separator ++ f x))
    ∙ sym (append_assoc (f y ++ flat_map (λ z. separator ++ f z) (take i ys)) separator (f x))
    ∙ ap (λ l. ((f y ++ flat_map (λ z. separator ++ f z) (take i ys)) ++ l) ++ f x)
    (sym (separated separator i))

-- a turn of a loop that puts pieces last
pub join-turn : {X A : Type 0} (f : X → List A) (separator : List A) (xs : List X) (i : ℕ) (x : X)
    (old kept before new : List A) → slice_get xs i ≡ Some x
    → kept ≡ old ++ join_by f separator (take i xs)
    → before ≡ kept ++ (if i == 0 then [] else separator) → new ≡ before ++ f x
    → new ≡ old ++ join_by f separator (take (i + 1) xs)
join-turn f separator xs i x old kept before new at is first second =
    second ∙ ap (λ l. l ++ f x) (first ∙ ap (λ l. l ++ (if i == 0 then [] else separator)) is)
    ∙ ap (λ l. l ++ f x) (append_assoc old (join_by f separator (take i xs))
    (if i == 0 then [] else separator))
    ∙ append_assoc old (join_by f separator (take i xs) ++ (if i == 0 then [] else separator)) (f x)
    ∙ ap (λ l. old ++ l) (sym (join-more f separator xs i x at))

-- a child by its place, as it is shown
pub shown-child : {X Y : Type 0} (f : X → Y) (xs : List X) (i : ℕ) (x : X)
    → slice_get xs i ≡ Some x → slice_get (map f xs) i ≡ Some (f x)
shown-child f [] i x e = absurd (none-some x e)
shown-child f (y ∷ ys) zero x e = ap (λ z. Some (f z)) (same_Some y x e)
shown-child f (y ∷ ys) (suc i) x e = shown-child f ys i x e

-- A node, put as it stands or in parentheses.
module _ (t : Nodes) (is : IsTerm t) (p : ℕ) (inside : p < length t) (node : Node)
    (at : node ≡ node_at t p) (level : ℕ) where
  abbrev own_text : List ℕ
  own_text = node_text node (map (shown_at t) (children_at t p))

  text-at : own_text ≡ (shown_at t p).text
  text-at = ap (λ m. node_text m (map (shown_at t) (children_at t p))) at
      ∙ sym (ap (λ s. s.text) (shown-at t is p inside))

  level-at : level_of node ≡ (shown_at t p).level
  level-at = ap level_of at ∙ sym (ap (λ s. s.level) (shown-at t is p inside))

  -- a child that binds as tightly stands as it is
  pub put-same : level_of node ≤ level → own_text ≡ within level (shown_at t p)
  put-same close = text-at
      ∙ sym (within-same level (shown_at t p) (subst (λ n. n ≤ level) level-at close))

  -- a child that binds more loosely stands in parentheses
  pub put-enclosed : level < level_of node → (old before behind : List ℕ)
      → before ≡ old ++ codes "(" → behind ≡ before ++ own_text
      → behind ++ codes ")" ≡ old ++ within level (shown_at t p)
  put-enclosed loose old before behind first second =
      ap (λ l. l ++ codes ")") (second ∙ ap (λ l. l ++ own_text) first
      ∙ append_assoc old (codes "(") own_text)
      ∙ append_assoc old (codes "(" ++ own_text) (codes ")")
      ∙ ap (λ l. old ++ l) (ap enclosed text-at
      ∙ sym (within-enclosed level (shown_at t p) (subst (λ n. level < n) level-at loose)))

-- the child of weights, behind their letter and the open parenthesis
pub put-weights : (t : Nodes) → IsTerm t → (p : ℕ) → (old letter before behind : List ℕ)
    → before ≡ old ++ letter
    → behind ≡ before ++ within sum_level (only (map (shown_at t) (children_at t p)))
    → behind ++ codes ")"
    ≡ old ++ letter ++ (only (map (shown_at t) (children_at t p))).text ++ codes ")"
put-weights t is p old letter before behind first second =
    ap (λ l. l ++ codes ")") (second ∙ ap (λ l. l ++ within sum_level
    (only (map (shown_at t) (children_at t p)))) first
    ∙ ap (λ l. old ++ letter ++ l) (only-loose t is p (children_at t p) refl))

-- the last piece, where memory was ample
pub put-last : {E : Type 0} (r : Result (Unit {0}) E) (new before piece all : List ℕ)
    → new ≡ (if is_ok r then before ++ piece else before) → before ++ piece ≡ all
    → OnOk r (new ≡ all)
put-last (Ok x) new before piece all is whole = is ∙ whole
put-last (Err x) new before piece all is whole = tt
