-- One structure's edges, added one by one.
use Rattle.std.proofs.Common.{◌≡◌, ℕ, zero, suc, ◌+◌, ◌<◌, ◌≤◌, Bool, true, false, not, cond, List, [], ◌∷◌, ◌++◌, length, map, refl, sym, ap, ◌∙◌, subst, ⊎_elim, Some, slice_get, drop, arith, append_assoc, length-append}
use Rattle.std.specs.Prelude.{unwrap_or, slice_index}
use Rattle.std.specs.List.{zip}
use Rattle.std.proofs.lemmas.Option.{same_Some, none-some}
use Rattle.std.proofs.lemmas.Bool.{cases_lt}
use Rattle.std.proofs.lemmas.List.{drop_all, append-nil}
use Rattle.functor_terms.specs.declared.node.Node.{Node}
use Rattle.functor_terms.specs.declared.node.Node.TheVariants.{State, Constant, Naturals, Product, Sum, Power, Powerset, Bag, Distribution, Integers, Rationals}
use Rattle.functor_terms.specs.Terms.{Nodes, IsTerm, node_at, children_at}
use Rattle.functor_terms.proofs.TermLaws.{term-later}
use Rattle.typing.specs.declared.value.Value.{Value}
use Rattle.typing.specs.Values.{state, index, inner, parts}
use Rattle.typing.specs.Layers.{Place, at_child, weighed, child_places, children_of, leaves_of, layers_in, is_state_at}
use Rattle.structures.specs.Structures.{repeated}
use Rattle.structures.specs.Walk.{targets_of}
use Rattle.structures.proofs.AtChild.{at_child-within, at_child-past, picked_in}
use Rattle.structures.proofs.Leaves.{leaves-children}

module _ (t : Nodes) (x : Place) (rest : List Place) (places : List Place) where
  pub step_places : (places ++ layers_in t (x ∷ [])) ++ layers_in t rest ≡ places ++ layers_in t
      (x ∷ rest)
  step_places = by (is_state_at t x)
    where
      by : (b : Bool) → (places ++ cond (not b) (x ∷ []) []) ++ layers_in t rest ≡ places
          ++ cond (not b) (x ∷ layers_in t rest) (layers_in t rest)
      by true = append_assoc places [] (layers_in t rest)
      by false = append_assoc places (x ∷ []) (layers_in t rest)

  pub step_count : length (places ++ layers_in t (x ∷ [])) ≤ length places + 1
  step_count = by (is_state_at t x)
    where
      by : (b : Bool) → length (places ++ cond (not b) (x ∷ []) []) ≤ length places + 1
      by true = omega (arith, length-append places [])
      by false = omega (arith, length-append places (x ∷ []))

  -- the number of the state at the place
  abbrev state_number : ℕ
  state_number = unwrap_or (state x.1) 0

  pub step_targets :
      (targets : List ℕ) →
      (targets ++ cond (is_state_at t x) (unwrap_or (state x.1) 0) (length places) ∷ [])
      ++ targets_of t (length (places ++ layers_in t (x ∷ []))) rest
      ≡ targets ++ targets_of t (length places) (x ∷ rest)
  step_targets targets = by (is_state_at t x)
    where
      by :
          (b : Bool) →
          (targets ++ cond b state_number (length places) ∷ [])
          ++ targets_of t (length (places ++ cond (not b) (x ∷ []) [])) rest
          ≡ targets
          ++ cond b (state_number ∷ targets_of t (length places) rest)
          (length places ∷ targets_of t (length places + 1) rest)
      by true =
          let same : length (places ++ []) ≡ length places =
          omega (arith, length-append places []) in
          append_assoc targets _ _
          ∙ ap (λ n. targets ++ state_number ∷ targets_of t n rest) same
      by false =
          let more : length (places ++ x ∷ []) ≡ length places + 1 =
          omega (arith, length-append places (x ∷ [])) in
          append_assoc targets _ _
          ∙ ap (λ n. targets ++ length places ∷ targets_of t n rest) more

abbrev AreInside : ℕ → List Place → Type 0
AreInside n places = (i : ℕ) (x : Place) → slice_get places i ≡ Some x → x.0 < n

none_inside : (n : ℕ) → AreInside n []
none_inside n i x e = absurd (none-some x e)

one_inside : (n : ℕ) (y : Place) (ys : List Place) → y.0 < n → AreInside n ys → AreInside n (y ∷ ys)
one_inside n y ys h hs zero x e = subst (λ z. z.0 < n) (same_Some y x e) h
one_inside n y ys h hs (suc i) x e = hs i x e

each_inside : {X : Type 0} (n q : ℕ) (f : X → Value) → q < n → (us : List X)
    → AreInside n (map (λ u. (q, f u)) us)
each_inside n q f h [] = none_inside n
each_inside n q f h (u ∷ us) = one_inside n (q, f u) (map (λ u. (q, f u)) us) h
    (each_inside n q f h us)

zipped_inside : (n : ℕ) (qs : List ℕ) (us : List Value)
    → ((k : ℕ) → k < length qs → slice_index qs k < n) → AreInside n (zip qs us)
zipped_inside n [] us h = none_inside n
zipped_inside n (q ∷ qs) [] h = none_inside n
zipped_inside n (q ∷ qs) (u ∷ us) h = one_inside n (q, u) (zip qs us) (h 0 (omega arith))
    (zipped_inside n qs us (λ k w. h (suc k) (omega arith)))

-- values at the k-th of nodes below n
at_inside :
    (n : ℕ) (qs : List ℕ) (k : ℕ) (us : List Value) →
    ((j : ℕ) → j < length qs → slice_index qs j < n) → AreInside n (at_child qs k us)
at_inside n qs k us h =
    ⊎_elim
    (λ w. subst (AreInside n) (sym (at_child-within qs k us w))
    (each_inside n (slice_index qs k) (λ u. u) (h k w) us))
    (λ w. subst (AreInside n) (sym (at_child-past qs k us w)) (none_inside n))
    (cases_lt k (length qs))

-- the children of a place are at nodes of the term
pub children_inside :
    (t : Nodes) (p : ℕ) (v : Value) → IsTerm t → p < length t → (i : ℕ) (x : Place) →
    slice_get (children_of t (p, v)) i ≡ Some x → x.0 < length t
children_inside t p v is h = by (node_at t p)
  where
    below : (k : ℕ) → k < length (children_at t p) → slice_index (children_at t p) k < length t
    below k w =
        (term-later t is p (slice_index (children_at t p) k) (picked_in (children_at t p) k w)).1

    at : (k : ℕ) (us : List Value) → AreInside (length t) (at_child (children_at t p) k us)
    at k us = at_inside (length t) (children_at t p) k us below

    by : (m : Node) → AreInside (length t) (child_places m (children_at t p) p v)
    by State = one_inside (length t) (p, v) [] h (none_inside (length t))
    by (Constant labels) = none_inside (length t)
    by Naturals = none_inside (length t)
    by Product = zipped_inside (length t) (children_at t p) (parts v) below
    by Sum = at (index v) (inner v ∷ [])
    by (Power labels) = at 0 (parts v)
    by Powerset = at 0 (parts v)
    by Bag = at 0 (weighed v)
    by Distribution = at 0 (weighed v)
    by Integers = at 0 (weighed v)
    by Rationals = at 0 (weighed v)

-- what stands at a place of the children stands there among the leaves
pub leaf_at : (t : Nodes) (p i : ℕ) (v : Value) (x : Place)
    → slice_get (children_of t (p, v)) i ≡ Some x → slice_get (leaves_of t (p, v)) i ≡ Some x
leaf_at t p i v x e = ap (λ l. slice_get l i) (leaves-children t (p, v)) ∙ e

-- what is left from a place begins with what stands there
pub drop_at : {X : Type 0} (xs : List X) (i : ℕ) (x : X) → slice_get xs i ≡ Some x
    → drop i xs ≡ x ∷ drop (i + 1) xs
drop_at [] i x e = absurd (none-some x e)
drop_at (y ∷ ys) zero x e = ap (λ z. z ∷ ys) (same_Some y x e)
drop_at {X = X} (y ∷ ys) (suc i) x e = drop_at ys i x e
    ∙ ap (λ n. x ∷ drop n (y ∷ ys)) (let one : suc (i + 1) ≡ suc i + 1 = omega arith in one)

-- one turn of the loop over the children
module _ (t : Nodes) (kids : List Place) (i : ℕ) (x : Place) (at : slice_get kids i ≡ Some x)
    (places after : List Place) (added : after ≡ places ++ layers_in t (x ∷ [])) where
  -- a child that is a layer is the next place
  pub link_places : (all : List Place) → places ++ layers_in t (drop i kids) ≡ all
      → after ++ layers_in t (drop (i + 1) kids) ≡ all
  link_places all h = ap (λ l. l ++ layers_in t (drop (i + 1) kids)) added
      ∙ step_places t x (drop (i + 1) kids) places
      ∙ sym (ap (λ l. places ++ layers_in t l) (drop_at kids i x at)) ∙ h

  -- one child less is left
  pub link_few : (n : ℕ) → length places + length (drop i kids) ≤ n
      → length after + length (drop (i + 1) kids) ≤ n
  link_few n h =
      let one : length (drop i kids) ≡ suc (length (drop (i + 1) kids)) = ap length
      (drop_at kids i x at) in
      let two : length after ≤ length places + 1 = subst (λ l. length l ≤ length places + 1)
      (sym added) (step_count t x [] places) in
      omega (arith, one, two)

  -- a child has the place as its source
  pub link_sources :
      (source : ℕ) (sources more all : List ℕ) → more ≡ sources ++ source ∷ [] →
      sources ++ repeated source (length (drop i kids)) ≡ all →
      more ++ repeated source (length (drop (i + 1) kids)) ≡ all
  link_sources source sources more all pushed h =
      let rest : List ℕ = repeated source (length (drop (i + 1) kids)) in
      ap (λ l. l ++ rest) pushed ∙ append_assoc sources (source ∷ []) rest
      ∙ sym (ap (λ l. sources ++ repeated source (length l)) (drop_at kids i x at)) ∙ h

  -- a child's target is a state, or the place that it gets
  pub link_targets :
      (y : ℕ) (targets more all : List ℕ) →
      y ≡ cond (is_state_at t x) (unwrap_or (state x.1) 0) (length places) →
      more ≡ targets ++ y ∷ [] →
      targets ++ targets_of t (length places) (drop i kids) ≡ all →
      more ++ targets_of t (length after) (drop (i + 1) kids) ≡ all
  link_targets y targets more all target pushed h =
      let rest : List Place = drop (i + 1) kids in
      ap (λ e. e ++ targets_of t (length after) rest)
      (pushed ∙ ap (λ n. targets ++ n ∷ []) target)
      ∙ ap (λ p. (targets
      ++ cond (is_state_at t x) (unwrap_or (state x.1) 0) (length places) ∷ [])
      ++ targets_of t (length p) rest) added
      ∙ step_targets t x rest places targets
      ∙ sym (ap (λ l. targets ++ targets_of t (length places) l) (drop_at kids i x at)) ∙ h

-- behind the last child the places are all
pub linked_places : (t : Nodes) (kids places all : List Place) (i : ℕ) → length kids ≤ i
    → places ++ layers_in t (drop i kids) ≡ all → places ≡ all
linked_places t kids places all i past h =
    sym (append-nil places) ∙ ap (λ l. places ++ layers_in t l) (sym (drop_all i kids past)) ∙ h

-- behind the last child the sources are all
pub linked_sources :
    (kids : List Place) (source i : ℕ) (sources all : List ℕ) → length kids ≤ i →
    sources ++ repeated source (length (drop i kids)) ≡ all → sources ≡ all
linked_sources kids source i sources all past h =
    sym (append-nil sources)
    ∙ ap (λ l. sources ++ repeated source (length l)) (sym (drop_all i kids past)) ∙ h

-- behind the last child the targets are all
pub linked_targets :
    (t : Nodes) (kids : List Place) (i next : ℕ) (targets all : List ℕ) → length kids ≤ i →
    targets ++ targets_of t next (drop i kids) ≡ all → targets ≡ all
linked_targets t kids i next targets all past h =
    sym (append-nil targets)
    ∙ ap (λ l. targets ++ targets_of t next l) (sym (drop_all i kids past)) ∙ h
