-- What the greatest stable labelling of the sorted states says of the states.
use Rattle.std.proofs.Common.{◌≡◌, ℕ, ◌+◌, ◌<◌, ◌≤◌, true, List, [], ◌∷◌, length, refl, sym, ap, ◌∙◌, subst, arith}
use Rattle.std.specs.Prelude.{slice_index, ◌↔◌}
use Rattle.std.specs.List.{list_all}
use Rattle.std.proofs.lemmas.List.{length-map, get_or-map}
use Rattle.std.proofs.lemmas.Option.{slice_get_within}
use Rattle.functor_terms.specs.Terms.{Nodes, IsTerm}
use Rattle.typing.specs.declared.value.Value.{Value}
use Rattle.typing.specs.Values.{states_below}
use Rattle.typing.specs.Stable as coalgebra
use Rattle.typing.proofs.StableLaws.{element, under, under_coarser}
use Rattle.sorted_systems.specs.Systems.{IsGreatestStable, class_in}
use Rattle.structures.specs.Structures.{Occurrence, IsSorting, numbers_below}
use Rattle.layers.specs.Nest.{any_agree}
use Rattle.desorting.specs.Shapes.{sorted_system}
use Rattle.desorting.specs.Agreement.{root_labels}
use Rattle.desorting.specs.Laws.{SystemToCoalgebra, GreatestIsEquivalence}
use Rattle.classes.specs.Firsts.{AreFirstPlaces}
use Rattle.structures.proofs.WalkEnds.{length-numbers, number_at}

module _
    (equivalence : GreatestIsEquivalence) (to_coalgebra : SystemToCoalgebra) (t : Nodes)
    (values : List Value) (occurrences : List Occurrence) (is_term : IsTerm t)
    (sorting : IsSorting t values occurrences (numbers_below (length values))) (r : List ℕ)
    (greatest : IsGreatestStable any_agree (sorted_system t occurrences) r) where
  abbrev n : ℕ
  n = length values

  abbrev roots : List ℕ
  roots = numbers_below n

  root : (i : ℕ) → i < n → slice_index roots i ≡ i
  root i h = number_at 0 n i h ∙ (let zeroth : 0 + i ≡ i = omega arith in zeroth)

  -- there are at least as many sorted states as states
  pub enough : n ≤ length r
  enough =
      let count : length r ≡ length occurrences =
      greatest.stable.one_each ∙ length-map occurrences _ in
      subst (λ k. n ≤ k) (sym count) (at_least values refl)
    where
      at_least : (vs : List Value) → values ≡ vs → length vs ≤ length occurrences
      at_least [] e = omega arith
      at_least (v ∷ vs) e =
          let last : ℕ = length vs in
          let inside : last < length values = omega (arith, ap length e) in
          let (w, at_w) = element values last inside in
          let (o, at_o, is_node, is_value) = sorting.rooted last w at_w in
          omega (
            arith,
            root last inside,
            slice_get_within occurrences (slice_index roots last) o at_o,
          )

  module _
      (within : list_all (states_below (length values)) values ≡ true) (firsts : List ℕ)
      (are : AreFirstPlaces r (length values) firsts) where
    -- states are equivalent exactly where their root structures have one label
    alike :
        (i j : ℕ) → i < n → j < n →
        (slice_index r i ≡ slice_index r j) ↔ coalgebra.AreEquivalent t values i j
    alike i j hi hj =
        subst (λ k. (class_in r k ≡ slice_index r j) ↔ coalgebra.AreEquivalent t values i j)
        (root i hi)
        (subst
        (λ k. (class_in r (slice_index roots i) ≡ class_in r k)
        ↔ coalgebra.AreEquivalent t values i j) (root j hj)
        (equivalence t values occurrences roots is_term sorting r greatest i j hi hj))

    abbrev b : List ℕ
    b = root_labels roots r

    stable_b : coalgebra.IsStable t values b
    stable_b = to_coalgebra t values occurrences roots is_term sorting r greatest.stable

    label : (i : ℕ) → i < n → slice_index b i ≡ slice_index r i
    label i h =
        get_or-map (slice_index r) roots i 0 0 (omega (arith, length-numbers 0 n))
        ∙ ap (slice_index r) (root i h)

    -- one label, one first place
    met :
        (i j : ℕ) → i < n → j < n → slice_index r i ≡ slice_index r j →
        slice_index firsts i ≡ slice_index firsts j
    met i j hi hj same =
        let here = are.each i hi in
        let there = are.each j hj in
        let low = here.least (slice_index firsts j) (there.same ∙ sym same) in
        let high = there.least (slice_index firsts i) (here.same ∙ same) in
        omega (arith, low, high)

    apart :
        (i j : ℕ) → i < n → j < n → slice_index firsts i ≡ slice_index firsts j →
        slice_index r i ≡ slice_index r j
    apart i j hi hj same =
        sym (are.each i hi).same ∙ ap (slice_index r) same ∙ (are.each j hj).same

    inside : (i : ℕ) → i < length firsts → i < n
    inside i h = subst (λ m. i < m) are.count h

    -- every stable list refines the list of first states
    pub firsts_coarsest :
        (c : List ℕ) → coalgebra.IsStable t values c → coalgebra.Refines c firsts
    firsts_coarsest c stable i j hi hj same =
        met i j (inside i hi) (inside j hj)
        ((alike i j (inside i hi) (inside j hj)).1
        (inside i hi, inside j hj, c, stable, same))

    refines : coalgebra.Refines b firsts
    refines i j hi hj same =
        met i j (inside i hi) (inside j hj)
        (sym (label i (inside i hi)) ∙ same ∙ label j (inside j hj))

    -- the list of first states is stable
    pub firsts_stable : coalgebra.IsStable t values firsts
    unfolding under
    firsts_stable = record {
      covers = are.count;
      equal = λ i j u v at_i at_j same.
          let hi = slice_get_within values i u at_i in
          let hj = slice_get_within values j v at_j in
          under_coarser t values within b firsts are.count refines i j u v at_i at_j
          (stable_b.equal i j u v at_i at_j
          (label i hi ∙ apart i j hi hj same ∙ sym (label j hj)));
    }

    -- each state's entry is the first state that is equivalent to it
    pub firsts_first : (i : ℕ) → i < n → coalgebra.IsFirst t values i (slice_index firsts i)
    firsts_first i h =
        let here = are.each i h in
        let low : slice_index firsts i < n = omega (arith, here.before) in
        record {
          equivalent = (alike i (slice_index firsts i) h low).0 (sym here.same);
          least = λ j e. here.least j (sym ((alike i j h e.1).1 e));
        }
