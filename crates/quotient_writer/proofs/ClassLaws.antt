-- Numbered classes of equivalent states.
use Rattle.std.proofs.Common.{◌≡◌, ℕ, ◌<◌, true, List, length, refl, sym, ap, ◌∙◌, arith}
use Rattle.std.specs.Prelude.{◌==◌, slice_index, EachIndex}
use Rattle.std.specs.List.{list_all}
use Rattle.std.proofs.lemmas.Bool.{eqb-true}
use Rattle.std.proofs.lemmas.Cmp.{nat_eq_equiv}
use Rattle.std.proofs.lemmas.List.{length-map, get_or-map}
use Rattle.std.proofs.lemmas.Option.{get_or_from_slice_get, slice_get_within, slice_get-get_or}
use Rattle.functor_terms.specs.Terms.{Nodes}
use Rattle.typing.specs.declared.value.Value.{Value}
use Rattle.typing.specs.Values.{states_below}
use Rattle.typing.specs.Stable.{IsStable, IsFirst, Refines, AreEquivalent}
use Rattle.typing.proofs.FirstPlaces.{first_passes}
use Rattle.typing.proofs.Coarser.{eq-coarser}
use Rattle.typing.proofs.StableLaws.{each_of}
use Rattle.quotient_writer.specs.Blocks.{AreFirsts, first_state, first_states}

module _ (t : Nodes) (values : List Value) (firsts : List ℕ) (stable : IsStable t values firsts)
    (coarsest : (s : List ℕ) → IsStable t values s → Refines s firsts) where
  -- equivalent states have one first state
  pub firsts-join : (i j : ℕ) → AreEquivalent t values i j
      → slice_index firsts i ≡ slice_index firsts j
  firsts-join i j e =
      let (hi, hj, s, stable_s, same) = e in
      coarsest s stable_s i j (omega (arith, hi, stable.covers)) (omega (arith, hj, stable.covers))
      same

  -- the first equivalent states are not behind their states, and are given for themselves
  pub are_firsts : EachIndex values (λ i. IsFirst t values i (slice_index firsts i))
      → AreFirsts firsts
  are_firsts first i h =
      let inside : i < length values = omega (arith, h, stable.covers) in
      let is = first i inside in (
        is.least i (inside, inside, firsts, stable, refl),
        sym (firsts-join i (slice_index firsts i) is.equivalent),
      )

  module _ (labels : List ℕ) (same : first_states labels ≡ firsts) where
    -- there is one for each state
    pub count : length labels ≡ length values
    count = sym (let e : length (first_states labels) ≡ length labels = rw length-map refl in e)
        ∙ ap length same ∙ stable.covers

    first_is : (i : ℕ) → i < length labels → first_state labels (slice_index labels i) ≡ slice_index
        firsts i
    first_is i h = sym (get_or-map (first_state labels) labels i 0 0 h)
        ∙ ap (λ l. slice_index l i) same

    own : (i : ℕ) → i < length labels → slice_index labels (slice_index firsts i) ≡ slice_index
        labels i
    own i h =
        let k : ℕ = slice_index labels i in
        let (w, at, passes) = first_passes (λ l. l == k) labels i k (slice_get-get_or labels i 0 h)
        (nat_eq_equiv.refl k) in
        ap (slice_index labels) (sym (first_is i h))
        ∙ get_or_from_slice_get labels (first_state labels k) w 0 at ∙ eqb-true w k passes

    finer : (i j : ℕ) → i < length values → j < length values
        → slice_index firsts i ≡ slice_index firsts j → slice_index labels i ≡ slice_index labels j
    finer i j hi hj e = sym (own i (omega (arith, hi, count))) ∙ ap (slice_index labels) e
        ∙ own j (omega (arith, hj, count))

    -- states with one number have one first state
    pub labels-part : (i j : ℕ) → i < length values → j < length values
        → slice_index labels i ≡ slice_index labels j → slice_index firsts i ≡ slice_index firsts j
    labels-part i j hi hj e =
        sym (first_is i (omega (arith, hi, count))) ∙ ap (first_state labels) e
        ∙ first_is j (omega (arith, hj, count))

    -- a list of numbers for them is stable
    pub labels-stable : list_all (states_below (length values)) values ≡ true
        → IsStable t values labels
    labels-stable within = record {
      covers = count;
      equal = λ i j u v at at' e.
          let hi : i < length labels = omega (arith, slice_get_within values i u at, count) in
          let hj : j < length labels = omega (arith, slice_get_within values j v at', count) in
          eq-coarser (length values) firsts labels finer t 0 u v
          (each_of (states_below (length values)) values within i u at)
          (each_of (states_below (length values)) values within j v at')
          (stable.equal i j u v at at' (sym (first_is i hi) ∙ ap (first_state labels) e
          ∙ first_is j hj));
    }

    -- and it joins equivalent states
    pub labels-join : (i j : ℕ) → AreEquivalent t values i j
        → slice_index labels i ≡ slice_index labels j
    labels-join i j e =
        let hi : i < length labels = omega (arith, e.0, count) in
        let hj : j < length labels = omega (arith, e.1, count) in
        sym (own i hi) ∙ ap (slice_index labels) (firsts-join i j e) ∙ own j hj
