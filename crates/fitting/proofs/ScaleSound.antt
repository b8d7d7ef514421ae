-- What is known of the value of a fitted tree, and of its normal form.
use Rattle.std.proofs.Common.{◌≡◌, ℕ, ◌≤◌, ◌^◌, true, false, List, length, refl, sym, ap, ◌∙◌, subst}
use Rattle.std.specs.Prelude.{slice_index, EachIndex}
use Rattle.std.proofs.lemmas.Bool.{leb-true}
use Rattle.functor_terms.specs.Terms.{Nodes}
use Rattle.typing.specs.declared.value.Value.{Value}
use Rattle.typing.specs.Values.{states_below}
use Rattle.typing.specs.Equality.{are_equal}
use Rattle.typing.specs.Bounds.{is_within, is_bounded, weights_hold}
use Rattle.typing.specs.Fits.{fits}
use Rattle.typing.specs.NormalForms.{IsRelabelledAt}
use Rattle.typing.proofs.Within.{within_more}
use Rattle.typing.proofs.KeptWeights.{form-sums, form-within}
use Rattle.typing.proofs.OwnLabels.{kept, own-below}
use Rattle.fitting.specs.declared.fitted.Fitted.{Fitted}
use Rattle.fitting.specs.Scaling.{over_bound, lists_within, scaled, has_sums, IsFitted}
use Rattle.fitting.proofs.FitSound.{fitting-sound}
use Rattle.fitting.proofs.FitNumerals.{fitting-numerals}
use Rattle.fitting.proofs.ScaledBounds.{scaled-within}
use Rattle.fitting.proofs.FitWeights.{fitting-weights}

module _ (l : ℕ) (bounded : l ≤ 2 ^ 40) (t : Nodes) (own : List ℕ)
    (itself : EachIndex own (λ i. slice_index own i ≡ i)) (f : Fitted)
    (is : IsFitted t (length own) f) (over : over_bound f ≡ false)
    (small : lists_within (2 ^ 26) f ≡ true) where
  abbrev v : Value
  v = scaled l t 0 f

  sound : (fits t 0 v ≡ true) × (states_below (length is.0) v ≡ true)
  sound = fitting-sound l t is.0 0 is.1 f is.3 over

  -- it fits the term, speaks of states that have names, and is in bounds
  pub scaled-fits : fits t 0 v ≡ true
  scaled-fits = sound.0

  -- the states of the value are below their number
  pub scaled-below : states_below (length own) v ≡ true
  scaled-below = subst (λ n. states_below n v ≡ true) is.2 sound.1

  pub scaled-in_bounds : is_within (2 ^ 106) v ≡ true
  scaled-in_bounds =
      scaled-within l bounded t 0 f (fitting-numerals t is.0 0 is.1 f is.3) small

  -- the value is bounded
  pub scaled-bounded : is_bounded v ≡ true
  scaled-bounded =
      within_more (2 ^ 106) (2 ^ 126) (leb-true (2 ^ 106) (2 ^ 126) refl) v scaled-in_bounds

  -- so its normal form is equal to it, and all is kept
  module _ (r : Value) (form : IsRelabelledAt t own 0 v r) where
    -- the normal form equals the value
    pub form-equal : are_equal t 0 r v ≡ true
    form-equal =
        ap (are_equal t 0 r) (sym (kept (length own) own itself v scaled-below)) ∙ form.equal

    pub form-below : states_below (length own) r ≡ true
    form-below = form.in_range (length own) (own-below own itself)

    pub form-weighted : has_sums l t 0 f ≡ true → weights_hold l t 0 r ≡ true
    form-weighted sums =
        form-sums l t 0 own v r form (fitting-weights l t is.0 0 is.1 f is.3 sums)

    pub form-in_bounds : is_within (2 ^ 106) r ≡ true
    form-in_bounds = form-within (2 ^ 106) t 0 own v r form scaled-in_bounds
