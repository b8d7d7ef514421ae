-- Coalgebras with the same fractions: the same stable lists, the same equivalent states, the same
-- normal forms and the same weights in lowest terms.
use Rattle.std.proofs.Common.{◌≡◌, ℕ, zero, suc, ◌*◌, ◌<◌, ◌≤◌, Bool, true, List, [], ◌∷◌, map, Option, Some, None, slice_get, refl, sym, ap, ◌∙◌, subst, arith}
use Rattle.std.specs.Prelude.{pos, ◌*ℤ◌, ◌↔◌, if◌then◌else◌}
use Rattle.std.specs.Option.{option_map}
use Rattle.std.specs.List.{list_all}
use Rattle.std.proofs.Math.Nat.{mul_comm, zero-mul, mul-zero}
use Rattle.std.proofs.lemmas.Bool.{and_parts}
use Rattle.std.proofs.lemmas.List.{length-map}
use Rattle.std.proofs.lemmas.Option.{slice_get-map}
use Rattle.functor_terms.specs.Terms.{Nodes}
use Rattle.weights.specs.Fractions.{lowest_terms}
use Rattle.weights.specs.FractionLaws.{lowest_terms-scaled}
use Rattle.typing.specs.declared.value.Value.{Value}
use Rattle.typing.specs.Values.{relabelled}
use Rattle.typing.specs.Equality.{are_equal}
use Rattle.typing.specs.Fits.{fits}
use Rattle.typing.specs.Stable.{IsStable, AreEquivalent}
use Rattle.typing.proofs.EqualityLaws.{eq-equivalence}
use Rattle.typing.proofs.NormalLaws.{normal_unique}
use Rattle.rescaling.specs.Rescaled.{rescaled, rescaled_weight}
use Rattle.rescaling.specs.Laws.{NormalFormsRescale, SameFractionsSameStability, SameFractionsSameEquivalence, RescaledWeightsStay}
use Rattle.rescaling.proofs.Forms.{rescaled-fits}
use Rattle.rescaling.proofs.Levels.{rescaled-commutes}
use Rattle.rescaling.proofs.Kept.{rescaled-equal, rescaled-normal}
use Rattle.rescaling.proofs.Relabelled.{relabelled-fits}

-- ---- lists of values

get_passes :
    {X : Type 0} (p : X → Bool) (xs : List X) (i : ℕ) (x : X) → list_all p xs ≡ true →
    slice_get xs i ≡ Some x → p x ≡ true
get_passes p [] i x all e = cc
get_passes p (y ∷ ys) zero x all e =
    let h = (and_parts (p y) (list_all p ys) all).0 in
    let same : y ≡ x = cc in
    ap p (sym same) ∙ h
get_passes p (y ∷ ys) (suc i) x all e =
    get_passes p ys i x (and_parts (p y) (list_all p ys) all).1 e

-- an element of images is the image of one
get_image :
    {X Y : Type 0} (f : X → Y) (xs : List X) (i : ℕ) (y : Y) → slice_get (map f xs) i ≡ Some y →
    (x : X) × (slice_get xs i ≡ Some x) × (f x ≡ y)
get_image {X = X} f xs i y e = by (slice_get xs i) refl (sym (slice_get-map f xs i) ∙ e)
  where
    by :
        (o : Option X) → slice_get xs i ≡ o → option_map f o ≡ Some y →
        (x : X) × (slice_get xs i ≡ Some x) × (f x ≡ y)
    by None e h = cc
    by (Some x) e h = let same : f x ≡ y = cc in (x, e, same)

module _ (k : ℕ) (some : 1 ≤ k) (t : Nodes) where
  -- under one list, values that fit are equal after rescaling exactly where they were before
  under_same :
      (b : List ℕ) (u v : Value) → fits t 0 u ≡ true → fits t 0 v ≡ true →
      are_equal t 0 (relabelled b (rescaled k t 0 u)) (relabelled b (rescaled k t 0 v))
      ≡ are_equal t 0 (relabelled b u) (relabelled b v)
  under_same b u v hu hv =
      (λ i. are_equal t 0 (rescaled-commutes b k t 0 u i) (rescaled-commutes b k t 0 v i))
      ∙ rescaled-equal k some t 0 (relabelled b u) (relabelled b v)
      (relabelled-fits b t 0 u ∙ hu) (relabelled-fits b t 0 v ∙ hv)

  abbrev grown : List Value → List Value
  grown vs = map (rescaled k t 0) vs

  module _ (vs : List Value) (all : list_all (fits t 0) vs ≡ true) where
    stable_before : (b : List ℕ) → IsStable t (grown vs) b → IsStable t vs b
    stable_before b stable = record {
      covers = stable.covers ∙ length-map vs (rescaled k t 0);
      equal = λ i j u v eu ev same.
          sym (under_same b u v (get_passes (fits t 0) vs i u all eu)
          (get_passes (fits t 0) vs j v all ev))
          ∙ stable.equal i j (rescaled k t 0 u) (rescaled k t 0 v)
          (slice_get-map (rescaled k t 0) vs i ∙ ap (option_map (rescaled k t 0)) eu)
          (slice_get-map (rescaled k t 0) vs j ∙ ap (option_map (rescaled k t 0)) ev) same;
    }

    stable_after : (b : List ℕ) → IsStable t vs b → IsStable t (grown vs) b
    stable_after b stable = record {
      covers = stable.covers ∙ sym (length-map vs (rescaled k t 0));
      equal = λ i j x y ex ey same.
          let (u, eu, iu) = get_image (rescaled k t 0) vs i x ex in
          let (v, ev, iv) = get_image (rescaled k t 0) vs j y ey in
          sym (λ o. are_equal t 0 (relabelled b (iu o)) (relabelled b (iv o)))
          ∙ under_same b u v (get_passes (fits t 0) vs i u all eu)
          (get_passes (fits t 0) vs j v all ev)
          ∙ stable.equal i j u v eu ev same;
    }

    equivalent_before : (i j : ℕ) → AreEquivalent t (grown vs) i j → AreEquivalent t vs i j
    equivalent_before i j (hi, hj, b, stable, same) = (
      subst (λ n. i < n) (length-map vs (rescaled k t 0)) hi,
      subst (λ n. j < n) (length-map vs (rescaled k t 0)) hj,
      b,
      stable_before b stable,
      same,
    )

    equivalent_after : (i j : ℕ) → AreEquivalent t vs i j → AreEquivalent t (grown vs) i j
    equivalent_after i j (hi, hj, b, stable, same) = (
      subst (λ n. i < n) (sym (length-map vs (rescaled k t 0))) hi,
      subst (λ n. j < n) (sym (length-map vs (rescaled k t 0))) hj,
      b,
      stable_after b stable,
      same,
    )

-- ---- coalgebras

-- a denominator above 0 has its factors above 0
factors_positive : (a b d : ℕ) → d ≡ a * b → 1 ≤ d → (1 ≤ a) × (1 ≤ b)
factors_positive zero b d e some =
    let none : d ≡ 0 = e ∙ zero-mul b in absurd (omega (arith, none, some))
factors_positive (suc a) zero d e some =
    let none : d ≡ 0 = e ∙ mul-zero (suc a) in absurd (omega (arith, none, some))
factors_positive (suc a) (suc b) d e some = (omega arith, omega arith)

-- equal fractions have the same stable lists
pub same-stability : SameFractionsSameStability
same-stability d e same some all b =
    let factors =
    factors_positive same.factor e.denominator d.denominator same.same_denominator some in
    let fit : list_all (fits d.term 0) e.values ≡ true =
    subst (λ t. list_all (fits t 0) e.values ≡ true) same.same_term all in
    subst (λ t. IsStable d.term d.values b ↔ IsStable t e.values b) (sym same.same_term)
    (subst (λ vs. IsStable d.term vs b ↔ IsStable d.term e.values b) (sym same.same_values) (
      stable_before same.factor factors.0 d.term e.values fit b,
      stable_after same.factor factors.0 d.term e.values fit b,
    ))

-- equal fractions have the same equivalence
pub same-equivalence : SameFractionsSameEquivalence
same-equivalence d e same some all i j =
    let factors =
    factors_positive same.factor e.denominator d.denominator same.same_denominator some in
    let fit : list_all (fits d.term 0) e.values ≡ true =
    subst (λ t. list_all (fits t 0) e.values ≡ true) same.same_term all in
    subst (λ t. AreEquivalent d.term d.values i j ↔ AreEquivalent t e.values i j)
    (sym same.same_term)
    (subst (λ vs. AreEquivalent d.term vs i j ↔ AreEquivalent d.term e.values i j)
    (sym same.same_values) (
      equivalent_before same.factor factors.0 d.term e.values fit i j,
      equivalent_after same.factor factors.0 d.term e.values fit i j,
    ))

-- rescaled weights stay within their bound
pub weights-stay : RescaledWeightsStay
weights-stay d e same some m fractions w =
    let factors =
    factors_positive same.factor e.denominator d.denominator same.same_denominator some in
    let grown : rescaled_weight same.factor m w ≡ w *ℤ pos same.factor =
    ap (λ b. if b then w *ℤ pos same.factor else w) fractions in
    (λ i. lowest_terms (grown i)
    ((same.same_denominator ∙ mul_comm same.factor e.denominator) i))
    ∙ lowest_terms-scaled w e.denominator same.factor factors.1 factors.0

-- ---- normal forms

-- normal forms are rescaled to normal forms
pub normal-forms : NormalFormsRescale
normal-forms k t p v r s some fit before after =
    let is = eq-equivalence t p in
    let x : Value = rescaled k t p r in
    let y : Value = rescaled k t p v in
    let same : are_equal t p x y ≡ true =
    rescaled-equal k some t p r v before.fitting fit ∙ before.equal in
    let turned : are_equal t p s x ≡ true =
    is.symm s x ∙ is.congr x y s same ∙ is.symm y s ∙ after.equal in
    normal_unique t p s x after.fitting (rescaled-fits k t p r ∙ before.fitting) after.normal
    (rescaled-normal k some t p r before.fitting ∙ before.normal) turned
