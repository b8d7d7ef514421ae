-- The marks of a weight and the moved places tell the trits.
use Rattle.std.proofs.Common.{◌≡◌, ◌+◌, ◌<◌, ◌==◌, ℕ, zero, suc, Bool, true, false, cond, List, [], ◌∷◌, length, map, replicate, refl, sym, ◌∙◌, ap, arith}
use Rattle.std.specs.Prelude.{nat_le}
use Rattle.std.proofs.lemmas.Bool.{eq-eqb}
use Rattle.std.proofs.lemmas.Bool.Decides.{nat_tests}
use Rattle.std.proofs.lemmas.List.{length-map}
use Rattle.modalities.specs.declared.three.Three.{Three}
use Rattle.iface.specs.Trits.{AreTrits, each, picked, in_coarse}
use Rattle.polynomial_iface.specs.declared.weight.Form.{Form}
use Rattle.polynomial_iface.specs.declared.weight.PolyWeight.{PolyWeight}
use Rattle.polynomial_iface.specs.Polys.{arity, numbers_from, fits_form, value_of_form, toward_of_form}
use Rattle.polynomial_iface.specs.Places.{trits_from, head_is, after_place}
use Rattle.polynomial_iface.specs.PolyLaws.{length-numbers_from}

-- no place below the first is among those picked
not_head :
    (at first count : ℕ) (ts : List ℕ) → at < first →
    head_is at (picked (numbers_from first count) ts) ≡ false
not_head at first zero ts h = refl
not_head at first (suc count) [] h = refl
not_head at first (suc count) (t ∷ ts) h =
    let later : List ℕ = picked (numbers_from (first + 1) count) ts in
    let tail : head_is at later ≡ false = not_head at (first + 1) count ts (omega arith) in
    let other : (first == at) ≡ false = grind (arith, nat_tests) in
    elim (t == 2) as (λ b. head_is at (cond b (first ∷ later) later) ≡ false) [
      | true ↦ other
      | false ↦ tail
    ]

-- the trits are those that their own marks and moved places make
told_from :
    (first : ℕ) (ts : List ℕ) → AreTrits ts →
    trits_from (in_coarse ts) first (picked (numbers_from first (length ts)) ts) ≡ ts
told_from first [] trits = refl
told_from first (zero ∷ ts) trits =
    let none = not_head first (first + 1) (length ts) ts (omega arith) in
    rw none (ap (λ us. 0 ∷ us) (told_from (first + 1) ts trits.1))
told_from first (suc zero ∷ ts) trits =
    let none = not_head first (first + 1) (length ts) ts (omega arith) in
    rw none (ap (λ us. 1 ∷ us) (told_from (first + 1) ts trits.1))
told_from first (suc (suc zero) ∷ ts) trits =
    rw (eq-eqb first first refl) (ap (λ us. 2 ∷ us) (told_from (first + 1) ts trits.1))
told_from first (suc (suc (suc t)) ∷ ts) trits = absurd (omega arith)

-- a 2 for each label
pub replicate-each : {L : Type 0} (labels : List L) → replicate (length labels) 2 ≡ each 2 labels
replicate-each [] = refl
replicate-each (x ∷ xs) = ap (λ ts. 2 ∷ ts) (replicate-each xs)

-- a mark that is set for each label
pub replicate-true :
    {L : Type 0} (labels : List L) → replicate (length labels) true ≡ map (λ _. true) labels
replicate-true [] = refl
replicate-true (x ∷ xs) = ap (λ ts. true ∷ ts) (replicate-true xs)

module _
    (form : Form) (labels : List ℕ) (ts : List ℕ) (weight : PolyWeight) (moved : List ℕ)
    (fit : fits_form form labels) (one_each : length ts ≡ length labels) (trits : AreTrits ts)
    (weight_is : weight ≡ toward_of_form form (in_coarse ts))
    (moved_is : moved ≡ picked labels ts) where
  pub form_is : weight.form ≡ form
  form_is = ap (λ (w : PolyWeight). w.form) weight_is

  pub count_is : length ts ≡ arity form
  count_is = one_each ∙ ap length fit ∙ length-numbers_from 0 (arity form)

  -- a mark for each place
  pub marks_count : length weight.marks ≡ arity weight.form
  marks_count =
      ap (λ (w : PolyWeight). length w.marks) weight_is ∙ length-map ts (λ t. nat_le 1 t)
      ∙ count_is ∙ ap arity (sym form_is)

  -- the trits that are read off the marks are those of the places
  pub told : trits_from weight.marks 0 moved ≡ ts
  told =
      let marks_is : weight.marks ≡ in_coarse ts = ap (λ (w : PolyWeight). w.marks) weight_is in
      rw (marks_is, moved_is, fit, sym count_is) (told_from 0 ts trits)

  -- what the code makes of the trits
  module _ (found : List ℕ) (found_is : found ≡ trits_from weight.marks 0 moved) where
    pub found_told : found ≡ ts
    found_told = found_is ∙ told

    -- marks read off the trits are those of the weight's definition
    pub toward_is :
        (f : ℕ → Bool) (marks : List Bool) → marks ≡ map f found →
        ◌≡◌ {A = PolyWeight} (record { form = weight.form; marks = marks })
        (toward_of_form form (map f ts))
    toward_is f marks e = rw (form_is, e, found_told) refl

    -- a value read off the trits is that of the definition
    pub value_is :
        (x : Three) (us : List ℕ) (f : List ℕ → List ℕ) → us ≡ f found →
        x ≡ value_of_form weight.form us → x ≡ value_of_form form (f ts)
    value_is x us f e h =
        h ∙ ap (value_of_form weight.form) (e ∙ ap f found_told)
        ∙ ap (λ k. value_of_form k (f ts)) form_is

-- one trit for each mark
pub length-trits_from :
    (ms : List Bool) (at : ℕ) (moved : List ℕ) → length (trits_from ms at moved) ≡ length ms
length-trits_from [] at moved = refl
length-trits_from (m ∷ ms) at moved = ap suc (length-trits_from ms (at + 1) (after_place at moved))
