-- Tests of values.
--
-- other_value       == values that are not one fail the test
-- same_value        == a test that tells values apart is the test of values
use Rattle.std.proofs.Common.{◌≡◌, Bool, true, false, refl, sym}
use Rattle.modalities.specs.declared.three.Three.{Three}
use Rattle.formulas.specs.Truth.{is_value}
use Rattle.formulas.proofs.TruthLaws.{is_value-tells}

-- values that are not one fail the test
pub other_value : (a b : Three) → ¬ (a ≡ b) → is_value a b ≡ false
other_value a b apart = by (is_value a b) (is_value-tells a b).0
  where
    by : (r : Bool) → (r ≡ true → a ≡ b) → r ≡ false
    by true h = absurd (apart (h refl))
    by false h = refl

-- a test that tells values apart is the test of values
pub same_value :
    (a b : Three) (r : Bool) → (r ≡ true → a ≡ b) → (a ≡ b → r ≡ true) → r ≡ is_value a b
same_value a b true there back = sym ((is_value-tells a b).1 (there refl))
same_value a b false there back =
    sym (other_value a b (λ e. absurd (by (back e))))
  where
    by : false ≡ true → ⊥
    by e = cc
