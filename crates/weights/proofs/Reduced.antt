-- The quotients that `reduced` computes are the fraction in lowest terms.
use Rattle.std.proofs.Common.{◌≡◌, ◌≤◌, ◌^◌, ℕ, zero, suc, ◌/◌, Bool, true, false, ℤ, pos, FitsSigned, to_z, of_z, refl, ap, ◌∙◌, sym, arith}
use Rattle.std.specs.Int.{w64}
use Rattle.std.specs.Prelude.{int_div, neg_ℤ}
use Rattle.std.proofs.lemmas.Int.{to_z-of_z, fits_signed_from_abs}
use Rattle.std.proofs.Math.Nat.{div-le_self, zero-div}
use Rattle.weights.specs.Fractions.{gcd_of, lowest_terms}
use Rattle.weights.specs.NumeralLaws.{abs-signed}
use Rattle.weights.specs.Numerals.{signed, numeral, reduced}
use Rattle.weights.specs.declared.numeral.Numeral.{Numeral}

-- the quotient of a negative number
neg_quotient : (n g : ℕ) → int_div (neg_ℤ (pos n)) (pos g) ≡ neg_ℤ (pos (n / g))
neg_quotient zero g = rw (zero-div g) refl
neg_quotient (suc n) g = refl

-- the quotient of a number with a sign
signed_quotient :
    (negative : Bool) (n g : ℕ) →
    int_div (signed negative n) (pos g) ≡ signed negative (n / g)
signed_quotient true n g = neg_quotient n g
signed_quotient false n g = refl

-- a number within the bound fits, with its sign
signed_fits : (negative : Bool) (n : ℕ) → n ≤ 2 ^ 40 → FitsSigned w64 (signed negative n)
signed_fits negative n small =
    fits_signed_from_abs w64 (signed negative n) (rw (abs-signed negative n) (omega arith))

-- the quotients by the greatest common divisor are the fraction in lowest terms
pub reduced_is :
    (negative : Bool) (n d g : ℕ) (x : ℤ) → n ≤ 2 ^ 40 → g ≡ gcd_of n d
    → x ≡ signed negative (n / g) →
    ◌≡◌ {A = Numeral} (record { p = to_z w64 (of_z w64 x); q = d / g }) (reduced (signed negative n)
    d)
unfolding lowest_terms
reduced_is negative n d g x small is quotient =
    let within : n / g ≤ 2 ^ 40 = omega (arith, div-le_self n g) in
    ap (λ y. numeral (to_z w64 (of_z w64 y)) (d / g)) quotient
    ∙ ap (λ y. numeral y (d / g)) (to_z-of_z w64 (signed negative (n / g))
    (signed_fits negative (n / g) within))
    ∙ ap (λ y. numeral y (d / g)) (sym (signed_quotient negative n g))
    ∙ ap (λ h. numeral (int_div (signed negative n) (pos h)) (d / h))
    (is ∙ ap (λ m. gcd_of m d) (sym (abs-signed negative n)))
