-- The quotients that `ratio_of` computes are the fraction in lowest terms.
use Rattle.std.proofs.Common.{◌≡◌, ◌≤◌, ◌^◌, unsigned_abs, ℕ, ◌<◌, ◌/◌, ◌%◌, ℤ, pos, FitsSigned, to_z, of_z, ap, ◌∙◌, sym, subst, arith}
use Rattle.std.specs.Int.{IsGcd, w128}
use Rattle.std.specs.Prelude.{int_div}
use Rattle.std.proofs.lemmas.Nat.Gcd.{IsGcd-from_mod, le_of_dvd}
use Rattle.std.proofs.lemmas.Int.{to_z-of_z, to_z_pos, quot_fits, ints}
use Rattle.weights.specs.Fractions.{gcd_of, IsLowest, lowest_terms}
use Rattle.weights.specs.FractionLaws.{ratio, gcd_of-IsGcd, gcd_of_is, gcd_of-positive, lowest_terms-IsLowest}
use Rattle.weights.specs.declared.ratio.Ratio.{Ratio}

-- the divisor of the denominator and a remainder is that of the sum
pub divisor_of_sum :
    (n : ℤ) (d size g : ℕ) → FitsSigned w128 n → size ≡ unsigned_abs (to_z w128 (of_z w128 n)) →
    IsGcd d (size % d) g → g ≡ gcd_of (unsigned_abs n) d
divisor_of_sum n d size g fits sized greatest =
    let whole : size ≡ unsigned_abs n = sized ∙ ap unsigned_abs (to_z-of_z w128 n fits) in
    gcd_of_is (unsigned_abs n) d g (subst (λ s. IsGcd s d g) whole
    (IsGcd-from_mod size d g greatest))

-- what is known before the division
pub record IsCommon (n : ℤ) (d g : ℕ) : Type 0 where
  pub some : 1 ≤ d
  pub small : d < 2 ^ 64
  pub fits : FitsSigned w128 n
  pub is : g ≡ gcd_of (unsigned_abs (to_z w128 (of_z w128 n))) d

-- the divisor without the casts of the code
divisor : (n : ℤ) (d g : ℕ) → IsCommon n d g → g ≡ gcd_of (unsigned_abs n) d
divisor n d g c = c.is ∙ ap (λ m. gcd_of (unsigned_abs m) d) (to_z-of_z w128 n c.fits)

-- it is above 0
pub divisor-positive : (n : ℤ) (d g : ℕ) → IsCommon n d g → 0 < g
divisor-positive n d g c = rw (divisor n d g c) (gcd_of-positive (unsigned_abs n) d c.some)

-- the code's quotient, with its casts
abbrev pub cast_quotient : ℤ → ℕ → ℤ
cast_quotient n g = int_div (to_z w128 (of_z w128 n)) (to_z w128 g)

-- the casts lose nothing
uncast : (n : ℤ) (d g : ℕ) → IsCommon n d g → cast_quotient n g ≡ int_div n (pos g)
uncast n d g c =
    let within : g ≤ d = le_of_dvd c.some (rw (divisor n d g c) (gcd_of-IsGcd (unsigned_abs n) d).1)
    in
    let small : g < 2 ^ 127 = let h : d < 2 ^ 64 = c.small in omega arith in
    ap (λ m. int_div m (to_z w128 g)) (to_z-of_z w128 n c.fits)
    ∙ ap (λ k. int_div n k) (to_z_pos w128 g small)

-- the quotient of the sum fits
quotient-fits : (n : ℤ) (d g : ℕ) → IsCommon n d g → FitsSigned w128 (int_div n (pos g))
quotient-fits n d g c =
    let some : 0 < g = divisor-positive n d g c in
    quot_fits w128 n (pos g) c.fits (omega (arith, ints))

-- so the code may divide
pub can_divide : (n : ℤ) (d g : ℕ) → IsCommon n d g → (0 < g) × FitsSigned w128 (cast_quotient n g)
can_divide n d g c = (
  divisor-positive n d g c,
  subst (FitsSigned w128) (sym (uncast n d g c)) (quotient-fits n d g c),
)

-- and gets the fraction in lowest terms
pub quotients :
    (n : ℤ) (d g : ℕ) → IsCommon n d g →
    ratio (to_z w128 (of_z w128 (cast_quotient n g))) (d / g) ≡ lowest_terms n d
unfolding lowest_terms
quotients n d g c =
    ap (λ k. ratio k (d / g))
    (ap (λ k. to_z w128 (of_z w128 k)) (uncast n d g c)
    ∙ to_z-of_z w128 (int_div n (pos g)) (quotient-fits n d g c))
    ∙ ap (λ x. ratio (int_div n (pos x)) (d / x)) (divisor n d g c)

-- which is in lowest terms
pub quotients-IsLowest :
    (n : ℤ) (d g : ℕ) → IsCommon n d g →
    IsLowest n d (to_z w128 (of_z w128 (cast_quotient n g))) (d / g)
quotients-IsLowest n d g c =
    subst (λ (r : Ratio). IsLowest n d r.p r.q) (sym (quotients n d g c))
    (lowest_terms-IsLowest n d c.some)
