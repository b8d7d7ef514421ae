-- Numbers that digits spell, against the bound.
use Rattle.std.proofs.Common.{◌≡◌, ℕ, ◌+◌, ◌-◌, ◌*◌, ◌^◌, ◌<◌, ◌≤◌, true, false, List, [], ◌∷◌, ◌++◌, Some, None, ◌⊎◌, refl, sym, ◌∙◌, ap, inl, inr, arith}
use Rattle.std.proofs.lemmas.Bool.{cases_lt}
use Rattle.std.proofs.lemmas.Bool.Decides.{nat_tests}
use Rattle.std.proofs.Math.Nat.{pow-le-pow_right}
use Rattle.std.specs.Prelude.{nat_le, cond}
use Rattle.weights.specs.Numerals.{number_after, number_of, digit_zero}
use Rattle.weights.specs.Bounded.{bounded}

-- a further digit makes no number smaller
pub number_after-ge : (n : ℕ) (ds : List ℕ) → n ≤ number_after n ds
number_after-ge n [] = omega arith
number_after-ge n (d ∷ ds) = omega (arith, number_after-ge (n * 10 + (d - digit_zero)) ds)

-- digits behind digits
pub number_after-append :
    (n : ℕ) (ds es : List ℕ) →
    number_after n (ds ++ es) ≡ number_after (number_after n ds) es
number_after-append n [] es = refl
number_after-append n (d ∷ ds) es = number_after-append (n * 10 + (d - digit_zero)) ds es

-- the bound is kept or passed
pub tells :
    (n : ℕ) → ((nat_le n (2 ^ 40) ≡ true) × (n ≤ 2 ^ 40)) ⊎ ((nat_le n (2 ^ 40) ≡ false)
    × (2 ^ 40 < n))
tells n = elim (cases_lt (2 ^ 40) n) [
  | inl over ↦ inr (grind (arith, nat_tests), over)
  | inr within ↦ inl (grind (arith, nat_tests), within)
]

-- a number within the bound is kept
pub bounded_within : (n : ℕ) → n ≤ 2 ^ 40 → Some n ≡ bounded n
bounded_within n within = let h : nat_le n (2 ^ 40) ≡ true = grind (arith, nat_tests) in rw h refl

-- one over the bound is not
pub bounded_over : (n : ℕ) → 2 ^ 40 < n → None ≡ bounded n
bounded_over n over = let h : nat_le n (2 ^ 40) ≡ false = grind (arith, nat_tests) in rw h refl

-- a number that is kept is the number
pub bounded_tells : (m n : ℕ) → Some m ≡ bounded n → m ≡ n
bounded_tells m n e = elim (tells n) [
  | inl within ↦ let h : Some m ≡ Some n = e ∙ ap (λ b. cond b (Some n) None) within.0 in cc
  | inr over ↦ let h : Some m ≡ None = e ∙ ap (λ b. cond b (Some n) None) over.0 in cc
]

pub within_tells : (m n : ℕ) → Some m ≡ bounded n → n ≤ 2 ^ 40
within_tells m n e = elim (tells n) [
  | inl within ↦ within.1
  | inr over ↦ let h : Some m ≡ None = e ∙ ap (λ b. cond b (Some n) None) over.0 in cc
]

-- one that is not kept is over the bound
pub over_tells : (n : ℕ) → None ≡ bounded n → 2 ^ 40 < n
over_tells n e = elim (tells n) [
  | inl within ↦ let h : None ≡ Some n = e ∙ ap (λ b. cond b (Some n) None) within.0 in cc
  | inr over ↦ over.1
]

-- 12 places are within the bound, and 13 are not
pub power_within : (places : ℕ) → places ≤ 12 → 10 ^ places ≤ 2 ^ 40
power_within places few = let h : 10 ^ places ≤ 10 ^ 12 = pow-le-pow_right (omega arith) few in
    omega arith

-- and 13 are over it
pub power_over : (places : ℕ) → 12 < places → 2 ^ 40 < 10 ^ places
power_over places many = let h : 10 ^ 13 ≤ 10 ^ places = pow-le-pow_right (omega arith) many in
    omega arith

-- once a front is over the bound, the whole is
pub over_from_front :
    (n : ℕ) (rest : List ℕ) (whole : ℕ) →
    2 ^ 40 < n → number_after n rest ≡ whole → None ≡ bounded whole
over_from_front n rest whole over e = bounded_over whole (omega (arith, number_after-ge n rest, e))

-- two texts, one behind the other
pub joined_in_bound :
    (n : ℕ) (ds es : List ℕ) →
    Some n ≡ bounded (number_of ds) →
    bounded (number_after n es) ≡ bounded (number_of (ds ++ es))
joined_in_bound n ds es e =
    ap (λ m. bounded (number_after m es)) (bounded_tells n (number_of ds) e)
    ∙ ap bounded (sym (number_after-append 0 ds es))

-- where the first is over the bound, so are both
pub joined_over :
    (ds es : List ℕ) → None ≡ bounded (number_of ds) → None ≡ bounded (number_of (ds ++ es))
joined_over ds es e =
    over_from_front (number_of ds) es (number_of (ds ++ es)) (over_tells (number_of ds) e)
    (sym (number_after-append 0 ds es))
