-- The value of decimal digits, read from the left.
use Rattle.std.proofs.Common.{◌≡◌, ℕ, ◌+◌, ◌-◌, ◌*◌, ◌<◌, ◌≤◌, Bool, true, false, ◌&&◌, List, length, take, None, get_or, refl, ap, arith}
use Rattle.std.specs.Prelude.{nat_lt, if◌then◌else◌, Some}
use Rattle.std.specs.Char.{is_ascii_digit, digit_value}
use Rattle.std.specs.List.{list_all}
use Rattle.std.specs.Str.Parse.{digits_value}
use Rattle.std.proofs.lemmas.Str.{digit_value_digit}
use Rattle.std.proofs.lemmas.Str.Parse.{digits_value-take-le}
use Rattle.std.proofs.lemmas.Int.Digits.{digits_value_more}
use Rattle.std.proofs.lemmas.Bool.Decides.{nat_tests}
use Rattle.functor_terms.specs.Terms.{number_below}

digit_of : (c : ℕ) → is_ascii_digit c ≡ true → digit_value c ≡ c - 48
digit_of c h = let e : digit_value c + 48 ≡ c = digit_value_digit c (grind (arith, nat_tests)) in
    omega (arith, e)

-- one digit more
pub next_digit : (word : List ℕ) (i value digit : ℕ) → i < length word
    → is_ascii_digit (get_or word i 0) ≡ true → value ≡ digits_value 10 (take i word)
    → digit ≡ get_or word i 0 - 48 → value * 10 + digit ≡ digits_value 10 (take (i + 1) word)
next_digit word i value digit inside is sofar d =
    let more = digits_value_more 10 word i inside in
    let here = digit_of (get_or word i 0) is in
    omega (arith, more, here, sofar, d)

not_below : (n v : ℕ) → n ≤ v → nat_lt v n ≡ false
not_below n v h = grind (arith, nat_tests)

-- a value that is not below the bound
pub past_bound : (n : ℕ) (word : List ℕ) (k : ℕ) → n ≤ digits_value 10 (take k word)
    → number_below n word ≡ None
past_bound n word k h = by (nat_lt 0 (length word) && list_all is_ascii_digit word)
    (not_below n (digits_value 10 word) (let le = digits_value-take-le 10 word k (omega arith) in
    omega (arith, le, h)))
  where
    by : (a : Bool) → nat_lt (digits_value 10 word) n ≡ false
        → (if a && nat_lt (digits_value 10 word) n then Some (digits_value 10 word) else None)
        ≡ None
    by true e = ap (λ b. if b then Some (digits_value 10 word) else None) e
    by false e = refl
