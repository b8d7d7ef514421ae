-- What is read of a form, by its numerator and its denominator within the bound or over it.
use Rattle.std.proofs.Common.{◌≡◌, ◌≤◌, ◌^◌, ℕ, zero, suc, Bool, true, List, [], ◌∷◌, length, take, Option, Ok, Err, refl, inl, inr, arith}
use Rattle.std.specs.Prelude.{nat_lt, nat_le, ◌&&◌, if◌then◌else◌, IfSome}
use Rattle.std.specs.List.{list_all}
use Rattle.std.specs.Char.{is_ascii_digit}
use Rattle.std.proofs.lemmas.Bool.Decides.{nat_tests}
use Rattle.std.proofs.Math.Bool.{and-true, and-false}
use Rattle.std.proofs.lemmas.Bool.{and_parts}
use Rattle.weights.specs.Numerals.{Decimal, is_digits, form_reading, numerator_of, denominator_of, without_end_zeros, signed, reduced}
use Rattle.weights.specs.NumeralLaws.{in_digits, few_places}
use Rattle.weights.specs.Bounded.{bounded, fraction_reading}
use Rattle.weights.specs.declared.fault.NumeralFault.TheVariants.{OverBound}
use Rattle.weights.proofs.Spelled.{tells}

-- what holds of each element holds of each of a front
all_in_front : (p : ℕ → Bool) (n : ℕ) (ds : List ℕ) → list_all p ds ≡ true
    → list_all p (take n ds) ≡ true
all_in_front p zero ds h = refl
all_in_front p (suc n) [] h = refl
all_in_front p (suc n) (d ∷ ds) h =
    let parts = and_parts (p d) (list_all p ds) h in
    rw (parts.0, all_in_front p n ds parts.1) refl

-- the digits that stay of a fraction are digits
pub all_kept : (ds : List ℕ) → is_digits ds ≡ true → list_all is_ascii_digit (without_end_zeros ds)
    ≡ true
all_kept ds h = all_in_front is_ascii_digit _ ds (in_digits ds h)

-- a number from 1 on is so within the bound too
pub bounded_positive : (n : ℕ) (r : Option ℕ) → 1 ≤ n → r ≡ bounded n → IfSome r (λ d. 1 ≤ d)
bounded_positive n r some e = elim (tells n) [
  | inl within ↦ rw (e, within.0) some
  | inr over ↦ rw (e, over.0) tt
]

-- the two tests of the bound, where the places follow from the denominator
by_bounds :
    (negative : Bool) (n d places : ℕ) → (d ≤ 2 ^ 40 → places ≤ 12) →
    fraction_reading negative (bounded n) (bounded d)
    ≡ (if nat_le places 12 && (nat_le n (2 ^ 40) && nat_le d (2 ^ 40))
    then Ok (reduced (signed negative n) d)
    else Err (OverBound (negative && nat_lt 0 n)))
by_bounds negative n d places few =
    elim (tells n) [
      | inl n_in ↦ elim (tells d) [
        | inl d_in ↦
            let h : nat_le places 12 ≡ true = let k = few d_in.1 in grind (arith, nat_tests) in
            rw (n_in.0, d_in.0, h) refl
        | inr d_over ↦ rw (n_in.0, d_over.0, and-false (nat_le places 12)) refl
      ]
      | inr n_over ↦
          let some : nat_lt 0 n ≡ true = let k = n_over.1 in grind (arith, nat_tests) in
          rw (n_over.0, and-false (nat_le places 12), some, and-true negative) refl
    ]

-- what is read of digits with a fraction
pub whole_with_fraction :
    (negative : Bool) (ws fs : List ℕ) → is_digits ws ≡ true → is_digits fs ≡ true →
    fraction_reading negative
    (bounded (numerator_of (Decimal ws fs))) (bounded (denominator_of (Decimal ws fs)))
    ≡ form_reading negative (Decimal ws fs)
whole_with_fraction negative ws fs left right =
    rw (left, right)
    (by_bounds negative (numerator_of (Decimal ws fs)) (denominator_of (Decimal ws fs))
    (length (without_end_zeros fs)) (few_places (length (without_end_zeros fs))))
