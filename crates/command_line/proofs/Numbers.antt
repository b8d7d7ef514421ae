-- The numbers of trials.
use Rattle.std.proofs.Common.{◌≡◌, ◌∙◌, ℕ, ◌<◌, ◌^◌, List, [], ◌∷◌, length, refl, sym, ap, Some, None, Bool, true, false, true≢false, ◌&&◌, nat_lt, if◌then◌else◌}
use Rattle.std.specs.Prelude.{Result, Ok, Err}
use Rattle.std.specs.Char.{is_ascii_digit}
use Rattle.std.specs.List.{list_all}
use Rattle.std.specs.Result.{OkIff, result_ok}
use Rattle.std.specs.Str.{all_ascii_digits}
use Rattle.std.specs.Str.Parse.{ParsesUnsigned, digits_value}
use Rattle.std.proofs.lemmas.Bool.{and_parts, ltb-true, lt-ltb}
use Rattle.std.proofs.lemmas.Str.Parse.{numerals_by_value, tells_all_ascii_digits, parse_digits}
use Rattle.command_line.specs.Requests.{is_digits, number_in}

-- digits are what the kit says of them
same_digits : (word : List ℕ) → list_all is_ascii_digit word ≡ all_ascii_digits word
same_digits [] = refl
same_digits (c ∷ word) = ap (λ b. is_ascii_digit c && b) (same_digits word)

-- nothing is taken where one of two tests fails
unless_both : (a b : Bool) (v : ℕ) → (a ≡ true → b ≡ true → ⊥)
    → (if a && b then Some v else None) ≡ None
unless_both true true v other = absurd (other refl refl)
unless_both true false v other = refl
unless_both false b v other = refl

-- a word with another byte is no number
pub no_number : (word : List ℕ) → list_all is_ascii_digit word ≡ false → number_in word ≡ None
no_number word other =
    unless_both (is_digits word) (nat_lt (digits_value 10 word) (2 ^ 64)) (digits_value 10 word)
    (λ e _. true≢false
    (sym (and_parts (nat_lt 0 (length word)) (list_all is_ascii_digit word) e).1 ∙ other))

-- where a word is digits, parsing it gives its number
pub parsed_number : {E : Type 0} (word : List ℕ) (r : Result ℕ E)
    → list_all is_ascii_digit word ≡ true → ParsesUnsigned 64 10 word r
    → result_ok r ≡ number_in word
parsed_number word r digits reads =
    by r (parse_digits (numerals_by_value (λ ds. all_ascii_digits ds ≡ true)
    tells_all_ascii_digits) 64 word r reads (sym (same_digits word) ∙ digits))
  where
    by : {E : Type 0} (r : Result ℕ E)
        → OkIff r ((0 < length word) × (digits_value 10 word < 2 ^ 64)) (digits_value 10 word)
        → result_ok r ≡ number_in word
    by (Ok n) is =
        rw (lt-ltb 0 (length word) is.0.0, digits, lt-ltb (digits_value 10 word) (2 ^ 64) is.0.1)
        (ap Some is.1)
    by (Err e) unfit =
        sym (unless_both (is_digits word) (nat_lt (digits_value 10 word) (2 ^ 64))
        (digits_value 10 word)
        (λ a b. unfit (
          ltb-true 0 (length word)
              (and_parts (nat_lt 0 (length word)) (list_all is_ascii_digit word) a).0,
          ltb-true (digits_value 10 word) (2 ^ 64) b,
        )))
