-- Numbers and fractions as parts of lines.
--
-- is_same a b            == the two parts have the same bytes
-- number_below bound     == the number below the bound whose decimal text a part is
-- fraction_in            == the fraction whose text a part is: in lowest terms, within its bounds
use Rattle.std.specs.Prelude.{ℕ, suc, ◌^◌, Bool, false, true, ◌&&◌, ◌==◌, if◌then◌else◌, nat_eq, nat_lt, nat_le, List, [], ◌∷◌, Option, Some, None, option_and_then}
use Rattle.std.specs.List.{slice_split}
use Rattle.std.specs.Cmp.Lexicographic.{pointwise}
use Rattle.std.specs.Fmt.{decimal}
use Rattle.weights.specs.declared.ratio.Ratio.{Ratio}
use Rattle.weights.specs.Fractions.{gcd_of}
use Rattle.weights.specs.Numerals.{minus, slash, number_of, signed}

-- the two parts have the same bytes
abbrev pub is_same : List ℕ → List ℕ → Bool
is_same a b = pointwise nat_eq a b

-- the number, if it is below the bound and the part is its decimal text, without needless zeros
abbrev pub number_if : ℕ → List ℕ → ℕ → Option ℕ
number_if bound part n = if is_same (decimal n) part && nat_lt n bound then Some n else None

-- the number below the bound whose decimal text the part is
abbrev pub number_below : ℕ → List ℕ → Option ℕ
number_below bound part = number_if bound part (number_of part)

-- one more than the largest label and the largest denominator
abbrev pub label_bound : ℕ
label_bound = suc (2 ^ 40)

-- one more than the largest numerator
abbrev pub numerator_bound : ℕ
numerator_bound = suc (2 ^ 106)

-- the fraction of a numerator and a denominator with a sign; -0 is none
abbrev pub fraction : Bool → ℕ → ℕ → Option Ratio
fraction negative n d =
    if negative && (n == 0) then None else Some (record { p = signed negative n; q = d })

-- the fraction of a numerator and a denominator from 2 on, if it is in lowest terms
abbrev pub lowest_over : Bool → ℕ → ℕ → Option Ratio
lowest_over negative n d =
    if nat_le 2 d && (gcd_of n d == 1) then fraction negative n d else None

-- a whole number, or a numerator and a denominator, from the pieces around the slash
abbrev pub fraction_of_pieces : Bool → List (List ℕ) → Option Ratio
fraction_of_pieces negative (n ∷ []) =
    option_and_then (λ a. fraction negative a 1) (number_below numerator_bound n)
fraction_of_pieces negative (n ∷ d ∷ []) =
    option_and_then
    (λ a. option_and_then (lowest_over negative a) (number_below label_bound d))
    (number_below numerator_bound n)
fraction_of_pieces negative _ = None

-- the fraction that the bytes behind the sign spell
abbrev pub fraction_behind : Bool → List ℕ → Option Ratio
fraction_behind negative text =
    fraction_of_pieces negative (slice_split (λ b. b == slash) text)

-- the fraction whose text the part is
abbrev pub fraction_in : List ℕ → Option Ratio
fraction_in [] = None
fraction_in (b ∷ rest) =
    if b == minus then fraction_behind true rest else fraction_behind false (b ∷ rest)
