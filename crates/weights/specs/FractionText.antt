-- How a fraction is written.
use Rattle.std.specs.Prelude.{◌≡◌, ℕ, ◌≤◌, ◌^◌, ◌==◌, Bool, if◌then◌else◌, ℤ, unsigned_abs, Ok, List, ◌∷◌, ◌++◌}
use Rattle.std.specs.Int.{IsGcd}
use Rattle.std.specs.Fmt.{decimal, signed_decimal}
use Rattle.weights.specs.Numerals.{slash, Form, Spells, numerator_of, denominator_of, signed, numeral, reading_of}

-- the text of p / q: an optional `-`, the numerator, and where the denominator is not 1, `/` and
-- the denominator
abbrev pub text_of_fraction : ℤ → ℕ → List ℕ
text_of_fraction p q = if q == 1 then signed_decimal p else signed_decimal p ++ slash ∷ decimal q

-- the word is a numeral that spells the numerator p and the denominator q, whatever their size
pub record SpellsFraction (word : List ℕ) (p : ℤ) (q : ℕ) : Type 0 where
  pub negative : Bool
  pub form : Form
  pub spelled : Spells word negative form
  pub above : signed negative (numerator_of form) ≡ p
  pub below : denominator_of form ≡ q

-- p / q is in lowest terms and within the bounds of a numeral
pub record IsReadable (p : ℤ) (q : ℕ) : Type 0 where
  pub above : unsigned_abs p ≤ 2 ^ 40
  pub below : q ≤ 2 ^ 40
  pub positive : 1 ≤ q
  pub coprime : IsGcd (unsigned_abs p) q 1

-- what is written is read as p / q again
abbrev pub ReadsBack : ℤ → ℕ → Type 0
ReadsBack p q = reading_of (text_of_fraction p q) ≡ Ok (numeral p q)
