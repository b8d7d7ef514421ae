-- Numerals: words that spell a fraction, as `12`, `-007/014` and `0.500`. A word is the list of its
-- bytes.
use Rattle.std.specs.Prelude.{◌≡◌, ℕ, ◌+◌, ◌-◌, ◌*◌, ◌^◌, ◌≤◌, nat_lt, nat_le, ◌==◌, ◌&&◌, Bool, true, false, if◌then◌else◌, IsTrue, ℤ, pos, neg_ℤ, unsigned_abs, List, [], ◌∷◌, ◌++◌, length, slice_index, take, drop, Option, Some, None, Result, Ok, Err}
use Rattle.std.specs.List.{list_all, prefix_len, suffix_len, take_while}
use Rattle.std.specs.Option.{option_map_or}
use Rattle.std.specs.Char.{is_ascii_digit}
use Rattle.weights.specs.Fractions.{IsLowest, lowest_terms}
use Rattle.weights.specs.declared.numeral.Numeral.{Numeral}
use Rattle.weights.specs.declared.fault.NumeralFault.{NumeralFault}
use Rattle.weights.specs.declared.fault.NumeralFault.TheVariants.{NotANumber, OverBound}

-- the byte `-`
abbrev pub minus : ℕ
minus = 45

-- the byte `.`
abbrev pub point : ℕ
point = 46

-- the byte `/`
abbrev pub slash : ℕ
slash = 47

-- the byte `0`
abbrev pub digit_zero : ℕ
digit_zero = 48

-- ---- what a numeral is

-- the three forms, without a sign: `digits`, `digits/digits` and `digits.digits`
pub data Form : Type 0 where
  Whole : List ℕ → Form
  Over : List ℕ → List ℕ → Form
  Decimal : List ℕ → List ℕ → Form

-- the text of a form
abbrev pub text_of_form : Form → List ℕ
text_of_form (Whole ds) = ds
text_of_form (Over ns ds) = ns ++ slash ∷ ds
text_of_form (Decimal ws fs) = ws ++ point ∷ fs

-- one byte or more, and each of them a digit
abbrev pub is_digits : List ℕ → Bool
is_digits ds = nat_lt 0 (length ds) && list_all is_ascii_digit ds

-- the number that digits spell behind one: ten times what stands before, and the digit
abbrev pub number_after : ℕ → List ℕ → ℕ
number_after n [] = n
number_after n (d ∷ ds) = number_after (n * 10 + (d - digit_zero)) ds

-- the number that digits spell. Zeros in front of it change nothing
abbrev pub number_of : List ℕ → ℕ
number_of ds = number_after 0 ds

-- each part is digits, and a denominator is not 0
abbrev pub is_form : Form → Bool
is_form (Whole ds) = is_digits ds
is_form (Over ns ds) = is_digits ns && (is_digits ds && nat_lt 0 (number_of ds))
is_form (Decimal ws fs) = is_digits ws && is_digits fs

-- the text, with a `-` in front where it has that sign
abbrev pub signed_text : Bool → List ℕ → List ℕ
signed_text negative text = if negative then minus ∷ text else text

-- the word is a numeral of this sign and form
pub record Spells (word : List ℕ) (negative : Bool) (form : Form) : Type 0 where
  pub text : word ≡ signed_text negative (text_of_form form)
  pub formed : IsTrue (is_form form)

-- the word is a numeral
abbrev pub IsNumeral : List ℕ → Type 0
IsNumeral word = (negative : Bool) × (form : Form) × Spells word negative form

-- ---- what it stands for

-- the digits of a fraction without the zeros at their end
abbrev pub without_end_zeros : List ℕ → List ℕ
without_end_zeros ds = take (length ds - suffix_len (λ d. d == digit_zero) ds) ds

-- how many digits of a fraction stay
abbrev pub places_of : Form → ℕ
places_of (Whole ds) = 0
places_of (Over ns ds) = 0
places_of (Decimal ws fs) = length (without_end_zeros fs)

-- numerator and denominator as they are spelled, before a common factor is taken out
abbrev pub numerator_of : Form → ℕ
numerator_of (Whole ds) = number_of ds
numerator_of (Over ns ds) = number_of ns
numerator_of (Decimal ws fs) = number_of (ws ++ without_end_zeros fs)

abbrev pub denominator_of : Form → ℕ
denominator_of (Whole ds) = 1
denominator_of (Over ns ds) = number_of ds
denominator_of (Decimal ws fs) = 10 ^ length (without_end_zeros fs)

-- the number with its sign: a 0 has none
abbrev pub signed : Bool → ℕ → ℤ
signed negative n = if negative then neg_ℤ (pos n) else pos n

-- the value is below zero
abbrev pub is_below_zero : Bool → Form → Bool
is_below_zero negative form = negative && nat_lt 0 (numerator_of form)

-- at most 12 digits of a fraction stay, and numerator and denominator are at most 2 ^ 40 as they
-- are spelled
abbrev pub is_within : Form → Bool
is_within form =
    nat_le (places_of form) 12
    && (nat_le (numerator_of form) (2 ^ 40) && nat_le (denominator_of form) (2 ^ 40))

-- the word spells one numeral at most
abbrev pub SpellsOnce : List ℕ → Type 0
SpellsOnce word =
    (a b : Bool) (f g : Form) → Spells word a f → Spells word b g → (a ≡ b) × (f ≡ g)

-- the word is a numeral within the bounds
abbrev pub IsWithinBounds : List ℕ → Type 0
IsWithinBounds word =
    (negative : Bool) × (form : Form) × Spells word negative form × (is_within form ≡ true)

-- the word is a numeral over a bound, and the flag tells whether its value is below zero
abbrev pub IsOverBound : List ℕ → Bool → Type 0
IsOverBound word below_zero =
    (negative : Bool) × (form : Form) × Spells word negative form × (is_within form ≡ false)
    × (below_zero ≡ is_below_zero negative form)

-- the word is a numeral whose value is p / q, in lowest terms
pub record Denotes (word : List ℕ) (p : ℤ) (q : ℕ) : Type 0 where
  pub negative : Bool
  pub form : Form
  pub spelled : Spells word negative form
  pub value : IsLowest (signed negative (numerator_of form)) (denominator_of form) p q

-- the value of the word is p / q, in lowest terms and within the bounds
pub record IsValueOf (word : List ℕ) (p : ℤ) (q : ℕ) : Type 0 where
  pub denoted : Denotes word p q
  pub above : unsigned_abs p ≤ 2 ^ 40
  pub below : q ≤ 2 ^ 40

-- the word has one value at most
abbrev pub DenotesOnce : List ℕ → Type 0
DenotesOnce word =
    (p r : ℤ) (q s : ℕ) → Denotes word p q → Denotes word r s → (p ≡ r) × (q ≡ s)

-- ---- what is read

-- the fraction p / q
abbrev pub numeral : ℤ → ℕ → Numeral
numeral p q = record { p = p; q = q }

-- the fraction n / d in lowest terms
abbrev pub reduced : ℤ → ℕ → Numeral
reduced n d = numeral (lowest_terms n d).p (lowest_terms n d).q

-- the fraction of a form, in lowest terms
abbrev pub fraction_of : Bool → Form → Numeral
fraction_of negative form = reduced (signed negative (numerator_of form)) (denominator_of form)

-- what is read of a numeral of this form: the fraction, or the fault
abbrev pub bounded_reading : Bool → Form → Result Numeral NumeralFault
bounded_reading negative form =
    if is_within form
    then Ok (fraction_of negative form)
    else Err (OverBound (is_below_zero negative form))

-- what is read of a form, which may lack digits
abbrev pub form_reading : Bool → Form → Result Numeral NumeralFault
form_reading negative form =
    if is_form form then bounded_reading negative form else Err NotANumber

-- the form of a text that has these digits in front of these bytes, if it has one
abbrev pub form_by_rest : List ℕ → List ℕ → Option Form
form_by_rest front [] = Some (Whole front)
form_by_rest front (c ∷ rest) =
    if c == slash then Some (Over front rest)
    else (if c == point then Some (Decimal front rest) else None)

-- the form of a text, if it has one: its longest front of digits tells
abbrev pub form_of : List ℕ → Option Form
form_of text =
    form_by_rest (take_while is_ascii_digit text) (drop (prefix_len is_ascii_digit text) text)

-- what is read of a text without its sign
abbrev pub text_reading : Bool → List ℕ → Result Numeral NumeralFault
text_reading negative text = option_map_or (form_reading negative) (form_of text) (Err NotANumber)

-- the word has a `-` in front
abbrev pub has_sign : List ℕ → Bool
has_sign word = slice_index word 0 == minus

-- what is read of a word: of what follows its sign, or of all of it
unfoldable pub reading_of : List ℕ → Result Numeral NumeralFault
reading_of word = text_reading (has_sign word) (if has_sign word then drop 1 word else word)
