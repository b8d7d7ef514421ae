-- Values of layers as parts of lines.
--
-- value_text v           == the text of a value
-- value_in part          == the value whose text the part is
use Rattle.std.specs.Prelude.{ℕ, ◌+◌, ◌-◌, ◌&&◌, ◌==◌, if◌then◌else◌, nat_le, nat_lt, List, [], ◌∷◌, ◌++◌, codes, Option, Some, None, option_map, option_and_then}
use Rattle.std.specs.List.{slice_split, position_or_len}
use Rattle.std.specs.Fmt.{decimal}
use Rattle.weights.specs.declared.ratio.Ratio.{Ratio}
use Rattle.weights.specs.FractionText.{text_of_fraction}
use Rattle.weights.specs.Numerals.{digit_zero}
use Rattle.modalities.specs.declared.sums.Sums.{Sums}
use Rattle.modalities.specs.declared.three.Three.{Three}
use Rattle.modalities.specs.declared.three.Three.TheVariants.{Label, Trit, Trits, Tagged, Members, Triple}
use Rattle.modalities.specs.Values.{triple}
use Rattle.formula_text.specs.Numbers.{is_same, number_below, label_bound, fraction_in}

-- the byte `=`, with which a label begins
abbrev pub equals_sign : ℕ
equals_sign = 61

-- the byte `:`, behind the index of a summand
abbrev pub colon : ℕ
colon = 58

-- the byte `,`, between trits and between fractions
abbrev pub comma : ℕ
comma = 44

-- the byte `(`, with which trits begin
abbrev pub open_round : ℕ
open_round = 40

-- the byte `)`, with which trits end
abbrev pub close_round : ℕ
close_round = 41

-- the byte `[`, with which three fractions begin
abbrev pub open_square : ℕ
open_square = 91

-- the byte `]`, with which three fractions end
abbrev pub close_square : ℕ
close_square = 93

-- ---- how values are written

-- a comma before each of the trits, and a closing parenthesis behind them
abbrev pub later_trits : List ℕ → List ℕ
later_trits [] = close_round ∷ []
later_trits (t ∷ trits) = comma ∷ decimal t ++ later_trits trits

-- trits with a comma between them, and a closing parenthesis behind them
abbrev pub trits_text : List ℕ → List ℕ
trits_text [] = close_round ∷ []
trits_text (t ∷ trits) = decimal t ++ later_trits trits

-- the texts of the eight sets, where set number n has i exactly if bit i of n is set
abbrev pub set_texts : List (List ℕ)
set_texts =
    codes "{}" ∷ codes "{0}" ∷ codes "{1}" ∷ codes "{0,1}" ∷ codes "{2}" ∷ codes "{0,2}"
    ∷ codes "{1,2}" ∷ codes "{0,1,2}" ∷ []

-- the text at a place of a list, and none behind its end
abbrev pub text_at : List (List ℕ) → ℕ → List ℕ
text_at [] n = []
text_at (text ∷ texts) n = if n == 0 then text else text_at texts (n - 1)

-- the text of a fraction
abbrev pub fraction_text : Ratio → List ℕ
fraction_text r = text_of_fraction r.p r.q

-- the fractions of 0, 1 and 2 with commas between them, and a closing bracket behind them
abbrev pub sums_text : Sums → List ℕ
sums_text s =
    fraction_text s.at_zero
    ++ comma ∷ fraction_text s.at_one ++ comma ∷ fraction_text s.at_two ++ close_square ∷ []

-- the text of a value
abbrev pub value_text : Three → List ℕ
value_text (Label n) = equals_sign ∷ decimal n
value_text (Trit t) = decimal t
value_text (Trits trits) = open_round ∷ trits_text trits
value_text (Tagged i t) = decimal i ++ colon ∷ decimal t
value_text (Members bits) = text_at set_texts bits
value_text (Triple sums) = open_square ∷ sums_text sums

-- ---- how they are read

-- f of two numbers or fractions, if both are there
abbrev pub both : {A B C : Type 0} → (A → B → C) → Option A → Option B → Option C
both f (Some a) (Some b) = Some (f a b)
both f _ _ = None

-- the trit whose byte this is
abbrev pub trit_of : ℕ → Option ℕ
trit_of b =
    if nat_le digit_zero b && nat_le b (digit_zero + 2) then Some (b - digit_zero) else None

-- the trit whose byte the piece is
abbrev pub trit_in : List ℕ → Option ℕ
trit_in (b ∷ []) = trit_of b
trit_in _ = None

-- the trits whose bytes the pieces are, one each
abbrev pub trits_in : List (List ℕ) → Option (List ℕ)
trits_in [] = Some []
trits_in (piece ∷ pieces) = both (λ t ts. t ∷ ts) (trit_in piece) (trits_in pieces)

-- the bytes before a last byte, if it is this one
abbrev pub before_end : ℕ → List ℕ → Option (List ℕ)
before_end b [] = None
before_end b (c ∷ []) = if c == b then Some [] else None
before_end b (c ∷ d ∷ bytes) = option_map (λ rest. c ∷ rest) (before_end b (d ∷ bytes))

-- the pieces between commas
abbrev pub pieces_of : List ℕ → List (List ℕ)
pieces_of text = slice_split (λ b. b == comma) text

-- a value of three fractions, which the pieces spell
abbrev pub triple_in : List (List ℕ) → Option Three
triple_in (a ∷ b ∷ c ∷ []) =
    option_and_then (λ x. both (triple x) (fraction_in b) (fraction_in c)) (fraction_in a)
triple_in _ = None

-- a value of a summand and a trit in it, which the pieces around the colon spell
abbrev pub tagged_in : List (List ℕ) → Option Three
tagged_in (i ∷ t ∷ []) = both Tagged (number_below 256 i) (trit_in t)
tagged_in (t ∷ []) = option_map Trit (trit_in t)
tagged_in _ = None

-- the set with this number, if there is one
abbrev pub set_of : ℕ → Option Three
set_of n = if nat_lt n 8 then Some (Members n) else None

-- the brace that opens a set
abbrev pub open_brace : ℕ
open_brace = 123

-- the value whose text the part is: its first byte tells the kind
abbrev pub value_in : List ℕ → Option Three
value_in [] = None
value_in (b ∷ rest) =
    if b == equals_sign then option_map Label (number_below label_bound rest)
    else if b == open_round
    then option_and_then (λ text. option_map Trits (trits_in (pieces_of text)))
    (before_end close_round rest)
    else if b == open_square
    then option_and_then (λ text. triple_in (pieces_of text)) (before_end close_square rest)
    else if b == open_brace
    then set_of (position_or_len (is_same (b ∷ rest)) set_texts)
    else tagged_in (slice_split (λ c. c == colon) (b ∷ rest))
