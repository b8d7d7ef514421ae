-- The lines of a file: where they end, which are skipped, and the number of each.
use Rattle.std.specs.Prelude.{◌≡◌, ◌<◌, ◌+◌, ◌==◌, ◌++◌, ◌∷◌, ◌⊎◌, ℕ, List, [], Bool, true, false}
use Rattle.std.specs.Prelude.{not, length, filter, refl, if◌then◌else◌}
use Rattle.std.specs.Coded.{Coded, code_by, coded×, coded_list, coded_ℕ}
use Rattle.std.specs.List.{list_all}
use Rattle.file_cut.specs.Bytes.{is_blank, line_feed, carriage_return, number_sign}

-- the byte does not end a line
abbrev pub is_no_feed : ℕ → Bool
is_no_feed b = not (b == line_feed)

-- the lines with a byte more at the front of the first; where there is none, the byte is a line
abbrev pub before_first : ℕ → List (List ℕ) → List (List ℕ)
before_first b [] = (b ∷ []) ∷ []
before_first b (line ∷ lines) = (b ∷ line) ∷ lines

-- a line feed ends an empty line, and any other byte stands in the first line
abbrev pub begun : (feed : Bool) → ℕ → List (List ℕ) → List (List ℕ)
begun true b lines = [] ∷ lines
begun false b lines = before_first b lines

-- the lines of the bytes without their line feeds: each ends by a line feed or where the bytes end
abbrev pub raw_lines : List ℕ → List (List ℕ)
raw_lines [] = []
raw_lines (b ∷ bytes) = begun (b == line_feed) b (raw_lines bytes)

-- the line without one carriage return at its end, if one stands there
abbrev pub without_return : List ℕ → List ℕ
without_return [] = []
without_return (b ∷ []) = if b == carriage_return then [] else b ∷ []
without_return (b ∷ c ∷ bytes) = b ∷ without_return (c ∷ bytes)

-- the line has no byte other than blanks, or the first other byte is a number sign
abbrev pub is_skipped : List ℕ → Bool
is_skipped [] = true
is_skipped (b ∷ bytes) = if is_blank b then is_skipped bytes else b == number_sign

-- a line without its line end, and its number
pub record Numbered : Type 0 where
  pub number : ℕ
  pub text : List ℕ

-- the line with this number
abbrev pub numbered_line : ℕ → List ℕ → Numbered
numbered_line n line = record { number = n; text = line }

-- how clauses store it: as the pair of its fields
abbrev pub numbered_code : Coded Numbered
numbered_code =
    code_by (ℕ × List ℕ) (coded× coded_ℕ (coded_list coded_ℕ))
    (λ line. (line.number, line.text)) (λ pair. numbered_line pair.0 pair.1) (λ _. refl)

-- the lines without their line ends, numbered from n on
abbrev pub numbered : ℕ → List (List ℕ) → List Numbered
numbered n [] = []
numbered n (line ∷ lines) = numbered_line n (without_return line) ∷ numbered (n + 1) lines

-- the lines that are not skipped, where the first line of the bytes has the number n
abbrev pub lines_from : ℕ → List ℕ → List Numbered
lines_from n bytes = filter (λ line. not (is_skipped line.text)) (numbered n (raw_lines bytes))

-- the lines of a file that are not skipped, in order, each with its number; lines count from 1
abbrev pub lines_of : List ℕ → List Numbered
lines_of bytes = lines_from 1 bytes

-- the first line of the bytes ends by a line feed, or it is the last and is not empty
abbrev pub EndsFirst : List ℕ → List ℕ → List ℕ → Type 0
EndsFirst bytes line rest =
    (bytes ≡ line ++ line_feed ∷ rest) ⊎ ((bytes ≡ line) × (0 < length line) × (rest ≡ []))

-- the bytes are these lines with a line feed behind each, which the last may lack if not empty
abbrev pub AreRawLines : List ℕ → List (List ℕ) → Type 0
AreRawLines bytes [] = bytes ≡ []
AreRawLines bytes (line ∷ lines) =
    (rest : List ℕ) × (list_all is_no_feed line ≡ true) × EndsFirst bytes line rest
    × AreRawLines rest lines

-- each file is its raw lines with their ends, so no byte is lost and none stands in two lines
abbrev pub LinesCover : Type 0
LinesCover = (bytes : List ℕ) → AreRawLines bytes (raw_lines bytes)

-- what stands behind the blanks of a line has no byte, or begins with a number sign
abbrev pub begins_note : List ℕ → Bool
begins_note [] = true
begins_note (b ∷ bytes) = b == number_sign

-- the first line of bytes that are not empty, without its line end, and the bytes behind it
pub record IsFirstLine (text line rest : List ℕ) : Type 0 where
  pub raw : List ℕ
  pub lines : raw_lines text ≡ raw ∷ raw_lines rest
  pub trimmed : line ≡ without_return raw
  pub shorter : length rest < length text
