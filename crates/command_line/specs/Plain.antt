-- Words that are always taken as they stand.
--
-- is_plain word       == the word does not begin with `-`
-- PlainWordsAreTaken  == plain words are an action, a file and further words
-- FlaggedWordsAreTaken == so they are with `--stats` behind them
use Rattle.std.specs.Prelude.{◌≡◌, ℕ, ◌==◌, Bool, true, false, not, List, [], ◌∷◌, ◌++◌, Some, codes, IsTrue}
use Rattle.std.specs.List.{list_all}
use Rattle.command_line.specs.Lines.{Line, line_of}

-- the byte `-`
abbrev pub dash : ℕ
dash = 45

-- the word does not begin with `-`
abbrev pub is_plain : List ℕ → Bool
is_plain [] = true
is_plain (byte ∷ others) = not (byte == dash)

-- a line of these parts
abbrev pub line_with : List ℕ → List ℕ → List (List ℕ) → Bool → Line
line_with action file rest stats =
    record { action = action; file = file; rest = rest; stats = stats }

-- two plain words and any number of others are an action, a file and further words
abbrev pub PlainWordsAreTaken : Type 0
PlainWordsAreTaken =
    (action file : List ℕ) (rest : List (List ℕ)) →
    IsTrue (list_all is_plain (action ∷ file ∷ rest)) →
    line_of (action ∷ file ∷ rest) ≡ Some (line_with action file rest false)

-- and so they are with the flag behind them
abbrev pub FlaggedWordsAreTaken : Type 0
FlaggedWordsAreTaken =
    (action file : List ℕ) (rest : List (List ℕ)) →
    IsTrue (list_all is_plain (action ∷ file ∷ rest)) →
    line_of (action ∷ file ∷ (rest ++ codes "--stats" ∷ []))
    ≡ Some (line_with action file rest true)
