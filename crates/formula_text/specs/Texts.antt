-- The canonical text of formulas, and of lines that speak of them.
--
-- formula_line k f           == the line that defines formula k, with its line feed
-- text_of_dag dag            == such a line for each formula, in order
-- line_text a                == the line of a block or a pair, with its line feed
-- text_of_answers dag lines  == the lines of the formulas, and then these
-- IsSayable n a              == a line can say a: no formula, and it cites one of the first n
-- IsComment text             == no byte, or one line of notes
-- numbered_answers n answers == the answers, each with the number of its line, from n on
use Rattle.std.specs.Prelude.{◌≡◌, ◌<◌, ◌⊎◌, ℕ, ◌+◌, true, List, [], ◌∷◌, ◌++◌, codes, length}
use Rattle.std.specs.List.{All, list_all}
use Rattle.std.specs.Fmt.{decimal}
use Rattle.file_cut.specs.Bytes.{IsWord, space, line_feed, number_sign}
use Rattle.file_cut.specs.Lines.{is_no_feed}
use Rattle.formulas.specs.declared.formula.Formula.{Formula}
use Rattle.formulas.specs.declared.formula.Formula.TheVariants.{True, Not, And, At}
use Rattle.formula_text.specs.Values.{value_text}
use Rattle.formula_text.specs.Answers.{Answer, Defines, Block, Separates, Equivalent, formula_name}

-- the parts behind `=`
abbrev pub body_parts : Formula → List (List ℕ)
body_parts True = codes "true" ∷ []
body_parts (Not i) = codes "not" ∷ formula_name i ∷ []
body_parts (And i j) = codes "and" ∷ formula_name i ∷ formula_name j ∷ []
body_parts (At node value splitter coarse) =
    codes "at" ∷ decimal node ∷ value_text value ∷ formula_name splitter ∷ formula_name coarse
    ∷ []

-- parts with a space between them, and a line feed behind them
abbrev pub line_of_parts : List (List ℕ) → List ℕ
line_of_parts [] = line_feed ∷ []
line_of_parts (part ∷ []) = part ++ line_feed ∷ []
line_of_parts (part ∷ next ∷ parts) = part ++ space ∷ line_of_parts (next ∷ parts)

-- the line that defines formula k
abbrev pub formula_line : ℕ → Formula → List ℕ
formula_line k f = line_of_parts (formula_name k ∷ codes "=" ∷ body_parts f)

-- the lines of formulas of which the first has the number k
abbrev pub text_from : ℕ → List Formula → List ℕ
text_from k [] = []
text_from k (f ∷ fs) = formula_line k f ++ text_from (k + 1) fs

-- the lines of all formulas, in order
abbrev pub text_of_dag : List Formula → List ℕ
text_of_dag dag = text_from 0 dag

-- ---- lines that speak of formulas

-- the line of a block or a pair; the line of a formula has its number too, so it is none of these
abbrev pub line_text : Answer → List ℕ
line_text (Defines f) = []
line_text (Block f names) = line_of_parts (codes "block" ∷ formula_name f ∷ names)
line_text (Separates x y f) = line_of_parts (codes "separates" ∷ x ∷ y ∷ formula_name f ∷ [])
line_text (Equivalent x y) = line_of_parts (codes "equivalent" ∷ x ∷ y ∷ [])

-- such lines, in order
abbrev pub lines_text : List Answer → List ℕ
lines_text [] = []
lines_text (a ∷ lines) = line_text a ++ lines_text lines

-- the lines of the formulas, and then these
abbrev pub text_of_answers : List Formula → List Answer → List ℕ
text_of_answers dag lines = text_of_dag dag ++ lines_text lines

-- The line defines no formula. It cites one of the first n, and its names are words. A block has
-- one or more.
abbrev pub IsSayable : ℕ → Answer → Type 0
IsSayable n (Defines f) = ⊥
IsSayable n (Block f names) = (f < n) × (0 < length names) × All IsWord names
IsSayable n (Separates x y f) = IsWord x × IsWord y × (f < n)
IsSayable n (Equivalent x y) = IsWord x × IsWord y

-- each of the lines can be said behind n formulas
abbrev pub AreSayable : ℕ → List Answer → Type 0
AreSayable n lines = All (IsSayable n) lines

-- a line of notes: the number sign, what is noted, and a line feed
abbrev pub note_line : List ℕ → List ℕ
note_line note = number_sign ∷ note ++ line_feed ∷ []

-- no byte, or one line of notes
abbrev pub IsComment : List ℕ → Type 0
IsComment text =
    (text ≡ []) ⊎ ((note : List ℕ) × (list_all is_no_feed note ≡ true) × (text ≡ note_line note))

-- the answers, each with the number of its line, where the first has the number n
abbrev pub numbered_answers : ℕ → List Answer → List (ℕ × Answer)
numbered_answers n [] = []
numbered_answers n (a ∷ answers) = (n, a) ∷ numbered_answers (n + 1) answers
