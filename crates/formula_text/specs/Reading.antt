-- What is read of lines of answers.
--
-- IsTextOf t answers     == t has the formulas, their lines, the blocks and the first pair of these
-- GivesText t read       == the lines are all good, and t is read of them
-- TellsBad fault read    == a bad line that is told is the first
use Rattle.std.specs.Prelude.{◌≡◌, ℕ, List, [], ◌∷◌, ◌++◌, map, Option, Some, None, Result, Ok, Err}
use Rattle.formula_text.specs.Answers.{Answer, Defines, Block, Separates, Equivalent, formulas_of}
use Rattle.formula_text.specs.declared.answer.AnswerText.{AnswerText}
use Rattle.formula_text.specs.declared.answer.BlockLine.{BlockLine}
use Rattle.formula_text.specs.declared.fault.DagFault.{DagFault}
use Rattle.formula_text.specs.declared.fault.DagFault.TheVariants.{BadLine, NoMemory}

-- the line of an answer before others, if it defines a formula
abbrev pub with_line : ℕ → Answer → List ℕ → List ℕ
with_line n (Defines f) lines = n ∷ lines
with_line n (Block f names) lines = lines
with_line n (Separates x y f) lines = lines
with_line n (Equivalent x y) lines = lines

-- the lines that define formulas, in order
abbrev pub lines_of_formulas : List (ℕ × Answer) → List ℕ
lines_of_formulas [] = []
lines_of_formulas (a ∷ answers) = with_line a.0 a.1 (lines_of_formulas answers)

-- a block before others, if the answer is one: its line, its formula and the names of its states
abbrev pub with_block :
    ℕ → Answer → List (ℕ × ℕ × List (List ℕ)) → List (ℕ × ℕ × List (List ℕ))
with_block n (Defines f) blocks = blocks
with_block n (Block f names) blocks = (n, f, names) ∷ blocks
with_block n (Separates x y f) blocks = blocks
with_block n (Equivalent x y) blocks = blocks

-- the blocks of answers, in order
abbrev pub blocks_of : List (ℕ × Answer) → List (ℕ × ℕ × List (List ℕ))
blocks_of [] = []
blocks_of (a ∷ answers) = with_block a.0 a.1 (blocks_of answers)

-- the line of an answer, if it tells of a pair, and else that of later ones
abbrev pub pair_or : ℕ → Answer → Option ℕ → Option ℕ
pair_or n (Defines f) later = later
pair_or n (Block f names) later = later
pair_or n (Separates x y f) later = Some n
pair_or n (Equivalent x y) later = Some n

-- the first line that tells of a pair
abbrev pub pair_of : List (ℕ × Answer) → Option ℕ
pair_of [] = None
pair_of (a ∷ answers) = pair_or a.0 a.1 (pair_of answers)

-- a block that was read: its line, its formula and the names of its states
abbrev pub block_seen : BlockLine → ℕ × ℕ × List (List ℕ)
block_seen b = (b.line, b.formula, map (λ name. name.now) b.names.items)

-- what is read of answers
pub record IsTextOf (t : AnswerText) (answers : List (ℕ × Answer)) : Type 0 where
  pub formulas : t.dag ≡ formulas_of answers
  pub lines : t.lines.items ≡ lines_of_formulas answers
  pub blocks : map block_seen t.blocks.items ≡ blocks_of answers
  pub pair : t.pair ≡ pair_of answers

-- the lines are all good, and this is read of them
abbrev pub GivesText : AnswerText → Result (List (ℕ × Answer)) ℕ → Type 0
GivesText t (Ok answers) = IsTextOf t answers
GivesText t (Err bad) = ⊥

-- a bad line that is told is the first
abbrev pub TellsBad : DagFault → Result (List (ℕ × Answer)) ℕ → Type 0
TellsBad (BadLine n) read = read ≡ Err n
TellsBad NoMemory read = Unit {0}

-- ---- what one line adds. Only private clauses cite it

-- the first pair, and else a later one
abbrev pub first_pair : Option ℕ → Option ℕ → Option ℕ
first_pair (Some n) later = Some n
first_pair None later = later

-- the answer of the line with this number is put last
pub record IsPut (n : ℕ) (a : Answer) (old new : AnswerText) : Type 0 where
  pub formulas : new.dag ≡ old.dag ++ formulas_of ((n, a) ∷ [])
  pub lines : new.lines.items ≡ old.lines.items ++ lines_of_formulas ((n, a) ∷ [])
  pub blocks :
      map block_seen new.blocks.items ≡ map block_seen old.blocks.items ++ blocks_of ((n, a) ∷ [])
  pub pair : new.pair ≡ first_pair old.pair (pair_of ((n, a) ∷ []))

-- a bad line that is told is this one, which says nothing
abbrev pub IsBadHere : DagFault → ℕ → Option Answer → Type 0
IsBadHere (BadLine m) n said = (m ≡ n) × (said ≡ None)
IsBadHere NoMemory n said = Unit {0}
