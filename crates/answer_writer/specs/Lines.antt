-- The lines of explanations and certificates, by the names of the states.
--
-- name_of names i                    == the name of state i
-- pair_lines names pairs verdicts    == the line of each pair, in order
-- block_lines names formulas blocks  == the line of each block, in order
-- IsPairOf names pair                == both states of the pair have names
-- AreStatesOf names states           == so do all of these
use Rattle.std.specs.Prelude.{ℕ, ◌<◌, List, [], ◌∷◌, ◌++◌, map, length, slice_index_or, Option, Some, None}
use Rattle.std.specs.List.{All}
use Rattle.file_cut.specs.Bytes.{space}
use Rattle.formula_text.specs.Answers.{Answer, Block, Separates, Equivalent}

-- the name of a state
abbrev pub name_of : List (List ℕ) → ℕ → List ℕ
name_of names i = slice_index_or names i []

-- both states of the pair have names
abbrev pub IsPairOf : List (List ℕ) → ℕ × ℕ → Type 0
IsPairOf names pair = (pair.0 < length names) × (pair.1 < length names)

-- the states all have names
abbrev pub AreStatesOf : List (List ℕ) → List ℕ → Type 0
AreStatesOf names states = All (λ i. i < length names) states

-- the line of a pair: its states are equivalent, or a formula holds at the first alone
abbrev pub pair_line : List (List ℕ) → ℕ × ℕ → Option ℕ → Answer
pair_line names pair None = Equivalent (name_of names pair.0) (name_of names pair.1)
pair_line names pair (Some f) = Separates (name_of names pair.0) (name_of names pair.1) f

-- for each pair in order the line that tells its verdict
abbrev pub pair_lines : List (List ℕ) → List (ℕ × ℕ) → List (Option ℕ) → List Answer
pair_lines names [] verdicts = []
pair_lines names (pair ∷ pairs) [] = []
pair_lines names (pair ∷ pairs) (verdict ∷ verdicts) =
    pair_line names pair verdict ∷ pair_lines names pairs verdicts

-- the line of a block: its formula, and the names of its states in order
abbrev pub block_line : List (List ℕ) → ℕ → List ℕ → Answer
block_line names f states = Block f (map (name_of names) states)

-- for each block in order the line that gives it its formula
abbrev pub block_lines : List (List ℕ) → List ℕ → List (List ℕ) → List Answer
block_lines names [] blocks = []
block_lines names (f ∷ formulas) [] = []
block_lines names (f ∷ formulas) (states ∷ blocks) =
    block_line names f states ∷ block_lines names formulas blocks

-- names with a space before each. Only private clauses cite it
abbrev pub names_behind : List (List ℕ) → List ℕ
names_behind [] = []
names_behind (name ∷ names) = space ∷ name ++ names_behind names
