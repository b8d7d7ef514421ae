-- Block lines, and when they are a right answer.
--
-- BlockLine                 == the number of a formula, and states that are said to be its block
-- has_state line i          == the line has the state
-- times_in lines i          == how often a state stands in the lines
-- ShareLine lines i j       == some line has both states
-- IsRightAnswer             == each state stands once, and equivalent states alone share a line
-- line_of lines i           == the number of the first line that has the state
-- line_numbers lines n      == the same for each of n states
use Rattle.std.specs.Prelude.{◌≡◌, ◌↔◌, ◌<◌, ◌+◌, ◌==◌, ℕ, suc, Bool, List, [], ◌∷◌, map, length, IsTrue, if◌then◌else◌}
use Rattle.std.specs.List.{Any, list_any, range_with_len}
use Rattle.functor_terms.specs.Terms.{Nodes}
use Rattle.typing.specs.declared.value.Value.{Value}
use Rattle.typing.specs.Stable.{AreEquivalent}

-- a block line: the number of a formula, and the states that are said to be its block
pub record BlockLine : Type 0 where
  pub formula : ℕ
  pub states : List ℕ

-- the line with this formula and these states
abbrev pub line_with : ℕ → List ℕ → BlockLine
line_with f ss = record { formula = f; states = ss }

-- the line has the state
abbrev pub has_state : BlockLine → ℕ → Bool
has_state line i = list_any (λ s. s == i) line.states

-- how often a state stands among others
abbrev pub times_among : List ℕ → ℕ → ℕ
times_among [] i = 0
times_among (s ∷ states) i = (if s == i then 1 else 0) + times_among states i

-- how often a state stands in the lines
abbrev pub times_in : List BlockLine → ℕ → ℕ
times_in [] i = 0
times_in (line ∷ lines) i = times_among line.states i + times_in lines i

-- some line has both states
abbrev pub ShareLine : List BlockLine → ℕ → ℕ → Type 0
ShareLine lines i j =
    Any (λ (line : BlockLine). IsTrue (has_state line i) × IsTrue (has_state line j)) lines

-- each state stands in the lines exactly once, and two states share a line exactly if they are
-- equivalent
pub record IsRightAnswer (t : Nodes) (values : List Value) (lines : List BlockLine) : Type 0 where
  pub once : (i : ℕ) → i < length values → times_in lines i ≡ 1
  pub shared :
      (i j : ℕ) → i < length values → j < length values →
      ShareLine lines i j ↔ AreEquivalent t values i j

-- the number of the first line that has the state
abbrev pub line_of : List BlockLine → ℕ → ℕ
line_of [] i = 0
line_of (line ∷ lines) i = if has_state line i then 0 else suc (line_of lines i)

-- the line of each of n states
abbrev pub line_numbers : List BlockLine → ℕ → List ℕ
line_numbers lines n = map (line_of lines) (range_with_len 0 n)
