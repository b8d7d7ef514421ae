-- The verdict on a text.
--
-- block_lines c answers       == the block lines, with the numbers of their states
-- lines_seen names blocks     == the same of the lines that the code has
-- IsReason .. r               == r is what the first rule that fails tells
-- IsJudged .. v               == v is the verdict of the rules on block lines
-- answers_read read           == the answers, where all lines are good
-- IsVerdict c bytes v         == v is the verdict on a text: its bad line, or that of the rules
-- IsRightIfYes c bytes v      == if it is yes, the block lines of the text are a right answer
-- TellsBadFormula t bytes f   == a bad line of a file whose formulas are to be evaluated is told
use Rattle.std.specs.Prelude.{◌≡◌, ◌<◌, ◌^◌, ℕ, Bool, List, [], map, length, Option, Some, None, Result, Ok, Err}
use Rattle.std.specs.Option.{unwrap_or}
use Rattle.std.specs.List.{All}
use Rattle.functor_terms.specs.Terms.{Nodes}
use Rattle.functor_terms.specs.Words.{place_of}
use Rattle.typing.specs.Contents.{Content}
use Rattle.satisfaction.specs.Satisfaction.{holds_at}
use Rattle.formula_text.specs.Answers.{Answer, certificate_of, formulas_of}
use Rattle.formula_text.specs.Reading.{blocks_of, block_seen}
use Rattle.formula_text.specs.declared.answer.AnswerText.{AnswerText}
use Rattle.formula_text.specs.declared.answer.BlockLine.{BlockLine as TheBlockLine}
use Rattle.answer_checker.specs.Blocks.{BlockLine, times_in, line_numbers, line_with, IsRightAnswer}
use Rattle.answer_checker.specs.Rules.{StandOnce, IsFirstNotOnce, AreLikeFirsts, IsFirstUnlike, IsFirstWrong, PassesRules}
use Rattle.answer_checker.specs.BadLines.{bad_answer_line, IsBadFormulaLine}
use Rattle.answer_checker.specs.declared.verdict.Reason.{Reason}
use Rattle.answer_checker.specs.declared.verdict.Reason.TheVariants.{Missing, Twice, Unstable, Wrong}
use Rattle.answer_checker.specs.declared.verdict.Verdict.{Verdict}
use Rattle.answer_checker.specs.declared.verdict.Verdict.TheVariants.{Yes, No, BadLine}
use Rattle.answer_checker.specs.declared.fault.AnswerFault.{AnswerFault}
use Rattle.answer_checker.specs.declared.fault.AnswerFault.TheVariants as fault

-- the number of the state with this name, and the number of states where there is none
abbrev pub number_of : List (List ℕ) → List ℕ → ℕ
number_of names word = unwrap_or (place_of word names) (length names)

-- a block line that was read, with the numbers of its states
abbrev pub block_line : List (List ℕ) → ℕ × ℕ × List (List ℕ) → BlockLine
block_line names block = line_with block.1 (map (number_of names) block.2)

-- the block lines of answers, in order
abbrev pub block_lines : Content → List (ℕ × Answer) → List BlockLine
block_lines c answers = map (block_line c.names) (blocks_of answers)

-- the block lines that were read
abbrev pub lines_seen : List (List ℕ) → List TheBlockLine → List BlockLine
lines_seen names blocks = map (block_line names) (map block_seen blocks)

-- each block line of what was read cites a formula that is there, and they can be numbered
pub record IsReadable (text : AnswerText) : Type 0 where
  pub few : length text.blocks.items < 2 ^ 32
  pub cited : All (λ b. b.formula < length text.dag) text.blocks.items
  pub one_each : length text.lines.items ≡ length text.dag

module _ (c : Content) (told : ℕ → ℕ → Bool) (lines : List BlockLine) where
  -- The reason is told by the first rule that fails: a state stands nowhere, or more than once;
  -- states of one block differ; or a formula does not hold at exactly the states of its line.
  abbrev pub IsReason : Reason → Type 0
  IsReason (Missing i) = IsFirstNotOnce (length c.values) lines i × (times_in lines i ≡ 0)
  IsReason (Twice i) = IsFirstNotOnce (length c.values) lines i × (1 < times_in lines i)
  IsReason (Unstable x y) =
      StandOnce (length c.values) lines
      × IsFirstUnlike c.term c.values (line_numbers lines (length c.values)) x y
  IsReason (Wrong f x) =
      StandOnce (length c.values) lines
      × AreLikeFirsts c.term c.values (line_numbers lines (length c.values))
      × IsFirstWrong told (length c.values) lines f x

  -- the verdict of the rules: yes where all three hold, and else the reason
  abbrev pub IsJudged : Verdict → Type 0
  IsJudged Yes = PassesRules c.term c.values told lines
  IsJudged (No reason) = IsReason reason
  IsJudged (BadLine line) = ⊥

-- the answers, where all lines are good, and else none
abbrev pub answers_read : Result (List (ℕ × Answer)) ℕ → List (ℕ × Answer)
answers_read (Ok answers) = answers
answers_read (Err line) = []

-- the verdict on answers: the bad line, and where there is none that of the rules
abbrev pub IsVerdictOf : Content → List (ℕ × Answer) → Option ℕ → Verdict → Type 0
IsVerdictOf c answers (Some line) v = v ≡ BadLine line
IsVerdictOf c answers None v =
    IsJudged c (holds_at c (formulas_of answers)) (block_lines c answers) v

-- the verdict on a text
abbrev pub IsVerdict : Content → List ℕ → Verdict → Type 0
IsVerdict c bytes v =
    IsVerdictOf c (answers_read (certificate_of bytes)) (bad_answer_line c bytes) v

-- if the verdict is yes, the block lines are a right answer
abbrev pub IsRightWhenYes : Content → List BlockLine → Verdict → Type 0
IsRightWhenYes c lines Yes = IsRightAnswer c.term c.values lines
IsRightWhenYes c lines (No reason) = Unit {0}
IsRightWhenYes c lines (BadLine line) = Unit {0}

-- if the verdict is yes, the block lines of the text are a right answer
abbrev pub IsRightIfYes : Content → List ℕ → Verdict → Type 0
IsRightIfYes c bytes v =
    IsRightWhenYes c (block_lines c (answers_read (certificate_of bytes))) v

-- a bad line that is told is the bad line of a file whose formulas are to be evaluated
abbrev pub TellsBadFormula : Nodes → List ℕ → AnswerFault → Type 0
TellsBadFormula t bytes (fault.BadLine line) = IsBadFormulaLine t bytes line
TellsBadFormula t bytes fault.NoMemory = Unit {0}
