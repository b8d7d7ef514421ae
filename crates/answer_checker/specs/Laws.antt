-- Laws of verdicts, as statements. Each is the contract of a function that does nothing.
--
-- PassingAnswersAreRight        == block lines that pass the rules are a right answer
-- ThereIsOneVerdict             == no text has two verdicts
-- VerdictsLookAtTruthsAlone     == texts without a bad line that have the same block lines, by
--                                  numbers of states and formulas, and the same truths of the
--                                  formulas that these cite, have the same verdict
use Rattle.std.specs.Prelude.{◌≡◌, ◌<◌, ℕ, Bool, List, length, slice_get, Some, None}
use Rattle.functor_terms.specs.Terms.{IsTerm}
use Rattle.typing.specs.Contents.{Content}
use Rattle.typing.specs.Laws.{AreInRange}
use Rattle.formulas.specs.declared.formula.Formula.{Formula}
use Rattle.formulas.specs.Formulas.{IsDag}
use Rattle.satisfaction.specs.Satisfaction.{holds_at}
use Rattle.formula_text.specs.Answers.{certificate_of, formulas_of}
use Rattle.answer_checker.specs.Blocks.{BlockLine, IsRightAnswer}
use Rattle.answer_checker.specs.Rules.{PassesRules}
use Rattle.answer_checker.specs.BadLines.{bad_answer_line}
use Rattle.answer_checker.specs.Verdicts.{block_lines, answers_read, IsVerdict}
use Rattle.answer_checker.specs.declared.verdict.Verdict.{Verdict}

-- each formula that a line cites is there
abbrev pub CiteBelow : ℕ → List BlockLine → Type 0
CiteBelow n lines = (k : ℕ) (line : BlockLine) → slice_get lines k ≡ Some line → line.formula < n

-- block lines that pass the rules are a right answer, whoever made them
abbrev pub PassingAnswersAreRight : Type 0
PassingAnswersAreRight =
    (c : Content) → IsTerm c.term → AreInRange c.values → (dag : List Formula) → IsDag dag →
    (lines : List BlockLine) → CiteBelow (length dag) lines →
    PassesRules c.term c.values (holds_at c dag) lines → IsRightAnswer c.term c.values lines

-- no text has two verdicts
abbrev pub ThereIsOneVerdict : Type 0
ThereIsOneVerdict =
    (c : Content) (bytes : List ℕ) (v w : Verdict) →
    IsVerdict c bytes v → IsVerdict c bytes w → v ≡ w

-- the formulas that lines cite have one truth at each of n states, by both tables
abbrev pub HaveSameTruths : ℕ → List BlockLine → (ℕ → ℕ → Bool) → (ℕ → ℕ → Bool) → Type 0
HaveSameTruths n lines told other =
    (k : ℕ) (line : BlockLine) → slice_get lines k ≡ Some line →
    (i : ℕ) → i < n → told line.formula i ≡ other line.formula i

-- the truths of the formulas of a text
abbrev pub truths_of : Content → List ℕ → ℕ → ℕ → Bool
truths_of c bytes = holds_at c (formulas_of (answers_read (certificate_of bytes)))

-- the block lines of a text
abbrev pub lines_of_text : Content → List ℕ → List BlockLine
lines_of_text c bytes = block_lines c (answers_read (certificate_of bytes))

-- the verdict on a text without a bad line is a function of the coalgebra, of its block lines by
-- the numbers of their states and formulas, and of the truths of the formulas that they cite
abbrev pub VerdictsLookAtTruthsAlone : Type 0
VerdictsLookAtTruthsAlone =
    (c : Content) (a b : List ℕ) → bad_answer_line c a ≡ None → bad_answer_line c b ≡ None →
    lines_of_text c a ≡ lines_of_text c b →
    HaveSameTruths (length c.values) (lines_of_text c a) (truths_of c a) (truths_of c b) →
    (v : Verdict) → IsVerdict c a v → IsVerdict c b v
