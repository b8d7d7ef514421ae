-- Explanations: what is printed of pairs of states.
--
-- pairs_of numbers              == the numbers two by two
-- IsExplained c words output    == the output explains the pairs of states that the words name
use Rattle.std.specs.Prelude.{◌≡◌, ℕ, List, [], ◌∷◌, ◌++◌, Option, Ok}
use Rattle.typing.specs.Contents.{Content, words_of}
use Rattle.formulas.specs.declared.formula.Formula.{Formula}
use Rattle.formula_text.specs.Answers.{answers_of, dag_of}
use Rattle.formula_text.specs.Texts.{text_of_answers, IsComment}
use Rattle.formula_text.specs.Laws.{all_answers}
use Rattle.state_certificates.specs.Explained.{IsExplanation}
use Rattle.answer_writer.specs.Lines.{pair_lines}
use Rattle.copar_run.specs.Named.{AreNumbers}

-- the numbers two by two; a last one that is alone has no pair
abbrev pub pairs_of : List ℕ → List (ℕ × ℕ)
pairs_of (x ∷ y ∷ numbers) = (x, y) ∷ pairs_of numbers
pairs_of _ = []

-- The output has formulas, and then a line for each pair of states that the words name: that they
-- are equivalent, where they are, or a formula that holds at the first and fails at the second.
-- Each formula is cited on the way from a pair. The output is read as these formulas and pairs,
-- also where a line of notes stands behind it.
pub record IsExplained (c : Content) (words : List (List ℕ)) (output : List ℕ) : Type 0 where
  pub numbers : List ℕ
  pub dag : List Formula
  pub verdicts : List (Option ℕ)
  pub named : AreNumbers (words_of c) words numbers
  pub explains : IsExplanation c (pairs_of numbers) dag verdicts
  pub text : output ≡ text_of_answers dag (pair_lines (words_of c) (pairs_of numbers) verdicts)
  pub read :
      (note : List ℕ) → IsComment note →
      answers_of (output ++ note)
      ≡ Ok (all_answers dag (pair_lines (words_of c) (pairs_of numbers) verdicts))
  pub formulas : (note : List ℕ) → IsComment note → dag_of (output ++ note) ≡ Ok dag
