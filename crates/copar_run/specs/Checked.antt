-- The truths of formulas at states, as they are printed.
--
-- IsTruthList c bytes words out  == the output tells the truths of the formulas of a second file
use Rattle.std.specs.Prelude.{◌≡◌, ℕ, List, length, Ok}
use Rattle.typing.specs.Contents.{Content, words_of}
use Rattle.formulas.specs.declared.formula.Formula.{Formula}
use Rattle.formula_text.specs.Answers.{dag_of}
use Rattle.satisfaction.specs.Satisfaction.{holds_at}
use Rattle.truth_writer.specs.Truths.{truths_text}
use Rattle.copar_run.specs.Named.{AreNumbers}

-- The output has a line for each of the states that the words name, and for each formula of the
-- second file: whether the formula holds at the state.
pub record IsTruthList
    (c : Content) (bytes : List ℕ) (words : List (List ℕ)) (output : List ℕ) : Type 0 where
  pub numbers : List ℕ
  pub dag : List Formula
  pub named : AreNumbers (words_of c) words numbers
  pub read : dag_of bytes ≡ Ok dag
  pub text : output ≡ truths_text (holds_at c dag) (length dag) words numbers
