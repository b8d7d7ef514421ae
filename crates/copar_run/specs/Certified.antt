-- Certificates: the blocks, each with a formula that holds at exactly its states.
--
-- IsCertified c output   == the output is a certificate of the blocks of this coalgebra
use Rattle.std.specs.Prelude.{◌≡◌, ℕ, List, ◌++◌, Ok}
use Rattle.typing.specs.Contents.{Content, words_of}
use Rattle.formulas.specs.declared.formula.Formula.{Formula}
use Rattle.formula_text.specs.Answers.{certificate_of}
use Rattle.formula_text.specs.Texts.{text_of_answers, IsComment}
use Rattle.formula_text.specs.Laws.{all_answers}
use Rattle.state_certificates.specs.Classed.{IsCertificate}
use Rattle.answer_writer.specs.Lines.{block_lines}

-- The output has formulas, and then a line for each block, in the order of their first states: its
-- formula, which holds at exactly its states, and its states in order. It is read as these lines,
-- also where a line of notes stands behind it. Each formula is cited on the way from a block.
pub record IsCertified (c : Content) (output : List ℕ) : Type 0 where
  pub dag : List Formula
  pub formulas : List ℕ
  pub blocks : List (List ℕ)
  pub certifies : IsCertificate c dag formulas blocks
  pub text : output ≡ text_of_answers dag (block_lines (words_of c) formulas blocks)
  pub read :
      (note : List ℕ) → IsComment note →
      certificate_of (output ++ note)
      ≡ Ok (all_answers dag (block_lines (words_of c) formulas blocks))
