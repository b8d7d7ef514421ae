-- The summary of a trial.
--
-- IsSummary kind c rise output == the output counts the states, blocks, structures and edges of the
--                                 drawn coalgebra, and the steps of the work
use Rattle.std.specs.Prelude.{◌≡◌, ℕ, List}
use Rattle.trial_texts.specs.declared.kind.TrialKind.{TrialKind}
use Rattle.typing.specs.Contents.{Content}
use Rattle.typing.specs.Layers.{sorted_count, edge_count}
use Rattle.answer_writer.specs.Summary.{summary_text}
use Rattle.copar_run.specs.Blocks.{AreBlocks}

-- the output is the summary of the drawn coalgebra, whose blocks are those of equivalence
pub record IsSummary (kind : TrialKind) (c : Content) (rise : ℕ) (output : List ℕ) : Type 0 where
  pub firsts : List ℕ
  pub blocks : AreBlocks c firsts
  pub text :
      output
      ≡ summary_text kind firsts (sorted_count c.term c.values) (edge_count c.term c.values) rise
