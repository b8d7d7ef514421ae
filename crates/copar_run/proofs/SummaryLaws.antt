-- What is found of a drawn coalgebra is its summary.
use Rattle.std.proofs.Common.{◌≡◌, ◌∙◌, ℕ, List}
use Rattle.trial_texts.specs.declared.kind.TrialKind.{TrialKind}
use Rattle.typing.specs.Contents.{Content}
use Rattle.typing.specs.Layers.{sorted_count, edge_count}
use Rattle.classes.specs.Counted.{IsCounted}
use Rattle.answer_writer.specs.Summary.{summary_text}
use Rattle.copar_run.specs.Blocks.{AreBlocks}
use Rattle.copar_run.specs.Summarised.{IsSummary}

-- the text of the blocks and of these counts is the summary
pub is_summary : (kind : TrialKind) (c : Content) (firsts : List ℕ) (sorted edges labels : ℕ)
    → AreBlocks c firsts → IsCounted c sorted edges labels
    → (list : List ℕ) (s e l : ℕ) → list ≡ firsts → s ≡ sorted → e ≡ edges → l ≡ labels
    → (output : List ℕ) → output ≡ summary_text kind list s e l
    → IsSummary kind c labels output
is_summary kind c firsts sorted edges labels blocks counted list s e l same all places steps output
    text =
    let sorts : s ≡ sorted_count c.term c.values = all ∙ counted.sorted_are in
    let between : e ≡ edge_count c.term c.values = places ∙ counted.edges_are in
    record {
      firsts = firsts;
      blocks = blocks;
      text = text ∙ (λ i. summary_text kind (same i) (sorts i) (between i) (steps i));
    }
