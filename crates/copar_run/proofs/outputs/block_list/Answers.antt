use Rattle.std.proofs.Common.{◌≡◌, ◌∙◌, ap}
use Rattle.std.proofs.lemmas.Result.{IfOk-weaker}
use Rattle.typing.specs.Contents.{content_of}
use Rattle.quotient_writer.specs.Blocks.{block_text, first_states}
use Rattle.copar_run.proofs.NameLaws.{prints}
use Rattle.copar_run.proofs.outputs.block_list.Goals as goal

pub returns : goal.returns
returns c =
    let list = first_states c.in_ok-labels.labels.items in
    let source = content_of c.args.c.now in
    IfOk-weaker c.blocks_text.result
    (λ text. text.items ≡ block_text source.names (first_states c.as_slice.result.now)) _
    (λ output text. record {
      firsts = list;
      blocks = c.in_ok-labels.ensures.blocks;
      shared = prints source list c.are_names.ensures c.args.c.now.one_each
          c.in_ok-labels.ensures.blocks;
      text = text ∙ ap (λ labels. block_text source.names (first_states labels))
          c.as_slice.ensures.value;
    })
    c.blocks_text.ensures.line_for_each
