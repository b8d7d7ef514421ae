use Rattle.std.proofs.Common.{◌+◌, length, ◌∙◌}
use Rattle.answer_writer.specs.Lines.{block_lines}
use Rattle.answer_writer.proofs.SayableLines.{blocks_can_be_said, blocks_tell_no_pair, blocks_kept}
use Rattle.answer_writer.proofs.laws.block_lines_can_be_said.Goals as goal

pub returns-clause-lines : goal.returns-clause-lines
returns-clause-lines c = blocks_can_be_said

pub returns-clause-no_pair : goal.returns-clause-no_pair
returns-clause-no_pair c = blocks_tell_no_pair

pub returns-clause-texts : goal.returns-clause-texts
returns-clause-texts c dag names formulas blocks comment is fine small are below there note =
    c.answer_texts_are_read.ensures.certificates dag (block_lines names formulas blocks) comment is
    fine small (blocks_can_be_said (length dag) names formulas blocks are below there)
    (blocks_tell_no_pair names formulas blocks) note

pub returns-clause-formulas : goal.returns-clause-formulas
returns-clause-formulas c dag names formulas blocks comment is fine small are below there note =
    c.answer_texts_are_read.ensures.formulas dag (block_lines names formulas blocks) comment is
    fine small (blocks_can_be_said (length dag) names formulas blocks are below there) note

pub returns-clause-blocks : goal.returns-clause-blocks
returns-clause-blocks c dag names formulas blocks =
    c.answers_have_formulas_and_blocks.ensures.blocks dag (block_lines names formulas blocks)
    ∙ blocks_kept (1 + length dag) names formulas blocks
