use Rattle.std.proofs.Common.{length}
use Rattle.answer_writer.specs.Lines.{pair_lines}
use Rattle.answer_writer.proofs.SayableLines.{pairs_can_be_said}
use Rattle.answer_writer.proofs.laws.pair_lines_can_be_said.Goals as goal

pub returns-clause-lines : goal.returns-clause-lines
returns-clause-lines c = pairs_can_be_said

pub returns-clause-texts : goal.returns-clause-texts
returns-clause-texts c dag names pairs verdicts comment is fine small are there below note =
    c.answer_texts_are_read.ensures.answers dag (pair_lines names pairs verdicts) comment is fine
    small (pairs_can_be_said (length dag) names pairs verdicts are there below) note

pub returns-clause-formulas : goal.returns-clause-formulas
returns-clause-formulas c dag names pairs verdicts comment is fine small are there below note =
    c.answer_texts_are_read.ensures.formulas dag (pair_lines names pairs verdicts) comment is fine
    small (pairs_can_be_said (length dag) names pairs verdicts are there below) note
