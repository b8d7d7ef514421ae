use Rattle.std.proofs.Common.{refl, ap, Err}
use Rattle.file_cut.specs.Lines.{Numbered, numbered_line}
use Rattle.structure_parser.proofs.RowLaws.{row-complete, row-none}
use Rattle.structure_parser.proofs.rows.cut.Goals as goal

pub returns-in-Ok-clause-row : goal.returns-in-Ok-clause-row
returns-in-Ok-clause-row c =
    let line : Numbered = numbered_line c.args.line.number c.args.line.text.now in
    row-complete line c.in-Ok.found.0.now c.in-Ok.found.1 c.in-Ok.ensures.line

pub returns-in-Err-Grammar-clause-fault : goal.returns-in-Err-Grammar-clause-fault
returns-in-Err-Grammar-clause-fault c =
    let line : Numbered = numbered_line c.args.line.number c.args.line.text.now in
    (row-none line (c.in-Err-Grammar.ensures.grammar (ap Err c.in-Err-Grammar.field-0-is)), refl)
