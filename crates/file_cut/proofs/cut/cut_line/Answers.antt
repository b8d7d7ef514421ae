use Rattle.std.proofs.Common.{◌∷◌, sym, ◌∙◌, subst}
use Rattle.file_cut.specs.Bytes.{IsName}
use Rattle.file_cut.specs.Reading.{left_of}
use Rattle.file_cut.specs.declared.mark.Mark.TheVariants.{Colon}
use Rattle.file_cut.proofs.CutLaws.{name-first}
use Rattle.file_cut.proofs.cut.cut_line.Goals as goal

pub returns-clause-head : goal.returns-clause-head
returns-clause-head c =
    subst IsName (sym c.bytes.ensures)
    (name-first c.args.text.now c.in_ok-head.head (Colon ∷ left_of c.in_ok-head.ahead)
    (sym c.ahead_of.ensures ∙ c.in_ok-head.ensures.found))
