use Rattle.std.proofs.Common.{◌≡◌, None, List, length, sym, ap, ◌∙◌, subst}
use Rattle.file_cut.specs.Lines.{Numbered}
use Rattle.typing.specs.Contents.{content_of}
use Rattle.structure_parser.specs.Reading.{rows_in, first_bad, told_all, TellsFault}
use Rattle.structure_parser.specs.Reading.Told.{fine}
use Rattle.structure_parser.proofs.ReadLaws.{lines-fault, one-each, lines-short, lines-read}
use Rattle.structure_parser.proofs.reading.read_lines.Goals as goal

pub returns-in-Err-clause-fault : goal.returns-in-Err-clause-fault
returns-in-Err-clause-fault c =
    let heads = c.in_ok-heads.heads in
    lines-fault c.args.term c.args.first heads.names heads.fresh c.in_ok-heads.ensures.names
    c.in_ok-heads.ensures.fresh c.in-Err.fault
    (subst (λ (l : List Numbered). TellsFault c.in-Err.fault (first_bad l)
    (told_all c.args.term heads.names heads.fresh (rows_in l))) c.requires.same
    c.in-Err.ensures.fault)

pub coalgebra_of-requires-clause-one_each : goal.coalgebra_of-requires-clause-one_each
coalgebra_of-requires-clause-one_each c =
    let heads = c.in_ok-heads.heads in
    let good : first_bad c.args.first ≡ None =
    ap first_bad (sym c.requires.same) ∙ c.in-Ok.ensures.rows in
    let all : told_all c.args.term heads.names heads.fresh (rows_in c.args.first)
    ≡ fine c.in-Ok.fits.l c.in-Ok.fits.kept.items =
    ap (λ l. told_all c.args.term heads.names heads.fresh (rows_in l)) (sym c.requires.same)
    ∙ c.in-Ok.ensures.fits in
    one-each c.args.term c.args.first heads.names heads.fresh c.in_ok-heads.ensures.names
    c.in_ok-heads.ensures.fresh good c.in-Ok.fits.l c.in-Ok.fits.kept.items all

pub returns-in-Ok-coalgebra_of-clause-read : goal.returns-in-Ok-coalgebra_of-clause-read
returns-in-Ok-coalgebra_of-clause-read c =
    let heads = c.in_ok-heads.heads in
    let good : first_bad c.args.first ≡ None =
    ap first_bad (sym c.requires.same) ∙ c.in-Ok.ensures.rows in
    let all : told_all c.args.term heads.names heads.fresh (rows_in c.args.first)
    ≡ fine c.in-Ok.fits.l c.in-Ok.fits.kept.items =
    ap (λ l. told_all c.args.term heads.names heads.fresh (rows_in l)) (sym c.requires.same)
    ∙ c.in-Ok.ensures.fits in
    let read = c.in-Ok-coalgebra_of.ensures in
    lines-read c.args.term c.args.first heads.names heads.fresh c.in_ok-heads.ensures.names
    c.in_ok-heads.ensures.fresh good c.in-Ok.fits.l c.in-Ok.fits.kept.items all
    (length heads.names) (content_of c.in-Ok-coalgebra_of.c) read.sums read.term read.names
    read.denominator read.values

pub returns-in-Err-coalgebra_of-clause-fault : goal.returns-in-Err-coalgebra_of-clause-fault
returns-in-Err-coalgebra_of-clause-fault c =
    let heads = c.in_ok-heads.heads in
    let good : first_bad c.args.first ≡ None =
    ap first_bad (sym c.requires.same) ∙ c.in-Ok.ensures.rows in
    let all : told_all c.args.term heads.names heads.fresh (rows_in c.args.first)
    ≡ fine c.in-Ok.fits.l c.in-Ok.fits.kept.items =
    ap (λ l. told_all c.args.term heads.names heads.fresh (rows_in l)) (sym c.requires.same)
    ∙ c.in-Ok.ensures.fits in
    lines-short c.args.term c.args.first heads.names heads.fresh c.in_ok-heads.ensures.names
    c.in_ok-heads.ensures.fresh good c.in-Ok.fits.l c.in-Ok.fits.kept.items all
    c.in-Err-coalgebra_of.fault c.in-Err-coalgebra_of.ensures.fault
