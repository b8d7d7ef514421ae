use Rattle.std.proofs.Common.{rules, ℕ, ◌≡◌, ◌∷◌, ◌≤◌, ◌^◌, List, [], length, sym, ap, ◌∙◌, subst}
use Rattle.std.specs.Prelude.{Option}
use Rattle.std.proofs.lemmas.Result.{IfOk-weaker, IfErr-weaker}
use Rattle.file_cut.specs.Lines.{Numbered, numbered_line}
use Rattle.structure_parser.specs.Reading.{rows_in, first_bad, told, told_all, Told, TellsFault}
use Rattle.structure_parser.proofs.LineLengths.{AreShort}
use Rattle.structure_parser.proofs.rows.fitted_rows.Goals as goal

pub with_row-requires-clause-short : goal.with_row-requires-clause-short
with_row-requires-clause-short c =
    let line : Numbered = numbered_line c.in-Some.line.number c.in-Some.line.text.now in
    let step : c.lines.line-iterator ≡ line ∷ c.next.new.self = search rules in
    let short : length line.text ≤ 2 ^ 26 =
    (subst (λ (l : List Numbered). AreShort (2 ^ 26) l) step c.lines.invariant.short).0 in
    (λ f fits. c.lists_are_short.ensures line.text c.in_ok-tree.field-0-0.now c.in_ok-tree.tree
    c.args.term.now c.args.heads.now.names f c.in_ok-tree.ensures.spelled fits (2 ^ 26) short)

pub returns-clause-fits : goal.returns-clause-fits
returns-clause-fits c =
    let none : c.lines.line-iterator ≡ [] = search rules in
    let so_far : told c.args.term.now c.args.heads.now.names c.lines.so_far []
    ≡ told_all c.args.term.now c.args.heads.now.names c.args.heads.now.fresh
    (rows_in c.args.lines) =
    ap (λ l. told c.args.term.now c.args.heads.now.names c.lines.so_far (rows_in l)) (sym none)
    ∙ c.lines.invariant.so_told in
    IfOk-weaker c.finished.result _ _
    (λ fits h. sym so_far ∙ h c.args.term.now c.args.heads.now.names) c.finished.ensures.fits

pub returns-clause-fault : goal.returns-clause-fault
returns-clause-fault c =
    let none : c.lines.line-iterator ≡ [] = search rules in
    let so_far : told c.args.term.now c.args.heads.now.names c.lines.so_far []
    ≡ told_all c.args.term.now c.args.heads.now.names c.args.heads.now.fresh
    (rows_in c.args.lines) =
    ap (λ l. told c.args.term.now c.args.heads.now.names c.lines.so_far (rows_in l)) (sym none)
    ∙ c.lines.invariant.so_told in
    let good : first_bad [] ≡ first_bad c.args.lines =
    ap first_bad (sym none) ∙ c.lines.invariant.rows in
    IfErr-weaker c.finished.result _ _
    (λ fault h. subst (λ (read : Told). TellsFault fault (first_bad c.args.lines) read) so_far
    (subst (λ (bad : Option ℕ). TellsFault fault bad (told c.args.term.now
    c.args.heads.now.names c.lines.so_far [])) good
    (h c.args.term.now c.args.heads.now.names))) c.finished.ensures.fault
