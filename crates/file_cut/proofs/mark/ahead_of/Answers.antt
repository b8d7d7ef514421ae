use Rattle.std.proofs.Common.{◌∷◌, ap, sym, ◌∙◌}
use Rattle.file_cut.specs.Tokens.{marks}
use Rattle.file_cut.proofs.TokenLaws.{marks-first}
use Rattle.file_cut.proofs.mark.ahead_of.Goals as goal

pub returns-in-Some : goal.returns-in-Some
returns-in-Some c =
    ap (λ m. m ∷ marks c.in-Some.first.rest.now) c.mark_of.ensures
    ∙ sym (marks-first c.args.text.now c.in-Some.first.skipped c.in-Some.first.token.now
    c.in-Some.first.rest.now c.in-Some.ensures)
