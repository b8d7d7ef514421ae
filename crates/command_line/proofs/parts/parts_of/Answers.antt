use Rattle.std.proofs.Common.{◌≡◌, [], Some, refl, sym, ap, ap₂, ◌∙◌, subst}
use Rattle.clap.specs.Words.{HasKind, fault_of, found_of, is_simple, is_simple_and_free, matches_of, rows_of}
use Rattle.command_line.specs.Parser.{copar_app}
use Rattle.command_line.specs.Plain.{line_with}
use Rattle.command_line.proofs.ByClap.{simple, simple-and-free, line-taken, line-refused}
use Rattle.command_line.proofs.parts.parts_of.Goals as goal

pub returns-in-Err-clause-refused : goal.returns-in-Err-clause-refused
returns-in-Err-clause-refused c =
    let app = c.in_ok-command.ensures in
    let same = ap₂ fault_of app c.texts.ensures.words in
    line-refused c.args.words.now (fault_of copar_app c.args.words.now) refl c.in-Err.error
    (subst (λ kinds. HasKind kinds c.in-Err.error) same
    (c.in-Err.ensures.kinds (ap is_simple_and_free app ∙ simple-and-free)))

pub returns-clause-taken : goal.returns-clause-taken
returns-clause-taken c =
    let app = c.in_ok-command.ensures in
    let words = c.texts.ensures.words in
    let none : fault_of copar_app c.args.words.now ≡ [] =
    sym (ap₂ fault_of app words)
    ∙ c.in-Ok.ensures.kinds (ap is_simple_and_free app ∙ simple-and-free) in
    let rows = (c.in-Ok.ensures.matches (ap is_simple app ∙ simple)).0 ∙ ap₂ matches_of app words in
    line-taken c.args.words.now (rows_of (found_of c.in-Ok.matches)) none rows
    ∙ (λ i. Some (line_with (sym c.first_value.ensures i) (sym c.first_value-2.ensures i)
    (sym c.in_ok-all_values.ensures i) (sym c.has_flag.ensures i)))
