use Rattle.std.proofs.Common.{sym, ◌∙◌}
use Rattle.command_line.proofs.Numbers.{no_number, parsed_number}
use Rattle.command_line.proofs.request.number_in.Goals as goal

pub returns-then-not-all_digits : goal.returns-then-not-all_digits
returns-then-not-all_digits c =
    sym (no_number c.args.word.now (sym c.all_digits.ensures ∙ c.if-not-all_digits.true))

pub returns : goal.returns
returns c =
    c.ok.ensures.value ∙ parsed_number c.args.word.now c.parse.result
    (sym c.all_digits.ensures ∙ c.if-not-all_digits.false) c.parse.ensures.value.0
