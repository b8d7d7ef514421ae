use Rattle.formula_text.proofs.DigitLaws.{before_end-same, before_end-other}
use Rattle.formula_text.proofs.values.before_end.Goals as goal

pub returns-then-last-byte : goal.returns-then-last-byte
returns-then-last-byte c =
    before_end-same c.args.byte c.in_ok-last.last.now c.in_ok-last.front.now c.args.text.now
    c.in_ok-last.ensures.cases.0 c.if-last-byte.true

pub returns-else-last-byte : goal.returns-else-last-byte
returns-else-last-byte c =
    before_end-other c.args.byte c.in_ok-last.last.now c.in_ok-last.front.now c.args.text.now
    c.in_ok-last.ensures.cases.0 c.if-last-byte.false
