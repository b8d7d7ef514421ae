use Rattle.formula_text.proofs.DigitLaws.{digit-over}
use Rattle.formula_text.proofs.numbers.number_below.Goals as goal

pub returns-then-n-bound : goal.returns-then-n-bound
returns-then-n-bound c =
    digit-over c.args.bound c.loop-digit.n c.loop-digit.digit-index c.saturating_sub.result
    c.args.part.now c.loop-digit-test.true c.loop-digit.invariant.0 c.saturating_sub.ensures
    c.if-n-bound.true
