use Rattle.std.proofs.Common.{◌+◌, ◌-◌, ◌*◌, sym, ◌∙◌, drop, get_or}
use Rattle.std.proofs.lemmas.List.{at_drop_more}
use Rattle.weights.specs.Numerals.{number_after}
use Rattle.weights.proofs.Spelled.{over_from_front}
use Rattle.weights.proofs.digits.number_within.Goals as goal

pub returns-then-number-gt-BOUND : goal.returns-then-number-gt-BOUND
returns-then-number-gt-BOUND c =
    let xs = c.args.digits.now in
    let i = c.loop-digit.digit-index in
    record {
      value =
          over_from_front (c.loop-digit.number * 10 + (get_or xs i 0 - 48)) (drop (i + 1) xs)
          (number_after c.args.start xs) c.if-number-gt-BOUND.true
          (sym (at_drop_more (number_after c.loop-digit.number) xs i 0 c.loop-digit-test.true)
          ∙ c.loop-digit.invariant.completes);
    }
