use Rattle.std.proofs.Common.{◌^◌, ◌∙◌, Some, ap}
use Rattle.weights.proofs.Spelled.{bounded_within, bounded_over, power_within, power_over}
use Rattle.weights.proofs.digits.power_within.Goals as goal

pub returns-then-places-le12 : goal.returns-then-places-le12
returns-then-places-le12 c =
    record {
      value =
          ap Some c.pow.ensures
          ∙ bounded_within (10 ^ c.args.places) (power_within c.args.places c.if-places-le12.true);
    }

pub returns-else-places-le12 : goal.returns-else-places-le12
returns-else-places-le12 c =
    record {
      value = bounded_over (10 ^ c.args.places) (power_over c.args.places c.if-places-le12.false);
    }
