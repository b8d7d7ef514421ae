use Rattle.weights.proofs.Quotients.{divisor_of_sum}
use Rattle.weights.proofs.ratio.common_divisor.Goals as goal

pub returns : goal.returns
returns c =
    record {
      value =
          divisor_of_sum c.args.sum c.args.denominator c.unsigned_abs.result c.gcd.result
          c.ranges.sum
          c.unsigned_abs.ensures.value c.gcd.ensures.greatest;
    }
