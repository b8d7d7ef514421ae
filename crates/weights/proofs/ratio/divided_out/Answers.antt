use Rattle.std.proofs.Common.{arith}
use Rattle.weights.proofs.Quotients.{IsCommon, can_divide, divisor-positive, quotients, quotients-IsLowest}
use Rattle.weights.proofs.ratio.divided_out.Goals as goal

common :
    (c : goal.After-common_divisor-common) →
    IsCommon c.args.sum c.args.denominator c.common_divisor-common.result
common c =
    record {
      some = c.requires.positive;
      small = omega arith;
      fits = c.ranges.sum;
      is = c.common_divisor-common.ensures.value;
    }

pub nonzero_div-result : goal.nonzero_div-result
nonzero_div-result c =
    can_divide c.args.sum c.args.denominator c.common_divisor-common.result (common c)

pub nonzero_div-result-2 : goal.nonzero_div-result-2
nonzero_div-result-2 c =
    divisor-positive c.args.sum c.args.denominator c.common_divisor-common.result (common c)

pub returns-clause-value : goal.returns-clause-value
returns-clause-value c =
    quotients c.args.sum c.args.denominator c.common_divisor-common.result (common c)

pub returns-clause-lowest : goal.returns-clause-lowest
returns-clause-lowest c =
    quotients-IsLowest c.args.sum c.args.denominator c.common_divisor-common.result (common c)
