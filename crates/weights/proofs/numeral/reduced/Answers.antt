use Rattle.weights.specs.FractionLaws.{gcd_of-positive}
use Rattle.weights.proofs.Reduced.{reduced_is}
use Rattle.weights.proofs.numeral.reduced.Goals as goal

pub nonzero_div-numerator : goal.nonzero_div-numerator
nonzero_div-numerator c =
    rw c.gcd-common.ensures.value (gcd_of-positive c.args.numerator c.args.denominator
    c.requires.below)

pub nonzero_div-result : goal.nonzero_div-result
nonzero_div-result c =
    rw c.gcd-common.ensures.value (gcd_of-positive c.args.numerator c.args.denominator
    c.requires.below)

pub returns : goal.returns
returns c =
    record {
      value =
          reduced_is c.args.negative c.args.numerator c.args.denominator c.gcd-common.result
          c.with_sign.result c.requires.above c.gcd-common.ensures.value c.with_sign.ensures.value;
    }
