use Rattle.std.proofs.Common.{refl, arith}
use Rattle.weights.specs.FractionLaws.{gcd_of-positive, lcm_of-IsLcm, multiple_is}
use Rattle.weights.proofs.ratio.lcm_within.Goals as goal

pub nonzero_div-multiple : goal.nonzero_div-multiple
nonzero_div-multiple c =
    rw c.gcd.ensures.value (gcd_of-positive c.args.a c.args.b c.requires.second)

pub returns-then-multiple-bound-clause-least : goal.returns-then-multiple-bound-clause-least
returns-then-multiple-bound-clause-least c =
    lcm_of-IsLcm c.args.a c.args.b c.requires.first c.requires.second

pub returns-then-multiple-bound-clause-value : goal.returns-then-multiple-bound-clause-value
returns-then-multiple-bound-clause-value c =
    multiple_is c.args.a c.args.b c.gcd.result c.gcd.ensures.value

pub returns-then-multiple-bound-clause-within : goal.returns-then-multiple-bound-clause-within
returns-then-multiple-bound-clause-within c =
    let is = multiple_is c.args.a c.args.b c.gcd.result c.gcd.ensures.value in
    (λ _. rw is at c.if-multiple-bound.true, λ _. refl)

pub returns-else-multiple-bound-clause-least : goal.returns-else-multiple-bound-clause-least
returns-else-multiple-bound-clause-least c =
    lcm_of-IsLcm c.args.a c.args.b c.requires.first c.requires.second

pub returns-else-multiple-bound-clause-within : goal.returns-else-multiple-bound-clause-within
returns-else-multiple-bound-clause-within c =
    let is = multiple_is c.args.a c.args.b c.gcd.result c.gcd.ensures.value in
    (λ never. cc, λ within. absurd (omega (arith, is, within)))
