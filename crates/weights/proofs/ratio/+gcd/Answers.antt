use Rattle.std.proofs.lemmas.Nat.Gcd.{IsGcd-from_zero, IsGcd-from_mod}
use Rattle.weights.specs.FractionLaws.{gcd_of_is}
use Rattle.weights.proofs.ratio.+gcd.Goals as goal

pub returns-then-b-eq0-clause-value : goal.returns-then-b-eq0-clause-value
returns-then-b-eq0-clause-value t c =
    gcd_of_is c.args.a c.args.b c.args.a (IsGcd-from_zero c.args.a c.args.b c.if-b-eq0.true)

pub returns-else-b-eq0-clause-greatest : goal.returns-else-b-eq0-clause-greatest
returns-else-b-eq0-clause-greatest t c =
    IsGcd-from_mod c.args.a c.args.b c.gcd.result c.gcd.ensures.greatest

pub returns-else-b-eq0-clause-value : goal.returns-else-b-eq0-clause-value
returns-else-b-eq0-clause-value t c =
    gcd_of_is c.args.a c.args.b c.gcd.result
    (IsGcd-from_mod c.args.a c.args.b c.gcd.result c.gcd.ensures.greatest)
