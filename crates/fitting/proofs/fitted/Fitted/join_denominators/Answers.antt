use Rattle.std.proofs.Common.{sym, subst}
use Rattle.fitting.specs.Scaling.{denominators}
use Rattle.fitting.proofs.JoinLaws.{IsJoined, joined-is, joined-value, joined-within, joined-range, common_multiple-least, denominators-positive}
use Rattle.fitting.proofs.fitted.Fitted.join_denominators.Goals as goal
use Rattle.fitting.proofs.fitted.Fitted.join_denominators.Goals.{After-join_all}

-- what is joined is the common multiple, or that is greater than the limit
the_join :
    (c : After-join_all) → IsJoined c.args.l (denominators c.args.self.now) c.join_all.result
the_join c =
    subst (IsJoined c.args.l (denominators c.args.self.now)) (sym c.join_all.ensures)
    (joined-is c.args.l (denominators c.args.self.now) c.requires.positive c.requires.bounded
    (denominators-positive c.args.self.now c.requires.numerals))

pub returns-clause-value : goal.returns-clause-value
returns-clause-value c =
    joined-value c.args.l (denominators c.args.self.now) c.join_all.result (the_join c)

pub returns-clause-within : goal.returns-clause-within
returns-clause-within c =
    joined-within c.args.l (denominators c.args.self.now) c.join_all.result (the_join c)

pub returns-clause-range : goal.returns-clause-range
returns-clause-range c =
    joined-range c.args.l (denominators c.args.self.now) c.join_all.result c.requires.positive
    (denominators-positive c.args.self.now c.requires.numerals) (the_join c)

pub returns-clause-least : goal.returns-clause-least
returns-clause-least c =
    common_multiple-least c.args.l (denominators c.args.self.now) c.requires.positive
    (denominators-positive c.args.self.now c.requires.numerals)
