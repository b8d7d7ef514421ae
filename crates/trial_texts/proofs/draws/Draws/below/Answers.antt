use Rattle.trial_texts.proofs.DrawLaws.{next-wraps, drawn-by}
use Rattle.trial_texts.proofs.draws.Draws.below.Goals as goal

pub returns-clause-number : goal.returns-clause-number
returns-clause-number c = next-wraps c.args.self.now.number

pub returns-clause-drawn : goal.returns-clause-drawn
returns-clause-drawn c =
    drawn-by c.args.self.now.number c.args.bound c.from.result c.from.ensures
