use Rattle.functor_terms.proofs.DescentLaws.{labels-bounded}
use Rattle.functor_terms.proofs.powers.raised.Goals as goal

pub made_over_one-requires-clause-labels : goal.made_over_one-requires-clause-labels
made_over_one-requires-clause-labels c = labels-bounded c.args.ahead c.in_ok-labels.labels
    c.in_ok-labels.ahead c.in_ok-labels.ensures
