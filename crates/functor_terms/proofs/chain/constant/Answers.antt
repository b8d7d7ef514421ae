use Rattle.functor_terms.proofs.DescentLaws.{labels-bounded}
use Rattle.functor_terms.proofs.chain.constant.Goals as goal

pub made_over-requires-clause-labels : goal.made_over-requires-clause-labels
made_over-requires-clause-labels c = labels-bounded c.args.ahead c.in_ok-labels.labels
    c.in_ok-labels.ahead c.in_ok-labels.ensures
