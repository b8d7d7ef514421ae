use Rattle.std.proofs.Common.{◌∙◌, sym, ap, length}
use Rattle.structures.proofs.AtChild.{at_child-past, count_within}
use Rattle.structures.proofs.children.count_at.Goals as goal

pub returns-then-k-nodes : goal.returns-then-k-nodes
returns-then-k-nodes c us e =
    sym e ∙ count_within c.args.nodes.now c.args.k us c.if-k-nodes.true

pub returns-else-k-nodes : goal.returns-else-k-nodes
returns-else-k-nodes c us e =
    sym (ap length (at_child-past c.args.nodes.now c.args.k us c.if-k-nodes.false))
