use Rattle.std.proofs.Common.{◌≡◌, ◌++◌, vec_len}
use Rattle.functor_terms.specs.Terms.{nodes_of}
use Rattle.functor_terms.proofs.part.joined.Given as goal

-- the nodes of the parts that are left, and behind them the nodes so far
abbrev pub invariant-loop-part : goal.invariant-loop-part
invariant-loop-part l = nodes_of l.left.items ++ l.nodes.items ≡ nodes_of l.fn.parts.items

abbrev pub decreases-loop-part : goal.decreases-loop-part
decreases-loop-part l = vec_len l.left
