use Rattle.std.proofs.Common.{◌≡◌, ◌+◌, ◌≤◌, ◌++◌, length}
use Rattle.std.specs.Vec.Iter.{into_iter_items}
use Rattle.functor_terms.specs.Terms.{placed}
use Rattle.functor_terms.proofs.TermLaws.{ChildrenFit}
use Rattle.functor_terms.proofs.part.TermPart.into_term.Given as goal

-- the nodes that are left stand behind those so far
abbrev pub invariant-loop-node : goal.invariant-loop-node
invariant-loop-node l = record {
  placed_are : l.nodes.items ++ placed l.p (into_iter_items l.left) ≡ placed 0 l.fn.self.0;
  fit : ChildrenFit (into_iter_items l.left);
  few : l.p + length (into_iter_items l.left) ≤ 256;
}

abbrev pub decreases-loop-node : goal.decreases-loop-node
decreases-loop-node l = length (into_iter_items l.left)
