use Rattle.std.proofs.Common.{◌≡◌, take}
use Rattle.functor_terms.proofs.term.Term.try_copy.Given as goal

abbrev pub invariant-loop-branch : goal.invariant-loop-branch
invariant-loop-branch l = l.nodes.items ≡ take l.branch-index l.branches
