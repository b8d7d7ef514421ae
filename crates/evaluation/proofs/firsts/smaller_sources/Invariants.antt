use Rattle.std.proofs.Common.{◌≤◌, ◌-◌, length}
use Rattle.edge_store.specs.Edges.{below}
use Rattle.evaluation.proofs.firsts.smaller_sources.Given as goal

abbrev pub invariant-loop-at : goal.invariant-loop-at
invariant-loop-at l = l.at ≤ below l.x l.sources

abbrev pub decreases-loop-at : goal.decreases-loop-at
decreases-loop-at l = length l.sources - l.at
