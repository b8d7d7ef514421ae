use Rattle.std.proofs.Common.{◌≡◌, ◌+◌, drop}
use Rattle.std.specs.Prelude.{pos}
use Rattle.weights.specs.MonoidLaws.{integers_laws}
use Rattle.monoid_iface.proofs.Moved.{IsSoFar}
use Rattle.layers.specs.Nest.{add}
use Rattle.layers.specs.Meanings.{weights_at}
use Rattle.layers.proofs.layers.Layers.total_at.Given as goal

abbrev pub invariant-loop-i : goal.invariant-loop-i
invariant-loop-i l = record {
  so_far : IsSoFar (λ x. x) (pos 0) add integers_laws l.sum (weights_at l.self.weights.items
      (drop l.i l.labels)) (weights_at l.self.weights.items l.labels);
}
