use Rattle.std.proofs.Common.{◌≡◌, ◌+◌, ◌<◌, ℕ, length, map}
use Rattle.edge_store.specs.Edges.{first_of}
use Rattle.sorted_systems.specs.Systems.{system_from, IsState, Sorted}
use Rattle.refiner.specs.Cells.{AreWhole}
use Rattle.refiner.specs.Grouping.{value_at}
use Rattle.refiner.proofs.start.first_values.Given as goal

abbrev pub invariant-loop-x : goal.invariant-loop-x
invariant-loop-x g l = record {
  len : length l.values.items ≡ l.x;
  each :
      (k : ℕ) (a : Sorted _ _) → k < l.x → IsState (system_from 0 l.shapes l.store.edges) k a →
      g.I.Iface.value l.iface a.shape a.labels (map (λ _. 2) a.targets) ≡ value_at l.values.items k;
  whole : AreWhole (g.I.Iface.toward l.iface) l.shapes l.store.edges l.x l.weights.items;
  rise : l.steps ≡ l.initial.steps + first_of l.store.edges l.x;
}
