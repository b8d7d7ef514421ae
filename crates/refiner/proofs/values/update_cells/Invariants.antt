use Rattle.std.proofs.Common.{◌≡◌, ◌≤◌, ◌+◌, ◌-◌, ℕ, length}
use Rattle.sorted_systems.specs.Systems.{system_from}
use Rattle.refiner.specs.Cells.{AreCounted, round_values, round_voids}
use Rattle.refiner.specs.Making.{trit_in}
use Rattle.refiner.proofs.BySource.{AreUpdatedBelow}
use Rattle.refiner.proofs.values.update_cells.Given as goal

abbrev pub invariant-loop-from : goal.invariant-loop-from
invariant-loop-from g l = record {
  in_range : l.from ≤ length l.edges;
  few_more : length l.cells.weights.items ≤ length l.initial.cells.weights.items + l.from;
  rise : l.steps ≡ l.initial.steps + l.from;
  sizes : AreCounted l.cells.of.items l.cells.sizes.items l.cells.weights.items;
  updating : (bound : ℕ) × AreUpdatedBelow (g.I.Iface.toward l.iface) l.shapes l.store.edges l.blocks
      l.coarse l.s l.edges
      (round_values (g.I.Iface.value l.iface) (system_from 0 l.shapes l.store.edges)
      (trit_in l.blocks l.coarse l.s l.c))
      (round_voids (g.I.Iface.value l.iface) (system_from 0 l.shapes l.store.edges)
      (trit_in l.blocks l.coarse l.s l.c))
      l.from bound l.cells.of.items l.cells.weights.items l.moved.items;
}

abbrev pub decreases-loop-from : goal.decreases-loop-from
decreases-loop-from g l = length l.edges - l.from
