use Rattle.std.proofs.Common.{◌≡◌, ◌<◌, ℕ, length, get_or}
use Rattle.sorted_systems.specs.Systems.{system_from}
use Rattle.refiner.specs.declared.parts.Start.{Start}
use Rattle.refiner.specs.Making.{IsStartBlock}
use Rattle.refiner.proofs.start.starts_of.Given as goal

abbrev pub invariant-loop-block : goal.invariant-loop-block
invariant-loop-block g l = record {
  len : length l.start.items ≡ l.block;
  each :
      (k : ℕ) (d : Start) → k < l.block →
      IsStartBlock (g.I.Iface.node l.iface) (system_from 0 l.shapes l.store.edges) l.values l.blocks k
      (get_or l.start.items k d);
}
