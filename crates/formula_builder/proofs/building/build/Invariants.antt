use Rattle.sorted_systems.specs.Systems.{system_from}
use Rattle.formula_builder.specs.Making.{book_of}
use Rattle.formula_builder.proofs.Steps.{IsAt}
use Rattle.formula_builder.proofs.building.build.Given as goal

abbrev pub invariant-loop-k : goal.invariant-loop-k
invariant-loop-k g l = record {
  at : IsAt (g.I.Iface.node l.iface) (g.I.Iface.value l.iface)
      (system_from 0 l.shapes l.store.edges) l.k l.refined.rounds l.refined.block_of l.refined.blocks
      (book_of l.notes);
}
