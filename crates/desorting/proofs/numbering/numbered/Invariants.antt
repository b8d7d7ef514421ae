use Rattle.std.proofs.Common.{take}
use Rattle.desorting.specs.Numbered.{AreNumbered}
use Rattle.desorting.proofs.numbering.numbered.Given as goal

abbrev pub invariant-loop-i : goal.invariant-loop-i
invariant-loop-i l = record {
  numbered :
      AreNumbered l.term l.table.shapes l.table.weights (take l.i l.places)
      l.shapes.items l.labels.items;
}
