use Rattle.std.proofs.Common.{◌≤◌, ◌-◌, List, length}
use Rattle.modalities.specs.declared.three.Three.{Three}
use Rattle.refiner.specs.Touched.{AreMovedOf, IsParting}
use Rattle.refiner.proofs.split.split_block.Given as goal

abbrev pub invariant-loop-from : goal.invariant-loop-from
invariant-loop-from l = record {
  in_range : l.from ≤ length l.moved;
  parting : (all : List Three) (void : Three) →
      AreMovedOf all void l.initial.blocks l.b l.moved →
      IsParting all void l.b l.initial.blocks l.blocks l.moved l.from l.parts.items;
}

abbrev pub decreases-loop-from : goal.decreases-loop-from
decreases-loop-from l = length l.moved - l.from
