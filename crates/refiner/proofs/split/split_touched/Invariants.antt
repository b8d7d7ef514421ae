use Rattle.std.proofs.Common.{◌≡◌, ◌≤◌, ◌-◌, ℕ, length}
use Rattle.refiner.proofs.BlockByBlock.{AreCutBelow}
use Rattle.refiner.proofs.split.split_touched.Given as goal

abbrev pub invariant-loop-from : goal.invariant-loop-from
invariant-loop-from l = record {
  rounds : l.history.rounds ≡ l.initial.history.rounds;
  in_range : l.from ≤ length l.moved.items;
  cutting : (upto : ℕ) × AreCutBelow l.initial.blocks l.blocks l.fn.moved.items
      l.moved.items l.from upto l.history.splits;
}

abbrev pub decreases-loop-from : goal.decreases-loop-from
decreases-loop-from l = length l.moved.items - l.from
