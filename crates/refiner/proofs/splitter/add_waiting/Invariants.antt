use Rattle.std.proofs.Common.{take}
use Rattle.refiner.specs.Waiting.{AddsSplits}
use Rattle.refiner.proofs.splitter.add_waiting.Given as goal

abbrev pub invariant-loop-k : goal.invariant-loop-k
invariant-loop-k l =
    AddsSplits l.blocks (take l.k l.splits) l.initial.waiting.items l.waiting.items
