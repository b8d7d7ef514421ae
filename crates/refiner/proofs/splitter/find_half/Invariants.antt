use Rattle.std.proofs.Common.{vec_len}
use Rattle.refiner.specs.Waiting.{AreWaiting}
use Rattle.refiner.proofs.splitter.find_half.Given as goal

abbrev pub invariant-loop-x : goal.invariant-loop-x
invariant-loop-x l = AreWaiting l.blocks l.coarse l.waiting.items

abbrev pub decreases-loop-x : goal.decreases-loop-x
decreases-loop-x l = vec_len l.waiting
