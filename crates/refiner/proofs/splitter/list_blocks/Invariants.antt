use Rattle.refiner.specs.Waiting.{AreListed}
use Rattle.refiner.proofs.splitter.list_blocks.Given as goal

abbrev pub invariant-loop-b : goal.invariant-loop-b
invariant-loop-b l = AreListed l.blocks l.b l.waiting.items
