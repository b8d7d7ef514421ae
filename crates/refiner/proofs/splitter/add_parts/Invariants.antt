use Rattle.std.proofs.Common.{take}
use Rattle.refiner.specs.Waiting.{AddsParts}
use Rattle.refiner.proofs.splitter.add_parts.Given as goal

abbrev pub invariant-loop-part : goal.invariant-loop-part
invariant-loop-part l =
    AddsParts l.blocks (take l.part-index l.parts) l.initial.waiting.items l.waiting.items
