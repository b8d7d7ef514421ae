use Rattle.std.proofs.Common.{◌≡◌, take}
use Rattle.typing.specs.Layers.{roots_of}
use Rattle.structures.proofs.walking.roots.Given as goal

abbrev pub invariant-loop-value : goal.invariant-loop-value
invariant-loop-value l = l.places ≡ roots_of (take l.value-index l.values)
