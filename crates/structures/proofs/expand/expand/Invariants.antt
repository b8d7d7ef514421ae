use Rattle.std.proofs.Common.{◌≡◌, ◌≤◌, ◌+◌, ◌++◌, length, drop}
use Rattle.typing.specs.Layers.{leaves_of, layers_in}
use Rattle.structures.specs.Structures.{repeated}
use Rattle.structures.specs.Walk.{targets_of}
use Rattle.structures.proofs.expand.expand.Given as goal

abbrev pub invariant-loop-i : goal.invariant-loop-i
invariant-loop-i l = record {
  places :
      l.places ++ layers_in l.term (drop l.i (leaves_of l.term (l.node, l.value)))
      ≡ l.fn.places ++ layers_in l.term (leaves_of l.term (l.node, l.value));
  sources :
      l.sources.items
      ++ repeated l.source (length (drop l.i (leaves_of l.term (l.node, l.value))))
      ≡ l.fn.sources.items
      ++ repeated l.source (length (leaves_of l.term (l.node, l.value)));
  targets :
      l.targets.items
      ++ targets_of l.term (length l.places) (drop l.i (leaves_of l.term (l.node, l.value)))
      ≡ l.fn.targets.items
      ++ targets_of l.term (length l.fn.places) (leaves_of l.term (l.node, l.value));
  few :
      length l.places + length (drop l.i (leaves_of l.term (l.node, l.value)))
      ≤ length l.fn.places + length (leaves_of l.term (l.node, l.value));
}
