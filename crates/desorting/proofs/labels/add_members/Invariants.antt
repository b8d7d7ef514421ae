use Rattle.std.proofs.Common.{◌≡◌, ◌++◌}
use Rattle.structures.specs.Structures.{repeated}
use Rattle.desorting.proofs.labels.add_members.Given as goal

abbrev pub invariant-loop : goal.invariant-loop
invariant-loop l = l.labels.items ≡ l.fn.labels.items ++ repeated 0 l.counter
