use Rattle.std.proofs.Common.{◌≡◌, ◌++◌}
use Rattle.polynomial_iface.specs.Polys.{numbers_from}
use Rattle.desorting.proofs.labels.add_places.Given as goal

abbrev pub invariant-loop-i : goal.invariant-loop-i
invariant-loop-i l = l.labels.items ≡ l.fn.labels.items ++ numbers_from 0 l.i
