use Rattle.std.proofs.Common.{◌≡◌, ◌≤◌, length, drop, ◌++◌}
use Rattle.polynomial_iface.specs.Places.{trits_from}
use Rattle.polynomial_iface.proofs.places.place_trits.Given as goal

abbrev pub invariant-loop-i : goal.invariant-loop-i
invariant-loop-i l = record {
  within : l.next ≤ length l.moved;
  told : l.trits.items ++ trits_from (drop l.i l.marks) l.i (drop l.next l.moved) ≡ trits_from
      l.marks 0 l.moved;
}
