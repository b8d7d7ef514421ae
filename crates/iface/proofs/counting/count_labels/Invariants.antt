use Rattle.std.proofs.Common.{◌≡◌, ◌+◌}
use Rattle.iface.proofs.counting.count_labels.Given as goal

abbrev pub invariant-loop-label : goal.invariant-loop-label
invariant-loop-label g l = l.steps ≡ l.fn.steps + l._label
