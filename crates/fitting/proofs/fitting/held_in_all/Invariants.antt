use Rattle.std.proofs.Common.{◌≡◌}
use Rattle.std.specs.Vec.Iter.{into_iter_items, into_iter_len}
use Rattle.fitting.specs.Fitting.{all_held}
use Rattle.fitting.proofs.FitLoops.{held_behind}
use Rattle.fitting.proofs.fitting.held_in_all.Given as goal

-- what the rest holds goes on to what all hold
abbrev pub invariant-loop-slot : goal.invariant-loop-slot
invariant-loop-slot l = held_behind l.values.items (all_held (into_iter_items l.left))
    ≡ all_held l.fn.slots.items

abbrev pub decreases-loop-slot : goal.decreases-loop-slot
decreases-loop-slot l = into_iter_len l.left
