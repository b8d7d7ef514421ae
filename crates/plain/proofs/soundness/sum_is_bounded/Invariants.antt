use Rattle.std.proofs.Common.{◌≡◌, ◌^◌, length}
use Rattle.std.specs.Prelude.{nat_le}
use Rattle.typing.specs.Bounds.{absolute_sum}
use Rattle.plain.proofs.soundness.sum_is_bounded.Given as goal

-- the answer for the rest is the answer for all
abbrev pub invariant-loop-entry : goal.invariant-loop-entry
invariant-loop-entry l = nat_le (absolute_sum l.rest) l.left ≡ nat_le (absolute_sum l.entries)
    (2 ^ 126)

abbrev pub decreases-loop-entry : goal.decreases-loop-entry
decreases-loop-entry l = length l.rest
