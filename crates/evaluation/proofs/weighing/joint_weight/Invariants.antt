use Rattle.std.proofs.Common.{◌≡◌, ◌≤◌, length, drop}
use Rattle.std.specs.Prelude.{unsigned_abs}
use Rattle.typing.specs.Bounds.{absolute_sum}
use Rattle.typing.specs.Equality.{the_sum}
use Rattle.formula_checker.specs.LayerValues.{joint_with}
use Rattle.evaluation.proofs.weighing.joint_weight.Given as goal

abbrev pub invariant-loop-i : goal.invariant-loop-i
invariant-loop-i l = record {
  joint : l.sum ≡ joint_with the_sum (drop l.i l.entries) (drop l.i l.trits) l.trit;
  small : unsigned_abs l.sum ≤ absolute_sum (drop l.i l.entries);
  in_entries : l.i ≤ length l.entries;
  in_trits : l.i ≤ length l.trits;
}

abbrev pub decreases-loop-i : goal.decreases-loop-i
decreases-loop-i l = l.i
