use Rattle.std.proofs.Common.{◌≤◌, ◌^◌}
use Rattle.fitting_rows.proofs.row.common_denominator.Given as goal

-- the denominator so far is from 1 to the limit
abbrev pub invariant-loop-i : goal.invariant-loop-i
invariant-loop-i l = record {
  positive : 1 ≤ l.l;
  bounded : l.l ≤ 2 ^ 40;
}
