use Rattle.std.proofs.Common.{ℕ, ◌≤◌}
use Rattle.std.specs.Prelude.{slice_index}
use Rattle.evaluation.specs.Uses.{AreLastUses}
use Rattle.evaluation.proofs.uses.last_uses.Given as goal

abbrev pub invariant-loop-k : goal.invariant-loop-k
invariant-loop-k l = record {
  uses : AreLastUses l.dag l.k l.last_uses.items;
  all_before : (i : ℕ) → slice_index l.last_uses.items i ≤ l.k;
}
