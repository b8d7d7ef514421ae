use Rattle.std.proofs.Common.{◌≡◌, ◌-◌, ◌<◌, ℕ, length}
use Rattle.satisfaction.specs.Satisfaction.{holds_at}
use Rattle.evaluation.specs.Truths.{truth_at}
use Rattle.evaluation.proofs.truths.newest_row.Given as goal

abbrev pub invariant-loop-x : goal.invariant-loop-x
invariant-loop-x l = record {
  len : length l.row ≡ l.x;
  truths :
      (y : ℕ) → y < l.x →
      truth_at l.row y
      ≡ holds_at l.evaluator.content l.evaluator.dag (l.evaluator.next - 1) y;
}
