use Rattle.std.proofs.Common.{◌≡◌, ◌<◌, ℕ, length}
use Rattle.typing.specs.Contents.{content_of}
use Rattle.satisfaction.specs.Satisfaction.{holds_at}
use Rattle.evaluation.specs.Truths.{truth_in}
use Rattle.evaluation.proofs.truths.all_rows.Given as goal

abbrev pub invariant-loop-k : goal.invariant-loop-k
invariant-loop-k l = record {
  content : l.evaluator.content ≡ content_of l.c;
  dag : l.evaluator.dag ≡ l.dag;
  next : l.evaluator.next ≡ l._k;
  len : length l.rows.items ≡ l._k;
  truths :
      (f x : ℕ) → f < l._k → x < length l.c.values.items →
      truth_in l.rows.items f x ≡ holds_at (content_of l.c) l.dag f x;
}
