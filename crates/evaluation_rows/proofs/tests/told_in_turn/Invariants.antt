use Rattle.std.proofs.Common.{◌≡◌}
use Rattle.typing.specs.Contents.{content_of}
use Rattle.evaluation_rows.proofs.tests.told_in_turn.Given as goal

-- the formulas so far are evaluated
abbrev pub invariant-loop-k : goal.invariant-loop-k
invariant-loop-k l = record {
  content : l.evaluator.content ≡ content_of l.c;
  dag : l.evaluator.dag ≡ l.dag;
  next : l.evaluator.next ≡ l._k;
}
