use Rattle.std.proofs.Common.{◌≡◌}
use Rattle.typing.specs.Contents.{content_of}
use Rattle.answer_checker.proofs.truths.evaluate_through.Given as goal

-- the formulas so far are evaluated
abbrev pub invariant-loop-k : goal.invariant-loop-k
invariant-loop-k l = record {
  content : l.truths.content ≡ content_of l.c;
  dag : l.truths.dag ≡ l.dag;
  next : l.truths.next ≡ l._k;
}
