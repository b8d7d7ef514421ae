use Rattle.std.proofs.Common.{◌≡◌, map}
use Rattle.typing.specs.Contents.{content_of}
use Rattle.satisfaction.specs.Satisfaction.{holds_at}
use Rattle.truth_writer.specs.Truths.{texts_at}
use Rattle.truth_writer.proofs.writing.truths_text.Given as goal

-- the truths of the formulas so far are told
abbrev pub invariant-loop-k : goal.invariant-loop-k
invariant-loop-k l = record {
  content : l.evaluator.content ≡ content_of l.c;
  dag : l.evaluator.dag ≡ l.dag;
  next : l.evaluator.next ≡ l.k;
  told :
      l.texts.items
      ≡ texts_at (holds_at (content_of l.c) l.dag) l.k (map (λ w. w.now) l.words) l.numbers;
}
