use Rattle.std.proofs.Common.{◌≡◌, ◌+◌, ◌<◌, ◌≤◌, ℕ, length, map, get_or}
use Rattle.typing.specs.Contents.{content_of}
use Rattle.satisfaction.specs.Satisfaction.{holds_at}
use Rattle.answer_checker.specs.declared.truths.Citation.{Citation}
use Rattle.answer_checker.proofs.WrongLines.{IsFoundSoFar}
use Rattle.answer_checker.proofs.truths.first_wrong.Given as goal

-- the lines so far were looked at, and later ones cite no formula that is past
abbrev pub invariant-loop-citation : goal.invariant-loop-citation
invariant-loop-citation l = record {
  content : l.truths.content ≡ content_of l.c;
  dag : l.truths.dag ≡ l.dag;
  next : l.truths.next ≡ l.next;
  ahead :
      (j : ℕ) (d : Citation) → l.citation-index ≤ j → j < length l.citation-items →
      l.next ≤ (get_or l.citation-items j d).formula + 1;
  found :
      IsFoundSoFar (holds_at (content_of l.c) l.dag) l.numbers (map (λ b. b.formula) l.fn.blocks)
      l.citation-items l.citation-index l.found;
}
