use Rattle.std.proofs.Common.{◌≡◌, map}
use Rattle.answer_checker.specs.Truths.{AreCitationsBefore}
use Rattle.answer_checker.proofs.truths.citations.Given as goal

-- the citations of the lines so far
abbrev pub invariant-loop-block : goal.invariant-loop-block
invariant-loop-block l = record {
  count : l.line ≡ l.block-index;
  cited : AreCitationsBefore (map (λ b. b.formula) l.blocks) l.block-index l.found.items;
}
