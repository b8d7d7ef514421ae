use Rattle.std.proofs.Common.{◌≡◌, ◌+◌, ℕ, length}
use Rattle.std.specs.Prelude.{All}
use Rattle.formula_builder.specs.Keeping.{IsMarked, AreReasoned, AreClosed}
use Rattle.formula_builder.proofs.cited.needed.Given as goal

abbrev pub invariant-loop-below : goal.invariant-loop-below
invariant-loop-below l = record {
  one_each : length l.marks.items ≡ length l.dag;
  wished : All (λ k. IsMarked l.marks.items k) l.wanted;
  reasoned : AreReasoned l.dag l.wanted l.marks.items;
  closed : (k : ℕ) → k + l.below ≡ length l.dag → AreClosed l.dag l.marks.items k;
}
