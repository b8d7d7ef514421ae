use Rattle.std.proofs.Common.{◌≡◌, ℕ, length, take}
use Rattle.std.specs.Prelude.{All, Contains}
use Rattle.formula_builder.specs.Keeping.{IsMarked}
use Rattle.formula_builder.proofs.cited.wanted_marks.Given as goal

abbrev pub invariant-loop-k : goal.invariant-loop-k
invariant-loop-k l = record {
  one_each : length l.marks.items ≡ l.n;
  all : All (λ j. IsMarked l.marks.items j) (take l.k-index l.wanted);
  only : (j : ℕ) → IsMarked l.marks.items j → Contains l.wanted j;
}
