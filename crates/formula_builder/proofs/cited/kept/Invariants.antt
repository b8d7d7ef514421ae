use Rattle.formula_builder.specs.Keeping.{AreKept}
use Rattle.formula_builder.proofs.cited.kept.Given as goal

abbrev pub invariant-loop-k : goal.invariant-loop-k
invariant-loop-k l = AreKept l.dag l.marks l.small l.numbers.items l.k
