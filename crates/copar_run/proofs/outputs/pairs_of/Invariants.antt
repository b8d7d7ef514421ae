use Rattle.std.proofs.Common.{◌≡◌, ◌*◌, ◌++◌, drop}
use Rattle.copar_run.specs.Explained.{pairs_of}
use Rattle.copar_run.proofs.outputs.pairs_of.Given as goal

-- the pairs so far and those of the rest are all pairs
abbrev pub invariant-loop-k : goal.invariant-loop-k
invariant-loop-k l = l.pairs.items ++ pairs_of (drop (2 * l.k) l.numbers) ≡ pairs_of l.numbers
