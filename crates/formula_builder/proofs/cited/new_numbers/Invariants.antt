use Rattle.std.proofs.Common.{◌≡◌, map, take}
use Rattle.std.specs.Prelude.{slice_index}
use Rattle.formula_builder.proofs.cited.new_numbers.Given as goal

abbrev pub invariant-loop-k : goal.invariant-loop-k
invariant-loop-k l = l.new.items ≡ map (slice_index l.numbers) (take l.k-index l.wanted)
