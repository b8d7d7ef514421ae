use Rattle.std.proofs.Common.{◌≡◌, ◌<◌, ℕ, length}
use Rattle.std.specs.Prelude.{slice_index}
use Rattle.fitting.proofs.normal.own_numbers.Given as goal

abbrev pub invariant-loop-i : goal.invariant-loop-i
invariant-loop-i l = record {
  count : length l.own.items ≡ l.i;
  own : (k : ℕ) → k < length l.own.items → slice_index l.own.items k ≡ k;
}
