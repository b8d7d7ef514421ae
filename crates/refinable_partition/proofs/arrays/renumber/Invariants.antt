use Rattle.std.proofs.Common.{◌≡◌, ◌≢◌, ◌<◌, ℕ, length, get_or}
use Rattle.std.specs.Prelude.{All}
use Rattle.refinable_partition.specs.Layout.{AreMoved}
use Rattle.refinable_partition.proofs.arrays.renumber.Given as goal

abbrev pub invariant-loop-x : goal.invariant-loop-x
invariant-loop-x l = record {
  len : length l.block.items ≡ length l.initial.block.items;
  moved : (k : ℕ) → k < l.x-index → get_or l.block.items (get_or l.states k 0) 0 ≡ l.new;
  others :
      (y : ℕ) → ((k : ℕ) → k < l.x-index → get_or l.states k 0 ≢ y) →
      get_or l.block.items y 0 ≡ get_or l.initial.block.items y 0;
  counted :
      (old : ℕ) → old ≢ l.new → All (λ x. get_or l.initial.block.items x 0 ≡ old) l.states →
      AreMoved old l.new l.x-index l.initial.block.items l.block.items;
}
