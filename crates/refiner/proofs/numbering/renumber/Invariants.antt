use Rattle.std.proofs.Common.{◌≡◌, ◌≢◌, ◌<◌, ◌⊎◌, ℕ, length, get_or}
use Rattle.std.specs.Prelude.{All}
use Rattle.refinable_partition.specs.Layout.{AreMoved as HaveLeft}
use Rattle.refiner.proofs.numbering.renumber.Given as goal

abbrev pub invariant-loop-x : goal.invariant-loop-x
invariant-loop-x l = record {
  len : length l.of.items ≡ length l.initial.of.items;
  moved : (k : ℕ) → k < l.x-index → get_or l.of.items (get_or l.some k 0) 0 ≡ l.new;
  others :
      (y : ℕ) → ((k : ℕ) → k < l.x-index → get_or l.some k 0 ≢ y) →
      get_or l.of.items y 0 ≡ get_or l.initial.of.items y 0;
  either :
      (y : ℕ) →
      (get_or l.of.items y 0 ≡ l.new) ⊎ (get_or l.of.items y 0 ≡ get_or l.initial.of.items y 0);
  counted :
      (old : ℕ) → old ≢ l.new → All (λ x. get_or l.initial.of.items x 0 ≡ old) l.some →
      HaveLeft old l.new l.x-index l.initial.of.items l.of.items;
}
