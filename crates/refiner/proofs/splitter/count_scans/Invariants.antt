use Rattle.std.proofs.Common.{◌≡◌, ◌≢◌, ◌+◌, ◌<◌, ℕ, length, get_or}
use Rattle.refiner.proofs.splitter.count_scans.Given as goal

abbrev pub invariant-loop-x : goal.invariant-loop-x
invariant-loop-x l = record {
  len : length l.scans.items ≡ length l.initial.scans.items;
  counted :
      (k : ℕ) → k < l.x-index →
      get_or l.scans.items (get_or l.x-items k 0) 0
      ≡ get_or l.initial.scans.items (get_or l.x-items k 0) 0 + 1;
  others :
      (x : ℕ) → ((k : ℕ) → k < l.x-index → get_or l.x-items k 0 ≢ x) →
      get_or l.scans.items x 0 ≡ get_or l.initial.scans.items x 0;
}
