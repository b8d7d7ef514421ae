use Rattle.std.proofs.Common.{◌≡◌, ◌<◌, ℕ, length, slice_get, Some}
use Rattle.typing.specs.Layers.{Place}
use Rattle.structures.specs.Structures.{sources_from}
use Rattle.evaluation.specs.Truths.{truth_at}
use Rattle.evaluation.specs.Rows.{trits_of, truth_by}
use Rattle.evaluation.proofs.truth.row_of.Given as goal

abbrev pub invariant-loop-x : goal.invariant-loop-x
invariant-loop-x l = record {
  len : length l.row ≡ l.x;
  truths :
      (y : ℕ) (p : Place) → y < l.x → slice_get l.structures.places y ≡ Some p →
      truth_at l.row y
      ≡ truth_by l.c.term l.c.denominator (sources_from l.c.term 0 l.structures.places) l.rows
      (trits_of l.rows l.structures.targets.items l.f) l.f y p;
}
