use Rattle.std.proofs.Common.{◌≡◌, ◌++◌, ℕ, List, take}
use Rattle.desorting.specs.Numbered.{weights_in, AreWeighed}
use Rattle.layers.specs.Tables.{Keeps}
use Rattle.desorting.proofs.labels.add_weights.Given as goal

abbrev pub invariant-loop-i : goal.invariant-loop-i
invariant-loop-i l = record {
  labels :
      (ys : List ℕ) × (l.labels.items ≡ l.fn.labels.items ++ ys) ×
      AreWeighed l.table.weights (take l.i (weights_in l.value)) ys;
  kept : Keeps l.fn.table.weights l.table.weights;
  shapes : l.table.shapes ≡ l.fn.table.shapes;
}
