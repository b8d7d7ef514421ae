use Rattle.std.proofs.Common.{◌≡◌, ◌≤◌, ◌<◌, ℕ, get_or}
use Rattle.refiner.specs.Cells.{source_at}
use Rattle.refiner.proofs.edges.group_end.Given as goal

abbrev pub invariant-loop-k : goal.invariant-loop-k
invariant-loop-k g l =
    (j : ℕ) → l.from ≤ j → j < l.k →
    source_at l.store.edges (get_or l.edges j 0) ≡ source_at l.store.edges (get_or l.edges l.from 0)
