use Rattle.std.proofs.Common.{◌≡◌, ◌≤◌, ◌<◌, ℕ, get_or}
use Rattle.refiner.specs.declared.moved.Moved.{Moved}
use Rattle.refiner.proofs.split.value_end.Given as goal

abbrev pub invariant-loop-k : goal.invariant-loop-k
invariant-loop-k l =
    (j : ℕ) (d : Moved) → l.from ≤ j → j < l.k →
    (get_or l.moved j d).three ≡ (get_or l.moved l.from d).three
