use Rattle.std.proofs.Common.{◌≡◌, drop}
use Rattle.std.specs.List.{list_all}
use Rattle.typing.specs.Values.{states_below}
use Rattle.plain.proofs.soundness.all_below.Given as goal

-- the answer for the rest is the answer for all
abbrev pub invariant-loop-value : goal.invariant-loop-value
invariant-loop-value l = list_all (states_below l.n) (drop l.value-index l.values)
    ≡ list_all (states_below l.n) l.values
