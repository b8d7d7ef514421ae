use Rattle.std.proofs.Common.{◌≡◌, drop}
use Rattle.std.specs.List.{list_all}
use Rattle.typing.specs.Bounds.{is_bounded}
use Rattle.plain.proofs.soundness.all_bounded.Given as goal

-- the answer for the rest is the answer for all
abbrev pub invariant-loop-value : goal.invariant-loop-value
invariant-loop-value l = list_all is_bounded (drop l.value-index l.values) ≡ list_all is_bounded
    l.values
