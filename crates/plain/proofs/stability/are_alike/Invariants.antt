use Rattle.std.proofs.Common.{◌≡◌, true, length}
use Rattle.std.specs.List.{list_all}
use Rattle.typing.specs.Bounds.{is_bounded}
use Rattle.plain.specs.Pairs.{all_alike}
use Rattle.plain.proofs.stability.are_alike.Given as goal

-- the answer for the rest is the answer for all
abbrev pub invariant-loop-label : goal.invariant-loop-label
invariant-loop-label l = record {
  bounded : list_all is_bounded l.left ≡ true;
  rest : all_alike l.term l.rest l.left l.labels l.values ≡ all_alike l.term l.labels l.values
      l.labels l.values;
}

abbrev pub decreases-loop-label : goal.decreases-loop-label
decreases-loop-label l = length l.rest
