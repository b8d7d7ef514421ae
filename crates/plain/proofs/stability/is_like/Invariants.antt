use Rattle.std.proofs.Common.{◌≡◌, true, length}
use Rattle.std.specs.List.{list_all}
use Rattle.typing.specs.Bounds.{is_bounded}
use Rattle.plain.specs.Pairs.{are_like}
use Rattle.plain.proofs.stability.is_like.Given as goal

-- the answer for the rest is the answer for all
abbrev pub invariant-loop-other : goal.invariant-loop-other
invariant-loop-other l = record {
  bounded : list_all is_bounded l.right ≡ true;
  rest : are_like l.term l.label l.u l.rest l.right ≡ are_like l.term l.label l.u l.labels l.values;
}

abbrev pub decreases-loop-other : goal.decreases-loop-other
decreases-loop-other l = length l.rest
