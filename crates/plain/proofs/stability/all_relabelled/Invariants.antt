use Rattle.std.proofs.Common.{◌≡◌, map, take}
use Rattle.typing.specs.Values.{relabelled}
use Rattle.plain.proofs.stability.all_relabelled.Given as goal

-- the values that were passed, relabelled
abbrev pub invariant-loop-value : goal.invariant-loop-value
invariant-loop-value l = l.new.items ≡ map (relabelled l.labels) (take l.value-index l.values)
