use Rattle.std.proofs.Common.{◌-◌, length}
use Rattle.std.specs.Prelude.{◌*◌}
use Rattle.typing.proofs.FirstPlaces.{total}
use Rattle.typing.proofs.StableLaws.{IsRound}
use Rattle.plain.proofs.rounds.first_equivalents.Given as goal

-- a labelling with which a round may begin
abbrev pub invariant-loop-labels : goal.invariant-loop-labels
invariant-loop-labels l = IsRound l.term l.values l.labels.items

-- each round that splits a class makes the sum of the labels larger
abbrev pub decreases-loop-labels : goal.decreases-loop-labels
decreases-loop-labels l = length l.values * length l.values - total l.labels.items
