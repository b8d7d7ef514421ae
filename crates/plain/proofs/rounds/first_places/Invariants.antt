use Rattle.std.proofs.Common.{◌≡◌, map, take}
use Rattle.plain.specs.Pairs.{first_place}
use Rattle.plain.proofs.rounds.first_places.Given as goal

-- the places of those that were passed
abbrev pub invariant-loop-u : goal.invariant-loop-u
invariant-loop-u l = l.next.items ≡ map (first_place l.term l.values) (take l.u-index l.values)
