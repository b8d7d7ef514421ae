use Rattle.std.proofs.Common.{◌≡◌, length, take}
use Rattle.answer_checker.specs.Verdicts.{lines_seen}
use Rattle.answer_checker.specs.Steps.{ArePlaces}
use Rattle.answer_checker.proofs.standing.places_in.Given as goal

-- where the states stand in the lines so far
abbrev pub invariant-loop-block : goal.invariant-loop-block
invariant-loop-block l = record {
  count : l.k ≡ l.block-index;
  one_each : length l.places.items ≡ length l.names;
  places : ArePlaces (lines_seen l.names (take l.block-index l.blocks)) l.places.items;
}
