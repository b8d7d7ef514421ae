use Rattle.std.proofs.Common.{◌≡◌, List}
use Rattle.answer_checker.specs.Blocks.{BlockLine}
use Rattle.answer_checker.specs.Rules.{StandOnce}
use Rattle.answer_checker.specs.Steps.{ArePlaces}
use Rattle.answer_checker.proofs.places.first_not_once.Given as goal

-- the states so far stand once
abbrev pub invariant-loop-place : goal.invariant-loop-place
invariant-loop-place l = record {
  count : l.i ≡ l.place-index;
  once : (lines : List BlockLine) → ArePlaces lines l.places → StandOnce l.place-index lines;
}
