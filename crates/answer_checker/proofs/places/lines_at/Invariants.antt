use Rattle.std.proofs.Common.{◌≡◌, List, length, map}
use Rattle.std.specs.List.{range_with_len}
use Rattle.answer_checker.specs.Blocks.{BlockLine, line_of}
use Rattle.answer_checker.specs.Rules.{StandOnce}
use Rattle.answer_checker.specs.Steps.{ArePlaces}
use Rattle.answer_checker.proofs.places.lines_at.Given as goal

-- the lines of the states so far
abbrev pub invariant-loop-place : goal.invariant-loop-place
invariant-loop-place l =
    (lines : List BlockLine) → ArePlaces lines l.places → StandOnce (length l.places) lines →
    l.numbers.items ≡ map (line_of lines) (range_with_len 0 l.place-index)
