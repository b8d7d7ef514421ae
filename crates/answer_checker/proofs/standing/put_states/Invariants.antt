use Rattle.std.proofs.Common.{◌≡◌, ℕ, List, [], ◌∷◌, ◌++◌, length, map, take}
use Rattle.answer_checker.specs.Blocks.{BlockLine, line_with}
use Rattle.answer_checker.specs.Verdicts.{number_of}
use Rattle.answer_checker.specs.Steps.{ArePlaces}
use Rattle.answer_checker.proofs.standing.put_states.Given as goal

-- the states of the names so far are put into the line
abbrev pub invariant-loop-word : goal.invariant-loop-word
invariant-loop-word l = record {
  one_each : length l.places ≡ length l.names;
  put : (lines : List BlockLine) (f : ℕ) → length lines ≡ l.k → ArePlaces lines l.fn.places →
      ArePlaces
      (lines ++ line_with f
      (map (λ word. number_of l.names word.now) (take l.word-index l.words)) ∷ [])
      l.places;
}
