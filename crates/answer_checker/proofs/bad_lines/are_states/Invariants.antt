use Rattle.std.proofs.Common.{◌≡◌, drop, map}
use Rattle.std.specs.List.{list_all}
use Rattle.answer_checker.specs.BadLines.{is_state}
use Rattle.answer_checker.proofs.bad_lines.are_states.Given as goal

-- the words so far are names
abbrev pub invariant-loop-word : goal.invariant-loop-word
invariant-loop-word l =
    list_all (is_state l.names) (map (λ word. word.now) l.words)
    ≡ list_all (is_state l.names) (map (λ word. word.now) (drop l.word-index l.words))
