use Rattle.std.proofs.Common.{◌≡◌, ◌++◌}
use Rattle.trial_texts.specs.Text.{text_of_trial}
use Rattle.trial_texts.proofs.EntryLaws.{lines_left}
use Rattle.trial_texts.proofs.text.trial_text.Given as goal

-- what is put so far goes on with the lines that are left to the whole text
abbrev pub invariant-loop-state : goal.invariant-loop-state
invariant-loop-state l =
    l.text.items ++ lines_left l.kind l.size l.state l.draws.number
    ≡ text_of_trial l.kind l.seed l.size
