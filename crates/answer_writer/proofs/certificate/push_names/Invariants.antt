use Rattle.std.proofs.Common.{◌≡◌, ◌++◌, drop, map}
use Rattle.answer_writer.specs.Lines.{name_of, names_behind}
use Rattle.answer_writer.proofs.certificate.push_names.Given as goal

-- what is written, with the names to come, is the whole
abbrev pub invariant-loop-state : goal.invariant-loop-state
invariant-loop-state l =
    l.text.items ++ names_behind (map (name_of l.names) (drop l.state-index l.states))
    ≡ l.initial.text.items ++ names_behind (map (name_of l.names) l.states)
