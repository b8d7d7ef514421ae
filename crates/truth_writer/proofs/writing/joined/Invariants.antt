use Rattle.std.proofs.Common.{◌≡◌, ◌++◌, drop}
use Rattle.std.specs.List.{concat}
use Rattle.truth_writer.proofs.writing.joined.Given as goal

-- what is written, with the texts to come, is the whole
abbrev pub invariant-loop-lines : goal.invariant-loop-lines
invariant-loop-lines l = l.text.items ++ concat (drop l.lines-index l.texts) ≡ concat l.texts
