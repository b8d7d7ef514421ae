use Rattle.std.proofs.Common.{◌≡◌, [], replicate}
use Rattle.truth_writer.proofs.writing.no_lines.Given as goal

-- so many texts, without a line
abbrev pub invariant-loop : goal.invariant-loop
invariant-loop l = l.texts.items ≡ replicate l.counter []
