use Rattle.quotient_writer.proofs.NumberLaws.{IsNumbering}
use Rattle.quotient_writer.proofs.numbering.class_numbers.Given as goal

abbrev pub invariant-loop-i : goal.invariant-loop-i
invariant-loop-i l = IsNumbering l.firsts l.i l.labels.items l.classes
