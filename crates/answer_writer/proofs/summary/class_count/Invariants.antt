use Rattle.std.proofs.Common.{◌≡◌, ◌≤◌, ◌+◌, drop}
use Rattle.answer_writer.specs.Summary.{class_count, class_count_from}
use Rattle.answer_writer.proofs.summary.class_count.Given as goal

-- those so far and those of the rest are all
abbrev pub invariant-loop-i : goal.invariant-loop-i
invariant-loop-i l =
    (l.count + class_count_from l.i (drop l.i l.firsts) ≡ class_count l.firsts) × (l.count ≤ l.i)
