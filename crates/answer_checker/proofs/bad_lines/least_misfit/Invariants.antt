use Rattle.std.proofs.Common.{◌≡◌, drop}
use Rattle.answer_checker.specs.BadLines.{lesser}
use Rattle.answer_checker.specs.LineSteps.{least_of_formulas}
use Rattle.answer_checker.proofs.bad_lines.least_misfit.Given as goal

-- what is told so far, with what is left
abbrev pub invariant-loop-k : goal.invariant-loop-k
invariant-loop-k l =
    lesser l.least (least_of_formulas l.term (drop l.k l.dag) (drop l.k l.lines))
    ≡ least_of_formulas l.term l.dag l.lines
