use Rattle.std.proofs.Common.{◌-◌}
use Rattle.satisfaction.specs.Satisfaction.{holds_at}
use Rattle.answer_checker.specs.Truths.{AreRightBefore}
use Rattle.answer_checker.proofs.truths.first_wrong_state.Given as goal

-- the formula is right at the states so far
abbrev pub invariant-loop-x : goal.invariant-loop-x
invariant-loop-x l =
    AreRightBefore (holds_at l.truths.content l.truths.dag) l.numbers (l.truths.next - 1) l.line l.x
