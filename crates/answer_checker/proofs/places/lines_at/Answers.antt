use Rattle.std.proofs.Common.{◌∙◌}
use Rattle.answer_checker.proofs.Placed.{line_more}
use Rattle.answer_checker.proofs.places.lines_at.Goals as goal

pub loop-place-preserved : goal.loop-place-preserved
loop-place-preserved c lines are once =
    let i = c.loop-place.place-index in
    let h = c.loop-place-test.true in
    c.in_ok-push.ensures.items
    ∙ line_more lines c.loop-place.numbers.items i c.line_at.result
    (c.line_at.ensures lines i (are i h) (once i h)) (c.loop-place.invariant lines are once)
