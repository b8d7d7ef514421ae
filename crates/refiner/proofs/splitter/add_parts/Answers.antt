use Rattle.std.proofs.Common.{get_or}
use Rattle.refiner.proofs.Waiting.{parts_more}
use Rattle.refiner.proofs.splitter.add_parts.Goals as goal

pub loop-part-preserved : goal.loop-part-preserved
loop-part-preserved c =
    let members = c.members-members.ensures.members in
    let first = members.each 0 0 members.some in
    rw c.in_ok-push.ensures.items
    (parts_more c.args.blocks.now c.args.parts.now c.loop-part.part-index c.part-item.result
    c.args.waiting.now.items c.loop-part.waiting.items (get_or c.members-members.result.now 0 0)
    c.loop-part-test.true c.part-item.is first.0 first.1 c.loop-part.invariant)
