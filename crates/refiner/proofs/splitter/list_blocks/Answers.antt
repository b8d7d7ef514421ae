use Rattle.std.proofs.Common.{get_or}
use Rattle.refiner.proofs.Waiting.{listed_none, listed_more}
use Rattle.refiner.proofs.splitter.list_blocks.Goals as goal

pub loop-b-init : goal.loop-b-init
loop-b-init c = rw c.requires.none (listed_none c.args.blocks.now)

pub loop-b-preserved : goal.loop-b-preserved
loop-b-preserved c =
    let members = c.members-members.ensures.members in
    let first = members.each 0 0 members.some in
    rw c.in_ok-push.ensures.items
    (listed_more c.args.blocks.now c.loop-b.b c.loop-b.waiting.items
    (get_or c.members-members.result.now 0 0) first.0 first.1 c.loop-b.invariant)
