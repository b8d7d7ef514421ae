use Rattle.desorting.proofs.Snoc.{push_zero}
use Rattle.desorting.proofs.labels.add_members.Goals as goal

pub loop-preserved : goal.loop-preserved
loop-preserved c =
    push_zero c.args.labels.now.items c.loop.labels.items c.push.new.self.items c.loop.counter
    c.in_ok-push.ensures.items c.loop.invariant
