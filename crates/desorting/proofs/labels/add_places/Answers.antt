use Rattle.desorting.proofs.Snoc.{push_number}
use Rattle.desorting.proofs.labels.add_places.Goals as goal

pub loop-i-preserved : goal.loop-i-preserved
loop-i-preserved c =
    push_number c.args.labels.now.items c.loop-i.labels.items c.push.new.self.items c.loop-i.i
    c.in_ok-push.ensures.items c.loop-i.invariant
