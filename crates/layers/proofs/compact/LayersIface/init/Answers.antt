use Rattle.std.proofs.Common.{ap, ◌∙◌}
use Rattle.iface.specs.Trits.{each}
use Rattle.layers.proofs.Packs.{value_is}
use Rattle.layers.proofs.compact.LayersIface.init.Goals as goal

pub returns-clause-three : goal.returns-clause-three
returns-clause-three g c =
    c.in_ok-weight.ensures.three
    ∙ value_is c.args.self.now.denominator c.args.self.now.shapes.items
    c.args.self.now.weights.items c.args.labels.now c.args.shape.now c.args.labels.now
    (each 2 c.args.labels.now) (each 2 c.args.labels.now)
