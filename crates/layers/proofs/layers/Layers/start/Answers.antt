use Rattle.std.proofs.Common.{ap, ◌∙◌, sym}
use Rattle.modalities.specs.declared.three.Three.TheVariants.{Members}
use Rattle.iface.specs.Trits.{each}
use Rattle.powerset_iface.proofs.Moves.{all_marked, each_two, same_weight, same_bits}
use Rattle.layers.specs.declared.weight.Opened.TheVariants as opened
use Rattle.layers.specs.Meanings.{class_at}
use Rattle.layers.proofs.Cells.{set_value, set_toward}
use Rattle.layers.proofs.layers.Layers.start.Goals as goal

pub returns-in-Set-clause-weight : goal.returns-in-Set-clause-weight
returns-in-Set-clause-weight c =
    let k = class_at c.args.self.now.shapes.items c.args.shape in
    let m = all_marked c.args.labels.now in
    ap opened.Set (same_weight _ _ _ _ (sym m.0) (sym m.1))
    ∙ set_toward c.args.self.now.weights.items k (sym c.class.ensures ∙ c.in-Set.is) c.args.shape
    c.args.labels.now _

pub returns-in-Set-clause-three : goal.returns-in-Set-clause-three
returns-in-Set-clause-three c =
    let k = class_at c.args.self.now.shapes.items c.args.shape in
    let t = each_two c.args.labels.now in
    ap Members (c.bits.ensures ∙ same_bits _ _ _ _ _ _ (sym t.0) (sym t.1) (sym t.2))
    ∙ set_value k (sym c.class.ensures ∙ c.in-Set.is) c.args.self.now.denominator
    c.args.self.now.weights.items c.args.labels.now (each 2 c.args.labels.now)
