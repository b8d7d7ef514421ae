use Rattle.std.proofs.Common.{ap, ◌∙◌, sym}
use Rattle.modalities.specs.declared.three.Three.TheVariants.{Members}
use Rattle.powerset_iface.proofs.Moves.{all_marked, each_two, same_weight, same_bits}
use Rattle.powerset_iface.proofs.sets.SetsIface.init.Goals as goal

pub returns-clause-weight : goal.returns-clause-weight
returns-clause-weight g c = let m = all_marked c.args.labels.now in
    same_weight _ _ _ _ (sym m.0) (sym m.1)

pub returns-clause-three : goal.returns-clause-three
returns-clause-three g c = let t = each_two c.args.labels.now in ap Members (c.bits.ensures
    ∙ same_bits _ _ _ _ _ _ (sym t.0) (sym t.1) (sym t.2))
