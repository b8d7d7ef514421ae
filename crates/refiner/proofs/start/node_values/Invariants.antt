use Rattle.std.proofs.Common.{◌≡◌, map, take}
use Rattle.modalities.specs.declared.three.Three.TheVariants.{Label}
use Rattle.refiner.proofs.start.node_values.Given as goal

abbrev pub invariant-loop-shape : goal.invariant-loop-shape
invariant-loop-shape g l =
    l.values.items ≡ map (λ s. Label (g.I.Iface.node l.iface s)) (take l.shape-index l.shapes)
