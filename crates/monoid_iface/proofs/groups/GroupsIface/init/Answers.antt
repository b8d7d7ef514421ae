use Rattle.std.proofs.Common.{◌≡◌, refl, ◌∙◌}
use Rattle.monoid_iface.specs.Groups.{value_of_sums}
use Rattle.monoid_iface.proofs.Moved.{all_weight, all_value}
use Rattle.monoid_iface.proofs.groups.GroupsIface.init.Goals as goal

pub returns-clause-weight : goal.returns-clause-weight
returns-clause-weight g c =
    let group = c.args.self.now.group in
    all_weight (g.G.Monoid.number group) (g.G.Monoid.zero group) (g.G.Monoid.add group)
    (g.met.G.Monoid.laws group) c.args.labels.now c.total_of-inside.result c.zero-outside.result
    c.total_of-inside.ensures.sum c.zero-outside.ensures.value

pub returns-clause-three : goal.returns-clause-three
returns-clause-three g c =
    let group = c.args.self.now.group in
    all_value (g.G.Monoid.number group) (g.G.Monoid.zero group) (g.G.Monoid.add group)
    (g.met.G.Monoid.laws group) c.args.labels.now c.total_of-inside.result c.zero-outside.result
    c.total_of-inside.ensures.sum c.zero-outside.ensures.value c.args.self.now.denominator
    c.in_ok-three.three
    (c.in_ok-three.ensures.sums
    ∙ rw (c.fraction-all.ensures.value, c.fraction-none.ensures.value) refl)
