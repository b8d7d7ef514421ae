use Rattle.std.proofs.Common.{refl, ◌∙◌, arith}
use Rattle.monoid_iface.proofs.Moved.{small_moved, small_inside, small_outside, small_part, small_rest, updated}
use Rattle.monoid_iface.proofs.groups.GroupsIface.update.Goals as goal

pub total_of-part-requires-clause-small : goal.total_of-part-requires-clause-small
total_of-part-requires-clause-small g c =
    let k = c.requires.cell.3 in
    let group = c.args.self.now.group in
    small_moved (g.G.Monoid.number group) (g.G.Monoid.zero group) (g.G.Monoid.add group)
    (g.met.G.Monoid.laws group) (g.G.Group.sub group) (g.met.G.Group.undoes group)
    c.requires.cell.1 c.requires.cell.2 k.are_trits k.fit c.args.weight.now c.args.moved.now
    k.weight_is k.moved_is

pub sub-rest-requires : goal.sub-rest-requires
sub-rest-requires g c =
    let k = c.requires.cell.3 in
    let group = c.args.self.now.group in
    let inside =
    small_inside (g.G.Monoid.number group) (g.G.Monoid.zero group) (g.G.Monoid.add group)
    (g.met.G.Monoid.laws group) (g.G.Group.sub group) (g.met.G.Group.undoes group)
    c.requires.cell.1 c.requires.cell.2 k.are_trits k.fit c.args.weight.now c.args.moved.now
    k.weight_is k.moved_is in
    let part =
    small_part (g.G.Monoid.number group) (g.G.Monoid.zero group) (g.G.Monoid.add group)
    (g.met.G.Monoid.laws group) (g.G.Group.sub group) (g.met.G.Group.undoes group)
    c.requires.cell.1 c.requires.cell.2 k.are_trits k.fit c.args.weight.now c.args.moved.now
    k.weight_is k.moved_is in
    record { within = rw c.total_of-part.ensures.sum (omega (arith, inside, part)) }

pub add-other-requires : goal.add-other-requires
add-other-requires g c =
    let k = c.requires.cell.3 in
    let group = c.args.self.now.group in
    let outside =
    small_outside (g.G.Monoid.number group) (g.G.Monoid.zero group) (g.G.Monoid.add group)
    (g.met.G.Monoid.laws group) (g.G.Group.sub group) (g.met.G.Group.undoes group)
    c.requires.cell.1 c.requires.cell.2 k.are_trits k.fit c.args.weight.now c.args.moved.now
    k.weight_is k.moved_is in
    let part =
    small_part (g.G.Monoid.number group) (g.G.Monoid.zero group) (g.G.Monoid.add group)
    (g.met.G.Monoid.laws group) (g.G.Group.sub group) (g.met.G.Group.undoes group)
    c.requires.cell.1 c.requires.cell.2 k.are_trits k.fit c.args.weight.now c.args.moved.now
    k.weight_is k.moved_is in
    record { within = rw c.total_of-part.ensures.sum (omega (arith, outside, part)) }

pub add-others-requires : goal.add-others-requires
add-others-requires g c =
    let k = c.requires.cell.3 in
    let group = c.args.self.now.group in
    let outside =
    small_outside (g.G.Monoid.number group) (g.G.Monoid.zero group) (g.G.Monoid.add group)
    (g.met.G.Monoid.laws group) (g.G.Group.sub group) (g.met.G.Group.undoes group)
    c.requires.cell.1 c.requires.cell.2 k.are_trits k.fit c.args.weight.now c.args.moved.now
    k.weight_is k.moved_is in
    let rest =
    small_rest (g.G.Monoid.number group) (g.G.Monoid.zero group) (g.G.Monoid.add group)
    (g.met.G.Monoid.laws group) (g.G.Group.sub group) (g.met.G.Group.undoes group)
    c.requires.cell.1 c.requires.cell.2 k.are_trits k.fit c.args.weight.now c.args.moved.now
    k.weight_is k.moved_is in
    record {
      within =
          rw (c.sub-rest.ensures.difference, c.total_of-part.ensures.sum)
          (omega (arith, outside, rest));
    }

pub returns-clause-updated : goal.returns-clause-updated
returns-clause-updated g c shape labels trits cell =
    let group = c.args.self.now.group in
    updated (g.G.Monoid.number group) (g.G.Monoid.zero group) (g.G.Monoid.add group)
    (g.met.G.Monoid.laws group) (g.G.Group.sub group) (g.met.G.Group.undoes group) labels trits
    cell.are_trits cell.fit c.args.weight.now c.args.moved.now cell.weight_is cell.moved_is
    c.total_of-part.result c.sub-rest.result c.add-other.result c.add-others.result
    c.total_of-part.ensures.sum c.sub-rest.ensures.difference c.add-other.ensures.sum
    c.add-others.ensures.sum c.args.self.now.denominator c.zero-zero.result
    c.zero-zero.ensures.value c.in_ok-three.three c.in_ok-void.void
    (c.in_ok-three.ensures.sums
    ∙ rw (
      c.fraction-away.ensures.value,
      c.fraction-stays.ensures.value,
      c.fraction-goes.ensures.value,
    ) refl)
    (c.in_ok-void.ensures.sums
    ∙ rw (
      c.fraction-away.ensures.value,
      c.fraction-before.ensures.value,
      c.fraction-none.ensures.value,
    ) refl)
    shape
