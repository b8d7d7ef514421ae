use Rattle.std.proofs.Common.{◌≤◌, length, ap, arith}
use Rattle.typing.specs.Layers.{leaves_of}
use Rattle.structures.proofs.Leaves.{leaves-children}
use Rattle.structures.proofs.Expands.{children_inside, leaf_at, link_places, link_sources, link_targets, link_few, linked_places, linked_sources, linked_targets}
use Rattle.structures.proofs.expand.expand.Goals as goal

pub lead-requires-clause-inside : goal.lead-requires-clause-inside
lead-requires-clause-inside c =
    children_inside c.args.term.now c.args.node c.args.value.now c.is_term.ensures
    c.requires.inside c.loop-i.i (c.child-q.result.0, c.child-q.result.1.now) c.child-q.ensures

pub loop-i-preserved : goal.loop-i-preserved
loop-i-preserved c =
    let t = c.args.term.now in
    let kids = leaves_of t (c.args.node, c.args.value.now) in
    let here =
    leaf_at t c.args.node c.loop-i.i c.args.value.now
    (c.child-q.result.0, c.child-q.result.1.now) c.child-q.ensures in
    record {
      places =
          link_places t kids c.loop-i.i _ here c.loop-i.places c.lead.new.places
          c.in_ok-target.ensures.places _ c.loop-i.invariant.places;
      sources =
          link_sources t kids c.loop-i.i _ here c.loop-i.places c.lead.new.places
          c.in_ok-target.ensures.places c.args.source c.loop-i.sources.items
          c.push.new.self.items _ c.in_ok-push.ensures.items c.loop-i.invariant.sources;
      targets =
          link_targets t kids c.loop-i.i _ here c.loop-i.places c.lead.new.places
          c.in_ok-target.ensures.places c.in_ok-target.target c.loop-i.targets.items
          c.push-in-loop-i.new.self.items _ c.in_ok-target.ensures.target
          c.in_ok-push-2.ensures.items
          c.loop-i.invariant.targets;
      few =
          link_few t kids c.loop-i.i _ here c.loop-i.places c.lead.new.places
          c.in_ok-target.ensures.places _ c.loop-i.invariant.few;
    }

pub returns-clause-places : goal.returns-clause-places
returns-clause-places c =
    let t = c.args.term.now in
    let kids = leaves_of t (c.args.node, c.args.value.now) in
    let past : length kids ≤ c.loop-i.i =
    omega (
      arith,
      c.child_count-i-end.ensures,
      ap length (leaves-children t (c.args.node, c.args.value.now)),
    ) in
    linked_places t kids c.loop-i.places _ c.loop-i.i past c.loop-i.invariant.places

pub returns-clause-sources : goal.returns-clause-sources
returns-clause-sources c =
    let t = c.args.term.now in
    let kids = leaves_of t (c.args.node, c.args.value.now) in
    let past : length kids ≤ c.loop-i.i =
    omega (
      arith,
      c.child_count-i-end.ensures,
      ap length (leaves-children t (c.args.node, c.args.value.now)),
    ) in
    linked_sources kids c.args.source c.loop-i.i c.loop-i.sources.items _ past
    c.loop-i.invariant.sources

pub returns-clause-targets : goal.returns-clause-targets
returns-clause-targets c =
    let t = c.args.term.now in
    let kids = leaves_of t (c.args.node, c.args.value.now) in
    let past : length kids ≤ c.loop-i.i =
    omega (
      arith,
      c.child_count-i-end.ensures,
      ap length (leaves-children t (c.args.node, c.args.value.now)),
    ) in
    linked_targets t kids c.loop-i.i (length c.loop-i.places) c.loop-i.targets.items _ past
    c.loop-i.invariant.targets
