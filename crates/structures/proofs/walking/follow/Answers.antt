use Rattle.std.proofs.Common.{◌≡◌, ◌+◌, ◌-◌, ◌<◌, ◌≤◌, ◌++◌, length, sym, ap, subst, arith, length-append}
use Rattle.typing.specs.Layers.{leaves_of, layers_in, sorted_count}
use Rattle.structures.specs.Structures.{repeated}
use Rattle.structures.specs.Walk.{IsWalked, targets_of}
use Rattle.structures.proofs.Leaves.{leaves-children}
use Rattle.structures.proofs.Walked.{walked_step, few_places, few_layers, node_inside, targets_count}
use Rattle.structures.proofs.walking.follow.Goals as goal

pub expand-requires-clause-inside : goal.expand-requires-clause-inside
expand-requires-clause-inside c =
    node_inside c.args.term.now c.args.values.now c.is_term.ensures c.loop-next.places
    c.loop-next.sources.items c.loop-next.targets.items c.loop-next.next
    c.loop-next.invariant.walked c.loop-next.next _ c.get-node.ensures.place

pub child_count-more-requires : goal.child_count-more-requires
child_count-more-requires c = record {
  inside =
      node_inside c.args.term.now c.args.values.now c.is_term.ensures c.loop-next.places
      c.loop-next.sources.items c.loop-next.targets.items c.loop-next.next
      c.loop-next.invariant.walked c.loop-next.next _ c.get-node.ensures.place;
}

pub expand-requires-clause-few : goal.expand-requires-clause-few
expand-requires-clause-few c =
    omega (
      arith,
      c.child_count-more.ensures.count,
      ap length (leaves-children c.args.term.now (c.get-node.result.0, c.get-node.result.1.now)),
    )

pub loop-next-smaller : goal.loop-next-smaller
loop-next-smaller c =
    let one : length c.loop-next.places ≤ sorted_count c.args.term.now c.args.values.now =
    few_places c.args.term.now c.args.values.now c.is_term.ensures c.loop-next.places
    c.loop-next.sources.items c.loop-next.targets.items c.loop-next.next
    c.loop-next.invariant.walked in
    let smaller :
    sorted_count c.args.term.now c.args.values.now - (c.loop-next.next + 1)
    < sorted_count c.args.term.now c.args.values.now - c.loop-next.next =
    omega (arith, one) in
    smaller

pub loop-next-preserved : goal.loop-next-preserved
loop-next-preserved c =
    let t = c.args.term.now in
    let p = c.get-node.result.0 in
    let v = c.get-node.result.1.now in
    let at = c.loop-next.next in
    let kids = leaves_of t (p, v) in
    let sources = c.loop-next.sources.items ++ repeated at (length kids) in
    record {
      walked =
          subst (λ ps. IsWalked t c.args.values.now ps c.expand.new.sources.items
          c.expand.new.targets.items (at + 1)) (sym c.in_ok-expand.ensures.places)
          (subst (λ ss. IsWalked t c.args.values.now (c.loop-next.places ++ layers_in t kids) ss
          c.expand.new.targets.items (at + 1)) (sym c.in_ok-expand.ensures.sources)
          (subst (λ ts. IsWalked t c.args.values.now
          (c.loop-next.places ++ layers_in t kids) sources ts (at + 1))
          (sym c.in_ok-expand.ensures.targets)
          (walked_step t c.args.values.now c.is_term.ensures c.loop-next.places
          c.loop-next.sources.items c.loop-next.targets.items at
          c.loop-next.invariant.walked (p, v) c.get-node.ensures.place)));
      within =
          omega (
            arith,
            ap length c.in_ok-expand.ensures.places,
            length-append c.loop-next.places (layers_in t kids),
          );
      few =
          omega (
            arith,
            ap length c.in_ok-expand.ensures.places,
            length-append c.loop-next.places (layers_in t kids),
            few_layers t kids,
            c.child_count-more.ensures.count,
            ap length (leaves-children t (p, v)),
          );
      few_edges =
          omega (
            arith,
            ap length c.in_ok-expand.ensures.targets,
            length-append c.loop-next.targets.items
                (targets_of t (length c.loop-next.places) kids),
            targets_count t (length c.loop-next.places) kids,
            c.child_count-more.ensures.count,
            ap length (leaves-children t (p, v)),
          );
    }

pub returns-clause-walked : goal.returns-clause-walked
returns-clause-walked c =
    let same : c.loop-next.next ≡ length c.loop-next.places =
    omega (arith, c.loop-next.invariant.within) in
    subst (λ n. IsWalked c.args.term.now c.args.values.now c.loop-next.places
    c.loop-next.sources.items c.loop-next.targets.items n) same c.loop-next.invariant.walked
