use Rattle.std.proofs.Common.{◌<◌, ◌∙◌, sym, arith}
use Rattle.std.proofs.lemmas.List.{get_or_default, length-map}
use Rattle.edge_store.specs.declared.edge.Edge.{Edge}
use Rattle.refiner.specs.Cells.{target_at}
use Rattle.refiner.proofs.Gathered.{gather_none, gather_more}
use Rattle.refiner.proofs.edges.edges_by_target.Goals as goal

pub loop-y-init : goal.loop-y-init
loop-y-init g c =
    rw c.clear.ensures.items
    (gather_none c.args.store.now.edges c.args.blocks.now c.args.s c.members-members.result.now)

pub loop-y-preserved : goal.loop-y-preserved
loop-y-preserved g c =
    rw c.in_ok-extend_from_slice.ensures.items
    (gather_more c.args.store.now.edges c.args.blocks.now c.args.s c.members-members.result.now
    c.loop-y.y-index c.loop-y.found.items c.into_state.result.now c.members-members.ensures.members
    c.loop-y-test.true c.into_state.ensures.exact c.loop-y.invariant)

pub returns-clause-every : goal.returns-clause-every
returns-clause-every g c = λ e he b.
    let t = target_at c.args.store.now.edges e in
    let ht : t < c.args.store.now.states =
    omega (
      arith,
      c.is_stored.ensures.targets_in e 0
          (omega (arith, he, length-map c.args.store.now.edges (λ (a : Edge _). a.target))),
    ) in
    let found = c.members-members.ensures.members.every t (omega (arith, ht, c.requires.states))
    b in
    c.loop-y.invariant.every found.0 e (omega (arith, found.1, c.loop-y-test.false)) he
    (sym (get_or_default c.members-members.result.now found.0 0 t found.1 ∙ found.2))
