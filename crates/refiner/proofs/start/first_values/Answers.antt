use Rattle.std.proofs.Common.{◌≡◌, ◌<◌, ◌∙◌, true, length, map, ap, sym, refl, subst, arith, Some}
use Rattle.std.specs.Prelude.{slice_get}
use Rattle.std.proofs.lemmas.Option.{slice_get_read, slice_get_within}
use Rattle.std.proofs.lemmas.List.{length_push}
use Rattle.iface.specs.Trits.{each}
use Rattle.edge_store.specs.Edges.{labels_from, targets_from}
use Rattle.sorted_systems.specs.Systems.{IsState, system_from}
use Rattle.refiner.specs.Cells.{AreWhole}
use Rattle.refiner.proofs.CellsStep.{whole_none, whole_more}
use Rattle.refiner.proofs.Ends.{two_each}
use Rattle.refiner.proofs.States.{state_at_zero, values_more, length-system_from}
use Rattle.refiner.proofs.start.first_values.Goals as goal

pub init-requires-clause-fit : goal.init-requires-clause-fit
init-requires-clause-fit g c =
    let hx : c.loop-x.x < length c.args.shapes.now =
    omega (arith, c.loop-x-test.true, c.states-x-end.ensures.states, c.requires.one_shape) in
    let at : slice_get c.args.shapes.now c.loop-x.x ≡ Some c.index-shapes-x.result =
    slice_get_read c.args.shapes.now (length c.args.shapes.now) c.loop-x.x
    c.index-shapes-x.result refl hx c.index-shapes-x.is in
    let is : IsState (system_from 0 c.args.shapes.now c.args.store.now.edges) c.loop-x.x
    (record {
      shape = c.index-shapes-x.result;
      labels =
          labels_from c.args.store.now.edges c.loop-x.x;
      targets =
          targets_from c.args.store.now.edges c.loop-x.x;
    }) = state_at_zero c.loop-x.x c.args.shapes.now
    c.args.store.now.edges c.index-shapes-x.result at in
    subst (λ ls. g.I.Iface.fits c.args.iface.now c.index-shapes-x.result ls)
    (sym c.from_state-from.ensures.labels) (c.requires.system.fit c.loop-x.x _ is)

pub loop-x-init : goal.loop-x-init
loop-x-init g c = record {
  len = ap length c.new-values.ensures.items;
  each = λ k a h at. absurd (omega arith);
  whole = rw c.new-weights.ensures.items
      (whole_none (g.I.Iface.toward c.args.iface.now) c.args.shapes.now c.args.store.now.edges);
  rise = omega (arith, c.is_stored.ensures.none);
}

pub loop-x-preserved : goal.loop-x-preserved
loop-x-preserved g c =
    let hx : c.loop-x.x < length c.args.shapes.now =
    omega (arith, c.loop-x-test.true, c.states-x-end.ensures.states, c.requires.one_shape) in
    let at : slice_get c.args.shapes.now c.loop-x.x ≡ Some c.index-shapes-x.result =
    slice_get_read c.args.shapes.now (length c.args.shapes.now) c.loop-x.x
    c.index-shapes-x.result refl hx c.index-shapes-x.is in
    let is : IsState (system_from 0 c.args.shapes.now c.args.store.now.edges) c.loop-x.x
    (record {
      shape = c.index-shapes-x.result;
      labels =
          labels_from c.args.store.now.edges c.loop-x.x;
      targets =
          targets_from c.args.store.now.edges c.loop-x.x;
    }) = state_at_zero c.loop-x.x c.args.shapes.now
    c.args.store.now.edges c.index-shapes-x.result at in
    let value : g.I.Iface.value c.args.iface.now c.index-shapes-x.result
    (labels_from c.args.store.now.edges c.loop-x.x)
    (map (λ _. 2) (targets_from c.args.store.now.edges c.loop-x.x)) ≡ c.in_ok-weight.three =
    ap (g.I.Iface.value c.args.iface.now c.index-shapes-x.result
    (labels_from c.args.store.now.edges c.loop-x.x))
    (two_each (targets_from c.args.store.now.edges c.loop-x.x)
    (labels_from c.args.store.now.edges c.loop-x.x) c.first_from-first.ensures.as_many)
    ∙ ap (λ ls. g.I.Iface.value c.args.iface.now c.index-shapes-x.result ls (each 2 ls))
    (sym c.from_state-from.ensures.labels) ∙ sym c.in_ok-weight.ensures.three in
    record {
      len = ap length c.in_ok-push.ensures.items
          ∙ omega (
            arith,
            length_push c.loop-x.values.items c.in_ok-weight.three,
            c.loop-x.invariant.len,
          );
      each = values_more (g.I.Iface.value c.args.iface.now)
          (system_from 0 c.args.shapes.now c.args.store.now.edges) (λ _. 2) c.loop-x.values.items
          c.push.new.self.items c.loop-x.x c.in_ok-weight.three _ c.loop-x.invariant.len
          c.in_ok-push.ensures.items is value c.loop-x.invariant.each;
      whole = whole_more (g.I.Iface.toward c.args.iface.now) c.args.shapes.now c.args.store.now.edges
          c.loop-x.x c.loop-x.weights.items c.push-in-loop-x.new.self.items c.in_ok-weight.weight
          c.index-shapes-x.result
          c.in_ok-push-2.ensures.items at
          (c.in_ok-weight.ensures.weight
          ∙ ap (λ ls. g.I.Iface.toward c.args.iface.now c.index-shapes-x.result ls
          (map (λ _. true) ls)) c.from_state-from.ensures.labels) c.loop-x.invariant.whole;
      rise = omega (
        arith,
        c.in_ok-weight.ensures.counted,
        c.loop-x.invariant.rise,
        c.first_from-first.ensures.next,
        c.first_from-first.ensures.first,
        ap length c.from_state-from.ensures.labels,
      );
    }

pub returns-clause-weights : goal.returns-clause-weights
returns-clause-weights g c =
    let all : c.loop-x.x ≡ c.args.store.now.states =
    omega (arith, c.loop-x-test.false, c.states-x-end.ensures.states) in
    subst (λ n. AreWhole (g.I.Iface.toward c.args.iface.now) c.args.shapes.now c.args.store.now.edges n
    c.loop-x.weights.items) all c.loop-x.invariant.whole

pub returns-clause-values : goal.returns-clause-values
returns-clause-values g c =
    let n = length-system_from 0 c.args.shapes.now c.args.store.now.edges in
    let all : c.loop-x.x ≡ length c.args.shapes.now =
    omega (arith, c.loop-x-test.false, c.states-x-end.ensures.states, c.requires.one_shape) in
    record {
      len = c.loop-x.invariant.len ∙ all ∙ sym n;
      each = λ x a at. c.loop-x.invariant.each x a
          (omega (
            arith,
            slice_get_within (system_from 0 c.args.shapes.now c.args.store.now.edges) x a
                at,
            n,
            all,
          )) at;
    }
