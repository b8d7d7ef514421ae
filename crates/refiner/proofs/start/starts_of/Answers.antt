use Rattle.std.proofs.Common.{◌≡◌, ◌<◌, ◌∙◌, ℕ, length, get_or, ap, sym, refl, arith, Some}
use Rattle.std.specs.Prelude.{slice_get}
use Rattle.std.proofs.lemmas.List.{get_or_default, length_push}
use Rattle.std.proofs.lemmas.Option.{slice_get_read}
use Rattle.modalities.specs.declared.three.Three.TheVariants.{Trit}
use Rattle.edge_store.specs.Edges.{labels_from, targets_from}
use Rattle.sorted_systems.specs.Systems.{IsState, Sorted, system_from}
use Rattle.refiner.specs.Making.{IsStartBlock}
use Rattle.refiner.proofs.Lists.{element_at}
use Rattle.refiner.proofs.Starts.{push_each, start_made}
use Rattle.refiner.proofs.States.{state_at_zero, length-system_from}
use Rattle.refiner.proofs.start.starts_of.Goals as goal

pub bounds-values-x : goal.bounds-values-x
bounds-values-x g c =
    let m = c.members.ensures.members in
    omega (
      arith,
      (m.each 0 0 m.some).0,
      c.requires.values.len,
      length-system_from 0
          c.args.shapes.now c.args.store.now.edges,
      c.requires.one_shape,
      c.requires.in_blocks,
    )

pub loop-block-preserved : goal.loop-block-preserved
loop-block-preserved g c =
    let m = c.members.ensures.members in
    let x : ℕ = get_or c.members.result.now 0 0 in
    let here = m.each 0 0 m.some in
    let hx : x < length c.args.shapes.now =
    omega (arith, here.0, c.requires.in_blocks, c.requires.one_shape) in
    let hv : x < length c.args.values.now =
    omega (
      arith,
      hx,
      c.requires.values.len,
      length-system_from 0 c.args.shapes.now
          c.args.store.now.edges,
    ) in
    let at : slice_get c.args.shapes.now x ≡ Some c.index-shapes-x.result =
    slice_get_read c.args.shapes.now (length c.args.shapes.now) x c.index-shapes-x.result refl
    hx c.index-shapes-x.is in
    let is : IsState (system_from 0 c.args.shapes.now c.args.store.now.edges) x
    (record {
      shape = c.index-shapes-x.result;
      labels =
          labels_from c.args.store.now.edges x;
      targets = targets_from c.args.store.now.edges x;
    }) =
    state_at_zero x c.args.shapes.now c.args.store.now.edges c.index-shapes-x.result at in
    record {
      len = ap length c.in_ok-push.ensures.items
          ∙ omega (
            arith,
            length_push c.loop-block.start.items
                (record {
                  block = c.loop-block.block;
                  node = c.node-node.result;
                  three =
                      c.in_ok-three.three;
                }),
            c.loop-block.invariant.len,
          );
      each = push_each (λ k s. IsStartBlock (g.I.Iface.node c.args.iface.now)
          (system_from 0 c.args.shapes.now c.args.store.now.edges) c.args.values.now c.args.blocks.now k
          s)
          c.loop-block.start.items c.push.new.self.items _ c.loop-block.block
          c.loop-block.invariant.len c.in_ok-push.ensures.items c.loop-block.invariant.each
          (record {
            number = refl;
            member = x;
            in_range = here.0;
            here = here.1;
            three_is = get_or_default c.args.values.now x (Trit 0) c.index-values-x.result hv
                ∙ sym c.index-values-x.is ∙ sym c.in_ok-three.ensures.same;
            node_is = λ a ax. ap (λ (b : Sorted _ _). g.I.Iface.node c.args.iface.now b.shape)
                (element_at (system_from 0 c.args.shapes.now c.args.store.now.edges) x a _ ax is)
                ∙ sym c.node-node.ensures.node_is;
          });
    }

pub returns : goal.returns
returns g c =
    let n = length-system_from 0 c.args.shapes.now c.args.store.now.edges in
    let all : c.loop-block.block ≡ c.args.blocks.now.count =
    omega (
      arith,
      c.loop-block-test.false,
      c.blocks-block-end.ensures.blocks,
      c.loop-block.auto.block-end,
    ) in
    start_made (g.I.Iface.node c.args.iface.now) (g.I.Iface.value c.args.iface.now)
    (system_from 0 c.args.shapes.now c.args.store.now.edges) c.args.values.now c.args.blocks.now
    (c.requires.in_blocks ∙ sym c.requires.one_shape ∙ sym n)
    (λ x hx. omega (
      arith,
      c.blocks-block-end.ensures.in_range x hx,
      c.blocks-block-end.ensures.blocks,
    ))
    c.requires.values c.requires.split c.loop-block.start.items (c.loop-block.invariant.len ∙ all)
    (λ k d h. c.loop-block.invariant.each k d (omega (arith, h, all)))
