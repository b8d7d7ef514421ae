use Rattle.std.proofs.Common.{◌∙◌, ap, sym, arith}
use Rattle.sorted_systems.specs.Systems.{system_from}
use Rattle.refiner.specs.Grouping.{value_at}
use Rattle.refiner.proofs.Starts.{by_node_and_value, node_at}
use Rattle.refiner.proofs.States.{length-system_from}
use Rattle.refiner.proofs.start.start_blocks.Goals as goal

pub split_all-requires-2-clause-one_each : goal.split_all-requires-2-clause-one_each
split_all-requires-2-clause-one_each g c =
    omega (
      arith,
      c.requires.values.len,
      length-system_from 0 c.args.shapes.now c.args.store.now.edges,
      c.requires.one_shape,
      c.requires.in_blocks,
      c.in_ok-_by_node.ensures.states,
    )

pub starts_of-requires-clause-split : goal.starts_of-requires-clause-split
starts_of-requires-clause-split g c =
    let n = length-system_from 0 c.args.shapes.now c.args.store.now.edges in
    by_node_and_value (g.I.Iface.node c.args.iface.now)
    (system_from 0 c.args.shapes.now c.args.store.now.edges) c.as_slice.result.now c.args.values.now
    c.args.blocks.now c.split_all.new.blocks c.split_all-2.new.blocks
    c.in_ok-_by_node._by_node.splits c.in_ok-_by_value._by_value.splits
    (c.requires.in_blocks ∙ sym c.requires.one_shape ∙ sym n) c.requires.one_block
    (λ x hx. c.is_laid_out.ensures.in_range x hx)
    (λ x a at. ap (λ vs. value_at vs x) (c.as_slice.ensures.value ∙ c.in_ok-nodes.ensures)
    ∙ node_at (g.I.Iface.node c.args.iface.now) 0 c.args.shapes.now c.args.store.now.edges x a at)
    c.in_ok-_by_node.ensures c.in_ok-_by_value.ensures
