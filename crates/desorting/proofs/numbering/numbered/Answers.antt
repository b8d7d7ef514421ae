use Rattle.typing.specs.Layers.{Place}
use Rattle.desorting.proofs.Numbers.{numbered_step}
use Rattle.desorting.proofs.numbering.numbered.Goals as goal

pub loop-i-preserved : goal.loop-i-preserved
loop-i-preserved c =
    let x : Place = (c.get-node.result.0, c.get-node.result.1.now) in
    record {
      numbered =
          numbered_step c.args.term.now c.is_term.ensures c.loop-i.table.shapes
          c.add_structure.new.table.shapes c.loop-i.table.weights
          c.add_structure.new.table.weights c.in_ok-add_structure.ensures.kept
          c.in_ok-add_structure.ensures.kept_weights c.args.places.now c.loop-i.i x
          c.get-node.ensures.place c.loop-i.shapes.items c.loop-i.labels.items
          c.add_structure.new.shapes.items c.add_structure.new.labels.items
          c.loop-i.invariant.numbered c.in_ok-add_structure.ensures.shape
          c.in_ok-add_structure.ensures.labels;
    }
