use Rattle.std.proofs.Common.{◌∙◌}
use Rattle.refiner.proofs.Marks.{marks_more, only_more}
use Rattle.refiner.proofs.split.mark_moved.Goals as goal

pub loop-m-preserved : goal.loop-m-preserved
loop-m-preserved c =
    let was = c.loop-m.invariant in
    record {
      blocks = record {
        count = c.mark.ensures.blocks.count ∙ was.blocks.count;
        block = c.mark.ensures.blocks.block ∙ was.blocks.block;
      };
      all = marks_more c.loop-m.blocks c.mark.new.self c.args.moved.now c.loop-m.m-index
          c.m-item.result c.loop-m-test.true c.m-item.is c.mark.ensures.here c.mark.ensures.others
          was.all;
      only = λ x hx. only_more c.loop-m.blocks c.mark.new.self c.args.moved.now c.loop-m.m-index
          c.m-item.result c.loop-m-test.true c.m-item.is c.mark.ensures.here c.mark.ensures.others
          x (was.only x hx);
    }
