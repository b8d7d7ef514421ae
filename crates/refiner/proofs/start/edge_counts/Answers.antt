use Rattle.std.proofs.Common.{◌∙◌, length, ap, arith}
use Rattle.edge_store.specs.Edges.{sources_of}
use Rattle.refiner.proofs.CellSizes.{counts_more, edges_many}
use Rattle.refiner.proofs.start.edge_counts.Goals as goal

pub loop-x-preserved : goal.loop-x-preserved
loop-x-preserved g c =
    let E = c.args.store.now.edges in
    let many = ap length c.from_state.ensures.labels ∙ edges_many E c.loop-x.x in
    record {
      one_each = omega (arith, c.in_ok-push.ensures.len, c.loop-x.invariant.one_each);
      counts = counts_more (sources_of E) c.loop-x.found.items c.push.new.self.items c.loop-x.x
          (length c.from_state.result.now) c.in_ok-push.ensures.items c.loop-x.invariant.one_each
          many c.loop-x.invariant.counts;
    }
