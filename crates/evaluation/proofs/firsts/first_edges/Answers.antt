use Rattle.std.proofs.Common.{◌≡◌, ◌+◌, ◌<◌, ℕ, List, length, sym, ap, ◌∙◌, subst, arith}
use Rattle.std.specs.Prelude.{slice_index}
use Rattle.edge_store.specs.Edges.{below}
use Rattle.edge_store.proofs.Counts.{below_next}
use Rattle.evaluation.proofs.FirstLaws.{starts_step}
use Rattle.evaluation.proofs.firsts.first_edges.Goals as goal

pub loop-x-preserved : goal.loop-x-preserved
loop-x-preserved c =
    let x = c.loop-x.x in
    let is = c.in_ok-push.ensures.items in
    let step = starts_step x c.args.sources.now c.loop-x.firsts.items
    c.smaller_sources-at.result c.loop-x.invariant.len c.loop-x.invariant.each
    c.smaller_sources-at.ensures in
    record {
      len = ap length is ∙ step.0;
      each =
          subst (λ (l : List ℕ). (y : ℕ) → y < x + 1 → slice_index l y ≡ below y c.args.sources.now)
          (sym is) step.1;
      known = omega (arith, c.smaller_sources-at.ensures, below_next x c.args.sources.now);
    }
