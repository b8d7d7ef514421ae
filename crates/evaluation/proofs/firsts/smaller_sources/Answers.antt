use Rattle.std.proofs.Common.{arith}
use Rattle.evaluation.proofs.FirstLaws.{below_more, below_done}
use Rattle.evaluation.proofs.firsts.smaller_sources.Goals as goal

pub loop-at-preserved : goal.loop-at-preserved
loop-at-preserved c =
    let more = below_more c.args.x c.loop-at.at c.args.sources.now c.requires.ascending
    c.loop-at-test.true c.if-sources-at.true in
    omega (arith, more)

pub returns-else-sources-at : goal.returns-else-sources-at
returns-else-sources-at c =
    let done = below_done c.args.x c.loop-at.at c.args.sources.now c.requires.ascending
    c.loop-at-test.true c.if-sources-at.false in
    omega (arith, done)
