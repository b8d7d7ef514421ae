use Rattle.std.proofs.Common.{◌≤◌, subst}
use Rattle.refinable_partition.specs.Blocks.{Blocks, states_of}
use Rattle.refiner.proofs.CoarseSizes.{few_sized}
use Rattle.refiner.proofs.coarse.Coarse.is_laid_out.Goals as goal

pub returns-clause-few_blocks : goal.returns-clause-few_blocks
returns-clause-few_blocks c =
    subst (λ (q : Blocks). q.count ≤ states_of q) c.self.view_is
    (few_sized c.self.inside.of.items c.self.inside.sizes.items c.self.invariant)
