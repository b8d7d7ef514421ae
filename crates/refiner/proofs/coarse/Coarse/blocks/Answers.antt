use Rattle.std.proofs.Common.{arith}
use Rattle.refiner.proofs.CoarseSizes.{few_sized}
use Rattle.refiner.proofs.coarse.Coarse.blocks.Goals as goal

pub overflow_cast-result : goal.overflow_cast-result
overflow_cast-result c =
    omega (
      arith,
      few_sized c.self.inside.of.items c.self.inside.sizes.items c.self.invariant,
      c.self.invariant.few,
    )
