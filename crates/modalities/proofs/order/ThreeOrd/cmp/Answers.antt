use Rattle.std.proofs.Common.{◌≡◌, ◌↔◌, sym, subst}
use Rattle.std.specs.declared.cmp.Ordering.TheVariants.{Equal}
use Rattle.modalities.specs.OrderLaws.{three_equal_exactly}
use Rattle.modalities.proofs.order.ThreeOrd.cmp.Goals as goal

pub returns-clause-equal_exactly : goal.returns-clause-equal_exactly
returns-clause-equal_exactly c =
    subst (λ r. r ≡ Equal ↔ (c.args.self.now ≡ c.args.other.now)) (sym c.compared.ensures)
    (three_equal_exactly c.args.self.now c.args.other.now)
