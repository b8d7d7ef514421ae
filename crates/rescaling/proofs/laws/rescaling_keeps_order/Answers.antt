use Rattle.rescaling.proofs.Kept.{rescaled-order, rescaled-normal}
use Rattle.rescaling.proofs.laws.rescaling_keeps_order.Goals as goal

pub returns-clause-order : goal.returns-clause-order
returns-clause-order c k t p u v some hu hv = rescaled-order k some t p u v hu hv

pub returns-clause-normal : goal.returns-clause-normal
returns-clause-normal c k t p v some h = rescaled-normal k some t p v h
