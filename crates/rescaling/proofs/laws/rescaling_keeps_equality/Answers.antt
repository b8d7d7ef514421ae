use Rattle.rescaling.proofs.Kept.{rescaled-equal}
use Rattle.rescaling.proofs.laws.rescaling_keeps_equality.Goals as goal

pub returns : goal.returns
returns c k t p u v some hu hv = rescaled-equal k some t p u v hu hv
