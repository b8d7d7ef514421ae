use Rattle.rescaling.proofs.Apart.{rescaled-tells}
use Rattle.rescaling.proofs.laws.rescaling_tells_values_apart.Goals as goal

pub returns : goal.returns
returns c k t p u v some e = rescaled-tells k some t p u v e
