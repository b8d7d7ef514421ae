use Rattle.rescaling.proofs.Levels.{rescaled-commutes}
use Rattle.rescaling.proofs.laws.rescaling_commutes_with_relabelling.Goals as goal

pub returns : goal.returns
returns c k t p b v = rescaled-commutes b k t p v
