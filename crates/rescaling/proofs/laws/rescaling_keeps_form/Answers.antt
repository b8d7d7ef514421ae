use Rattle.rescaling.proofs.Forms.{rescaled-fits}
use Rattle.rescaling.proofs.Levels.{rescaled-states}
use Rattle.rescaling.proofs.Sums.{rescaled-sums}
use Rattle.rescaling.proofs.laws.rescaling_keeps_form.Goals as goal

pub returns-clause-fits : goal.returns-clause-fits
returns-clause-fits c = rescaled-fits

pub returns-clause-states : goal.returns-clause-states
returns-clause-states c k t p n v = rescaled-states n k t p v

pub returns-clause-sums : goal.returns-clause-sums
returns-clause-sums c k l t p v some h = rescaled-sums k l some t p v h
