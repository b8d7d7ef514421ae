use Rattle.rescaling.proofs.SameFractions.{normal-forms}
use Rattle.rescaling.proofs.Scaled.{scaled-rescaled}
use Rattle.rescaling.proofs.laws.values_over_a_multiple.Goals as goal

pub returns-clause-scaled : goal.returns-clause-scaled
returns-clause-scaled c = scaled-rescaled

pub returns-clause-normal : goal.returns-clause-normal
returns-clause-normal c = normal-forms
