use Rattle.weights.specs.FractionLaws.{lowest_terms-scaled}
use Rattle.rescaling.proofs.SameFractions.{weights-stay}
use Rattle.rescaling.proofs.laws.lowest_terms_stay.Goals as goal

pub returns-clause-multiple : goal.returns-clause-multiple
returns-clause-multiple c w l k some more = lowest_terms-scaled w l k some more

pub returns-clause-rescaled : goal.returns-clause-rescaled
returns-clause-rescaled c = weights-stay
