use Rattle.rescaling.proofs.SameFractions.{same-stability, same-equivalence}
use Rattle.rescaling.proofs.laws.same_fractions_same_equivalence.Goals as goal

pub returns-clause-stable : goal.returns-clause-stable
returns-clause-stable c = same-stability

pub returns-clause-equivalent : goal.returns-clause-equivalent
returns-clause-equivalent c = same-equivalence
