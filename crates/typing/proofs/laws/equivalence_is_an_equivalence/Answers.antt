use Rattle.typing.proofs.StableLaws.{equivalent-refl, equivalent-trans}
use Rattle.typing.proofs.laws.equivalence_is_an_equivalence.Goals as goal

pub returns-clause-reflexive : goal.returns-clause-reflexive
returns-clause-reflexive c t values within = equivalent-refl t values within

pub returns-clause-transitive : goal.returns-clause-transitive
returns-clause-transitive c t values within = equivalent-trans t values within
