use Rattle.functor_terms.proofs.PartLaws.{spells_a_term}
use Rattle.functor_terms.proofs.ReadingLaws.{one_term}
use Rattle.functor_terms.proofs.laws.one_reading.Goals as goal

pub returns-clause-one : goal.returns-clause-one
returns-clause-one c text t u a b = one_term text t u a b

pub returns-clause-term : goal.returns-clause-term
returns-clause-term c text t spelled = spells_a_term text t spelled
