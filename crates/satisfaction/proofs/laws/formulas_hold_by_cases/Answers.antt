use Rattle.formulas.proofs.TruthLaws.{holds-by_cases, holds-append}
use Rattle.satisfaction.specs.Satisfaction.{layers_of}
use Rattle.satisfaction.proofs.laws.formulas_hold_by_cases.Goals as goal

pub returns-clause-cases : goal.returns-clause-cases
returns-clause-cases c t d values dag ordered k f e x =
    holds-by_cases (layers_of t d values) dag ordered k f e x

pub returns-clause-longer : goal.returns-clause-longer
returns-clause-longer c t d values dag more ordered longer k h x =
    λ i. holds-append (layers_of t d values) dag more ordered longer k h i x
