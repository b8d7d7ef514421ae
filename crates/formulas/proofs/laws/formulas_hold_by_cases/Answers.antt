use Rattle.formulas.proofs.TruthLaws.{holds-by_cases, holds-only, holds-append}
use Rattle.formulas.proofs.laws.formulas_hold_by_cases.Goals as goal

pub returns-clause-cases : goal.returns-clause-cases
returns-clause-cases g c w dag ordered k f e x = holds-by_cases w dag ordered k f e x

pub returns-clause-only : goal.returns-clause-only
returns-clause-only g c w dag ordered told cases k h x =
    λ i. holds-only w dag ordered told cases k h i x

pub returns-clause-longer : goal.returns-clause-longer
returns-clause-longer g c w dag more ordered longer k h x =
    λ i. holds-append w dag more ordered longer k h i x
