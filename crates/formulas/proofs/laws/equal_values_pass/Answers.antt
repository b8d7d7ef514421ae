use Rattle.formulas.proofs.TruthLaws.{is_value-tells}
use Rattle.formulas.proofs.laws.equal_values_pass.Goals as goal

pub returns : goal.returns
returns c a b = is_value-tells a b
