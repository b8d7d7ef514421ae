use Rattle.formula_builder.proofs.Cutting.{no_longer}
use Rattle.formula_builder.proofs.laws.cited_formulas_are_old.Goals as goal

pub returns-clause-no_more : goal.returns-clause-no_more
returns-clause-no_more c = no_longer
