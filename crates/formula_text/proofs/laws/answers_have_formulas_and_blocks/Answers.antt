use Rattle.formula_text.proofs.ReadBack.{formulas_in_front, blocks_behind, no_pairs}
use Rattle.formula_text.proofs.laws.answers_have_formulas_and_blocks.Goals as goal

pub returns-clause-formulas : goal.returns-clause-formulas
returns-clause-formulas c = formulas_in_front

pub returns-clause-blocks : goal.returns-clause-blocks
returns-clause-blocks c = blocks_behind

pub returns-clause-no_pair : goal.returns-clause-no_pair
returns-clause-no_pair c = no_pairs
