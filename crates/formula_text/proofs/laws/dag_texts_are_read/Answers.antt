use Rattle.formula_text.proofs.ReadBack.{dag_of-text}
use Rattle.formula_text.proofs.laws.dag_texts_are_read.Goals as goal

pub returns : goal.returns
returns c = dag_of-text
