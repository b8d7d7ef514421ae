use Rattle.formula_text.proofs.ReadBack.{answers_of-text, certificate_of-text, dag_of-answers}
use Rattle.formula_text.proofs.laws.answer_texts_are_read.Goals as goal

pub returns-clause-answers : goal.returns-clause-answers
returns-clause-answers c = answers_of-text

pub returns-clause-certificates : goal.returns-clause-certificates
returns-clause-certificates c = certificate_of-text

pub returns-clause-formulas : goal.returns-clause-formulas
returns-clause-formulas c = dag_of-answers
