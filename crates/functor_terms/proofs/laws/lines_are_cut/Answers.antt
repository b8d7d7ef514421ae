use Rattle.functor_terms.proofs.CutLaws.{texts_are_cut, one_cut}
use Rattle.functor_terms.proofs.laws.lines_are_cut.Goals as goal

pub returns-clause-each : goal.returns-clause-each
returns-clause-each c text = texts_are_cut text

pub returns-clause-one : goal.returns-clause-one
returns-clause-one c text tokens cut = one_cut text tokens cut
