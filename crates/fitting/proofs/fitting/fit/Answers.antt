use Rattle.functor_terms.proofs.TermLaws.{term-some}
use Rattle.fitting.proofs.FitNumerals.{gives-numerals}
use Rattle.fitting.proofs.fitting.fit.Goals as goal

pub fit_at-requires : goal.fit_at-requires
fit_at-requires c = (term-some c.args.term.now c.is_term.ensures).0

pub returns-clause-numerals : goal.returns-clause-numerals
returns-clause-numerals c =
    gives-numerals c.args.term.now c.args.names.now 0 c.args.tree.now c.fit_at.result
    c.fit_at.ensures
