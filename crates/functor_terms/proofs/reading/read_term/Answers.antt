use Rattle.std.proofs.lemmas.Result.{err_from_is_err_and}
use Rattle.functor_terms.proofs.TermReading.{term-err, term-is}
use Rattle.functor_terms.proofs.reading.read_term.Goals as goal

pub returns-in_err-part-clause-grammar : goal.returns-in_err-part-clause-grammar
returns-in_err-part-clause-grammar c =
    let p = err_from_is_err_and c.from_residual.result c.from_residual.ensures.1 in
    rw (p.1, p.2) (term-err c.args.text.now c.of.result c.in_err-part.field-0.0 c.of.ensures
    c.in_err-part.ensures.grammar)

pub returns-clause-term : goal.returns-clause-term
returns-clause-term c = term-is c.args.text.now c.of.result c.in_ok-part.part
    c.in_ok-into_term.field-0 c.of.ensures c.in_ok-part.ensures.part c.in_ok-into_term.ensures
