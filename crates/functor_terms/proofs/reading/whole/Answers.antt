use Rattle.std.proofs.lemmas.Result.{err_from_is_err_and}
use Rattle.functor_terms.specs.Ahead.{others}
use Rattle.functor_terms.proofs.TermReading.{part-err, part-is, part-more}
use Rattle.functor_terms.proofs.reading.whole.Goals as goal

pub returns-in_err-part-clause-grammar : goal.returns-in_err-part-clause-grammar
returns-in_err-part-clause-grammar c =
    let p = err_from_is_err_and c.from_residual.result c.from_residual.ensures.1 in
    rw (p.1, p.2) (part-err c.args.ahead c.in_err-part.field-0.0 c.in_err-part.ensures)

pub returns-in-None-clause-part : goal.returns-in-None-clause-part
returns-in-None-clause-part c = part-is c.args.ahead c.in_ok-part.part c.in_ok-part.behind
    c.in_ok-part.ensures c.in-None.ensures

pub returns-clause-grammar : goal.returns-clause-grammar
returns-clause-grammar c e = part-more c.args.ahead c.in_ok-part.part c.in_ok-part.behind
    c.in_ok-part.ensures c.in-Some.field-0.now (others c.in_ok-part.behind) c.in-Some.ensures.0
