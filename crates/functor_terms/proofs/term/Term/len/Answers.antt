use Rattle.std.proofs.Common.{arith}
use Rattle.functor_terms.proofs.TermLaws.{term-some}
use Rattle.functor_terms.proofs.term.Term.len.Goals as goal

pub overflow_cast-result : goal.overflow_cast-result
overflow_cast-result c = let (some, few) = term-some _ c.self.invariant in
    omega (arith, few, c.len.ensures)
