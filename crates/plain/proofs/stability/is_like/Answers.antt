use Rattle.functor_terms.proofs.TermLaws.{term-some}
use Rattle.plain.proofs.stability.is_like.Goals as goal

pub are_equal-requires-clause-node : goal.are_equal-requires-clause-node
are_equal-requires-clause-node c = (term-some c.args.term.now c.is_term.ensures).0
