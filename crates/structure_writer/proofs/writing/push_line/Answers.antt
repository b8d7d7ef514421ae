use Rattle.functor_terms.proofs.TermLaws.{term-some}
use Rattle.structure_writer.proofs.writing.push_line.Goals as goal

pub push_value-requires-clause-node : goal.push_value-requires-clause-node
push_value-requires-clause-node c = (term-some c.args.term.now c.is_term.ensures).0
