use Rattle.evaluation.proofs.BitLaws.{bit_is_set, others_stay}
use Rattle.evaluation.proofs.bits.set_bit.Goals as goal

pub returns-clause-set : goal.returns-clause-set
returns-clause-set c = bit_is_set c.args.words.now c.args.n c.requires.inside

pub returns-clause-others : goal.returns-clause-others
returns-clause-others c x apart = others_stay c.args.words.now c.args.n c.requires.inside x apart
