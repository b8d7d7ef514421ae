use Rattle.functor_terms.proofs.TextLaws.{texts_spell}
use Rattle.functor_terms.proofs.laws.texts_spell_terms.Goals as goal

pub returns : goal.returns
returns c t is = texts_spell t is
