use Rattle.structure_writer.proofs.TextSpells.{text-spells}
use Rattle.structure_writer.proofs.laws.texts_spell.Goals as goal

pub returns : goal.returns
returns c = text-spells
