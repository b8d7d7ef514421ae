use Rattle.structure_writer.specs.Text.{canonical}
use Rattle.structure_writer.proofs.ReadBack.{same-fractions}
use Rattle.structure_writer.proofs.TextSpells.{text-spells}
use Rattle.structure_writer.proofs.laws.texts_are_read_back.Goals as goal

pub returns : goal.returns
returns c d e well read = same-fractions (canonical d) d e (text-spells d well) read
