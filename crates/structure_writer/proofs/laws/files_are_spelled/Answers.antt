use Rattle.structure_writer.proofs.ReadBack.{same-fractions}
use Rattle.structure_writer.proofs.laws.files_are_spelled.Goals as goal

pub returns : goal.returns
returns c = same-fractions
