use Rattle.structure_writer.proofs.Accepted.{only-bounds}
use Rattle.structure_writer.proofs.laws.only_bounds_refuse_texts.Goals as goal

pub returns : goal.returns
returns c = only-bounds
