use Rattle.structures.proofs.Unmerged.{same_count}
use Rattle.structures.proofs.laws.nothing_is_merged.Goals as goal

pub returns : goal.returns
returns c = record { counts = same_count }
