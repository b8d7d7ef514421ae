use Rattle.file_sizes.proofs.FileSizes.{accepted_few}
use Rattle.file_sizes.proofs.laws.accepted_files_are_few.Goals as goal

pub returns : goal.returns
returns c = accepted_few
