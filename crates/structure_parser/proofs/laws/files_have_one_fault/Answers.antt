use Rattle.structure_parser.proofs.FileLaws.{one-fault}
use Rattle.structure_parser.proofs.laws.files_have_one_fault.Goals as goal

pub returns : goal.returns
returns c = one-fault c.one_reading.ensures.one
