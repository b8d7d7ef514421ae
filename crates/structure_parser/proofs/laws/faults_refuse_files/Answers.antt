use Rattle.structure_parser.proofs.FileLaws.{faults-refuse}
use Rattle.structure_parser.proofs.laws.faults_refuse_files.Goals as goal

pub returns : goal.returns
returns c = faults-refuse c.one_reading.ensures.one
