use Rattle.file_cut.proofs.RawLaws.{raw-cover}
use Rattle.file_cut.proofs.laws.lines_cover.Goals as goal

pub returns : goal.returns
returns c bytes = raw-cover bytes
