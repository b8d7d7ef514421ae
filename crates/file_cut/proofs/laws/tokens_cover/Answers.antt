use Rattle.file_cut.proofs.CutLaws.{tokens-cut}
use Rattle.file_cut.proofs.laws.tokens_cover.Goals as goal

pub returns : goal.returns
returns c line = tokens-cut 0 line
