use Rattle.fitting.proofs.ListLengths.{lists-short}
use Rattle.fitting.proofs.laws.lists_are_short.Goals as goal

pub returns : goal.returns
returns c = lists-short
