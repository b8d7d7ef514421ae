use Rattle.trial_files.proofs.Accepted.{texts-short}
use Rattle.trial_files.proofs.laws.trial_texts_are_short.Goals as goal

pub returns : goal.returns
returns c = texts-short
