use Rattle.command_line.proofs.Taken.{plain-taken, flagged-taken}
use Rattle.command_line.proofs.laws.plain_words_are_taken.Goals as goal

pub returns : goal.returns
returns c = record { plain = plain-taken; flagged = flagged-taken }
