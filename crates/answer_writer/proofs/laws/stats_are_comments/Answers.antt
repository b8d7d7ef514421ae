use Rattle.answer_writer.proofs.StatsLaws.{stats_comment}
use Rattle.answer_writer.proofs.laws.stats_are_comments.Goals as goal

pub returns : goal.returns
returns c = stats_comment
