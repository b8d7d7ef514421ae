use Rattle.answer_checker.proofs.RightAnswers.{passing_right}
use Rattle.answer_checker.proofs.laws.passing_answers_are_right.Goals as goal

pub returns : goal.returns
returns c content term within dag ordered lines cited passes =
    passing_right content term within dag ordered lines cited passes
