use Rattle.formula_text.specs.Answers.{certificate_of}
use Rattle.answer_checker.specs.BadLines.{bad_answer_line}
use Rattle.answer_checker.specs.Verdicts.{answers_read}
use Rattle.answer_checker.proofs.Alone.{one_verdict}
use Rattle.answer_checker.proofs.laws.there_is_one_verdict.Goals as goal

pub returns : goal.returns
returns c content bytes v w a b =
    one_verdict content (answers_read (certificate_of bytes)) (bad_answer_line content bytes) v w a
    b
