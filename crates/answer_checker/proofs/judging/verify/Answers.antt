use Rattle.formula_text.specs.Answers.{certificate_of}
use Rattle.answer_checker.proofs.Texts.{text_given, readable}
use Rattle.answer_checker.proofs.judging.verify.Goals as goal

pub judge_text-requires : goal.judge_text-requires
judge_text-requires c =
    let (answers, read, is) =
    text_given c.in-Ok.text (certificate_of c.args.answer.now) c.in-Ok.ensures.good in
    record { readable = readable c.args.answer.now c.in-Ok.text answers c.requires read is }
