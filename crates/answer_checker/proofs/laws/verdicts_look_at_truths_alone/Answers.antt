use Rattle.std.proofs.Common.{List, sym, subst}
use Rattle.formula_text.specs.Answers.{certificate_of}
use Rattle.answer_checker.specs.Blocks.{BlockLine}
use Rattle.answer_checker.specs.Verdicts.{answers_read, IsVerdictOf, IsJudged}
use Rattle.answer_checker.specs.Laws.{truths_of, lines_of_text}
use Rattle.answer_checker.proofs.Alone.{same_verdict}
use Rattle.answer_checker.proofs.laws.verdicts_look_at_truths_alone.Goals as goal

pub returns : goal.returns
returns c content a b good good' lines truths v is =
    let judged : IsJudged content (truths_of content a) (lines_of_text content a) v =
    subst (λ o. IsVerdictOf content (answers_read (certificate_of a)) o v) good is in
    subst (λ o. IsVerdictOf content (answers_read (certificate_of b)) o v) (sym good')
    (subst (λ (ls : List BlockLine). IsJudged content (truths_of content b) ls v) lines
    (same_verdict content (lines_of_text content a) (truths_of content a) (truths_of content b)
    truths
    v judged))
