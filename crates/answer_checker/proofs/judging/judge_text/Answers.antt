use Rattle.std.proofs.Common.{ℕ, List, map, Some, refl, sym, ap, ◌∙◌, subst}
use Rattle.std.specs.Prelude.{None}
use Rattle.std.proofs.lemmas.Result.{IfOk-weaker}
use Rattle.typing.specs.Contents.{Content, content_of}
use Rattle.satisfaction.specs.Satisfaction.{holds_at}
use Rattle.formula_text.specs.Answers.{Answer}
use Rattle.formula_text.specs.Reading.{IsTextOf, block_seen}
use Rattle.answer_checker.specs.BadLines.{least_line, is_unfit}
use Rattle.answer_checker.specs.Verdicts.{block_line, block_lines, lines_seen, IsJudged, IsVerdictOf}
use Rattle.answer_checker.specs.declared.verdict.Verdict.TheVariants.{BadLine}
use Rattle.answer_checker.proofs.LeastLines.{unfit_seen}
use Rattle.answer_checker.proofs.judging.judge_text.Goals as goal

pub returns-in-Some-clause-verdict : goal.returns-in-Some-clause-verdict
returns-in-Some-clause-verdict c answers is =
    let content : Content = content_of c.args.c.now in
    subst (λ o. IsVerdictOf content answers o (BadLine c.in-Some.line))
    (sym (unfit_seen content c.args.text.now answers c.as_slice.result.now c.as_slice-2.result.now
    c.least_misfit-misfit.result c.least_stranger-stranger.result (Some c.in-Some.line) is
    c.as_slice.ensures.value c.as_slice-2.ensures.value c.least_misfit-misfit.ensures
    c.least_stranger-stranger.ensures c.in-Some.ensures))
    refl

pub returns-in-None-clause-verdict : goal.returns-in-None-clause-verdict
returns-in-None-clause-verdict c =
    let content : Content = content_of c.args.c.now in
    let names = c.args.c.now.names in
    IfOk-weaker c.judge.result
    (IsJudged content (holds_at content c.args.text.now.dag)
    (lines_seen names c.as_slice-in-None.result.now))
    (λ v. (answers : List (ℕ × Answer)) → IsTextOf c.args.text.now answers →
    IsVerdictOf content answers (least_line (is_unfit content) answers) v)
    (λ v judged answers is.
    subst (λ o. IsVerdictOf content answers o v)
    (sym (unfit_seen content c.args.text.now answers c.as_slice.result.now c.as_slice-2.result.now
    c.least_misfit-misfit.result c.least_stranger-stranger.result None is
    c.as_slice.ensures.value c.as_slice-2.ensures.value c.least_misfit-misfit.ensures
    c.least_stranger-stranger.ensures c.in-None.ensures))
    (subst (λ fs. IsJudged content (holds_at content fs) (block_lines content answers) v)
    is.formulas
    (subst (λ bs. IsJudged content (holds_at content c.args.text.now.dag)
    (map (block_line names) bs) v)
    (ap (map block_seen) c.as_slice-in-None.ensures.value ∙ is.blocks) judged)))
    c.judge.ensures.verdict
