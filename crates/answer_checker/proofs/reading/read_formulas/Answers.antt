use Rattle.std.proofs.Common.{◌∙◌, length, ap, sym}
use Rattle.formula_text.specs.Answers.{answers_of}
use Rattle.formula_text.specs.Reading.{lines_of_formulas}
use Rattle.answer_checker.specs.BadLines.{bad_line, is_misfit}
use Rattle.answer_checker.specs.LineSteps.{least_of_formulas}
use Rattle.answer_checker.proofs.LeastLines.{one_line_each, misfit_lines, all_fit}
use Rattle.answer_checker.proofs.Texts.{text_given}
use Rattle.answer_checker.proofs.reading.read_formulas.Goals as goal

pub least_misfit-requires : goal.least_misfit-requires
least_misfit-requires c =
    let (answers, read, is) = text_given c.in-Ok.text (answers_of c.args.bytes.now)
    c.in-Ok.ensures.good in
    record {
      one_each =
          ap length (c.as_slice.ensures.value ∙ is.lines) ∙ one_line_each answers
          ∙ sym (ap length is.formulas);
    }

pub returns-in-None-clause-fitting : goal.returns-in-None-clause-fitting
returns-in-None-clause-fitting c =
    let (answers, read, is) = text_given c.in-Ok.text (answers_of c.args.bytes.now)
    c.in-Ok.ensures.good in
    all_fit c.args.term.now c.in-Ok.text.dag c.as_slice.result.now
    (ap length (c.as_slice.ensures.value ∙ is.lines) ∙ one_line_each answers
    ∙ sym (ap length is.formulas))
    (sym c.in-None.ensures)

pub returns-in-Some-clause-bad : goal.returns-in-Some-clause-bad
returns-in-Some-clause-bad c =
    let t = c.args.term.now in
    let (answers, read, is) = text_given c.in-Ok.text (answers_of c.args.bytes.now)
    c.in-Ok.ensures.good in
    ap (bad_line (is_misfit t)) read ∙ misfit_lines t answers
    ∙ ap (λ fs. least_of_formulas t fs (lines_of_formulas answers)) (sym is.formulas)
    ∙ ap (least_of_formulas t c.in-Ok.text.dag) (sym (c.as_slice.ensures.value ∙ is.lines))
    ∙ sym c.in-Some.ensures

pub returns-in-None-clause-clear : goal.returns-in-None-clause-clear
returns-in-None-clause-clear c =
    let t = c.args.term.now in
    let (answers, read, is) =
    text_given c.in-Ok.text (answers_of c.args.bytes.now) c.in-Ok.ensures.good in
    ap (bad_line (is_misfit t)) read ∙ misfit_lines t answers
    ∙ ap (λ fs. least_of_formulas t fs (lines_of_formulas answers)) (sym is.formulas)
    ∙ ap (least_of_formulas t c.in-Ok.text.dag) (sym (c.as_slice.ensures.value ∙ is.lines))
    ∙ sym c.in-None.ensures
