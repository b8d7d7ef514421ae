use Rattle.std.proofs.Common.{◌≡◌, ◌++◌, ◌<◌, ◌^◌, length, arith, ap, sym, subst, ◌∙◌}
use Rattle.std.specs.List.{All}
use Rattle.std.proofs.lemmas.Result.{IfOk-weaker}
use Rattle.std.proofs.lemmas.Slice.Zip.{AllZip-long}
use Rattle.typing.specs.Contents.{content_of}
use Rattle.state_certificates.specs.Explained.{IsExplanation}
use Rattle.formula_text.specs.Answers.{answers_of, dag_of}
use Rattle.formula_text.specs.Texts.{text_of_answers}
use Rattle.answer_writer.specs.Lines.{pair_lines, IsPairOf}
use Rattle.copar_run.specs.Explained.{pairs_of}
use Rattle.copar_run.proofs.AnswerLaws.{pairs-named, verdicts-there}
use Rattle.copar_run.proofs.outputs.explained.Goals as goal

pub explain_pairs-requires-clause-are_there : goal.explain_pairs-requires-clause-are_there
explain_pairs-requires-clause-are_there c =
    let source = c.args.c.now in
    subst (λ ps. All (λ pair. (pair.0 < length source.values.items)
    × (pair.1 < length source.values.items)) ps)
    (sym (c.as_slice.ensures.value ∙ c.in_ok-pairs.ensures))
    (pairs-named (length source.values.items) c.args.numbers.now
    (subst (λ n. All (λ i. i < n) c.args.numbers.now) (sym source.one_each) c.requires.named))

pub explanation_text-requires-clause-named : goal.explanation_text-requires-clause-named
explanation_text-requires-clause-named c =
    subst (λ ps. All (IsPairOf c.args.c.now.names) ps)
    (sym (c.as_slice-2.ensures.value ∙ c.in_ok-pairs.ensures))
    (pairs-named (length c.args.c.now.names) c.args.numbers.now c.requires.named)

pub explanation_text-requires-clause-one_each : goal.explanation_text-requires-clause-one_each
explanation_text-requires-clause-one_each c =
    ap length c.as_slice-3.ensures.value
    ∙ AllZip-long _ _ _ c.in_ok-explanation.ensures.each
    ∙ ap length (c.as_slice.ensures.value ∙ sym c.as_slice-2.ensures.value)

pub returns : goal.returns
returns c =
    let found = c.in_ok-explanation.explanation in
    let source = content_of c.args.c.now in
    let pairs = pairs_of c.args.numbers.now in
    let verdicts = found.verdicts.items in
    let is : IsExplanation source pairs found.dag verdicts =
    subst (λ ps. IsExplanation source ps found.dag verdicts)
    (c.as_slice.ensures.value ∙ c.in_ok-pairs.ensures) c.in_ok-explanation.ensures in
    let few : length found.dag < 2 ^ 32 = c.is_dag.ensures.few in
    let named = pairs-named (length source.names) c.args.numbers.now c.requires.named in
    let there = verdicts-there source found.dag pairs verdicts is.each in
    IfOk-weaker c.explanation_text.result _ _
    (λ output text words numbered.
    let same : output.items
    ≡ text_of_answers found.dag (pair_lines source.names pairs verdicts) =
    text
    ∙ ap (λ ps. text_of_answers found.dag (pair_lines source.names ps
    c.as_slice-3.result.now)) (c.as_slice-2.ensures.value ∙ c.in_ok-pairs.ensures)
    ∙ ap (λ vs. text_of_answers found.dag (pair_lines source.names pairs vs))
    c.as_slice-3.ensures.value in
    record {
      numbers = c.args.numbers.now;
      dag = found.dag;
      verdicts = verdicts;
      named = numbered;
      explains = is;
      text = same;
      read = λ note comment.
          ap (λ z. answers_of (z ++ note)) same
          ∙ c.pair_lines_can_be_said.ensures.texts found.dag source.names pairs verdicts note
          is.ordered is.writable few c.are_names.ensures named there comment;
      formulas = λ note comment.
          ap (λ z. dag_of (z ++ note)) same
          ∙ c.pair_lines_can_be_said.ensures.formulas found.dag source.names pairs verdicts note
          is.ordered is.writable few c.are_names.ensures named there comment;
    })
    c.explanation_text.ensures.line_for_each
