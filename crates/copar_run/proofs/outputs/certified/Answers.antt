use Rattle.std.proofs.Common.{◌≡◌, ◌++◌, ◌<◌, ◌^◌, map, length, arith, ap, sym, subst, ◌∙◌}
use Rattle.std.specs.List.{All}
use Rattle.std.proofs.lemmas.Result.{IfOk-weaker}
use Rattle.typing.specs.Contents.{content_of}
use Rattle.formula_text.specs.Answers.{certificate_of}
use Rattle.formula_text.specs.Texts.{text_of_answers}
use Rattle.answer_writer.specs.Lines.{AreStatesOf, block_lines}
use Rattle.copar_run.proofs.AnswerLaws.{all-before-map, states-named, blocks-said, formulas-there}
use Rattle.copar_run.proofs.outputs.certified.Goals as goal

pub certificate_text-requires-clause-named : goal.certificate_text-requires-clause-named
certificate_text-requires-clause-named c =
    let found = c.in_ok-certificate.certificate in
    let source = content_of c.args.c.now in
    let named : All (λ b. AreStatesOf source.names b) (map (λ v. v.items) found.blocks.items) =
    states-named source found.dag found.formulas.items (map (λ v. v.items) found.blocks.items)
    c.in_ok-certificate.ensures c.args.c.now.one_each in
    subst (λ vs. All (λ v. AreStatesOf source.names v.items) vs) (sym c.as_slice-2.ensures.value)
    (all-before-map (AreStatesOf source.names) (λ v. v.items) found.blocks.items named)

pub returns : goal.returns
returns c =
    let found = c.in_ok-certificate.certificate in
    let source = content_of c.args.c.now in
    let blocks = map (λ v. v.items) found.blocks.items in
    let is = c.in_ok-certificate.ensures in
    let one = c.args.c.now.one_each in
    let few : length found.dag < 2 ^ 32 = c.is_dag.ensures.few in
    IfOk-weaker c.certificate_text.result _ _
    (λ output text.
    let same : output.items
    ≡ text_of_answers found.dag (block_lines source.names found.formulas.items blocks) =
    text
    ∙ ap (λ fs. text_of_answers found.dag (block_lines source.names fs
    (map (λ v. v.items) c.as_slice-2.result.now))) c.as_slice.ensures.value
    ∙ ap (λ vs. text_of_answers found.dag (block_lines source.names found.formulas.items
    (map (λ v. v.items) vs))) c.as_slice-2.ensures.value in
    record {
      dag = found.dag;
      formulas = found.formulas.items;
      blocks = blocks;
      certifies = is;
      text = same;
      read = λ note comment.
          ap (λ z. certificate_of (z ++ note)) same
          ∙ c.block_lines_can_be_said.ensures.texts found.dag source.names found.formulas.items
          blocks note is.ordered is.writable few c.are_names.ensures
          (formulas-there source found.dag found.formulas.items blocks is one)
          (blocks-said source found.dag found.formulas.items blocks is one) comment;
    })
    c.certificate_text.ensures.line_for_each
