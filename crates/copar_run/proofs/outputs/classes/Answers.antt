use Rattle.std.proofs.Common.{◌≡◌, ◌∙◌, IsTrue, sym, subst}
use Rattle.std.specs.List.{list_all}
use Rattle.typing.specs.Contents.{content_of}
use Rattle.typing.specs.Values.{states_below}
use Rattle.typing.specs.Stable.{IsStable}
use Rattle.quotient_writer.specs.Blocks.{AreFirsts, first_states}
use Rattle.quotient_writer.specs.Quotient.{is_numbered}
use Rattle.quotient_writer.specs.Laws.{AreFirstEquivalents}
use Rattle.copar_run.specs.Blocks.{AreBlocks}
use Rattle.copar_run.specs.Minimal.{AreClasses}
use Rattle.copar_run.proofs.BlockLaws.{are_blocks}
use Rattle.copar_run.proofs.OnOk.{if_both}
use Rattle.copar_run.proofs.outputs.classes.Goals as goal

pub class_numbers-requires-clause-firsts : goal.class_numbers-requires-clause-firsts
class_numbers-requires-clause-firsts c =
    let is = c.in_ok-firsts in
    subst AreFirsts (sym c.as_slice.ensures.value)
    (c.first_equivalents_are_numbered.ensures.firsts c.args.c.now.term c.args.c.now.values.items
    is.firsts.items
    (record {
      stable = is.ensures.stable;
      coarsest = is.ensures.coarsest;
      first = is.ensures.first;
    }))

pub returns-clause-classes : goal.returns-clause-classes
returns-clause-classes c =
    let is = c.in_ok-firsts in
    let source = c.args.c.now in
    let are : AreFirstEquivalents source.term source.values.items is.firsts.items = record {
      stable = is.ensures.stable;
      coarsest = is.ensures.coarsest;
      first = is.ensures.first;
    } in
    if_both c.class_numbers.result (λ labels. IsTrue (is_numbered labels.items))
    (λ labels. first_states labels.items ≡ c.as_slice.result.now)
    (λ labels. AreClasses (content_of source) labels.items)
    (λ labels numbered same.
    (let known = c.first_equivalents_are_numbered.ensures.numbered source.term
    source.values.items is.firsts.items labels.items
    (subst (λ n. IsTrue (list_all (states_below n) source.values.items)) (sym source.one_each)
    source.in_range)
    are (same ∙ c.as_slice.ensures.value) in
    record { covers = known.covers; numbered = numbered; alike = known.alike }))
    c.class_numbers.ensures.numbered c.class_numbers.ensures.same_classes

pub returns-clause-stable : goal.returns-clause-stable
returns-clause-stable c =
    let is = c.in_ok-firsts in
    let source = c.args.c.now in
    let are : AreFirstEquivalents source.term source.values.items is.firsts.items = record {
      stable = is.ensures.stable;
      coarsest = is.ensures.coarsest;
      first = is.ensures.first;
    } in
    if_both c.class_numbers.result (λ labels. IsTrue (is_numbered labels.items))
    (λ labels. first_states labels.items ≡ c.as_slice.result.now)
    (λ labels. IsStable source.term source.values.items labels.items)
    (λ labels numbered same. (c.first_equivalents_are_numbered.ensures.numbered source.term
    source.values.items is.firsts.items labels.items
    (subst (λ n. IsTrue (list_all (states_below n) source.values.items)) (sym source.one_each)
    source.in_range)
    are (same ∙ c.as_slice.ensures.value)).stable)
    c.class_numbers.ensures.numbered c.class_numbers.ensures.same_classes

pub returns-clause-blocks : goal.returns-clause-blocks
returns-clause-blocks c =
    let is = c.in_ok-firsts in
    if_both c.class_numbers.result (λ labels. IsTrue (is_numbered labels.items))
    (λ labels. first_states labels.items ≡ c.as_slice.result.now)
    (λ labels. AreBlocks (content_of c.args.c.now) (first_states labels.items))
    (λ labels numbered same. subst (AreBlocks (content_of c.args.c.now))
    (sym (same ∙ c.as_slice.ensures.value))
    (are_blocks (content_of c.args.c.now) is.firsts.items is.ensures.stable
    is.ensures.coarsest is.ensures.first))
    c.class_numbers.ensures.numbered c.class_numbers.ensures.same_classes
