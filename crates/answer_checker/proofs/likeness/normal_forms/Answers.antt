use Rattle.std.proofs.Common.{◌≡◌, ◌+◌, List, Some, length, take, refl, sym, ap, ◌∙◌, subst}
use Rattle.std.specs.Prelude.{slice_get}
use Rattle.std.specs.List.{AllZip}
use Rattle.std.proofs.lemmas.List.Elements.{all_zip_more}
use Rattle.std.proofs.lemmas.Option.{slice_get_read}
use Rattle.typing.specs.declared.value.Value.{Value}
use Rattle.typing.specs.NormalForms.{IsRelabelledAt}
use Rattle.typing.proofs.Within.{each_bounded}
use Rattle.answer_checker.proofs.likeness.normal_forms.Goals as goal

pub relabel-requires-clause-bounded : goal.relabel-requires-clause-bounded
relabel-requires-clause-bounded c =
    let values : List Value = c.args.c.now.values.items in
    let read : slice_get c.as_slice-value-items.result.now c.loop-value.value-index
    ≡ Some c.value-item.result =
    slice_get_read c.as_slice-value-items.result.now (length c.as_slice-value-items.result.now)
    c.loop-value.value-index c.value-item.result refl c.loop-value-test.true c.value-item.is in
    each_bounded values c.args.c.now.in_bounds c.loop-value.value-index c.value-item.result
    (ap (λ (vs : List Value). slice_get vs c.loop-value.value-index)
    (sym c.as_slice-value-items.ensures.value) ∙ read)

pub loop-value-preserved : goal.loop-value-preserved
loop-value-preserved c =
    let R : Value → Value → Type 0 = IsRelabelledAt c.args.c.now.term c.args.numbers.now 0 in
    let is : R c.value-item.result c.in_ok-relabel.field-0 =
    record {
      fitting = c.in_ok-relabel.ensures.fitting;
      normal = c.in_ok-relabel.ensures.normal;
      equal = c.in_ok-relabel.ensures.equal;
      in_range = c.in_ok-relabel.ensures.in_range;
    } in
    subst (λ (rs : List Value). AllZip R
    (take (c.loop-value.value-index + 1) c.as_slice-value-items.result.now) rs)
    (sym c.in_ok-push.ensures.items)
    (all_zip_more R c.as_slice-value-items.result.now c.loop-value.forms.items
    c.loop-value.value-index c.value-item.result c.in_ok-relabel.field-0 c.loop-value-test.true
    c.value-item.is c.loop-value.invariant is)
