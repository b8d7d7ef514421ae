use Rattle.std.proofs.Common.{◌≡◌, ℕ, ◌<◌, ◌^◌, ◌++◌, true, List, [], ◌∷◌, Some, slice_get, get_or, length, refl, sym, ap, ◌∙◌, subst, arith}
use Rattle.std.specs.Prelude.{if◌then◌else◌}
use Rattle.std.proofs.lemmas.Option.{slice_get_read, slice_get-get_or}
use Rattle.typing.specs.declared.value.Value.{Value}
use Rattle.std.specs.List.{list_all}
use Rattle.functor_terms.specs.Terms.{Nodes}
use Rattle.typing.specs.Bounds.{is_within, weights_hold}
use Rattle.typing.specs.Fits.{fits}
use Rattle.typing.specs.Order.{is_normal}
use Rattle.functor_terms.proofs.NamesLemmas.{word_is_name}
use Rattle.typing.specs.NormalForms.{IsRelabelledAt}
use Rattle.typing.proofs.StableLaws.{element}
use Rattle.typing.proofs.Within.{each_bounded}
use Rattle.quotient_writer.proofs.Picks.{picking_none, picking_old, picking_new, name_is_new, picked_all, end-one_each, end-fitting, end-normal, end-in_range, end-kept}
use Rattle.typing.proofs.KeptWeights.{form-weights, form-within}
use Rattle.quotient_writer.proofs.QuotientLaws.{made-IsQuotient}
use Rattle.quotient_writer.proofs.making.quotient.Goals as goal
use Rattle.quotient_writer.proofs.making.quotient.Goals.{then-labels-i+in_ok-add+in_ok-relabel+in_ok-push, else-labels-i}

pub loop-i-init : goal.loop-i-init
loop-i-init c = rw (c.new-names.ensures, c.new-values.ensures.items)
    (picking_none (IsRelabelledAt c.args.c.now.term c.args.labels.now 0) c.args.labels.now
    c.args.c.now.names c.args.c.now.values.items c.are_names.ensures.distinct)

pub loop-i-preserved : goal.loop-i-preserved
loop-i-preserved c =
    let R = IsRelabelledAt c.args.c.now.term c.args.labels.now 0 in
    let names : List (List ℕ) = c.args.c.now.names in
    let values : List Value = c.args.c.now.values.items in
    let i : ℕ = c.loop-i.i in
    let k : ℕ = get_or c.args.labels.now i 0 in
    let in_names : i < length names = omega (arith, c.len-states.ensures) in
    let in_values : i < length values = omega (arith, c.args.c.now.one_each, in_names) in
    let in_labels : i < length c.args.labels.now = omega (arith, c.requires.one_each, in_names) in
    let label_at : slice_get c.args.labels.now i ≡ Some k = slice_get-get_or c.args.labels.now i 0 in_labels in
    elim c.if-labels-i.branch [
      | then-labels-i+in_ok-add+in_ok-relabel+in_ok-push w ↦
          let v : Value = w.index.result.now in
          let value_at : slice_get values i ≡ Some v = slice_get_read values (length values) i v
          refl in_values w.index.ensures in
          let is_new : w.in_ok-add.field-0 ≡ true = w.in_ok-add.ensures.new.1
          (name_is_new R c.args.labels.now names values i k w.name.result.now v label_at
          w.name.ensures value_at c.loop-i.names c.loop-i.values.items c.loop-i.invariant)
          in
          let named : c.if-labels-i.names ≡ c.loop-i.names ++ w.name.result.now ∷ [] = w.names-is
          ∙ w.in_ok-add.ensures.names
          ∙ ap (λ o. if o then c.loop-i.names ++ w.name.result.now ∷ [] else c.loop-i.names)
          is_new in
          let made : c.if-labels-i.values.items ≡ c.loop-i.values.items ++ w.in_ok-relabel.field-0
          ∷ [] = ap (λ l. l.items) w.values-is ∙ w.in_ok-push.ensures.items in
          let known : R v w.in_ok-relabel.field-0 =
          record {
            fitting = w.in_ok-relabel.ensures.fitting;
            normal =
                w.in_ok-relabel.ensures.normal;
            equal = w.in_ok-relabel.ensures.equal;
            in_range =
                w.in_ok-relabel.ensures.in_range;
          } in
          rw (named, made) (picking_new R c.args.labels.now names values i k w.name.result.now v
          label_at w.name.ensures value_at c.loop-i.names c.loop-i.values.items
          c.loop-i.invariant w.in_ok-relabel.field-0 (w.if-labels-i.true
          ∙ c.len.ensures) known)
      | else-labels-i w ↦
          let (x, name_at) = element names i in_names in
          let (v, value_at) = element values i in_values in
          rw (w.names-is, ap (λ l. l.items) w.values-is) (picking_old R c.args.labels.now names
          values i k x v label_at name_at value_at c.loop-i.names c.loop-i.values.items
          c.loop-i.invariant (λ e. w.if-labels-i.false (e ∙ sym c.len.ensures)))
    ]

pub add-requires-clause-room : goal.add-requires-clause-room
add-requires-clause-room c = omega (arith, c.loop-i.invariant.few)

pub add-requires-clause-name : goal.add-requires-clause-name
add-requires-clause-name c = word_is_name c.args.c.now.names c.are_names.ensures c.loop-i.i
    c.name.result.now c.name.ensures

pub returns-clause-names : goal.returns-clause-names
returns-clause-names c = (picked_all (IsRelabelledAt c.args.c.now.term c.args.labels.now 0)
    c.args.labels.now c.args.c.now.names c.args.c.now.values.items c.loop-i.i c.loop-i.names
    c.loop-i.values.items (omega (arith, c.len-states.ensures, c.requires.one_each))
    c.loop-i.invariant).0

pub returns-clause-values : goal.returns-clause-values
returns-clause-values c = (picked_all (IsRelabelledAt c.args.c.now.term c.args.labels.now 0)
    c.args.labels.now c.args.c.now.names c.args.c.now.values.items c.loop-i.i c.loop-i.names
    c.loop-i.values.items (omega (arith, c.len-states.ensures, c.requires.one_each))
    c.loop-i.invariant).1

pub invariant_of-result-clause-few : goal.invariant_of-result-clause-few
invariant_of-result-clause-few c = omega (arith, c.loop-i.invariant.few)

pub invariant_of-result-clause-one_each : goal.invariant_of-result-clause-one_each
invariant_of-result-clause-one_each c = end-one_each c.args.c.now.term c.args.labels.now
    c.args.c.now.names c.args.c.now.values.items c.requires.one_each c.args.c.now.one_each
    c.requires.numbered c.loop-i.names c.loop-i.values.items
    (picked_all (IsRelabelledAt c.args.c.now.term c.args.labels.now 0) c.args.labels.now
    c.args.c.now.names c.args.c.now.values.items c.loop-i.i c.loop-i.names c.loop-i.values.items
    (omega (arith, c.len-states.ensures, c.requires.one_each)) c.loop-i.invariant)

pub returns-clause-quotient : goal.returns-clause-quotient
returns-clause-quotient c = made-IsQuotient c.args.c.now.term c.args.c.now.names
    c.args.c.now.values.items c.args.labels.now c.requires.one_each c.args.c.now.one_each
    c.requires.numbered c.loop-i.names c.loop-i.values.items c.requires.stable
    (picked_all (IsRelabelledAt c.args.c.now.term c.args.labels.now 0) c.args.labels.now
    c.args.c.now.names c.args.c.now.values.items c.loop-i.i c.loop-i.names c.loop-i.values.items
    (omega (arith, c.len-states.ensures, c.requires.one_each)) c.loop-i.invariant)

pub relabel-requires-clause-bounded : goal.relabel-requires-clause-bounded
relabel-requires-clause-bounded c =
    let in_names : c.loop-i.i < length c.args.c.now.names =
    omega (arith, c.len-states.ensures) in
    let in_values : c.loop-i.i < length c.args.c.now.values.items =
    omega (arith, c.args.c.now.one_each, in_names) in
    each_bounded c.args.c.now.values.items c.args.c.now.in_bounds c.loop-i.i c.index.result.now
    (slice_get_read c.args.c.now.values.items (length c.args.c.now.values.items) c.loop-i.i
    c.index.result.now refl in_values c.index.ensures)

pub invariant_of-result-clause-fitting : goal.invariant_of-result-clause-fitting
invariant_of-result-clause-fitting c =
    subst (λ (t : Nodes). list_all (fits t 0) c.loop-i.values.items ≡ true)
    (sym c.in_ok-try_copy.ensures)
    (end-fitting c.args.c.now.term c.args.labels.now c.args.c.now.names c.args.c.now.values.items
    c.requires.one_each c.args.c.now.one_each c.requires.numbered c.loop-i.names
    c.loop-i.values.items (picked_all (IsRelabelledAt c.args.c.now.term c.args.labels.now 0)
    c.args.labels.now c.args.c.now.names c.args.c.now.values.items c.loop-i.i c.loop-i.names
    c.loop-i.values.items (omega (arith, c.len-states.ensures, c.requires.one_each))
    c.loop-i.invariant))

pub invariant_of-result-clause-normal : goal.invariant_of-result-clause-normal
invariant_of-result-clause-normal c =
    subst (λ (t : Nodes). list_all (is_normal t 0) c.loop-i.values.items ≡ true)
    (sym c.in_ok-try_copy.ensures)
    (end-normal c.args.c.now.term c.args.labels.now c.args.c.now.names c.args.c.now.values.items
    c.requires.one_each c.args.c.now.one_each c.requires.numbered c.loop-i.names
    c.loop-i.values.items (picked_all (IsRelabelledAt c.args.c.now.term c.args.labels.now 0)
    c.args.labels.now c.args.c.now.names c.args.c.now.values.items c.loop-i.i c.loop-i.names
    c.loop-i.values.items (omega (arith, c.len-states.ensures, c.requires.one_each))
    c.loop-i.invariant))

pub invariant_of-result-clause-in_range : goal.invariant_of-result-clause-in_range
invariant_of-result-clause-in_range c =
    end-in_range c.args.c.now.term c.args.labels.now c.args.c.now.names c.args.c.now.values.items
    c.requires.one_each c.args.c.now.one_each c.requires.numbered c.loop-i.names
    c.loop-i.values.items (picked_all (IsRelabelledAt c.args.c.now.term c.args.labels.now 0)
    c.args.labels.now c.args.c.now.names c.args.c.now.values.items c.loop-i.i c.loop-i.names
    c.loop-i.values.items (omega (arith, c.len-states.ensures, c.requires.one_each))
    c.loop-i.invariant)

pub invariant_of-result-clause-weighted : goal.invariant_of-result-clause-weighted
invariant_of-result-clause-weighted c =
    subst (λ (t : Nodes). list_all (weights_hold c.args.c.now.denominator t 0) c.loop-i.values.items
    ≡ true) (sym c.in_ok-try_copy.ensures)
    (end-kept c.args.c.now.term c.args.labels.now c.args.c.now.names c.args.c.now.values.items
    c.requires.one_each c.args.c.now.one_each c.requires.numbered c.loop-i.names
    c.loop-i.values.items (picked_all (IsRelabelledAt c.args.c.now.term c.args.labels.now 0)
    c.args.labels.now c.args.c.now.names c.args.c.now.values.items c.loop-i.i c.loop-i.names
    c.loop-i.values.items (omega (arith, c.len-states.ensures, c.requires.one_each))
    c.loop-i.invariant) (weights_hold c.args.c.now.denominator c.args.c.now.term 0)
    (λ v r k. form-weights c.args.c.now.denominator c.args.c.now.term 0 c.args.labels.now v r k)
    c.args.c.now.weighted)

pub invariant_of-result-clause-in_bounds : goal.invariant_of-result-clause-in_bounds
invariant_of-result-clause-in_bounds c =
    end-kept c.args.c.now.term c.args.labels.now c.args.c.now.names c.args.c.now.values.items
    c.requires.one_each c.args.c.now.one_each c.requires.numbered c.loop-i.names
    c.loop-i.values.items (picked_all (IsRelabelledAt c.args.c.now.term c.args.labels.now 0)
    c.args.labels.now c.args.c.now.names c.args.c.now.values.items c.loop-i.i c.loop-i.names
    c.loop-i.values.items (omega (arith, c.len-states.ensures, c.requires.one_each))
    c.loop-i.invariant) (is_within (2 ^ 106)) (λ v r k. form-within (2 ^ 106) c.args.c.now.term
    0 c.args.labels.now v r k) c.args.c.now.in_bounds
