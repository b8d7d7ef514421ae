use Rattle.std.proofs.Common.{rules, to_z, of_z, ◌≡◌, ◌<◌, ◌++◌, ◌+◌, true, Some, ℕ, List, slice_get, get_or, length, map, take, sym, subst}
use Rattle.std.specs.Int.{w128}
use Rattle.std.specs.Prelude.{ℤ}
use Rattle.std.specs.List.{list_all, AllZip}
use Rattle.std.proofs.lemmas.Grind.{common_steps}
use Rattle.std.proofs.lemmas.Result.{IfOk-weaker}
use Rattle.std.proofs.lemmas.List.Elements.{all_zip_more}
use Rattle.std.proofs.lemmas.Option.{slice_get-get_or}
use Rattle.functor_terms.specs.Terms.{children_at}
use Rattle.functor_terms.specs.Lists.{Zip3}
use Rattle.typing.specs.declared.value.Value.{Value, the_lemmas}
use Rattle.typing.specs.Fits.{fits}
use Rattle.typing.specs.NormalForms.{is_ready, each_ready, child_check, IsRelabelledAt, IsRelabelledChild, IsRelabelledEntry}
use Rattle.typing.proofs.TermFacts.{children_later, child_later, child_exists}
use Rattle.typing.proofs.ReadyLaws.{ready_check}
use Rattle.typing.proofs.RelabelSteps
use Rattle.typing.proofs.relabelling.+relabel.Goals as goal

pub relabel_at-relabel_places-requires : goal.relabel_at-relabel_places-requires
relabel_at-relabel_places-requires t c = (
  search rules,
  (
    c.requires.node,
    subst (λ (vs : List Value). each_ready
        (length c.args.labels.now) (map (fits c.args.term.now) (children_at c.args.term.now
        c.args.p)) vs ≡ true) (sym c.as_slice.ensures) (RelabelSteps.places_are_ready
        c.args.term.now c.is_term.ensures c.args.p c.requires.node c.node-node.result.now
        c.node-node.ensures c.args.labels.now c.args.value.now c.requires.ready
        c.in-Tuple.parts c.in-Tuple.is c.in-Product.is),
  ),
)

pub relabel_at-relabel_each-requires : goal.relabel_at-relabel_each-requires
relabel_at-relabel_each-requires t c = (
  search rules,
  (
    c.requires.node,
    subst (λ (vs : List Value). list_all
        (is_ready (length c.args.labels.now) (child_check c.args.term.now c.args.p 0)) vs ≡ true)
        (sym c.as_slice-in_default.ensures) (RelabelSteps.parts_ready c.args.term.now
        c.is_term.ensures c.args.p c.requires.node c.node-node.result.now
        c.node-node.ensures c.args.labels.now c.args.value.now c.requires.ready
        c.in-Tuple.parts c.in-Tuple.is c.in_default.not-Product),
  ),
)

pub relabel_at-relabel_child-requires : goal.relabel_at-relabel_child-requires
relabel_at-relabel_child-requires t c = (
  search rules,
  (
    c.requires.node,
    subst (λ (w : Value). is_ready (length c.args.labels.now)
        (child_check c.args.term.now c.args.p c.in-Inj.k) w ≡ true) (sym c.get.ensures)
        (RelabelSteps.inner_ready c.args.term.now c.is_term.ensures c.args.p c.requires.node
        c.node-node.result.now c.node-node.ensures c.args.labels.now c.args.value.now
        c.requires.ready c.in-Inj.k c.in-Inj.inner c.in-Inj.is),
  ),
)

pub relabel_at-relabel_each-requires-in-Set : goal.relabel_at-relabel_each-requires-in-Set
relabel_at-relabel_each-requires-in-Set t c = (
  search rules,
  (
    c.requires.node,
    subst (λ (vs : List Value). list_all
        (is_ready (length c.args.labels.now) (child_check c.args.term.now c.args.p 0)) vs ≡ true)
        (sym c.as_slice-in-Set.ensures) (RelabelSteps.members_ready c.args.term.now
        c.is_term.ensures c.args.p c.requires.node c.node-node.result.now
        c.node-node.ensures c.args.labels.now c.args.value.now c.requires.ready
        c.in-Set.members c.in-Set.is),
  ),
)

pub relabel_at-relabel_entries-requires : goal.relabel_at-relabel_entries-requires
relabel_at-relabel_entries-requires t c = (
  search rules,
  (
    c.requires.node,
    subst (λ (vs : List (Value × ℤ)). list_all
        (λ w. is_ready (length c.args.labels.now) (child_check c.args.term.now c.args.p 0) w.0) vs
        ≡ true) (sym c.as_slice-in-Weights.ensures) (RelabelSteps.entries_are_ready c.args.term.now
        c.is_term.ensures c.args.p c.requires.node c.node-node.result.now
        c.node-node.ensures c.args.labels.now c.args.value.now c.requires.ready
        c.in-Weights.entries c.in-Weights.is),
  ),
)

pub relabel_at-totals-requires-clause-bounded : goal.relabel_at-totals-requires-clause-bounded
relabel_at-totals-requires-clause-bounded t c =
    RelabelSteps.entries_bound c.args.term.now c.is_term.ensures c.args.p c.requires.node
    c.node-node.result.now c.node-node.ensures c.args.labels.now c.args.value.now
    c.requires.ready c.in-Weights.entries c.in_ok-new-in-Weights.new.items c.in-Weights.is
    (subst (λ (vs : List (Value × ℤ)). AllZip (IsRelabelledEntry c.args.term.now
    c.args.labels.now c.args.p) vs c.in_ok-new-in-Weights.new.items)
    c.as_slice-in-Weights.ensures c.in_ok-new-in-Weights.ensures)

pub relabel_at-returns-in-State : goal.relabel_at-returns-in-State
relabel_at-returns-in-State t c =
    let inside : c.in-State.i < length c.args.labels.now = search (rules, the_lemmas) in
    RelabelSteps.at_state c.args.term.now c.is_term.ensures c.args.p c.requires.node
    c.node-node.result.now c.node-node.ensures c.args.labels.now c.args.value.now
    c.requires.ready c.in-State.i c.in-State.is inside

pub relabel_at-returns-in_ok-new-in-Product : goal.relabel_at-returns-in_ok-new-in-Product
relabel_at-returns-in_ok-new-in-Product t c =
    rw c.from_vec.ensures (RelabelSteps.at_places c.args.term.now c.is_term.ensures c.args.p
    c.requires.node c.node-node.result.now c.node-node.ensures c.args.labels.now
    c.args.value.now c.requires.ready c.in-Tuple.parts c.in_ok-new-in-Product.new.items
    c.in-Tuple.is c.in-Product.is
    (subst (λ (vs : List Value). Zip3 (IsRelabelledAt c.args.term.now c.args.labels.now)
    (children_at c.args.term.now c.args.p) vs c.in_ok-new-in-Product.new.items)
    c.as_slice.ensures c.in_ok-new-in-Product.ensures))

pub relabel_at-returns-in_ok-new-in_default : goal.relabel_at-returns-in_ok-new-in_default
relabel_at-returns-in_ok-new-in_default t c =
    rw c.from_vec-in_default.ensures (RelabelSteps.at_parts c.args.term.now c.is_term.ensures
    c.args.p c.requires.node c.node-node.result.now c.node-node.ensures c.args.labels.now
    c.args.value.now c.requires.ready c.in-Tuple.parts c.in_ok-new-in_default.new.items
    c.in-Tuple.is c.in_default.not-Product
    (subst (λ (vs : List Value). AllZip (IsRelabelledChild c.args.term.now c.args.labels.now
    c.args.p 0) vs c.in_ok-new-in_default.new.items) c.as_slice-in_default.ensures
    c.in_ok-new-in_default.ensures))

pub relabel_at-returns-in_ok-new-in-Inj-2 : goal.relabel_at-returns-in_ok-new-in-Inj-2
relabel_at-returns-in_ok-new-in-Inj-2 t c =
    rw c.in_ok-new-in-Inj-2.ensures (RelabelSteps.at_inner c.args.term.now c.is_term.ensures
    c.args.p c.requires.node c.node-node.result.now c.node-node.ensures c.args.labels.now
    c.args.value.now c.requires.ready c.in-Inj.k c.in-Inj.inner c.in_ok-new-in-Inj.new
    c.in-Inj.is (subst (λ (w : Value). IsRelabelledChild c.args.term.now c.args.labels.now
    c.args.p c.in-Inj.k w c.in_ok-new-in-Inj.new) c.get.ensures c.in_ok-new-in-Inj.ensures))

pub relabel_at-returns-in_ok-new-in-Set : goal.relabel_at-returns-in_ok-new-in-Set
relabel_at-returns-in_ok-new-in-Set t c =
    rw c.from_vec-in-Set.ensures (RelabelSteps.at_members c.args.term.now c.is_term.ensures
    c.args.p c.requires.node c.node-node.result.now c.node-node.ensures c.args.labels.now
    c.args.value.now c.requires.ready c.in-Set.members c.in_ok-new-in-Set.new.items
    c.in_order.result.items c.in-Set.is
    (subst (λ (vs : List Value). AllZip (IsRelabelledChild c.args.term.now c.args.labels.now
    c.args.p 0) vs c.in_ok-new-in-Set.new.items) c.as_slice-in-Set.ensures
    c.in_ok-new-in-Set.ensures) c.in_order.ensures)

pub relabel_at-returns-in_ok-totals-in-Weights : goal.relabel_at-returns-in_ok-totals-in-Weights
relabel_at-returns-in_ok-totals-in-Weights t c =
    rw c.from_vec-in-Weights.ensures (RelabelSteps.at_entries c.args.term.now
    c.is_term.ensures c.args.p c.requires.node c.node-node.result.now
    c.node-node.ensures c.args.labels.now c.args.value.now c.requires.ready
    c.in-Weights.entries c.in_ok-new-in-Weights.new.items
    c.in_ok-totals-in-Weights.field-0.items c.in-Weights.is
    (subst (λ (vs : List (Value × ℤ)). AllZip (IsRelabelledEntry c.args.term.now
    c.args.labels.now c.args.p) vs c.in_ok-new-in-Weights.new.items)
    c.as_slice-in-Weights.ensures c.in_ok-new-in-Weights.ensures)
    c.in_ok-totals-in-Weights.ensures)

pub relabel_child-bounds-children-k : goal.relabel_child-bounds-children-k
relabel_child-bounds-children-k t c =
    subst (λ (qs : List _). c.args.k < length qs) (sym c.children-children.ensures.children)
    (child_exists c.args.term.now (children_at c.args.term.now c.args.p) c.args.k
    c.args.value.now (ready_check (length c.args.labels.now) (child_check c.args.term.now
    c.args.p c.args.k) c.args.value.now c.requires.ready))

pub relabel_child-relabel_at-requires : goal.relabel_child-relabel_at-requires
relabel_child-relabel_at-requires t c =
    let here : slice_get (children_at c.args.term.now c.args.p) c.args.k
    ≡ Some (get_or c.children-children.result.now c.args.k 0) =
    subst (λ (qs : List ℕ). slice_get (children_at c.args.term.now c.args.p) c.args.k
    ≡ Some (get_or qs c.args.k 0)) (sym c.children-children.ensures.children)
    (slice_get-get_or (children_at c.args.term.now c.args.p) c.args.k 0 (child_exists c.args.term.now
    (children_at c.args.term.now c.args.p) c.args.k c.args.value.now
    (ready_check (length c.args.labels.now) (child_check c.args.term.now c.args.p c.args.k)
    c.args.value.now c.requires.ready))) in
    let w : (c.args.p < get_or c.children-children.result.now c.args.k 0)
    × (get_or c.children-children.result.now c.args.k 0 < length c.args.term.now) = child_later
    c.args.term.now c.is_term.ensures c.args.p c.args.k
    (get_or c.children-children.result.now c.args.k 0) here in (
      search rules,
      (
        w.1,
        RelabelSteps.child_ready c.args.term.now c.args.p c.args.k
            (get_or c.children-children.result.now c.args.k 0) (length c.args.labels.now)
            c.args.value.now here c.requires.ready,
      ),
    )

pub relabel_child-returns : goal.relabel_child-returns
relabel_child-returns t c =
    let here : slice_get (children_at c.args.term.now c.args.p) c.args.k
    ≡ Some (get_or c.children-children.result.now c.args.k 0) =
    subst (λ (qs : List ℕ). slice_get (children_at c.args.term.now c.args.p) c.args.k
    ≡ Some (get_or qs c.args.k 0)) (sym c.children-children.ensures.children)
    (slice_get-get_or (children_at c.args.term.now c.args.p) c.args.k 0 (child_exists c.args.term.now
    (children_at c.args.term.now c.args.p) c.args.k c.args.value.now
    (ready_check (length c.args.labels.now) (child_check c.args.term.now c.args.p c.args.k)
    c.args.value.now c.requires.ready))) in
    IfOk-weaker c.relabel_at.result (IsRelabelledAt c.args.term.now c.args.labels.now
    (get_or c.children-children.result.now c.args.k 0) c.args.value.now)
    (IsRelabelledChild c.args.term.now c.args.labels.now c.args.p c.args.k c.args.value.now)
    (λ r known. RelabelSteps.child_relabelled c.args.term.now c.args.labels.now c.args.p
    c.args.k (get_or c.children-children.result.now c.args.k 0) c.args.value.now r here known)
    c.relabel_at.ensures

pub relabel_each-loop-value-preserved : goal.relabel_each-loop-value-preserved
relabel_each-loop-value-preserved t c =
    subst (λ (rs : List Value). AllZip (IsRelabelledChild c.args.term.now c.args.labels.now c.args.p
    0) (take (c.loop-value.value-index + 1) c.args.values.now) rs)
    (sym c.in_ok-push.ensures.items)
    (all_zip_more (IsRelabelledChild c.args.term.now c.args.labels.now c.args.p 0) c.args.values.now
    c.loop-value.new.items c.loop-value.value-index c.value-item.result
    c.in_ok-relabel_child.field-0 c.loop-value-test.true c.value-item.is c.loop-value.invariant
    c.in_ok-relabel_child.ensures)

pub relabel_entries-loop-value-preserved : goal.relabel_entries-loop-value-preserved
relabel_entries-loop-value-preserved t c =
    let same : to_z w128 (of_z w128 c.loop-value-item.result.1) ≡ c.loop-value-item.result.1 =
    search (rules, the_lemmas, common_steps) in
    subst (λ (rs : List (Value × ℤ)). AllZip (IsRelabelledEntry c.args.term.now c.args.labels.now
    c.args.p) (take (c.loop-value.value-index + 1) c.args.entries.now) rs)
    (sym c.in_ok-push.ensures.items)
    (all_zip_more (IsRelabelledEntry c.args.term.now c.args.labels.now c.args.p) c.args.entries.now
    c.loop-value.new.items c.loop-value.value-index c.loop-value-item.result
    (c.in_ok-relabel_child.field-0, to_z w128 (of_z w128 c.loop-value-item.result.1))
    c.loop-value-test.true c.loop-value-item.is c.loop-value.invariant
    (c.in_ok-relabel_child.ensures, same))

pub relabel_places-loop-child-init : goal.relabel_places-loop-child-init
relabel_places-loop-child-init t c =
    rw c.children-children.ensures.children record {
      later = children_later c.args.term.now c.is_term.ensures c.args.p;
      ready = c.requires.ready;
      made = λ more z. subst (λ (rs : List Value). Zip3 (IsRelabelledAt c.args.term.now
          c.args.labels.now) (children_at c.args.term.now c.args.p) c.args.values.now (rs ++ more))
          (sym c.in_ok-new.ensures.items) z;
    }

pub relabel_places-returns : goal.relabel_places-returns
relabel_places-returns t c =
    RelabelSteps.places_done (IsRelabelledAt c.args.term.now c.args.labels.now)
    (length c.args.labels.now) c.args.term.now c.loop-child.children.now c.loop-child.rest.now
    (children_at c.args.term.now c.args.p) c.args.values.now c.loop-child.new.items
    c.in_default.ensures.cases c.loop-child.invariant.ready c.loop-child.invariant.made
