use Rattle.std.proofs.Common.{rules, ◌≡◌, ◌<◌, Some, None, slice_get, length, map, sym, ap, ◌∙◌}
use Rattle.std.proofs.lemmas.Result.{IfOk-weaker}
use Rattle.functor_terms.specs.Terms.{children_at}
use Rattle.typing.proofs.TermFacts.{child_later}
use Rattle.fitting.specs.Scaling.{Scale, scaled, child_scale, scaled_places, scaled_entries}
use Rattle.fitting.proofs.ScaleFacts
use Rattle.fitting.proofs.scaling.+scaled.Goals as goal

pub scaled_at-returns-in-State : goal.scaled_at-returns-in-State
scaled_at-returns-in-State t c = ScaleFacts.at_state c.args.l c.args.term.now
    c.is_term.ensures c.args.p c.requires c.node-node.result.now c.node-node.ensures
    c.args.fitted.now c.in-State.i c.in-State.is

pub scaled_at-returns-in-Label : goal.scaled_at-returns-in-Label
scaled_at-returns-in-Label t c = ScaleFacts.at_label c.args.l c.args.term.now
    c.is_term.ensures c.args.p c.requires c.node-node.result.now c.node-node.ensures
    c.args.fitted.now c.in-Label.k c.in-Label.is

pub scaled_at-returns-in_ok-new-in-Product : goal.scaled_at-returns-in_ok-new-in-Product
scaled_at-returns-in_ok-new-in-Product t c =
    rw c.from_vec.ensures (ScaleFacts.at_places c.args.l c.args.term.now c.is_term.ensures
    c.args.p c.requires c.node-node.result.now c.node-node.ensures c.args.fitted.now
    c.in-Tuple.parts c.in_ok-new-in-Product.new.items c.in-Tuple.is c.in-Product.is
    (c.in_ok-new-in-Product.ensures ∙ ap
    (scaled_places (map (scaled c.args.l c.args.term.now)
    (children_at c.args.term.now c.args.p)) 0) c.as_slice.ensures))

pub scaled_at-returns-in_ok-new-in_default : goal.scaled_at-returns-in_ok-new-in_default
scaled_at-returns-in_ok-new-in_default t c =
    rw c.from_vec-in_default.ensures (ScaleFacts.at_parts c.args.l c.args.term.now
    c.is_term.ensures c.args.p c.requires c.node-node.result.now c.node-node.ensures
    c.args.fitted.now c.in-Tuple.parts c.in_ok-new-in_default.new.items c.in-Tuple.is
    c.in_default.not-Product
    (c.in_ok-new-in_default.ensures ∙ ap
    (map (child_scale c.args.l c.args.term.now c.args.p 0)) c.as_slice-in_default.ensures))

pub scaled_at-returns-in_ok-new-in-Inj-2 : goal.scaled_at-returns-in_ok-new-in-Inj-2
scaled_at-returns-in_ok-new-in-Inj-2 t c =
    rw c.in_ok-new-in-Inj-2.ensures (ScaleFacts.at_inner c.args.l c.args.term.now
    c.is_term.ensures c.args.p c.requires c.node-node.result.now c.node-node.ensures
    c.args.fitted.now c.in-Inj.k c.in-Inj.inner c.in_ok-new-in-Inj.new c.in-Inj.is
    (c.in_ok-new-in-Inj.ensures ∙ ap (child_scale c.args.l c.args.term.now c.args.p c.in-Inj.k)
    c.get.ensures))

pub scaled_at-returns-in_ok-new-in-Set : goal.scaled_at-returns-in_ok-new-in-Set
scaled_at-returns-in_ok-new-in-Set t c =
    rw c.from_vec-in-Set.ensures (ScaleFacts.at_members c.args.l c.args.term.now
    c.is_term.ensures c.args.p c.requires c.node-node.result.now c.node-node.ensures
    c.args.fitted.now c.in-Set.members c.in_ok-new-in-Set.new.items c.in-Set.is
    (c.in_ok-new-in-Set.ensures ∙ ap (map (child_scale c.args.l c.args.term.now c.args.p 0))
    c.as_slice-in-Set.ensures))

pub scaled_at-returns-in_ok-new-in-Weights : goal.scaled_at-returns-in_ok-new-in-Weights
scaled_at-returns-in_ok-new-in-Weights t c =
    rw c.from_vec-in-Weights.ensures (ScaleFacts.at_entries c.args.l c.args.term.now
    c.is_term.ensures c.args.p c.requires c.node-node.result.now c.node-node.ensures
    c.args.fitted.now c.in-Weights.entries c.in_ok-new-in-Weights.new.items c.in-Weights.is
    (c.in_ok-new-in-Weights.ensures ∙ ap
    (scaled_entries c.args.l c.node-node.result.now
    (child_scale c.args.l c.args.term.now c.args.p 0)) c.as_slice-in-Weights.ensures))

pub scaled_child-scaled_at-requires : goal.scaled_child-scaled_at-requires
scaled_child-scaled_at-requires t c =
    let e : slice_get (children_at c.args.term.now c.args.p) c.args.k ≡ Some c.in-Some.child.now =
    ap (λ qs. slice_get qs c.args.k) (sym c.children.ensures.children)
    ∙ sym c.in-Some.ensures in
    let w : (c.args.p < c.in-Some.child.now) × (c.in-Some.child.now < length c.args.term.now) =
    child_later c.args.term.now c.is_term.ensures c.args.p c.args.k c.in-Some.child.now
    e in
    (search rules, w.1)

pub scaled_child-returns-in-Some : goal.scaled_child-returns-in-Some
scaled_child-returns-in-Some t c =
    let e : slice_get (children_at c.args.term.now c.args.p) c.args.k ≡ Some c.in-Some.child.now =
    ap (λ qs. slice_get qs c.args.k) (sym c.children.ensures.children)
    ∙ sym c.in-Some.ensures in
    IfOk-weaker c.scaled_at.result (λ v. v ≡ scaled c.args.l c.args.term.now c.in-Some.child.now
    c.args.fitted.now) (λ v. v ≡ child_scale c.args.l c.args.term.now c.args.p c.args.k
    c.args.fitted.now)
    (λ v known. known ∙ sym (ap (λ (s : Scale). s c.args.fitted.now)
    (ScaleFacts.scale_found (scaled c.args.l c.args.term.now)
    (children_at c.args.term.now c.args.p) c.args.k c.in-Some.child.now e))) c.scaled_at.ensures

pub scaled_child-returns-in-None : goal.scaled_child-returns-in-None
scaled_child-returns-in-None t c =
    let e : slice_get (children_at c.args.term.now c.args.p) c.args.k ≡ None =
    ap (λ qs. slice_get qs c.args.k) (sym c.children.ensures.children)
    ∙ sym c.in-None.ensures in
    sym (ap (λ (s : Scale). s c.args.fitted.now)
    (ScaleFacts.scale_none (scaled c.args.l c.args.term.now)
    (children_at c.args.term.now c.args.p) c.args.k e))
