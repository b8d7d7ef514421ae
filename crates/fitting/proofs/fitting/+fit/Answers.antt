use Rattle.std.proofs.Common.{rules, ◌≡◌, ◌<◌, Some, None, slice_get, length, sym, ap, ◌∙◌, subst, arith}
use Rattle.functor_terms.specs.Terms.{children_at}
use Rattle.typing.proofs.TermFacts.{child_later}
use Rattle.fitting.specs.Fitting.{Fit, fitting, Gives}
use Rattle.fitting.proofs.FitFacts.{fit-at, fit_found, fit_none}
use Rattle.fitting.proofs.fitting.+fit.Goals as goal

pub fit_at-returns-in-Product : goal.fit_at-returns-in-Product
fit_at-returns-in-Product t c = fit-at c.args.term.now c.is_term.ensures c.args.names.now
    c.args.p c.requires c.node-node.result.now c.node-node.ensures c.args.tree.now
    c.product.result (search rules)

pub fit_at-returns-in-Sum : goal.fit_at-returns-in-Sum
fit_at-returns-in-Sum t c = fit-at c.args.term.now c.is_term.ensures c.args.names.now
    c.args.p c.requires c.node-node.result.now c.node-node.ensures c.args.tree.now c.sum.result
    (search rules)

pub fit_at-returns-in-Power : goal.fit_at-returns-in-Power
fit_at-returns-in-Power t c = fit-at c.args.term.now c.is_term.ensures c.args.names.now
    c.args.p c.requires c.node-node.result.now c.node-node.ensures c.args.tree.now
    c.power.result (search rules)

pub fit_at-returns-in-Powerset : goal.fit_at-returns-in-Powerset
fit_at-returns-in-Powerset t c = fit-at c.args.term.now c.is_term.ensures c.args.names.now
    c.args.p c.requires c.node-node.result.now c.node-node.ensures c.args.tree.now c.set.result
    (search rules)

pub fit_at-returns-in-Bag : goal.fit_at-returns-in-Bag
fit_at-returns-in-Bag t c = fit-at c.args.term.now c.is_term.ensures c.args.names.now
    c.args.p c.requires c.node-node.result.now c.node-node.ensures c.args.tree.now
    c.weighted.result (search rules)

pub fit_child-fit_at-requires : goal.fit_child-fit_at-requires
fit_child-fit_at-requires t c =
    let e : slice_get (children_at c.args.term.now c.args.p) c.args.k ≡ Some c.in-Some.child.now =
    ap (λ qs. slice_get qs c.args.k) (sym c.children.ensures.children)
    ∙ sym c.in-Some.ensures in
    let w : (c.args.p < c.in-Some.child.now) × (c.in-Some.child.now < length c.args.term.now) =
    child_later c.args.term.now c.is_term.ensures c.args.p c.args.k c.in-Some.child.now
    e in
    (search rules, w.1)

pub fit_child-returns-in-Some : goal.fit_child-returns-in-Some
fit_child-returns-in-Some t c =
    let e : slice_get (children_at c.args.term.now c.args.p) c.args.k ≡ Some c.in-Some.child.now =
    ap (λ qs. slice_get qs c.args.k) (sym c.children.ensures.children)
    ∙ sym c.in-Some.ensures in
    subst (λ (f : Fit). Gives c.fit_at.result (f c.args.tree.now))
    (sym (fit_found (fitting c.args.term.now c.args.names.now)
    (children_at c.args.term.now c.args.p) c.args.k c.in-Some.child.now e)) c.fit_at.ensures

pub fit_child-returns-in-None : goal.fit_child-returns-in-None
fit_child-returns-in-None t c =
    let e : slice_get (children_at c.args.term.now c.args.p) c.args.k ≡ None =
    ap (λ qs. slice_get qs c.args.k) (sym c.children.ensures.children)
    ∙ sym c.in-None.ensures in
    ap (λ (f : Fit). f c.args.tree.now)
    (fit_none (fitting c.args.term.now c.args.names.now)
    (children_at c.args.term.now c.args.p) c.args.k e)

pub sum-overflow_cast-count : goal.sum-overflow_cast-count
sum-overflow_cast-count t c = omega (arith, c.children.ensures.few)
