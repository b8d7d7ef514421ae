use Rattle.std.proofs.Common.{rules, ◌≡◌, ◌<◌, ◌≤◌, ◌++◌, length, map, sym, ap, ◌∙◌, subst, get_or}
use Rattle.std.specs.Prelude.{Some, slice_get}
use Rattle.std.proofs.lemmas.Option.{slice_get-get_or}
use Rattle.std.proofs.lemmas.Result.{on_ok_weaker}
use Rattle.functor_terms.specs.Terms.{children_at}
use Rattle.functor_terms.specs.Text.{shown_at, within}
use Rattle.functor_terms.proofs.TextSteps.{child-inside, shown-child, join-turn, put-same, put-enclosed, put-weights, put-last}
use Rattle.functor_terms.proofs.text.+text.Goals as goal

pub push_child-push_within-requires : goal.push_child-push_within-requires
push_child-push_within-requires t c =
    let at : slice_get (children_at c.args.term.now c.args.p) 0 ≡ Some c.in-Some.child.now =
    ap (λ qs. slice_get qs 0) (sym c.children.ensures.children ∙ c.in-Some.ensures.cases.0) in
    let w : (c.args.p < c.in-Some.child.now) × (c.in-Some.child.now < length c.args.term.now) =
    child-inside c.args.term.now c.is_term.ensures c.args.p 0 c.in-Some.child.now at in
    (search rules, w.1)

pub push_parts-push_within-requires : goal.push_parts-push_within-requires
push_parts-push_within-requires t c =
    let q = get_or c.children-children.result.now c.loop-i.i 0 in
    let at : slice_get (children_at c.args.term.now c.args.p) c.loop-i.i ≡ Some q =
    ap (λ qs. slice_get qs c.loop-i.i) (sym c.children-children.ensures.children)
    ∙ slice_get-get_or c.children-children.result.now c.loop-i.i 0 c.loop-i-test.true in
    let w : (c.args.p < q) × (q < length c.args.term.now) = child-inside c.args.term.now
    c.is_term.ensures c.args.p c.loop-i.i q at in
    (search rules, w.1)

pub push_parts-loop-i-preserved : goal.push_parts-loop-i-preserved
push_parts-loop-i-preserved t c =
    let q = get_or c.children-children.result.now c.loop-i.i 0 in
    join-turn (within c.args.level) c.args.separator.now (map (shown_at c.args.term.now)
    c.children-children.result.now) c.loop-i.i (shown_at c.args.term.now q)
    c.args.text.now.items c.loop-i.text.items c.push_before.new.text.items
    c.push_within.new.text.items
    (shown-child (shown_at c.args.term.now) c.children-children.result.now c.loop-i.i q
    (slice_get-get_or c.children-children.result.now c.loop-i.i 0 c.loop-i-test.true))
    c.loop-i.invariant c.in_ok-push_before.ensures c.in_ok-push_within.ensures

pub push_weights-returns : goal.push_weights-returns
push_weights-returns t c =
    put-last c.extend_from_slice-2.result c.extend_from_slice-2.new.self.items
    c.push_child.new.text.items c.as_slice.result.now _ c.extend_from_slice-2.ensures.items
    (ap (λ l. c.push_child.new.text.items ++ l) c.as_slice.ensures
    ∙ put-weights c.args.term.now c.is_term.ensures c.args.p c.args.text.now.items
    c.args.letter.now c.extend_from_slice.new.self.items c.push_child.new.text.items
    c.in_ok-extend_from_slice.ensures.items c.in_ok-push_child.ensures)

pub push_within-returns-then-level_of-level : goal.push_within-returns-then-level_of-level
push_within-returns-then-level_of-level t c =
    on_ok_weaker c.push_over.result
    (λ e. e ∙ ap (λ l. c.args.text.now.items ++ l)
    (put-same c.args.term.now c.is_term.ensures c.args.p c.requires
    c.node-node.result.now c.node-node.ensures c.args.level (subst (λ n. n ≤ c.args.level)
    c.level_of.ensures c.if-level_of-level.true)))
    c.push_over.ensures

pub push_within-returns : goal.push_within-returns
push_within-returns t c =
    put-last c.extend_from_slice-2.result c.extend_from_slice-2.new.self.items
    c.push_over-2.new.text.items c.as_slice-2.result.now _ c.extend_from_slice-2.ensures.items
    (ap (λ l. c.push_over-2.new.text.items ++ l) c.as_slice-2.ensures
    ∙ put-enclosed c.args.term.now c.is_term.ensures c.args.p c.requires
    c.node-node.result.now c.node-node.ensures c.args.level (subst (λ n. c.args.level < n)
    c.level_of.ensures c.if-level_of-level.false)
    c.args.text.now.items c.extend_from_slice.new.self.items c.push_over-2.new.text.items
    (c.in_ok-extend_from_slice.ensures.items
    ∙ ap (λ l. c.args.text.now.items ++ l) c.as_slice.ensures) c.in_ok-push_over.ensures)
