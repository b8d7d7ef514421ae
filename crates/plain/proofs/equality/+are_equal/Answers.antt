use Rattle.std.proofs.Common.{rules, length, ◌≡◌, ◌≤◌, ◌^◌, ◌<◌, true, List, Some, None, slice_get, refl, sym, ap, ◌∙◌, subst}
use Rattle.std.specs.Prelude.{ℤ}
use Rattle.std.specs.List.{list_all}
use Rattle.functor_terms.specs.Terms.{children_at}
use Rattle.typing.specs.declared.value.Value.{Value}
use Rattle.typing.specs.Values.{parts, entries}
use Rattle.typing.specs.Bounds.{is_bounded, absolute_sum}
use Rattle.typing.specs.Equality.{Test, same_members, same_totals, the_sum}
use Rattle.typing.proofs.TermFacts.{child_later, children_later, test_found}
use Rattle.plain.specs.Pairs.{child_test}
use Rattle.plain.proofs.Bounded.{parts_bounded, entries_bounded, entries_within}
use Rattle.plain.proofs.EqualityAt.{equal-at, test_none, both_agree}
use Rattle.plain.proofs.equality.+are_equal.Goals as goal

pub are_equal-equal_places-requires : goal.are_equal-equal_places-requires
are_equal-equal_places-requires t c = (
  search rules,
  (
    c.requires.node,
    (
      subst (λ (vs : List Value). list_all is_bounded vs ≡ true) (sym c.parts.ensures)
          (parts_bounded c.args.u.now c.requires.left),
      subst (λ (vs : List Value). list_all is_bounded vs ≡ true) (sym c.parts-in-Product.ensures)
          (parts_bounded c.args.v.now c.requires.right),
    ),
  ),
)

pub are_equal-equal_lists-requires : goal.are_equal-equal_lists-requires
are_equal-equal_lists-requires t c = (
  search rules,
  (
    c.requires.node,
    (
      subst (λ (vs : List Value). list_all is_bounded vs ≡ true) (sym c.parts-in-Power.ensures)
          (parts_bounded c.args.u.now c.requires.left),
      subst (λ (vs : List Value). list_all is_bounded vs ≡ true) (sym c.parts-in-Power-2.ensures)
          (parts_bounded c.args.v.now c.requires.right),
    ),
  ),
)

pub are_equal-same_members-requires : goal.are_equal-same_members-requires
are_equal-same_members-requires t c = (
  search rules,
  (
    c.requires.node,
    (
      subst (λ (vs : List Value). list_all is_bounded vs ≡ true) (sym c.parts-in-Powerset.ensures)
          (parts_bounded c.args.u.now c.requires.left),
      subst (λ (vs : List Value). list_all is_bounded vs ≡ true) (sym c.parts-in-Powerset-2.ensures)
          (parts_bounded c.args.v.now c.requires.right),
    ),
  ),
)

pub are_equal-same_totals-requires : goal.are_equal-same_totals-requires
are_equal-same_totals-requires t c = (
  search rules,
  (
    c.requires.node,
    (
      subst (λ (vs : List (Value × ℤ)). list_all (λ e. is_bounded e.0) vs ≡ true)
          (sym c.entries.ensures) (entries_bounded c.args.u.now c.requires.left),
      (
        subst (λ (vs : List (Value × ℤ)). list_all (λ e. is_bounded e.0) vs ≡ true)
            (sym c.entries-in-Bag.ensures) (entries_bounded c.args.v.now c.requires.right),
        (
          subst (λ (vs : List (Value × ℤ)). absolute_sum vs ≤ 2 ^ 126) (sym c.entries.ensures)
              (entries_within c.args.u.now c.requires.left),
          subst (λ (vs : List (Value × ℤ)). absolute_sum vs ≤ 2 ^ 126)
              (sym c.entries-in-Bag.ensures) (entries_within c.args.v.now c.requires.right),
        ),
      ),
    ),
  ),
)

pub are_equal-returns-in-State : goal.are_equal-returns-in-State
are_equal-returns-in-State t c =
    equal-at c.args.term.now c.is_term.ensures c.args.p c.requires.node c.node.result.now
    c.node.ensures c.args.u.now c.args.v.now c.eq.result (search rules)

pub are_equal-returns-in-Product : goal.are_equal-returns-in-Product
are_equal-returns-in-Product t c =
    equal-at c.args.term.now c.is_term.ensures c.args.p c.requires.node c.node.result.now
    c.node.ensures c.args.u.now c.args.v.now c.equal_places.result (search rules)

pub are_equal-returns-then-index : goal.are_equal-returns-then-index
are_equal-returns-then-index t c =
    equal-at c.args.term.now c.is_term.ensures c.args.p c.requires.node c.node.result.now
    c.node.ensures c.args.u.now c.args.v.now c.equal_at.result (search rules)

pub are_equal-returns-in-Power : goal.are_equal-returns-in-Power
are_equal-returns-in-Power t c =
    equal-at c.args.term.now c.is_term.ensures c.args.p c.requires.node c.node.result.now
    c.node.ensures c.args.u.now c.args.v.now c.equal_lists.result (search rules)

pub are_equal-returns-in-Powerset : goal.are_equal-returns-in-Powerset
are_equal-returns-in-Powerset t c =
    let k : c.same_members.result ≡ same_members (child_test c.args.term.now c.args.p 0)
    (parts c.args.u.now) (parts c.args.v.now) =
    c.same_members.ensures
    ∙ (λ i. same_members (child_test c.args.term.now c.args.p 0) (c.parts-in-Powerset.ensures i)
    (c.parts-in-Powerset-2.ensures i)) in
    equal-at c.args.term.now c.is_term.ensures c.args.p c.requires.node c.node.result.now
    c.node.ensures c.args.u.now c.args.v.now c.same_members.result (search (rules, k))

pub are_equal-returns-in-Bag : goal.are_equal-returns-in-Bag
are_equal-returns-in-Bag t c =
    let k : c.same_totals.result ≡ same_totals the_sum (child_test c.args.term.now c.args.p 0)
    (entries c.args.u.now) (entries c.args.v.now) =
    c.same_totals.ensures ∙ both_agree c.args.term.now c.args.p c.entries.result.now
    c.entries-in-Bag.result.now
    ∙ (λ i. same_totals the_sum (child_test c.args.term.now c.args.p 0) (c.entries.ensures i)
    (c.entries-in-Bag.ensures i)) in
    equal-at c.args.term.now c.is_term.ensures c.args.p c.requires.node c.node.result.now
    c.node.ensures c.args.u.now c.args.v.now c.same_totals.result (search (rules, k))

pub equal_at-are_equal-requires : goal.equal_at-are_equal-requires
equal_at-are_equal-requires t c =
    let e : slice_get (children_at c.args.term.now c.args.p) c.args.k ≡ Some c.in-Some.child.now =
    ap (λ qs. slice_get qs c.args.k) (sym c.children.ensures.children)
    ∙ sym c.in-Some.ensures in
    let w : (c.args.p < c.in-Some.child.now) × (c.in-Some.child.now < length c.args.term.now) =
    child_later c.args.term.now c.is_term.ensures c.args.p c.args.k c.in-Some.child.now
    e in
    (search rules, (w.1, (c.requires.left, c.requires.right)))

pub equal_at-returns-in-Some : goal.equal_at-returns-in-Some
equal_at-returns-in-Some t c =
    let e : slice_get (children_at c.args.term.now c.args.p) c.args.k ≡ Some c.in-Some.child.now =
    ap (λ qs. slice_get qs c.args.k) (sym c.children.ensures.children)
    ∙ sym c.in-Some.ensures in
    c.are_equal.ensures ∙ sym (ap (λ (f : Test). f c.args.u.now c.args.v.now)
    (test_found c.args.term.now (children_at c.args.term.now c.args.p) c.args.k
    c.in-Some.child.now e))

pub equal_at-returns-in-None : goal.equal_at-returns-in-None
equal_at-returns-in-None t c =
    let e : slice_get (children_at c.args.term.now c.args.p) c.args.k ≡ None =
    ap (λ qs. slice_get qs c.args.k) (sym c.children.ensures.children)
    ∙ sym c.in-None.ensures in
    sym (ap (λ (f : Test). f c.args.u.now c.args.v.now)
    (test_none c.args.term.now (children_at c.args.term.now c.args.p) c.args.k e))

pub equal_places-loop-child-init : goal.equal_places-loop-child-init
equal_places-loop-child-init t c =
    rw c.children-children.ensures.children record {
      later = children_later c.args.term.now c.is_term.ensures c.args.p;
      left = c.requires.left;
      right = c.requires.right;
      rest = refl;
    }
