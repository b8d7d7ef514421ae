use Rattle.std.proofs.Common.{rules, ◌≡◌, ◌<◌, ◌≤◌, ◌^◌, List, true, Some, None, slice_get, length, map, refl, sym, ap, ◌∙◌, subst}
use Rattle.std.specs.Prelude.{ℤ}
use Rattle.std.specs.List.{list_all}
use Rattle.std.proofs.lemmas.Bool.{leb-true}
use Rattle.functor_terms.specs.Terms.{children_at}
use Rattle.typing.specs.declared.value.Value.{Value}
use Rattle.typing.specs.Values.{entries}
use Rattle.typing.specs.Bounds.{is_bounded, absolute_sum, are_any, sums_hold}
use Rattle.typing.specs.Fits.{Check}
use Rattle.typing.proofs.TermFacts.{child_later, children_later}
use Rattle.typing.proofs.KeptWeights.{parts_within, entries_within}
use Rattle.fitting.proofs.SumFacts.{check_found, check_none, sums-at, distribution-asks}
use Rattle.fitting.proofs.sums.+sums.Goals as goal

pub sums_at-sums_in_places-requires : goal.sums_at-sums_in_places-requires
sums_at-sums_in_places-requires t c = (
  search rules,
  (
    c.requires.node,
    subst (λ (vs : List Value). list_all is_bounded vs ≡ true) (sym c.parts.ensures)
        (parts_within (2 ^ 126) c.args.value.now c.requires.bounded),
  ),
)

pub sums_at-is_sum-requires : goal.sums_at-is_sum-requires
sums_at-is_sum-requires t c = record {
  bounded =
      subst (λ (es : List (Value × ℤ)). absolute_sum es ≤ 2 ^ 126) (sym c.entries.ensures)
      (leb-true (absolute_sum (entries c.args.value.now)) (2 ^ 126)
      (entries_within (2 ^ 126) c.args.value.now c.requires.bounded).1);
}

pub sums_at-sums_in_entries-requires : goal.sums_at-sums_in_entries-requires
sums_at-sums_in_entries-requires t c = (
  search rules,
  (
    c.requires.node,
    subst (λ (es : List (Value × ℤ)). list_all (λ e. is_bounded e.0) es ≡ true)
        (sym c.entries-then-is_sum.ensures)
        (entries_within (2 ^ 126) c.args.value.now c.requires.bounded).0,
  ),
)

pub sums_at-sums_in_entries-requires-in-Bag : goal.sums_at-sums_in_entries-requires-in-Bag
sums_at-sums_in_entries-requires-in-Bag t c = (
  search rules,
  (
    c.requires.node,
    subst (λ (es : List (Value × ℤ)). list_all (λ e. is_bounded e.0) es ≡ true)
        (sym c.entries-in-Bag.ensures)
        (entries_within (2 ^ 126) c.args.value.now c.requires.bounded).0,
  ),
)

pub sums_at-sums_in_all-requires : goal.sums_at-sums_in_all-requires
sums_at-sums_in_all-requires t c = (
  search rules,
  (
    c.requires.node,
    subst (λ (vs : List Value). list_all is_bounded vs ≡ true) (sym c.parts-in-Power.ensures)
        (parts_within (2 ^ 126) c.args.value.now c.requires.bounded),
  ),
)

pub sums_at-returns-in-Product : goal.sums_at-returns-in-Product
sums_at-returns-in-Product t c =
    sums-at c.args.l c.args.term.now c.is_term.ensures c.args.p c.requires.node c.node.result.now
    c.node.ensures c.args.value.now
    c.sums_in_places.result (search rules)

pub sums_at-returns-in-Sum : goal.sums_at-returns-in-Sum
sums_at-returns-in-Sum t c =
    sums-at c.args.l c.args.term.now c.is_term.ensures c.args.p c.requires.node c.node.result.now
    c.node.ensures c.args.value.now
    c.sums_at_child.result (search rules)

pub sums_at-returns-then-is_sum : goal.sums_at-returns-then-is_sum
sums_at-returns-then-is_sum t c =
    sums-at c.args.l c.args.term.now c.is_term.ensures c.args.p c.requires.node c.node.result.now
    c.node.ensures c.args.value.now
    c.sums_in_entries.result
    (distribution-asks c.args.l
    (map (sums_hold are_any c.args.l c.args.term.now) (children_at c.args.term.now c.args.p))
    c.node.result.now c.in-Distribution.is c.args.value.now c.entries.result.now
    c.entries-then-is_sum.result.now c.entries.ensures c.entries-then-is_sum.ensures
    c.is_sum.result c.sums_in_entries.result c.is_sum.ensures c.if-is_sum.true
    c.sums_in_entries.ensures)

pub sums_at-returns-in-Bag : goal.sums_at-returns-in-Bag
sums_at-returns-in-Bag t c =
    sums-at c.args.l c.args.term.now c.is_term.ensures c.args.p c.requires.node c.node.result.now
    c.node.ensures c.args.value.now
    c.sums_in_entries-in-Bag.result (search rules)

pub sums_at-returns-in-Power : goal.sums_at-returns-in-Power
sums_at-returns-in-Power t c =
    sums-at c.args.l c.args.term.now c.is_term.ensures c.args.p c.requires.node c.node.result.now
    c.node.ensures c.args.value.now
    c.sums_in_all.result (search rules)

pub sums_at_child-sums_at-requires : goal.sums_at_child-sums_at-requires
sums_at_child-sums_at-requires t c =
    let e : slice_get (children_at c.args.term.now c.args.p) c.args.k ≡ Some c.in-Some.child.now =
    ap (λ qs. slice_get qs c.args.k) (sym c.children.ensures.children)
    ∙ sym c.in-Some.ensures in
    let w : (c.args.p < c.in-Some.child.now) × (c.in-Some.child.now < length c.args.term.now) =
    child_later c.args.term.now c.is_term.ensures c.args.p c.args.k
    c.in-Some.child.now e in
    (search rules, (w.1, c.requires.bounded))

pub sums_at_child-returns-in-Some : goal.sums_at_child-returns-in-Some
sums_at_child-returns-in-Some t c =
    let e : slice_get (children_at c.args.term.now c.args.p) c.args.k ≡ Some c.in-Some.child.now =
    ap (λ qs. slice_get qs c.args.k) (sym c.children.ensures.children)
    ∙ sym c.in-Some.ensures in
    c.sums_at.ensures
    ∙ sym (ap (λ (f : Check). f c.args.value.now)
    (check_found (sums_hold are_any c.args.l c.args.term.now)
    (children_at c.args.term.now c.args.p) c.args.k c.in-Some.child.now e))

pub sums_at_child-returns-in-None : goal.sums_at_child-returns-in-None
sums_at_child-returns-in-None t c =
    let e : slice_get (children_at c.args.term.now c.args.p) c.args.k ≡ None =
    ap (λ qs. slice_get qs c.args.k) (sym c.children.ensures.children)
    ∙ sym c.in-None.ensures in
    sym (ap (λ (f : Check). f c.args.value.now)
    (check_none (sums_hold are_any c.args.l c.args.term.now)
    (children_at c.args.term.now c.args.p) c.args.k e))

pub sums_in_places-loop-child-init : goal.sums_in_places-loop-child-init
sums_in_places-loop-child-init t c =
    rw c.children-children.ensures.children record {
      later = children_later c.args.term.now c.is_term.ensures c.args.p;
      bounded = c.requires.bounded;
      same = refl;
    }
