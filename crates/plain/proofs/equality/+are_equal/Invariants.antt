use Rattle.std.proofs.Common.{◌≡◌, ◌≤◌, ◌^◌, length, map, true, ◌+◌, ◌-◌, ◌*◌}
use Rattle.std.specs.Prelude.{◌+ℤ◌, unsigned_abs}
use Rattle.std.specs.Cmp.Lexicographic.{pointwise}
use Rattle.std.specs.List.{list_all}
use Rattle.functor_terms.specs.Terms.{children_at}
use Rattle.typing.specs.Bounds.{is_bounded, absolute_sum}
use Rattle.typing.specs.Equality.{are_equal, each_place, has}
use Rattle.typing.proofs.TermFacts.{are_later}
use Rattle.plain.specs.Pairs.{child_test, have_equal, total_at, agree_at}
use Rattle.plain.proofs.equality.+are_equal.Given as goal

-- nodes go up, and at one node a comparison calls its helpers
abbrev pub decreases-are_equal : goal.decreases-are_equal
decreases-are_equal l = 5 * (length l.term.now - l.p) + 4

abbrev pub decreases-equal_places : goal.decreases-equal_places
decreases-equal_places l = 5 * (length l.term.now - l.p) + 3

abbrev pub decreases-equal_lists : goal.decreases-equal_lists
decreases-equal_lists l = 5 * (length l.term.now - l.p) + 3

abbrev pub decreases-same_members : goal.decreases-same_members
decreases-same_members l = 5 * (length l.term.now - l.p) + 3

abbrev pub decreases-each_among : goal.decreases-each_among
decreases-each_among l = 5 * (length l.term.now - l.p) + 2

abbrev pub decreases-same_totals : goal.decreases-same_totals
decreases-same_totals l = 5 * (length l.term.now - l.p) + 3

abbrev pub decreases-is_among : goal.decreases-is_among
decreases-is_among l = 5 * (length l.term.now - l.p) + 1

abbrev pub decreases-totals_agree : goal.decreases-totals_agree
decreases-totals_agree l = 5 * (length l.term.now - l.p) + 2

abbrev pub decreases-total : goal.decreases-total
decreases-total l = 5 * (length l.term.now - l.p) + 1

abbrev pub decreases-equal_at : goal.decreases-equal_at
decreases-equal_at l = 5 * (length l.term.now - l.p)

-- the answer for the rest is the answer for all
abbrev pub invariant-equal_places-loop-child : goal.invariant-equal_places-loop-child
invariant-equal_places-loop-child l = record {
  later : are_later (length l.term) l.p l.children ≡ true;
  left : list_all is_bounded l.left ≡ true;
  right : list_all is_bounded l.right ≡ true;
  rest : each_place (map (are_equal l.term) l.children) l.left l.right ≡ each_place
      (map (are_equal l.term) (children_at l.term l.p)) l.fn.us l.fn.vs;
}

abbrev pub decreases-equal_places-loop-child : goal.decreases-equal_places-loop-child
decreases-equal_places-loop-child l = length l.children

abbrev pub invariant-equal_lists-loop-u : goal.invariant-equal_lists-loop-u
invariant-equal_lists-loop-u l = record {
  left : list_all is_bounded l.left ≡ true;
  right : list_all is_bounded l.right ≡ true;
  rest : pointwise (child_test l.term l.p 0) l.left l.right ≡ pointwise (child_test l.term l.p 0)
      l.fn.us l.fn.vs;
}

abbrev pub decreases-equal_lists-loop-u : goal.decreases-equal_lists-loop-u
decreases-equal_lists-loop-u l = length l.left

abbrev pub invariant-each_among-loop-u : goal.invariant-each_among-loop-u
invariant-each_among-loop-u l = record {
  left : list_all is_bounded l.left ≡ true;
  rest : have_equal l.term l.p l.left l.vs ≡ have_equal l.term l.p l.us l.vs;
}

abbrev pub decreases-each_among-loop-u : goal.decreases-each_among-loop-u
decreases-each_among-loop-u l = length l.left

abbrev pub invariant-is_among-loop-v : goal.invariant-is_among-loop-v
invariant-is_among-loop-v l = record {
  right : list_all is_bounded l.right ≡ true;
  rest : has (child_test l.term l.p 0) l.right l.u ≡ has (child_test l.term l.p 0) l.vs l.u;
}

abbrev pub decreases-is_among-loop-v : goal.decreases-is_among-loop-v
decreases-is_among-loop-v l = length l.right

abbrev pub invariant-totals_agree-loop-e : goal.invariant-totals_agree-loop-e
invariant-totals_agree-loop-e l = record {
  each : list_all (λ e. is_bounded e.0) l.rest ≡ true;
  rest : agree_at l.term l.p l.us l.vs l.rest ≡ agree_at l.term l.p l.us l.vs l.elements;
}

abbrev pub decreases-totals_agree-loop-e : goal.decreases-totals_agree-loop-e
decreases-totals_agree-loop-e l = length l.rest

-- the sum so far and the total of the rest, and room for both
abbrev pub invariant-total-loop-e : goal.invariant-total-loop-e
invariant-total-loop-e l = record {
  left : list_all (λ e. is_bounded e.0) l.rest ≡ true;
  small : unsigned_abs l.sum + absolute_sum l.rest ≤ 2 ^ 126;
  made : l.sum +ℤ total_at l.term l.p l.rest l.a ≡ total_at l.term l.p l.entries l.a;
}

abbrev pub decreases-total-loop-e : goal.decreases-total-loop-e
decreases-total-loop-e l = length l.rest
