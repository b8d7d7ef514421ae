use Rattle.std.proofs.Common.{◌≡◌, length, map, drop, true, ◌+◌, ◌-◌, ◌*◌}
use Rattle.std.specs.List.{list_all}
use Rattle.functor_terms.specs.Terms.{children_at}
use Rattle.typing.specs.Bounds.{is_bounded, are_any, sums_hold, each_holds, entries_hold}
use Rattle.typing.proofs.TermFacts.{are_later}
use Rattle.fitting.specs.Scaling.{child_sums}
use Rattle.fitting.proofs.sums.+sums.Given as goal

-- nodes go up, and at one node a function calls its helpers
abbrev pub decreases-sums_at : goal.decreases-sums_at
decreases-sums_at l = 4 * (length l.term.now - l.p) + 3

abbrev pub decreases-sums_in_places : goal.decreases-sums_in_places
decreases-sums_in_places l = 4 * (length l.term.now - l.p) + 2

abbrev pub decreases-sums_in_all : goal.decreases-sums_in_all
decreases-sums_in_all l = 4 * (length l.term.now - l.p) + 2

abbrev pub decreases-sums_in_entries : goal.decreases-sums_in_entries
decreases-sums_in_entries l = 4 * (length l.term.now - l.p) + 2

abbrev pub decreases-sums_at_child : goal.decreases-sums_at_child
decreases-sums_at_child l = 4 * (length l.term.now - l.p) + 1

-- the answer for the rest is the answer for all
abbrev pub invariant-sums_in_places-loop-child : goal.invariant-sums_in_places-loop-child
invariant-sums_in_places-loop-child l = record {
  later : are_later (length l.term) l.p l.children ≡ true;
  bounded : list_all is_bounded l.rest ≡ true;
  same :
      each_holds (map (sums_hold are_any l.l l.term) l.children) l.rest
      ≡ each_holds (map (sums_hold are_any l.l l.term) (children_at l.term l.p)) l.values;
}

abbrev pub decreases-sums_in_places-loop-child : goal.decreases-sums_in_places-loop-child
decreases-sums_in_places-loop-child l = length l.children

abbrev pub invariant-sums_in_all-loop-value : goal.invariant-sums_in_all-loop-value
invariant-sums_in_all-loop-value l = record {
  bounded : list_all is_bounded (drop l.value-index l.values) ≡ true;
  same :
      list_all (child_sums l.l l.term l.p 0) (drop l.value-index l.values)
      ≡ list_all (child_sums l.l l.term l.p 0) l.values;
}

abbrev pub invariant-sums_in_entries-loop-value : goal.invariant-sums_in_entries-loop-value
invariant-sums_in_entries-loop-value l = record {
  bounded : list_all (λ e. is_bounded e.0) (drop l.value-index l.entries) ≡ true;
  same :
      entries_hold (child_sums l.l l.term l.p 0) (drop l.value-index l.entries)
      ≡ entries_hold (child_sums l.l l.term l.p 0) l.entries;
}
