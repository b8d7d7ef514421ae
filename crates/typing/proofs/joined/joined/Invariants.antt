use Rattle.std.proofs.Common.{◌≡◌, ◌+◌, ◌≤◌, ◌^◌, ◌++◌}
use Rattle.std.specs.Prelude.{unsigned_abs}
use Rattle.std.specs.List.{sum_by}
use Rattle.std.specs.Vec.Iter.{into_iter_items, into_iter_len}
use Rattle.functor_terms.specs.Terms.{node_at}
use Rattle.typing.specs.NormalForms.{child_form, joined, joined_from}
use Rattle.typing.specs.Equality.{plus_at}
use Rattle.typing.proofs.joined.joined.Given as goal

abbrev pub invariant-loop-value : goal.invariant-loop-value
invariant-loop-value l = record {
  bounded : unsigned_abs l.last.1 + sum_by (λ e. unsigned_abs e.1) (into_iter_items l.rest)
      ≤ 2 ^ 126;
  made : l.new.items ++ joined_from (child_form l.term l.p 0).compare (plus_at (node_at l.term l.p))
      l.last (into_iter_items l.rest) ≡ joined (child_form l.term l.p 0).compare
      (plus_at (node_at l.term l.p)) l.fn.entries.items;
}

abbrev pub decreases-loop-value : goal.decreases-loop-value
decreases-loop-value l = into_iter_len l.rest
