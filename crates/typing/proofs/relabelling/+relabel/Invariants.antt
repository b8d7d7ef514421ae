use Rattle.std.proofs.Common.{◌≡◌, length, map, take, true, List, ◌++◌, ◌+◌, ◌-◌, ◌*◌}
use Rattle.std.specs.List.{AllZip}
use Rattle.functor_terms.specs.Terms.{children_at}
use Rattle.functor_terms.specs.Lists.{Zip3}
use Rattle.typing.specs.declared.value.Value.{Value}
use Rattle.typing.specs.Fits.{fits}
use Rattle.typing.specs.NormalForms.{each_ready, IsRelabelledAt, IsRelabelledChild, IsRelabelledEntry}
use Rattle.typing.proofs.TermFacts.{are_later}
use Rattle.typing.proofs.relabelling.+relabel.Given as goal

-- nodes go up, and at one node a value calls its parts
abbrev pub decreases-relabel_at : goal.decreases-relabel_at
decreases-relabel_at l = 4 * (length l.term.now - l.p) + 3

abbrev pub decreases-relabel_places : goal.decreases-relabel_places
decreases-relabel_places l = 4 * (length l.term.now - l.p) + 2

abbrev pub decreases-relabel_each : goal.decreases-relabel_each
decreases-relabel_each l = 4 * (length l.term.now - l.p) + 2

abbrev pub decreases-relabel_entries : goal.decreases-relabel_entries
decreases-relabel_entries l = 4 * (length l.term.now - l.p) + 2

abbrev pub decreases-relabel_child : goal.decreases-relabel_child
decreases-relabel_child l = 4 * (length l.term.now - l.p) + 1

-- what is made of the rest goes on to what is made of all
abbrev pub invariant-relabel_places-loop-child : goal.invariant-relabel_places-loop-child
invariant-relabel_places-loop-child l = record {
  later : are_later (length l.term) l.p l.children ≡ true;
  ready : each_ready (length l.labels) (map (fits l.term) l.children) l.rest ≡ true;
  made : (more : List Value) → Zip3 (IsRelabelledAt l.term l.labels) l.children l.rest more
      → Zip3 (IsRelabelledAt l.term l.labels) (children_at l.term l.p) l.values
      (l.new.items ++ more);
}

abbrev pub decreases-relabel_places-loop-child : goal.decreases-relabel_places-loop-child
decreases-relabel_places-loop-child l = length l.children

abbrev pub invariant-relabel_each-loop-value : goal.invariant-relabel_each-loop-value
invariant-relabel_each-loop-value l = AllZip (IsRelabelledChild l.term l.labels l.p 0)
    (take l.value-index l.values) l.new.items

abbrev pub invariant-relabel_entries-loop-value : goal.invariant-relabel_entries-loop-value
invariant-relabel_entries-loop-value l = AllZip (IsRelabelledEntry l.term l.labels l.p)
    (take l.value-index l.entries) l.new.items
