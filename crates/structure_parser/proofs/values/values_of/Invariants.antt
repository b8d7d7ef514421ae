use Rattle.std.proofs.Common.{◌≡◌, ◌++◌, List, length}
use Rattle.std.specs.List.{AllByRecursion, AllZip}
use Rattle.std.specs.Vec.Iter.{into_iter_items}
use Rattle.typing.specs.declared.value.Value.{Value}
use Rattle.structure_parser.specs.Reading.{IsReady, IsValueOf, short_kept}
use Rattle.structure_parser.proofs.values.values_of.Given as goal

-- the first short sum of the rest is that of all, and values of the rest stand behind those so far
abbrev pub invariant-loop-first : goal.invariant-loop-first
invariant-loop-first l = record {
  sums :
      short_kept l.l l.term (into_iter_items l.left) ≡ short_kept l.l l.term l.fn.kept.items;
  values :
      (vs : List Value) → AllZip (IsValueOf l.term l.l (length l.own)) (into_iter_items l.left) vs
      → AllZip (IsValueOf l.term l.l (length l.own)) l.fn.kept.items (l.values.items ++ vs);
  ready : AllByRecursion (IsReady l.term (length l.own)) (into_iter_items l.left);
}

abbrev pub decreases-loop-first : goal.decreases-loop-first
decreases-loop-first l = length (into_iter_items l.left)
