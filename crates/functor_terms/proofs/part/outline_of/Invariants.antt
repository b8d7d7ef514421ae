use Rattle.std.proofs.Common.{◌<◌, ◌≤◌, take}
use Rattle.std.specs.List.{AllByRecursion}
use Rattle.functor_terms.specs.Terms.{IsWithin, node_limit, depth_limit}
use Rattle.functor_terms.proofs.OverLaws.{IsOutline}
use Rattle.functor_terms.proofs.part.outline_of.Given as goal

-- the outline of the parts so far, which are small
abbrev pub invariant-loop-part : goal.invariant-loop-part
invariant-loop-part l = record {
  outline : IsOutline (take l.part-index l.parts) l.children l.next l.depth;
  within : AllByRecursion IsWithin (take l.part-index l.parts);
  few : l.next ≤ node_limit;
  shallow : l.depth < depth_limit;
}
