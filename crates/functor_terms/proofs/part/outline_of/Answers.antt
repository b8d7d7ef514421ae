use Rattle.std.proofs.Common.{◌<◌, ◌≤◌, ◌⊎◌, inl, inr, ◌+◌, rules}
use Rattle.functor_terms.specs.Terms.{node_limit, depth_limit}
use Rattle.functor_terms.proofs.OverLaws.{outline-step, too_large, within-push}
use Rattle.functor_terms.proofs.part.outline_of.Goals as goal
use Rattle.functor_terms.proofs.part.outline_of.Goals.{then-next-gt-NODE_LIMIT-via-then-next-gt-NODE_LIMIT, then-next-gt-NODE_LIMIT-via-else-next-gt-NODE_LIMIT+then-depth-ge-DEPTH_LIMIT}

pub returns-then-next-gt-NODE_LIMIT-clause-malformed :
    goal.returns-then-next-gt-NODE_LIMIT-clause-malformed
returns-then-next-gt-NODE_LIMIT-clause-malformed c e small =
    let step = outline-step c.args.parts.now c.loop-part.part-index c.part-item.result
    c.loop-part-test.true c.part-item.is c.loop-part.children c.push.new.self c.loop-part.next
    c.len.result c.loop-part.depth c.max-depth.result
    c.loop-part.invariant.outline c.in_ok-push.ensures.ok c.len.ensures.count (search rules) in
    let large : (node_limit < c.loop-part.next + c.len.result) ⊎ (depth_limit ≤ c.max-depth.result)
    =
    elim c.then-next-gt-NODE_LIMIT.branch [
      | then-next-gt-NODE_LIMIT-via-then-next-gt-NODE_LIMIT w ↦ inl w.if-next-gt-NODE_LIMIT.true
      | then-next-gt-NODE_LIMIT-via-else-next-gt-NODE_LIMIT+then-depth-ge-DEPTH_LIMIT w ↦ inr
          w.if-depth-ge-DEPTH_LIMIT.true
    ] in
    too_large c.args.parts.now (c.loop-part.part-index + 1) c.push.new.self (c.loop-part.next
    + c.len.result) c.max-depth.result step large small

pub loop-part-preserved : goal.loop-part-preserved
loop-part-preserved c = record {
  outline = outline-step c.args.parts.now c.loop-part.part-index c.part-item.result
      c.loop-part-test.true c.part-item.is c.loop-part.children c.push.new.self c.loop-part.next
      c.len.result c.loop-part.depth c.max-depth.result
      c.loop-part.invariant.outline c.in_ok-push.ensures.ok c.len.ensures.count (search rules);
  within = within-push c.args.parts.now c.loop-part.part-index c.part-item.result
      c.loop-part-test.true c.part-item.is c.loop-part.invariant.within c.len.ensures.within;
  few = c.if-next-gt-NODE_LIMIT.false;
  shallow = c.if-depth-ge-DEPTH_LIMIT.false;
}
