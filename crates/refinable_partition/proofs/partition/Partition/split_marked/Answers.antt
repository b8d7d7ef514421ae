use Rattle.std.proofs.Common.{◌+◌, ◌==◌, ◌&&◌, cond, false, refl, ◌∙◌, ap, arith}
use Rattle.refinable_partition.specs.Blocks.{Blocks, block_at, mark_at}
use Rattle.refinable_partition.proofs.Viewed.{block_in, state_in}
use Rattle.refinable_partition.proofs.Splitting.{count_in, end_in, moving_in, moving_once, counts_mixed, mixed_counts, cleared_only, split_laid, split_blocks, split_cleared}
use Rattle.refinable_partition.proofs.partition.Partition.split_marked.Goals as goal

pub returns-then-not-is_mixed-clause-cleared : goal.returns-then-not-is_mixed-clause-cleared
returns-then-not-is_mixed-clause-cleared c = λ x hx.
    cleared_only c.self.invariant (block_in c.self.view_is c.requires) c.index-from.ensures
    c.index-marked.ensures c.index-size.ensures x (state_in c.self.view_is hx)
    ∙ ap (λ (p : Blocks). cond (block_at p x == c.args.b) false (mark_at p x)) c.self.view_is

pub returns-then-not-is_mixed-clause-mixed : goal.returns-then-not-is_mixed-clause-mixed
returns-then-not-is_mixed-clause-mixed c = (
  (λ e. cc),
  λ mixed. c.if-not-is_mixed.ensures.mixed.1 (
      mixed_counts c.self.invariant (block_in c.self.view_is c.requires) c.index-from.ensures
      c.index-marked.ensures c.index-size.ensures c.args.self.now c.self.view_is mixed),
)

pub returns-clause-cleared : goal.returns-clause-cleared
returns-clause-cleared c = λ x hx.
    split_cleared c.self.invariant (block_in c.self.view_is c.requires) c.index-from.ensures
    c.index-marked.ensures c.index-size.ensures c.deref.ensures.value
    (c.if-not-is_mixed.ensures.mixed.0 refl) c.renumber.ensures.len c.renumber.ensures.moved
    c.renumber.ensures.others c.renumber.ensures.counted x (state_in c.self.view_is hx)
    ∙ ap (λ (p : Blocks). cond (block_at p x == c.args.b) false (mark_at p x)) c.self.view_is

pub returns-clause-mixed : goal.returns-clause-mixed
returns-clause-mixed c = (
  (λ _. counts_mixed c.self.invariant (block_in c.self.view_is c.requires) c.index-from.ensures
      c.index-marked.ensures c.index-size.ensures (c.if-not-is_mixed.ensures.mixed.0 refl)
      c.args.self.now c.self.view_is),
  λ _. refl,
)

pub returns-clause-split : goal.returns-clause-split
returns-clause-split c = record {
  one_more = ap (λ (p : Blocks). p.count + 1) c.self.view_is;
  block = λ x hx.
      split_blocks c.self.invariant (block_in c.self.view_is c.requires) c.index-from.ensures
      c.index-marked.ensures c.index-size.ensures c.deref.ensures.value
      (c.if-not-is_mixed.ensures.mixed.0 refl) c.renumber.ensures.len c.renumber.ensures.moved
      c.renumber.ensures.others c.renumber.ensures.counted x (state_in c.self.view_is hx)
      ∙ ap (λ (p : Blocks). cond ((block_at p x == c.args.b) && mark_at p x) p.count (block_at p x))
      c.self.view_is;
}

pub invariant_of-self-2 : goal.invariant_of-self-2
invariant_of-self-2 c =
    split_laid c.self.invariant (block_in c.self.view_is c.requires) c.index-from.ensures
    c.index-marked.ensures c.index-size.ensures c.deref.ensures.value
    (c.if-not-is_mixed.ensures.mixed.0 refl) c.renumber.ensures.len c.renumber.ensures.moved
    c.renumber.ensures.others c.renumber.ensures.counted

pub overflow_add-to : goal.overflow_add-to
overflow_add-to c =
    let few = end_in c.self.invariant (block_in c.self.view_is c.requires) c.index-from.ensures
    c.index-marked.ensures c.index-size.ensures in
    omega (arith, few)

pub renumber-requires-clause-in_range : goal.renumber-requires-clause-in_range
renumber-requires-clause-in_range c =
    moving_in c.self.invariant (block_in c.self.view_is c.requires) c.index-from.ensures
    c.index-marked.ensures c.index-size.ensures c.deref.ensures.value

pub renumber-requires-clause-once : goal.renumber-requires-clause-once
renumber-requires-clause-once c =
    moving_once c.self.invariant (block_in c.self.view_is c.requires) c.index-from.ensures
    c.index-marked.ensures c.index-size.ensures c.deref.ensures.value

pub index_mut-requires-2 : goal.index_mut-requires-2
index_mut-requires-2 c =
    let inside = count_in c.self.invariant (block_in c.self.view_is c.requires) c.index-from.ensures
    c.index-marked.ensures c.index-size.ensures
    (c.if-not-is_mixed.ensures.mixed.0 refl) in
    omega (arith, inside, c.self.invariant.first_len)

pub index_mut-requires-3 : goal.index_mut-requires-3
index_mut-requires-3 c =
    let inside = count_in c.self.invariant (block_in c.self.view_is c.requires) c.index-from.ensures
    c.index-marked.ensures c.index-size.ensures
    (c.if-not-is_mixed.ensures.mixed.0 refl) in
    omega (arith, inside, c.self.invariant.sizes_len)
