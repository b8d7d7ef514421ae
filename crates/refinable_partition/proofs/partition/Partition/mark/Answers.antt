use Rattle.std.proofs.Common.{◌∙◌, ap, arith, sym}
use Rattle.refinable_partition.specs.Blocks.{Blocks, mark_at}
use Rattle.refinable_partition.proofs.Viewed.{state_in}
use Rattle.refinable_partition.proofs.Marking.{b_in, y_in, room, mark_laid, marked_here, marked_others, marked_before}
use Rattle.refinable_partition.proofs.partition.Partition.mark.Goals as goal

pub returns-then-from-to-clause-here : goal.returns-then-from-to-clause-here
returns-then-from-to-clause-here c =
    ap (λ (p : Blocks). mark_at p c.args.x) (sym c.self.view_is)
    ∙ marked_before c.self.invariant (state_in c.self.view_is c.requires) c.index.ensures
    c.index-marked.ensures c.index-from.ensures c.index-2.ensures c.if-from-to.true

pub returns-clause-here : goal.returns-clause-here
returns-clause-here c =
    marked_here c.self.invariant (state_in c.self.view_is c.requires) c.index.ensures
    c.index-marked.ensures c.index-from.ensures c.index-2.ensures c.if-from-to.false
    c.index-other.ensures c.swap.ensures.by_index c.swap-2.ensures.by_index

pub returns-clause-others : goal.returns-clause-others
returns-clause-others c = λ y ne.
    marked_others c.self.invariant (state_in c.self.view_is c.requires) c.index.ensures
    c.index-marked.ensures c.index-from.ensures c.index-2.ensures c.if-from-to.false
    c.index-other.ensures c.swap.ensures.by_index c.swap-2.ensures.by_index y ne
    ∙ ap (λ (p : Blocks). mark_at p y) c.self.view_is

pub invariant_of-self : goal.invariant_of-self
invariant_of-self c =
    mark_laid c.self.invariant (state_in c.self.view_is c.requires) c.index.ensures
    c.index-marked.ensures c.index-from.ensures c.index-2.ensures c.if-from-to.false
    c.index-other.ensures c.swap.ensures.by_index c.swap-2.ensures.by_index

pub swap-requires-2-clause-j_in_bounds : goal.swap-requires-2-clause-j_in_bounds
swap-requires-2-clause-j_in_bounds c =
    let inside = y_in c.self.invariant (state_in c.self.view_is c.requires) c.index.ensures
    c.index-marked.ensures c.index-from.ensures c.index-2.ensures c.if-from-to.false
    c.index-other.ensures in
    omega (arith, inside, c.self.invariant.place_len)

pub overflow_add-marked : goal.overflow_add-marked
overflow_add-marked c =
    let few = room c.self.invariant (state_in c.self.view_is c.requires) c.index.ensures
    c.index-marked.ensures c.index-from.ensures c.index-2.ensures c.if-from-to.false
    c.index-other.ensures in
    omega (arith, few)

pub index_mut-requires : goal.index_mut-requires
index_mut-requires c =
    let inside = b_in c.self.invariant (state_in c.self.view_is c.requires) c.index.ensures
    c.index-marked.ensures c.index-from.ensures c.index-2.ensures in
    omega (arith, inside, c.self.invariant.marks_len)
