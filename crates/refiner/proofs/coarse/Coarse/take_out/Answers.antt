use Rattle.std.proofs.Common.{◌≡◌, ◌-◌, ◌<◌, ◌⊎◌, ℕ, length, get_or, sym, subst, arith}
use Rattle.std.specs.Prelude.{All}
use Rattle.refinable_partition.specs.Blocks.{Blocks, block_at, size_in}
use Rattle.refinable_partition.specs.Layout.{AreMoved as HaveLeft}
use Rattle.refiner.proofs.CoarseSizes.{few_sized, size_read, sized_after}
use Rattle.refiner.proofs.coarse.Coarse.take_out.Goals as goal

pub overflow_cast-new : goal.overflow_cast-new
overflow_cast-new c =
    omega (
      arith,
      few_sized c.self.inside.of.items c.self.inside.sizes.items c.self.invariant,
      c.self.invariant.few,
    )

pub overflow_sub-index_mut : goal.overflow_sub-index_mut
overflow_sub-index_mut c =
    let of = c.self.inside.of.items in
    let sizes = c.self.inside.sizes.items in
    let many : ℕ = length c.args.states.now in
    let live : c.args.c < length sizes =
    subst (λ (q : Blocks). c.args.c < q.count) (sym c.self.view_is) c.requires.live in
    let proper : many < size_in of c.args.c =
    subst (λ (q : Blocks). many < size_in q.block c.args.c) (sym c.self.view_is)
    c.requires.proper in
    let size = size_read of sizes c.push.new.self.items c.args.c many c.index_mut.result.now
    c.self.invariant live c.in_ok-push.ensures.items c.index_mut.ensures.value in
    omega (arith, size, proper)

pub invariant_of-self-2 : goal.invariant_of-self-2
invariant_of-self-2 c =
    let of = c.self.inside.of.items in
    let sizes = c.self.inside.sizes.items in
    let many : ℕ = length c.args.states.now in
    let live : c.args.c < length sizes =
    subst (λ (q : Blocks). c.args.c < q.count) (sym c.self.view_is) c.requires.live in
    let proper : many < size_in of c.args.c =
    subst (λ (q : Blocks). many < size_in q.block c.args.c) (sym c.self.view_is)
    c.requires.proper in
    let of_c : All (λ x. get_or of x 0 ≡ c.args.c) c.args.states.now =
    λ k d h. subst (λ (q : Blocks). block_at q (get_or c.args.states.now k d) ≡ c.args.c)
    (sym c.self.view_is) (c.requires.each k d h).1 in
    let size = size_read of sizes c.push.new.self.items c.args.c many c.index_mut.result.now
    c.self.invariant live c.in_ok-push.ensures.items c.index_mut.ensures.value in
    let new : c.len-new.result ≡ length sizes = omega arith in
    let left : HaveLeft c.args.c c.len-new.result many of c.renumber.new.of.items =
    c.renumber.ensures.counted c.args.c (λ e. omega (arith, e, live, new)) of_c in
    rw c.in_ok-push.ensures.items
    (sized_after of sizes c.renumber.new.of.items c.args.c many
    (c.index_mut.result.now - many) c.self.invariant live c.requires.some proper
    (omega (arith, size, proper)) c.renumber.ensures.len
    (λ x. subst (λ n. (get_or c.renumber.new.of.items x 0 ≡ n)
    ⊎ (get_or c.renumber.new.of.items x 0 ≡ get_or of x 0)) new
    (c.renumber.ensures.either x))
    (subst (λ n. HaveLeft c.args.c n many of c.renumber.new.of.items) new left))
