use Rattle.std.proofs.Common.{◌≡◌, ◌-◌, ◌<◌, ◌⊎◌, ℕ, length, get_or, set, ◌∙◌, ap, subst, refl, arith}
use Rattle.std.specs.Prelude.{All}
use Rattle.std.proofs.lemmas.List.{get_or_default, get_or_read, length_push}
use Rattle.refinable_partition.specs.Blocks.{size_in}
use Rattle.refinable_partition.specs.Layout.{AreMoved as HaveLeft}
use Rattle.refiner.proofs.CellSizes.{counted_new, no_more, parted_new, parted_whole}
use Rattle.refiner.proofs.cells.Cells.part.Goals as goal

pub returns-then-index-many-clause-parted : goal.returns-then-index-many-clause-parted
returns-then-index-many-clause-parted g c =
    let of = c.args.self.now.of.items in
    let sizes = c.args.self.now.sizes.items in
    let weights = c.args.self.now.weights.items in
    let live : c.args.cell < length sizes =
    omega (arith, c.requires.live, c.requires.counted.one_each) in
    let read : c.index.result.now ≡ get_or sizes c.args.cell 0 =
    get_or_read sizes c.args.cell c.index.result.now live c.index.ensures 0 in
    let all : size_in of c.args.cell ≡ length c.args.edges.now =
    omega (arith, read, c.requires.counted.sizes_are c.args.cell live, c.if-index-many.true) in (
      c.args.cell,
      parted_whole of weights (set weights c.args.cell c.args.weight) c.args.edges.now c.args.weight
          c.args.cell c.requires.live refl c.requires.once (λ k d h. (c.requires.each k d h).0)
          (λ k d h. (c.requires.each k d h).1) all,
    )

pub overflow_sub-index_mut : goal.overflow_sub-index_mut
overflow_sub-index_mut g c =
    let of = c.args.self.now.of.items in
    let sizes = c.args.self.now.sizes.items in
    let live : c.args.cell < length sizes =
    omega (arith, c.requires.live, c.requires.counted.one_each) in
    let read : c.index_mut-2.result.now ≡ get_or sizes c.args.cell 0 =
    c.index_mut-2.ensures.value
    ∙ get_or_default sizes c.args.cell c.index_mut-2.result.now 0 live in
    omega (
      arith,
      read,
      c.requires.counted.sizes_are c.args.cell live,
      no_more c.args.edges.now of c.args.cell c.requires.once
          (λ k d h. (c.requires.each k d h).0) (λ k d h. (c.requires.each k d h).1),
    )

pub returns-clause-counted : goal.returns-clause-counted
returns-clause-counted g c =
    let of = c.args.self.now.of.items in
    let sizes = c.args.self.now.sizes.items in
    let weights = c.args.self.now.weights.items in
    let many : ℕ = length c.args.edges.now in
    let live : c.args.cell < length sizes =
    omega (arith, c.requires.live, c.requires.counted.one_each) in
    let read : c.index_mut-2.result.now ≡ get_or sizes c.args.cell 0 =
    c.index_mut-2.ensures.value
    ∙ get_or_default sizes c.args.cell c.index_mut-2.result.now 0 live in
    let new : c.len-new.result ≡ length weights = omega arith in
    let here : All (λ e. get_or of e 0 ≡ c.args.cell) c.args.edges.now =
    λ k d h. (c.requires.each k d h).1 in
    let left : HaveLeft c.args.cell c.len-new.result many of c.renumber.new.of.items =
    c.renumber.ensures.counted c.args.cell (λ e. omega (arith, e, c.requires.live, new)) here in
    counted_new of c.renumber.new.of.items sizes c.push.new.self.items weights
    c.push-2.new.self.items c.args.cell many (c.index_mut-2.result.now - many) c.requires.counted
    live
    (ap length c.in_ok-push-2.ensures.items ∙ length_push weights c.args.weight)
    c.in_ok-push.ensures.items
    (omega (
      arith,
      read,
      c.requires.counted.sizes_are c.args.cell live,
      no_more c.args.edges.now of c.args.cell c.requires.once
          (λ k d h. (c.requires.each k d h).0) here,
    ))
    c.renumber.ensures.len
    (λ e. subst (λ n. (get_or c.renumber.new.of.items e 0 ≡ n)
    ⊎ (get_or c.renumber.new.of.items e 0 ≡ get_or of e 0)) new (c.renumber.ensures.either e))
    (subst (λ n. HaveLeft c.args.cell n many of c.renumber.new.of.items) new left)

pub returns-clause-parted : goal.returns-clause-parted
returns-clause-parted g c =
    let of = c.args.self.now.of.items in
    let weights = c.args.self.now.weights.items in
    let new : c.len-new.result ≡ length weights = omega arith in (
      length weights,
      parted_new of c.renumber.new.of.items weights c.push-2.new.self.items c.args.edges.now
          c.args.weight c.in_ok-push-2.ensures.items c.renumber.ensures.len
          (λ e he. omega (arith, c.requires.counted.in_range e he, c.requires.counted.one_each))
          (subst (λ n. All (λ e. get_or c.renumber.new.of.items e 0 ≡ n) c.args.edges.now) new
          c.renumber.ensures.moved)
          c.renumber.ensures.others,
    )
