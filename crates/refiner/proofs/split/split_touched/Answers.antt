use Rattle.std.proofs.Common.{◌≡◌, ◌≢◌, ◌+◌, ◌-◌, ◌<◌, ◌≤◌, ◌∙◌, ℕ, List, length, get_or, take, drop, sym, ap, refl, subst, arith, rules}
use Rattle.std.proofs.lemmas.List.{length-take-le, length-drop}
use Rattle.std.specs.List.Sorted.{IsNonDecreasingBy}
use Rattle.std.specs.Ordering.{is_lt}
use Rattle.std.proofs.lemmas.Fn.{always_returns_same}
use Rattle.std.proofs.lemmas.List.Sorted.{ranks_by}
use Rattle.modalities.specs.declared.three.Three.{Three}
use Rattle.refinable_partition.specs.Blocks.{Blocks, block_at, states_of}
use Rattle.refiner.specs.declared.moved.Moved.{Moved}
use Rattle.refiner.specs.Recorded.{Split}
use Rattle.refiner.specs.Grouping.{value_at, AreCut}
use Rattle.refiner.specs.Touched.{AreMoved, AreMovedOf, AreRising, HaveOneVoid, moved_cmp}
use Rattle.refiner.proofs.BlockByBlock.{AreCutBelow, below_none, moved_sorted, run_told, run_kept, run_pushed, run_single, so_far, beyond, skipped}
use Rattle.refiner.proofs.MovedOrder.{moved_total, blocks_rise, values_rise}
use Rattle.refiner.proofs.split.split_touched.Goals as goal
use Rattle.refiner.proofs.split.split_touched.Goals.{After-index}

pub loop-from-init : goal.loop-from-init
loop-from-init c = record {
  in_range = omega arith;
  rounds = refl;
  cutting = (
    0,
    rw c.requires.begins (below_none c.args.blocks.now c.args.moved.now.items
        c.sort_unstable_by.new.self.items c.requires.unmarked),
  );
}

-- what is known where the first of a run of moved states is read: all of the run are of its block
module _ (c : After-index) where
  abbrev sorted : List Moved
  sorted = c.sort_unstable_by.new.self.items

  abbrev m : Moved
  m = c.index.result.now

  abbrev upto : ℕ
  upto = c.loop-from.invariant.cutting.0

  rises : IsNonDecreasingBy (λ (n : Moved). n.block) sorted
  rises =
      blocks_rise sorted (c.sort_unstable_by.ensures.sorted
      (λ m n. is_lt (moved_cmp m n)) (ranks_by moved_total (λ (m : Moved). m))
      (always_returns_same _ _ _ (λ a r f k. search rules)))

  within : c.block_end-to.result ≤ length sorted
  within = omega (arith, c.block_end-to.ensures.within, ap length c.as_slice.ensures.value)

  here : c.loop-from.from < length sorted
  here = omega (arith, c.block_end-to.ensures.later, within)

  low : upto ≤ m.block
  low =
      subst (λ (n : Moved). upto ≤ n.block) (sym c.index.ensures)
      (c.loop-from.invariant.cutting.1.after c.loop-from.from m (omega arith) here)

  same : (k : ℕ) (d : Moved) → c.loop-from.from ≤ k → k < c.block_end-to.result →
      (get_or sorted k d).block ≡ (get_or sorted c.loop-from.from d).block
  same k d h l =
      subst (λ (ys : List Moved). (get_or ys k d).block ≡ (get_or ys c.loop-from.from d).block)
      c.as_slice.ensures.value (c.block_end-to.ensures.alike k d h l)

  other : (d : Moved) → c.block_end-to.result < length sorted →
      (get_or sorted c.block_end-to.result d).block ≢ (get_or sorted c.loop-from.from d).block
  other d h =
      subst (λ (ys : List Moved). (get_or ys c.block_end-to.result d).block
      ≢ (get_or ys c.loop-from.from d).block) c.as_slice.ensures.value
      (c.block_end-to.ensures.other d (omega (arith, h, ap length c.as_slice.ensures.value)))

  told_sorted : (all voids : List Three) → AreMoved all voids c.args.blocks.now c.args.moved.now.items →
      AreMoved all voids c.args.blocks.now sorted
  told_sorted all voids =
      moved_sorted all voids c.args.blocks.now c.args.moved.now.items sorted
      c.sort_unstable_by.ensures.permutation

  live : m.block < c.args.blocks.now.count
  live =
      let t = c.requires.told in
      let told = told_sorted t.0 t.1 t.2 in
      let b = told.blocks_are c.loop-from.from m here in
      let r = told.in_range c.loop-from.from m here in
      let s = subst (λ (n : Moved). (n.state < states_of c.args.blocks.now)
      × (n.block ≡ block_at c.args.blocks.now n.state)) (sym c.index.ensures) (r, b) in
      omega (arith, c.is_laid_out.ensures.in_range m.state s.0, s.1)

  -- the states of the run are those of the block that move
  run_is : (all voids : List Three) → AreMoved all voids c.args.blocks.now c.args.moved.now.items →
      HaveOneVoid voids c.args.blocks.now →
      AreMovedOf all (value_at voids m.state) c.loop-from.blocks m.block
      (take (c.block_end-to.result - c.loop-from.from) (drop c.loop-from.from sorted))
  run_is all voids told one =
      run_told all voids c.args.blocks.now sorted (told_sorted all voids told) one rises
      c.loop-from.blocks c.loop-from.history.splits upto c.loop-from.from
      (c.loop-from.invariant.cutting.1.cut all voids told one)
      c.loop-from.invariant.cutting.1.before c.block_end-to.result m
      c.block_end-to.ensures.later within c.index.ensures low same other live

  -- what is cut up to the end of the run, once its block is
  next : (q : Blocks) (splits : List Split) →
      ((all voids : List Three) → AreMoved all voids c.args.blocks.now c.args.moved.now.items →
      HaveOneVoid voids c.args.blocks.now → AreCut all (m.block + 1) c.args.blocks.now q splits) →
      AreCutBelow c.args.blocks.now q c.args.moved.now.items sorted c.block_end-to.result
      (m.block + 1) splits
  next q splits cut =
      let inv = c.loop-from.invariant.cutting.1 in
      let t = c.requires.told in
      record {
        before =
            so_far t.0 t.1 c.args.blocks.now sorted (told_sorted t.0 t.1 t.2) t.3 rises
            c.loop-from.blocks c.loop-from.history.splits upto c.loop-from.from
            (inv.cut t.0 t.1 t.2 t.3) inv.before c.block_end-to.result m
            c.block_end-to.ensures.later within c.index.ensures low same other;
        after =
            beyond t.0 t.1 c.args.blocks.now sorted (told_sorted t.0 t.1 t.2) t.3 rises
            c.loop-from.blocks c.loop-from.history.splits upto c.loop-from.from
            (inv.cut t.0 t.1 t.2 t.3) inv.before c.block_end-to.result m
            c.block_end-to.ensures.later within c.index.ensures low same other;
        small = omega (arith, live);
        cut = cut;
      }

pub members-requires : goal.members-requires
members-requires c =
    let t = c.requires.told in
    let cut = c.loop-from.invariant.cutting.1.cut t.0 t.1 t.2 t.3 in
    omega (arith, live c, cut.grown)

pub split_block-requires : goal.split_block-requires
split_block-requires c =
    let r = (goal.at.split_block-requires c).After-index in
    let from = c.loop-from.from in
    let to = c.block_end-to.result in
    let t = c.requires.told in
    let cut = c.loop-from.invariant.cutting.1.cut t.0 t.1 t.2 t.3 in
    let run = take (to - from) (drop from (sorted r)) in
    let some : 0 < length run =
    omega (
      arith,
      c.block_end-to.ensures.later,
      within r,
      length-take-le (to - from) (drop from (sorted r))
          (omega (arith, length-drop from (sorted r))),
    ) in
    record {
      some = subst (λ (ys : List Moved). 0 < length (take (to - from) (drop from ys)))
          (sym c.deref.ensures.value) some;
      told = (
        t.0,
        value_at t.1 (m r).state,
        subst (λ (ys : List Moved). AreMovedOf t.0 (value_at t.1 (m r).state) c.loop-from.blocks
            (m r).block (take (to - from) (drop from ys))) (sym c.deref.ensures.value)
            (run_is r t.0 t.1 t.2 t.3),
      );
      rising = subst (λ (ys : List Moved). AreRising (take (to - from) (drop from ys)))
          (sym c.deref.ensures.value)
          (values_rise (sorted r) (c.sort_unstable_by.ensures.sorted
          (λ m n. is_lt (moved_cmp m n)) (ranks_by moved_total (λ (m : Moved). m))
          (always_returns_same _ _ _ (λ a r f k. search rules))) from to (within r) (same r));
      unmarked = cut.unmarked;
      live = omega (arith, live r, cut.grown);
    }

pub loop-from-preserved-then-members-lt2 : goal.loop-from-preserved-then-members-lt2
loop-from-preserved-then-members-lt2 c =
    let r = (goal.at.loop-from-preserved-then-members-lt2 c).After-index in
    let inv = c.loop-from.invariant.cutting in
    record {
      in_range = within r;
      rounds = c.loop-from.invariant.rounds;
      cutting = (
        (m r).block + 1,
        next r c.loop-from.blocks c.loop-from.history.splits (λ all voids told one.
            run_single all voids c.args.blocks.now (sorted r) (told_sorted r all voids told) one
            (rises r) c.loop-from.blocks c.loop-from.history.splits inv.0 c.loop-from.from
            (inv.1.cut all voids told one) inv.1.before c.block_end-to.result (m r)
            c.block_end-to.ensures.later (within r) c.index.ensures (low r) (same r) (other r)
            c.members.result.now c.members.ensures.members (omega arith)),
      );
    }

pub loop-from-preserved : goal.loop-from-preserved
loop-from-preserved c =
    let r = (goal.at.loop-from-preserved c).After-index in
    let from = c.loop-from.from in
    let to = c.block_end-to.result in
    let inv = c.loop-from.invariant.cutting in
    record {
      in_range = within r;
      rounds = c.loop-from.invariant.rounds;
      cutting = (
        (m r).block + 1,
        next r c.split_block.new.blocks c.loop-from.history.splits (λ all voids told one.
            run_kept all voids c.args.blocks.now (sorted r) (told_sorted r all voids told) one
            (rises r) c.loop-from.blocks c.loop-from.history.splits inv.0 from
            (inv.1.cut all voids told one) inv.1.before to (m r)
            c.block_end-to.ensures.later (within r) c.index.ensures (low r) (same r) (other r)
            (live r) c.split_block.new.blocks c.split_block.new.parts.items
            (c.in_ok-split_block.ensures all (value_at voids (m r).state)
            (subst (λ (ys : List Moved). AreMovedOf all (value_at voids (m r).state)
            c.loop-from.blocks (m r).block (take (to - from) (drop from ys)))
            (sym c.deref.ensures.value) (run_is r all voids told one)))
            (omega arith)),
      );
    }

pub loop-from-preserved-in_ok-add_split : goal.loop-from-preserved-in_ok-add_split
loop-from-preserved-in_ok-add_split c =
    let r = (goal.at.loop-from-preserved-in_ok-add_split c).After-index in
    let from = c.loop-from.from in
    let to = c.block_end-to.result in
    let inv = c.loop-from.invariant.cutting in
    let s : Split = record { parent = (m r).block; parts = c.split_block.new.parts.items } in
    record {
      in_range = within r;
      rounds = c.in_ok-add_split.ensures.rounds ∙ c.loop-from.invariant.rounds;
      cutting = (
        (m r).block + 1,
        next r c.split_block.new.blocks c.add_split.new.self.splits (λ all voids told one.
            subst (λ (out : List Split). AreCut all ((m r).block + 1) c.args.blocks.now
            c.split_block.new.blocks out) (sym c.in_ok-add_split.ensures.splits)
            (run_pushed all voids c.args.blocks.now (sorted r) (told_sorted r all voids told) one
            (rises r) c.loop-from.blocks c.loop-from.history.splits inv.0 from
            (inv.1.cut all voids told one) inv.1.before to (m r)
            c.block_end-to.ensures.later (within r) c.index.ensures (low r) (same r) (other r)
            (live r) c.split_block.new.blocks s refl
            (c.in_ok-split_block.ensures all (value_at voids (m r).state)
            (subst (λ (ys : List Moved). AreMovedOf all (value_at voids (m r).state)
            c.loop-from.blocks (m r).block (take (to - from) (drop from ys)))
            (sym c.deref.ensures.value) (run_is r all voids told one)))
            (omega arith))),
      );
    }

pub returns-clause-cut : goal.returns-clause-cut
returns-clause-cut c = λ all voids told one.
    let p = c.args.blocks.now in
    let sorted = c.sort_unstable_by.new.self.items in
    let from = c.loop-from.from in
    let inv = c.loop-from.invariant.cutting in
    let rises = blocks_rise sorted (c.sort_unstable_by.ensures.sorted
    (λ m n. is_lt (moved_cmp m n)) (ranks_by moved_total (λ (m : Moved). m))
    (always_returns_same _ _ _ (λ a r f k. search rules))) in
    let all_seen : length sorted ≤ from = omega arith in
    skipped all voids p sorted
    (moved_sorted all voids p c.args.moved.now.items sorted
    c.sort_unstable_by.ensures.permutation told) one rises c.loop-from.blocks
    c.loop-from.history.splits inv.0 from (inv.1.cut all voids told one) inv.1.before p.count
    inv.1.small (λ i d h l. absurd (omega (arith, all_seen, h, l)))
