use Rattle.std.proofs.Common.{◌≡◌, ◌≢◌, ◌+◌, ◌-◌, ◌<◌, ◌≤◌, ◌∙◌, ℕ, List, length, map, take, drop, sym, refl, arith}
use Rattle.std.proofs.lemmas.List.{length-take-le, length-drop}
use Rattle.modalities.specs.declared.three.Three.{Three}
use Rattle.iface.specs.Trits.{without_splitter}
use Rattle.refinable_partition.specs.Blocks.{block_at, states_of}
use Rattle.sorted_systems.specs.Systems.{system_from}
use Rattle.refiner.specs.Cells.{round_values, round_voids, source_at, target_at}
use Rattle.refiner.specs.Grouping.{value_at}
use Rattle.refiner.specs.Making.{trit_in}
use Rattle.refiner.proofs.BySource.{updated_none, cells_here, group_is, stays, leaves, moved_all, cells_all, value_there, untouched_alike, sources_rise}
use Rattle.refiner.proofs.values.update_cells.Goals as goal
use Rattle.refiner.proofs.values.update_cells.Goals.{After-group_end-to, After-is_stored}

-- what the values of the round are, and that untouched states have that of no splitter
module _ (g : _) (c : After-is_stored g) where
  abbrev all : List Three
  all =
      round_values (g.I.Iface.value c.args.iface.now)
      (system_from 0 c.args.shapes.now c.args.store.now.edges)
      (trit_in c.args.blocks.now c.args.coarse.now c.args.s c.args.c)

  abbrev voids : List Three
  voids =
      round_voids (g.I.Iface.value c.args.iface.now)
      (system_from 0 c.args.shapes.now c.args.store.now.edges)
      (trit_in c.args.blocks.now c.args.coarse.now c.args.s c.args.c)

  untouched : (y : ℕ) → y < states_of c.args.blocks.now →
      ((e : ℕ) → e < length c.args.store.now.edges → source_at c.args.store.now.edges e ≡ y →
      block_at c.args.blocks.now (target_at c.args.store.now.edges e) ≢ c.args.s) →
      value_at all y ≡ value_at voids y
  untouched y hy away =
      untouched_alike (g.I.Iface.value c.args.iface.now) c.args.shapes.now c.args.store.now.edges
      c.args.blocks.now c.args.coarse.now c.args.s c.args.c y
      (omega (arith, hy, c.requires.in_blocks, c.requires.one_shape)) away

  rises : (d e : ℕ) → d ≤ e → e < length c.args.store.now.edges →
      source_at c.args.store.now.edges d ≤ source_at c.args.store.now.edges e
  rises = sources_rise c.args.store.now.edges c.is_stored.ensures.ascending

-- a group has as many edges as its range is long
module _ (g : _) (c : After-group_end-to g) where
  many : length (take (c.group_end-to.result - c.loop-from.from)
      (drop c.loop-from.from c.args.edges.now)) ≡ c.group_end-to.result - c.loop-from.from
  many =
      length-take-le (c.group_end-to.result - c.loop-from.from)
      (drop c.loop-from.from c.args.edges.now)
      (omega (
        arith,
        length-drop c.loop-from.from c.args.edges.now,
        c.group_end-to.ensures.within,
        c.group_end-to.ensures.later,
      ))

pub loop-from-init : goal.loop-from-init
loop-from-init g c =
    let E = c.args.store.now.edges in
    let p = c.args.blocks.now in
    let q = c.args.coarse.now in
    let s = c.args.s in
    let edges = c.args.edges.now in
    let shapes = c.args.shapes.now in
    let toward = g.I.Iface.toward c.args.iface.now in
    let r = (goal.at.loop-from-init g c).After-is_stored in
    record {
      in_range = omega arith;
      few_more = omega arith;
      rise = omega arith;
      sizes = c.requires.counted;
      updating = (
        0,
        rw c.clear.ensures.items (updated_none toward shapes E p q s edges c.requires.edges (all g r)
            (voids g r) (untouched g r) (rises g r)
            c.args.cells.now.of.items c.args.cells.now.weights.items c.requires.cells),
      );
    }

pub update_one-requires-clause-cells : goal.update_one-requires-clause-cells
update_one-requires-clause-cells g c =
    let E = c.args.store.now.edges in
    let p = c.args.blocks.now in
    let q = c.args.coarse.now in
    let s = c.args.s in
    let edges = c.args.edges.now in
    let shapes = c.args.shapes.now in
    let toward = g.I.Iface.toward c.args.iface.now in
    let r = (goal.at.update_one-requires-clause-cells g c).After-is_stored in
    let inv = c.loop-from.invariant.updating in
    cells_here toward shapes E p q s edges c.requires.edges (all g r)
    (voids g r) (untouched g r) (rises g r)
    c.loop-from.from inv.0 c.loop-from.cells.of.items
    c.loop-from.cells.weights.items c.loop-from.moved.items inv.1
    c.group_end-to.result c.group_end-to.ensures.later
    c.group_end-to.ensures.within c.source-x.result (sym c.source-x.ensures.source)
    c.group_end-to.ensures.alike c.group_end-to.ensures.other

pub update_one-requires-clause-group : goal.update_one-requires-clause-group
update_one-requires-clause-group g c =
    let E = c.args.store.now.edges in
    let p = c.args.blocks.now in
    let q = c.args.coarse.now in
    let s = c.args.s in
    let edges = c.args.edges.now in
    let shapes = c.args.shapes.now in
    let toward = g.I.Iface.toward c.args.iface.now in
    let r = (goal.at.update_one-requires-clause-group g c).After-is_stored in
    let inv = c.loop-from.invariant.updating in
    group_is toward shapes E p q s edges c.requires.edges (all g r)
    (voids g r) (untouched g r) (rises g r)
    c.loop-from.from inv.0 c.loop-from.cells.of.items
    c.loop-from.cells.weights.items c.loop-from.moved.items inv.1
    c.group_end-to.result c.group_end-to.ensures.later
    c.group_end-to.ensures.within c.source-x.result (sym c.source-x.ensures.source)
    c.group_end-to.ensures.alike c.group_end-to.ensures.other

pub update_one-requires-clause-few : goal.update_one-requires-clause-few
update_one-requires-clause-few g c =
    omega (
      arith,
      many g (goal.at.update_one-requires-clause-few g c).After-group_end-to,
      c.requires.few,
      c.group_end-to.ensures.within,
    )

pub update_one-requires-clause-room : goal.update_one-requires-clause-room
update_one-requires-clause-room g c =
    omega (arith, c.loop-from.invariant.few_more, c.requires.room, c.loop-from-test.true)

pub update_one-requires-clause-steps_fit : goal.update_one-requires-clause-steps_fit
update_one-requires-clause-steps_fit g c =
    omega (
      arith,
      c.loop-from.invariant.rise,
      c.requires.few,
      c.loop-from-test.true,
      c.requires.steps_fit,
    )

pub loop-from-preserved : goal.loop-from-preserved
loop-from-preserved g c =
    let E = c.args.store.now.edges in
    let p = c.args.blocks.now in
    let q = c.args.coarse.now in
    let s = c.args.s in
    let edges = c.args.edges.now in
    let shapes = c.args.shapes.now in
    let toward = g.I.Iface.toward c.args.iface.now in
    let r = (goal.at.loop-from-preserved g c).After-is_stored in
    let value = g.I.Iface.value c.args.iface.now in
    let trit = trit_in p q s c.args.c in
    let inv = c.loop-from.invariant.updating in
    let x = c.source-x.result in
    let hx : x < length shapes =
    omega (arith, c.source-x.ensures.in_range, c.requires.one_shape) in
    let all_x : c.in_ok-three.three ≡ value_at (all g r) x =
    value_there (λ a ls ts. value a ls (map trit ts)) shapes E x c.in_ok-three.three hx
    c.in_ok-three.ensures.three in
    let void_x : c.in_ok-three.void ≡ value_at (voids g r) x =
    value_there (λ a ls ts. value a ls (without_splitter (map trit ts))) shapes E x
    c.in_ok-three.void hx c.in_ok-three.ensures.void in
    let one : value_at (all g r) x ≡ value_at (voids g r) x =
    sym all_x ∙ c.is_same.ensures.0 c.if-not-is_same.false ∙ void_x in
    record {
      in_range = c.group_end-to.ensures.within;
      few_more = omega (
        arith,
        c.in_ok-three.ensures.one_more,
        c.loop-from.invariant.few_more,
        c.group_end-to.ensures.later,
      );
      rise = omega (
        arith,
        c.in_ok-three.ensures.counted,
        c.loop-from.invariant.rise,
        many g (goal.at.loop-from-preserved g c).After-group_end-to,
        c.group_end-to.ensures.later,
      );
      sizes = c.in_ok-three.ensures.sizes;
      updating = (
        x + 1,
        stays toward shapes E p q s edges c.requires.edges (all g r)
            (voids g r) (untouched g r) (rises g r)
            c.loop-from.from inv.0 c.loop-from.cells.of.items
            c.loop-from.cells.weights.items c.loop-from.moved.items inv.1
            c.group_end-to.result c.group_end-to.ensures.later
            c.group_end-to.ensures.within c.source-x.result (sym c.source-x.ensures.source)
            c.group_end-to.ensures.alike c.group_end-to.ensures.other
            c.update_one.new.cells.of.items c.update_one.new.cells.weights.items
            c.in_ok-three.ensures.cells one,
      );
    }

pub loop-from-preserved-in_ok-push : goal.loop-from-preserved-in_ok-push
loop-from-preserved-in_ok-push g c =
    let E = c.args.store.now.edges in
    let p = c.args.blocks.now in
    let q = c.args.coarse.now in
    let s = c.args.s in
    let edges = c.args.edges.now in
    let shapes = c.args.shapes.now in
    let toward = g.I.Iface.toward c.args.iface.now in
    let r = (goal.at.loop-from-preserved-in_ok-push g c).After-is_stored in
    let value = g.I.Iface.value c.args.iface.now in
    let trit = trit_in p q s c.args.c in
    let inv = c.loop-from.invariant.updating in
    let x = c.source-x.result in
    let hx : x < length shapes =
    omega (arith, c.source-x.ensures.in_range, c.requires.one_shape) in
    let all_x : c.in_ok-three.three ≡ value_at (all g r) x =
    value_there (λ a ls ts. value a ls (map trit ts)) shapes E x c.in_ok-three.three hx
    c.in_ok-three.ensures.three in
    let void_x : c.in_ok-three.void ≡ value_at (voids g r) x =
    value_there (λ a ls ts. value a ls (without_splitter (map trit ts))) shapes E x
    c.in_ok-three.void hx c.in_ok-three.ensures.void in
    let ne : value_at (all g r) x ≢ value_at (voids g r) x = λ e.
    (let same = c.is_same.ensures.1 (all_x ∙ e ∙ sym void_x) in cc) in
    record {
      in_range = c.group_end-to.ensures.within;
      few_more = omega (
        arith,
        c.in_ok-three.ensures.one_more,
        c.loop-from.invariant.few_more,
        c.group_end-to.ensures.later,
      );
      rise = omega (
        arith,
        c.in_ok-three.ensures.counted,
        c.loop-from.invariant.rise,
        many g (goal.at.loop-from-preserved-in_ok-push g c).After-group_end-to,
        c.group_end-to.ensures.later,
      );
      sizes = c.in_ok-three.ensures.sizes;
      updating = (
        x + 1,
        rw c.in_ok-push.ensures.items (leaves toward shapes E p q s edges c.requires.edges (all g r)
            (voids g r) (untouched g r) (rises g r)
            c.loop-from.from inv.0 c.loop-from.cells.of.items
            c.loop-from.cells.weights.items c.loop-from.moved.items inv.1
            c.group_end-to.result c.group_end-to.ensures.later
            c.group_end-to.ensures.within c.source-x.result (sym c.source-x.ensures.source)
            c.group_end-to.ensures.alike c.group_end-to.ensures.other
            c.update_one.new.cells.of.items c.update_one.new.cells.weights.items
            c.in_ok-three.ensures.cells
            (record {
              block = c.block_of-block.result;
              state = x;
              three = c.in_ok-three.three;
              void = c.in_ok-three.void;
            })
            refl (omega (arith, c.source-x.ensures.in_range, c.requires.in_blocks))
            c.block_of-block.ensures.block all_x void_x ne),
      );
    }

pub returns-clause-few_more : goal.returns-clause-few_more
returns-clause-few_more g c =
    omega (arith, c.loop-from.invariant.few_more, c.loop-from.invariant.in_range)

pub returns-clause-cells : goal.returns-clause-cells
returns-clause-cells g c =
    let E = c.args.store.now.edges in
    let p = c.args.blocks.now in
    let q = c.args.coarse.now in
    let s = c.args.s in
    let edges = c.args.edges.now in
    let shapes = c.args.shapes.now in
    let toward = g.I.Iface.toward c.args.iface.now in
    let r = (goal.at.returns-clause-cells g c).After-is_stored in
    let inv = c.loop-from.invariant.updating in
    cells_all toward shapes E p q s edges c.requires.edges (all g r)
    (voids g r) (untouched g r) (rises g r)
    c.loop-from.from inv.0 c.loop-from.cells.of.items
    c.loop-from.cells.weights.items c.loop-from.moved.items inv.1 (omega arith)

pub returns-clause-moved : goal.returns-clause-moved
returns-clause-moved g c =
    let E = c.args.store.now.edges in
    let p = c.args.blocks.now in
    let q = c.args.coarse.now in
    let s = c.args.s in
    let edges = c.args.edges.now in
    let shapes = c.args.shapes.now in
    let toward = g.I.Iface.toward c.args.iface.now in
    let r = (goal.at.returns-clause-moved g c).After-is_stored in
    let inv = c.loop-from.invariant.updating in
    moved_all toward shapes E p q s edges c.requires.edges (all g r)
    (voids g r) (untouched g r) (rises g r)
    c.loop-from.from inv.0 c.loop-from.cells.of.items
    c.loop-from.cells.weights.items c.loop-from.moved.items inv.1 (omega arith)
