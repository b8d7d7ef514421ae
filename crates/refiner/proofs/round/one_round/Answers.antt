use Rattle.std.proofs.Common.{◌≡◌, ◌+◌, ◌*◌, ◌<◌, ◌==◌, ◌∙◌, ℕ, List, length, get_or, set, ap, sym, refl, subst, inl, inr, arith}
use Rattle.std.proofs.lemmas.List.{get_or_read, length_push, length-set}
use Rattle.std.proofs.lemmas.Bool.{cases_eq}
use Rattle.modalities.specs.declared.three.Three.{Three}
use Rattle.refinable_partition.specs.Blocks.{block_at, states_of}
use Rattle.sorted_systems.specs.Systems.{system_from}
use Rattle.refiner.specs.declared.parts.Part.{Part}
use Rattle.refiner.specs.Recorded.{Split}
use Rattle.refiner.specs.Cells.{round_values, round_voids, target_at, class_after, AreEdgesWithin}
use Rattle.refiner.specs.Grouping.{AreCut}
use Rattle.refiner.specs.Making.{trit_in}
use Rattle.refiner.specs.Touched.{HaveOneVoid}
use Rattle.refiner.specs.Waiting.{AddsSplits}
use Rattle.refiner.proofs.Apart.{in_blocks_after}
use Rattle.refiner.proofs.CellsStep.{cells_agree}
use Rattle.refiner.proofs.Counted.{as_many, few_into}
use Rattle.refiner.proofs.OneSource.{target_low}
use Rattle.refiner.proofs.Ready.{numbers_apart_next, numbers_small_next, scans_small_next}
use Rattle.refiner.proofs.States.{length-system_from}
use Rattle.refiner.proofs.RoundMade.{round_made, below_from_all}
use Rattle.refiner.proofs.Voids.{one_void, values_are}
use Rattle.refiner.proofs.Waiting.{waiting_after}
use Rattle.refiner.proofs.round.one_round.Goals as goal
use Rattle.refiner.proofs.round.one_round.Goals.{After-block_of-c}

-- what is known of the splitter and its coarse block
module _ (g : _) (c : After-block_of-c g) where
  abbrev all : List Three
  all =
      round_values (g.I.Iface.value c.args.iface.now)
      (system_from 0 c.args.shapes.now c.args.store.now.edges)
      (trit_in c.args.progress.now.blocks c.args.progress.now.coarse c.block_of-splitter.result
      c.block_of-c.result)

  abbrev voids : List Three
  voids =
      round_voids (g.I.Iface.value c.args.iface.now)
      (system_from 0 c.args.shapes.now c.args.store.now.edges)
      (trit_in c.args.progress.now.blocks c.args.progress.now.coarse c.block_of-splitter.result
      c.block_of-c.result)

  n_is : states_of c.args.progress.now.blocks
      ≡ length (system_from 0 c.args.shapes.now c.args.store.now.edges)
  n_is =
      c.requires.ready.states ∙ sym c.requires.one_shape
      ∙ sym (length-system_from 0 c.args.shapes.now c.args.store.now.edges)

  within : (t : ℕ) → t < states_of c.args.progress.now.blocks →
      block_at c.args.progress.now.blocks t ≡ c.block_of-splitter.result →
      block_at c.args.progress.now.coarse t ≡ c.block_of-c.result
  within t ht e =
      c.requires.nested t c.args.x ht c.requires.torn.1.0
      (e ∙ c.block_of-splitter.ensures.block)
      ∙ sym c.block_of-c.ensures.block

  hc : c.block_of-c.result < length c.args.progress.now.numbers.items
  hc = omega (arith, c.requires.ready.numbered.one_number, c.block_of-c.ensures.in_range)

  one : HaveOneVoid voids c.args.progress.now.blocks
  one =
      one_void (g.I.Iface.node c.args.iface.now) (g.I.Iface.kin c.args.iface.now)
      (g.I.Iface.fits c.args.iface.now) (g.I.Iface.value c.args.iface.now)
      (g.I.Iface.agree c.args.iface.now) (g.met.I.Iface.laws c.args.iface.now)
      (system_from 0 c.args.shapes.now c.args.store.now.edges) c.requires.system
      c.args.progress.now.blocks c.args.progress.now.coarse c.args.progress.now.numbers.items
      c.requires.ready.numbered n_is c.requires.agreeing c.block_of-splitter.result
      c.block_of-c.result hc within

pub update_cells-requires-clause-within : goal.update_cells-requires-clause-within
update_cells-requires-clause-within g c =
    let r = (goal.at.update_cells-requires-clause-within g c).After-block_of-c in
    within g r

pub update_cells-requires-clause-edges : goal.update_cells-requires-clause-edges
update_cells-requires-clause-edges g c =
    subst (λ es. AreEdgesWithin c.args.store.now.edges c.args.progress.now.blocks
    c.block_of-splitter.result es) (sym c.as_slice.ensures.value) c.in_ok-edges_within.ensures

pub update_cells-requires-clause-few : goal.update_cells-requires-clause-few
update_cells-requires-clause-few g c =
    omega (
      arith,
      ap length c.as_slice.ensures.value,
      as_many c.args.store.now.edges c.args.progress.now.blocks c.block_of-splitter.result
          c.edges_within.new.found.items c.in_ok-edges_within.ensures,
      few_into c.args.store.now.edges c.args.progress.now.blocks c.block_of-splitter.result,
      c.is_stored.ensures.few,
    )

pub update_cells-requires-clause-room : goal.update_cells-requires-clause-room
update_cells-requires-clause-room g c =
    omega (
      arith,
      ap length c.as_slice.ensures.value,
      as_many c.args.store.now.edges c.args.progress.now.blocks c.block_of-splitter.result
          c.edges_within.new.found.items c.in_ok-edges_within.ensures,
      few_into c.args.store.now.edges c.args.progress.now.blocks c.block_of-splitter.result,
      c.is_stored.ensures.few,
      c.requires.room,
    )

pub split_touched-requires-clause-told : goal.split_touched-requires-clause-told
split_touched-requires-clause-told g c =
    let r = (goal.at.split_touched-requires-clause-told g c).After-block_of-c in
    (all g r, voids g r, c.in_ok-update_cells.ensures.moved, one g r)

pub add_waiting-requires : goal.add_waiting-requires
add_waiting-requires g c =
    let r = (goal.at.add_waiting-requires g c).After-block_of-c in
    let p = c.args.progress.now.blocks in
    let cut : AreCut (all g r) p.count p c.split_touched.new.blocks
    c.split_touched.new.history.splits =
    c.in_ok-split_touched.ensures.cut (all g r) (voids g r) c.in_ok-update_cells.ensures.moved
    (one g r) in
    rw c.open_splits-splits.ensures
    (record {
      live = λ i d h j e l. (
          let by_ = cut.cuts i d h in
          let s : Split = get_or c.split_touched.new.history.splits i d in
          let part : Part = get_or s.parts j e in
          elim (cases_eq part.block s.parent) [
            | inl same ↦ omega (arith, same, by_.live, cut.grown)
            | inr other ↦ (let f = by_.others_new j e l other in f.1)
          ]);
    })

pub returns-clause-round : goal.returns-clause-round
returns-clause-round g c =
    let r = (goal.at.returns-clause-round g c).After-block_of-c in
    let E = c.args.store.now.edges in
    let p = c.args.progress.now.blocks in
    let q = c.args.progress.now.coarse in
    let numbers = c.args.progress.now.numbers.items in
    let ready = c.requires.ready.numbered in
    let s = c.block_of-splitter.result in
    let k = c.block_of-c.result in
    let value = g.I.Iface.value c.args.iface.now in
    let system = system_from 0 c.args.shapes.now E in
    let cut : AreCut (all g r) p.count p c.split_touched.new.blocks
    c.split_touched.new.history.splits =
    c.in_ok-split_touched.ensures.cut (all g r) (voids g r) c.in_ok-update_cells.ensures.moved
    (one g r) in
    let was : c.index-coarse.result.now ≡ get_or numbers k 0 =
    get_or_read numbers k c.index-coarse.result.now (hc g r) c.index-coarse.ensures 0 in
    round_made (g.I.Iface.node c.args.iface.now) value system
    (λ x a at. below_from_all _ _ (c.requires.system.in_range x a at))
    p q numbers ready (n_is g r)
    c.requires.nested c.args.number k c.args.x c.requires.torn.0
    (record {
      splitter = s;
      coarse = c.index-coarse.result.now;
      inner = 2 * c.args.number + 1;
      outer = 2 * c.args.number + 2;
      splits = c.split_touched.new.history.splits;
    })
    c.requires.torn.1 c.block_of-splitter.ensures.block c.block_of-c.ensures.block was refl refl
    (all g r) (values_are value system (trit_in p q s k))
    c.split_touched.new.blocks c.take_out.new.coarse c.push.new.self.items cut
    c.in_ok-take_out.ensures.out c.in_ok-take_out.ensures.states c.in_ok-push.ensures.items

pub returns-clause-ready : goal.returns-clause-ready
returns-clause-ready g c =
    let r = (goal.at.returns-clause-ready g c).After-block_of-c in
    let p = c.args.progress.now.blocks in
    let q = c.args.progress.now.coarse in
    let numbers = c.args.progress.now.numbers.items in
    let ready = c.requires.ready.numbered in
    let s = c.block_of-splitter.result in
    let k = c.block_of-c.result in
    let cut : AreCut (all g r) p.count p c.split_touched.new.blocks
    c.split_touched.new.history.splits =
    c.in_ok-split_touched.ensures.cut (all g r) (voids g r) c.in_ok-update_cells.ensures.moved
    (one g r) in
    let pr = c.args.progress.now in
    let was = c.requires.ready in
    let states : length c.split_touched.new.blocks.block ≡ c.args.store.now.states =
    cut.states ∙ was.states in
    let coarse : length c.take_out.new.coarse.block ≡ length c.split_touched.new.blocks.block =
    c.in_ok-take_out.ensures.states ∙ ready.states ∙ sym cut.states in
    record {
      states = states;
      numbered = record {
        states = coarse;
        in_blocks = λ x hx.
            in_blocks_after (all g r) p c.split_touched.new.blocks
            c.split_touched.new.history.splits cut ready.in_blocks x
            (omega (arith, hx, cut.states));
        in_coarse = λ x hx.
            omega (
              arith,
              c.is_laid_out-2.ensures.in_range x (omega (arith, coarse)),
            );
        one_number =
            ap length c.in_ok-push.ensures.items
            ∙ omega (
              arith,
              length_push (set numbers k (2 * c.args.number + 2)) (2 * c.args.number + 1),
              length-set numbers k (2 * c.args.number + 2),
              ready.one_number,
              c.in_ok-take_out.ensures.one_more,
            );
        numbers_apart =
            rw c.in_ok-push.ensures.items
            (numbers_apart_next numbers k c.args.number ready.numbers_apart
            was.numbers_small (hc g r));
      };
      numbers_small =
          rw c.in_ok-push.ensures.items
          (numbers_small_next numbers k c.args.number was.numbers_small);
      few = omega (
        arith,
        c.is_laid_out-2.ensures.few_blocks,
        coarse,
        states,
      );
      unmarked = cut.unmarked;
      one_scan = c.count_scans.ensures.one_each ∙ was.one_scan;
      scans_small =
          scans_small_next pr.scans.items c.count_scans.new.scans.items
          (λ z. block_at p z == s) c.args.number
          c.count_scans.ensures.one_each
          (λ z hz. c.count_scans.ensures.counted z (omega (arith, hz, was.one_scan, was.states)))
          was.scans_small;
      waiting =
          waiting_after (all g r) p q c.split_touched.new.blocks
          c.take_out.new.coarse s c.split_touched.new.history.splits
          pr.waiting.items c.add_waiting.new.waiting.items c.requires.nested ready.states
          ready.in_blocks
          ready.in_coarse c.in_ok-take_out.ensures.out c.in_ok-take_out.ensures.states cut
          was.waiting
          (subst (λ (ss : List Split). AddsSplits c.split_touched.new.blocks ss
          pr.waiting.items c.add_waiting.new.waiting.items)
          c.open_splits-splits.ensures c.in_ok-add_waiting.ensures);
    }

pub returns-clause-rise : goal.returns-clause-rise
returns-clause-rise g c =
    omega (arith, c.in_ok-update_cells.ensures.counted, ap length c.as_slice.ensures.value)

pub returns-clause-counted : goal.returns-clause-counted
returns-clause-counted g c =
    let many = as_many c.args.store.now.edges c.args.progress.now.blocks c.block_of-splitter.result
    c.edges_within.new.found.items c.in_ok-edges_within.ensures in
    omega (arith, many)

pub returns-clause-cells : goal.returns-clause-cells
returns-clause-cells g c =
    let E = c.args.store.now.edges in
    let p = c.args.progress.now.blocks in
    let q = c.args.progress.now.coarse in
    let s = c.block_of-splitter.result in
    cells_agree (g.I.Iface.toward c.args.iface.now) c.args.shapes.now E (class_after p q s)
    (λ x. block_at c.take_out.new.coarse) c.update_cells.new.cells.of.items
    c.update_cells.new.cells.weights.items
    (λ e he. sym (c.in_ok-take_out.ensures.out (target_at E e)
    (let t = target_low E c.args.store.now.states e c.is_stored.ensures.targets_in he in
    omega (arith, t, c.requires.ready.states))))
    c.in_ok-update_cells.ensures.cells

pub returns-clause-few_more : goal.returns-clause-few_more
returns-clause-few_more g c =
    omega (arith, c.in_ok-update_cells.ensures.few_more, ap length c.as_slice.ensures.value)
