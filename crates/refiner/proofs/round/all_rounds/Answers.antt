use Rattle.std.proofs.Common.{◌*◌, ◌<◌, ◌≤◌, ◌∙◌, ◌++◌, ◌∷◌, [], ℕ, length, get_or, ap, sym, refl, subst, arith}
use Rattle.std.proofs.lemmas.List.{length_push}
use Rattle.sorted_systems.specs.Systems.{system_from}
use Rattle.refiner.specs.Cells.{scanned, target_at}
use Rattle.refiner.specs.History.{IsRound, size_of}
use Rattle.refiner.specs.Making.{AreNested}
use Rattle.refiner.specs.Ready.{moment_at}
use Rattle.refiner.specs.Recorded.{round_with}
use Rattle.refiner.proofs.Append.{leads_on}
use Rattle.refiner.proofs.Counted.{few_into, scanned_low, scanned_next, scans_in}
use Rattle.refiner.proofs.Halves.{half_made, size_some}
use Rattle.refiner.proofs.Nested.{nested_now, agreeing_now, greatest_now}
use Rattle.refiner.proofs.OneSource.{target_low}
use Rattle.refiner.proofs.States.{length-system_from}
use Rattle.refiner.proofs.Waiting.{torn_made}
use Rattle.refiner.proofs.round.all_rounds.Goals as goal
use Rattle.refiner.proofs.round.all_rounds.Goals.{At-loop-x}

-- what holds at the head of the loop
module _ (g : _) (c : At-loop-x g) where
  -- blocks lie in coarse blocks
  nested : AreNested c.loop-x.progress.blocks c.loop-x.progress.coarse
  nested =
      let p = c.loop-x.progress in
      let h = c.loop-x.invariant.history in
      let ready = c.loop-x.invariant.ready in
      let n = length-system_from 0 c.args.shapes.now c.args.store.now.edges in
      nested_now (g.I.Iface.node c.args.iface.now) (g.I.Iface.kin c.args.iface.now)
      (g.I.Iface.fits c.args.iface.now) (g.I.Iface.value c.args.iface.now)
      (g.I.Iface.agree c.args.iface.now) (g.met.I.Iface.laws c.args.iface.now)
      (system_from 0 c.args.shapes.now c.args.store.now.edges) c.requires.system
      c.requires.starts.0 (moment_at c.args.progress.now) c.requires.starts.1 h.0
      c.loop-x.history.rounds h.1.legal p.blocks p.coarse p.numbers.items h.1.here ready.numbered
      (ready.states ∙ sym c.requires.one_shape ∙ sym n)

  -- no edge is scanned more than 25 times
  bound : scanned c.loop-x.progress.scans.items c.args.store.now.edges
      ≤ length c.args.store.now.edges * 25
  bound =
      let E = c.args.store.now.edges in
      let system = system_from 0 c.args.shapes.now E in
      let n = length-system_from 0 c.args.shapes.now E in
      let p = c.loop-x.progress in
      let h = c.loop-x.invariant.history in
      let low : (j : ℕ) → j < length E → target_at E j < length system = λ j hj.
      (let t = target_low E c.args.store.now.states j c.is_stored.ensures.targets_in hj in
      omega (arith, t, n, c.requires.one_shape)) in
      scans_in (g.I.Iface.node c.args.iface.now) (g.I.Iface.value c.args.iface.now) system E
      (moment_at c.args.progress.now) h.0 c.loop-x.history.rounds (moment_at p) p.scans.items
      c.requires.starts.0 25 h.1 c.requires.starts.1
      (omega (arith, n, c.requires.one_shape, c.requires.few_states)) low

pub loop-x-init : goal.loop-x-init
loop-x-init g c =
    let E = c.args.store.now.edges in
    let n = length-system_from 0 c.args.shapes.now E in
    let zero_at : (y : ℕ) → y < c.args.store.now.states → get_or c.args.progress.now.scans.items y 0
    ≤ 0 =
    λ y hy. c.requires.ready.scans_small y 0 (omega (arith, hy, c.requires.ready.one_scan)) in
    let none : scanned c.args.progress.now.scans.items E ≤ length E * 0 =
    scanned_low E c.args.progress.now.scans.items 0 (λ j hj. zero_at (target_at E j)
    (let t = target_low E c.args.store.now.states j c.is_stored.ensures.targets_in hj in
    omega (arith, t))) in
    record {
      history = (
        [],
        record {
          legal = rw c.new-history.ensures.rounds tt;
          here = refl;
          halves = rw c.new-history.ensures.rounds tt;
          counted = λ y hy. (
              let few : get_or c.args.progress.now.scans.items y 0 ≤ 0 = zero_at y
              (omega (arith, hy, n, c.requires.one_shape)) in
              rw c.new-history.ensures.rounds (omega (arith, few)));
        },
      );
      begins = c.new-history.ensures.splits;
      ready = c.requires.ready;
      number_is = sym (ap length c.new-history.ensures.rounds);
      few = omega arith;
      rise = omega arith;
      counted = omega (arith, none);
      cells = c.requires.cells;
      sizes = c.requires.counted;
      few_cells = omega (arith, c.requires.few_cells);
    }

pub find_half-requires-clause-nested : goal.find_half-requires-clause-nested
find_half-requires-clause-nested g c =
    nested g (goal.at.find_half-requires-clause-nested g c).At-loop-x

pub one_round-requires-clause-nested : goal.one_round-requires-clause-nested
one_round-requires-clause-nested g c =
    nested g (goal.at.one_round-requires-clause-nested g c).At-loop-x

pub one_round-requires-clause-torn : goal.one_round-requires-clause-torn
one_round-requires-clause-torn g c =
    let p = c.loop-x.progress in
    let half = c.in-Some.ensures.half in
    torn_made p.blocks p.coarse c.in-Some.x c.loop-x.invariant.ready.numbered.states half.0 half.1
    (size_some p.blocks.block c.in-Some.x half.0)

pub one_round-requires-clause-agreeing : goal.one_round-requires-clause-agreeing
one_round-requires-clause-agreeing g c =
    let E = c.args.store.now.edges in
    let system = system_from 0 c.args.shapes.now E in
    let n = length-system_from 0 c.args.shapes.now E in
    let p = c.loop-x.progress in
    let h = c.loop-x.invariant.history in
    let ready = c.loop-x.invariant.ready in
    agreeing_now (g.I.Iface.node c.args.iface.now) (g.I.Iface.kin c.args.iface.now)
    (g.I.Iface.fits c.args.iface.now) (g.I.Iface.value c.args.iface.now)
    (g.I.Iface.agree c.args.iface.now) (g.met.I.Iface.laws c.args.iface.now)
    system c.requires.system
    c.requires.starts.0 (moment_at c.args.progress.now) c.requires.starts.1 h.0
    c.loop-x.history.rounds h.1.legal (moment_at p) h.1.here

pub one_round-requires-clause-ready : goal.one_round-requires-clause-ready
one_round-requires-clause-ready g c =
    let was = c.loop-x.invariant.ready in
    record {
      states = was.states;
      numbered = was.numbered;
      numbers_small = was.numbers_small;
      few = was.few;
      unmarked = was.unmarked;
      one_scan = was.one_scan;
      scans_small = was.scans_small;
      waiting = c.find_half.ensures.waiting;
    }

pub one_round-requires-clause-cells : goal.one_round-requires-clause-cells
one_round-requires-clause-cells g c = c.loop-x.invariant.cells

pub one_round-requires-clause-room : goal.one_round-requires-clause-room
one_round-requires-clause-room g c =
    omega (
      arith,
      bound g (goal.at.one_round-requires-clause-room g c).At-loop-x,
      c.loop-x.invariant.counted,
      c.loop-x.invariant.few_cells,
      c.requires.few_edges,
    )

pub one_round-requires-clause-steps_fit : goal.one_round-requires-clause-steps_fit
one_round-requires-clause-steps_fit g c =
    omega (
      arith,
      bound g (goal.at.one_round-requires-clause-steps_fit g c).At-loop-x,
      c.loop-x.invariant.counted,
      c.loop-x.invariant.rise,
      c.requires.few_edges,
      c.requires.steps_fit,
    )

pub overflow_add-labels : goal.overflow_add-labels
overflow_add-labels g c =
    omega (
      arith,
      bound g (goal.at.overflow_add-labels g c).At-loop-x,
      c.loop-x.invariant.counted,
      c.in_ok-numbers.ensures.counted,
      few_into c.args.store.now.edges c.loop-x.progress.blocks c.in_ok-numbers.numbers.splitter,
      c.requires.few_edges,
    )

pub loop-x-preserved : goal.loop-x-preserved
loop-x-preserved g c =
    let E = c.args.store.now.edges in
    let system = system_from 0 c.args.shapes.now E in
    let n = length-system_from 0 c.args.shapes.now E in
    let p = c.loop-x.progress in
    let h = c.loop-x.invariant.history in
    let ready = c.loop-x.invariant.ready in
    let after = c.one_round.new.progress in
    let round : IsRound (g.I.Iface.node c.args.iface.now) (g.I.Iface.value c.args.iface.now)
    system (length c.loop-x.history.rounds)
    (moment_at p) (moment_at after) (round_with c.in_ok-numbers.numbers
    c.one_round.new.history.splits) =
    subst (λ k. IsRound (g.I.Iface.node c.args.iface.now) (g.I.Iface.value c.args.iface.now)
    system k (moment_at p) (moment_at after) (round_with c.in_ok-numbers.numbers
    c.one_round.new.history.splits))
    c.loop-x.invariant.number_is c.in_ok-numbers.ensures.round in
    let half : 2 * size_of (moment_at p).blocks c.in_ok-numbers.numbers.splitter ≤ size_of
    (moment_at p).coarse c.in_ok-numbers.numbers.coarse =
    half_made p.blocks p.coarse p.numbers.items c.in-Some.x c.in_ok-numbers.numbers.splitter
    c.in_ok-numbers.numbers.coarse
    c.in-Some.ensures.half.1 c.in_ok-numbers.ensures.splitter c.in_ok-numbers.ensures.left in
    let next = scanned_next E p.blocks c.in_ok-numbers.numbers.splitter p.scans.items
    after.scans.items
    (λ j hj. c.in_ok-numbers.ensures.scans (target_at E j)
    (let t = target_low E c.args.store.now.states j c.is_stored.ensures.targets_in hj in
    omega (arith, t))) in
    record {
      history = (
        h.0 ++ moment_at after ∷ [],
        rw (c.in_ok-end_round.ensures.rounds, c.in_ok-numbers.ensures.rounds)
            (leads_on (g.I.Iface.node c.args.iface.now) (g.I.Iface.value c.args.iface.now)
            system (moment_at c.args.progress.now) h.0
            c.loop-x.history.rounds (moment_at p) (moment_at after)
            (round_with c.in_ok-numbers.numbers c.one_round.new.history.splits) p.scans.items
            after.scans.items h.1 round half
            (λ y hy. c.in_ok-numbers.ensures.scans y (omega (arith, hy, n, c.requires.one_shape)))),
      );
      begins = c.in_ok-end_round.ensures.splits;
      ready = c.in_ok-numbers.ensures.ready;
      number_is = omega (
        arith,
        ap length c.in_ok-end_round.ensures.rounds,
        ap length c.in_ok-numbers.ensures.rounds,
        length_push
            c.one_round.new.history.rounds (round_with c.in_ok-numbers.numbers
            c.one_round.new.history.splits),
        c.loop-x.invariant.number_is,
      );
      few = omega (arith, c.in_ok-numbers.ensures.one_more, c.loop-x.invariant.few);
      rise = omega (arith, c.in_ok-numbers.ensures.rise, c.loop-x.invariant.rise);
      counted = omega (arith, next, c.in_ok-numbers.ensures.counted, c.loop-x.invariant.counted);
      cells = c.in_ok-numbers.ensures.cells;
      sizes = c.in_ok-numbers.ensures.sizes;
      few_cells = omega (arith, c.in_ok-numbers.ensures.few_more, c.loop-x.invariant.few_cells);
    }

pub returns-clause-greatest : goal.returns-clause-greatest
returns-clause-greatest g c =
    let E = c.args.store.now.edges in
    let system = system_from 0 c.args.shapes.now E in
    let n = length-system_from 0 c.args.shapes.now E in
    let p = c.loop-x.progress in
    let h = c.loop-x.invariant.history in
    let ready = c.loop-x.invariant.ready in
    greatest_now (g.I.Iface.node c.args.iface.now) (g.I.Iface.kin c.args.iface.now)
    (g.I.Iface.fits c.args.iface.now) (g.I.Iface.value c.args.iface.now)
    (g.I.Iface.agree c.args.iface.now) (g.met.I.Iface.laws c.args.iface.now)
    system c.requires.system
    c.requires.starts.0 (moment_at c.args.progress.now) c.requires.starts.1 h.0
    c.loop-x.history.rounds h.1.legal p.blocks p.coarse p.numbers.items h.1.here ready.numbered
    (ready.states ∙ sym c.requires.one_shape ∙ sym n) c.in_default.ensures.half
