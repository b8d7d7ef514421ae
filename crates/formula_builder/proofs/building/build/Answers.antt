use Rattle.std.proofs.Common.{◌∙◌, ℕ, ◌<◌, List, length, sym, ap, subst, arith}
use Rattle.std.specs.Prelude.{All}
use Rattle.std.proofs.lemmas.Option.{get_or_from_slice_get, slice_get_within}
use Rattle.refiner.specs.declared.parts.Start.{Start}
use Rattle.sorted_systems.specs.Systems.{system_from}
use Rattle.formula_builder.specs.Books.{IsBegun}
use Rattle.formula_builder.specs.SortedLayers.{BlocksAreTold}
use Rattle.formula_builder.specs.Making.{book_of, round_seen}
use Rattle.formula_builder.proofs.Steps.{start_at, starts_in, ready_at, step_at, end_at, few_at, few_starts, system_length, few_in_system}
use Rattle.formula_builder.proofs.building.build.Goals as goal

pub started-requires-clause-in_range : goal.started-requires-clause-in_range
started-requires-clause-in_range g c =
    subst (λ (n : ℕ). All (λ (p : Start). p.block < n) c.start.result.now)
    (sym c.blocks-2.ensures)
    (subst (λ (ps : List Start). All (λ (p : Start). p.block < c.args.refined.now.blocks) ps)
    (sym c.start.ensures)
    (starts_in (g.I.Iface.node c.args.iface.now) (g.I.Iface.value c.args.iface.now)
    (system_from 0 c.args.shapes.now c.args.store.now.edges) c.args.refined.now c.requires.legal.0
    c.requires.legal.1 c.requires.legal.2))

pub started-requires-clause-few : goal.started-requires-clause-few
started-requires-clause-few g c =
    let few = few_starts (g.I.Iface.node c.args.iface.now) (g.I.Iface.value c.args.iface.now)
    (system_from 0 c.args.shapes.now c.args.store.now.edges) c.args.refined.now c.requires.legal.0
    c.requires.legal.1 c.requires.legal.2 in
    let size = ap (λ (ps : List Start). length ps) c.start.ensures in
    omega (
      arith,
      few,
      size,
      few_in_system c.args.shapes.now c.args.store.now.edges c.requires.few_states,
    )

pub loop-k-init : goal.loop-k-init
loop-k-init g c = record {
  at = start_at (g.I.Iface.node c.args.iface.now) (g.I.Iface.value c.args.iface.now)
      (system_from 0 c.args.shapes.now c.args.store.now.edges) c.requires.system.in_range
      c.args.refined.now c.requires.legal.0 c.requires.legal.1 c.requires.legal.2
      (book_of c.in_ok-notes.notes)
      (subst (λ (ps : List Start). IsBegun ps (book_of c.in_ok-notes.notes))
      c.start.ensures c.in_ok-notes.ensures.begun)
      (c.in_ok-notes.ensures.one_each ∙ c.blocks-2.ensures)
      (c.in_ok-notes.ensures.one_node_each ∙ c.blocks-2.ensures);
}

pub tell_round-requires-clause-tellable : goal.tell_round-requires-clause-tellable
tell_round-requires-clause-tellable g c =
    let r = round_seen c.round-round.result in
    ready_at (g.I.Iface.node c.args.iface.now) (g.I.Iface.value c.args.iface.now)
    (system_from 0 c.args.shapes.now c.args.store.now.edges) c.loop-k.k
    c.args.refined.now.rounds c.args.refined.now.block_of c.args.refined.now.blocks
    (book_of c.loop-k.notes) c.loop-k.invariant.at c.requires.legal.2.numbers
    (few_in_system c.args.shapes.now c.args.store.now.edges c.requires.few_states) r
    (slice_get_within c.args.refined.now.rounds c.loop-k.k r c.round-round.ensures)
    (sym (get_or_from_slice_get c.args.refined.now.rounds c.loop-k.k r r c.round-round.ensures))

pub loop-k-preserved : goal.loop-k-preserved
loop-k-preserved g c = record {
  at = (let r = round_seen c.round-round.result in
      step_at (g.I.Iface.node c.args.iface.now) (g.I.Iface.value c.args.iface.now)
      (system_from 0 c.args.shapes.now c.args.store.now.edges) c.loop-k.k
      c.args.refined.now.rounds c.args.refined.now.block_of c.args.refined.now.blocks
      (book_of c.loop-k.notes) c.loop-k.invariant.at c.requires.legal.2.numbers
      (few_in_system c.args.shapes.now c.args.store.now.edges c.requires.few_states) r
      (slice_get_within c.args.refined.now.rounds c.loop-k.k r c.round-round.ensures)
      (sym (get_or_from_slice_get c.args.refined.now.rounds c.loop-k.k r r
      c.round-round.ensures))
      c.requires.system.in_range (book_of c.tell_round.new.self) c.in_ok-tell_round.ensures.told
      c.in_ok-tell_round.ensures.as_many c.in_ok-tell_round.ensures.as_many_nodes);
}

pub returns-clause-told : goal.returns-clause-told
returns-clause-told g c =
    subst (λ (blocks : List ℕ). BlocksAreTold (g.I.Iface.node c.args.iface.now)
    (g.I.Iface.value c.args.iface.now) (system_from 0 c.args.shapes.now c.args.store.now.edges)
    c.loop-k.notes.dag c.loop-k.notes.blocks.items blocks)
    (sym (c.in_ok-from_slice.ensures.items ∙ c.block_of.ensures))
    (end_at (g.I.Iface.node c.args.iface.now) (g.I.Iface.value c.args.iface.now)
    (system_from 0 c.args.shapes.now c.args.store.now.edges) c.loop-k.k
    c.args.refined.now.rounds c.args.refined.now.block_of c.args.refined.now.blocks
    (book_of c.loop-k.notes) c.loop-k.invariant.at
    (omega (arith, c.rounds-k-end.ensures)))

pub returns-clause-few : goal.returns-clause-few
returns-clause-few g c =
    let few = few_at (g.I.Iface.node c.args.iface.now) (g.I.Iface.value c.args.iface.now)
    (system_from 0 c.args.shapes.now c.args.store.now.edges) c.loop-k.k
    c.args.refined.now.rounds c.args.refined.now.block_of c.args.refined.now.blocks
    (book_of c.loop-k.notes) c.loop-k.invariant.at in
    omega (arith, few, system_length 0 c.args.shapes.now c.args.store.now.edges)
