use Rattle.std.proofs.Common.{arith}
use Rattle.edge_store.proofs.Ranges.{range_at}
use Rattle.edge_store.proofs.Shown.{shown, state_in, places_exact}
use Rattle.edge_store.proofs.store.EdgeStore.into_state.Goals as goal

pub returns-clause-edges : goal.returns-clause-edges
returns-clause-edges g c =
    let stored = c.self.invariant in
    let show = shown stored c.self.view_is in
    let inside = state_in show c.requires in
    let range = range_at stored.by_target inside c.index.ensures c.index-2.ensures in
    rw (c.deref.ensures.value, range.many, range.first, show.targets)
    (stored.numbers_are c.args.y inside)

pub returns-clause-exact : goal.returns-clause-exact
returns-clause-exact g c =
    let stored = c.self.invariant in
    let show = shown stored c.self.view_is in
    let inside = state_in show c.requires in
    let range = range_at stored.by_target inside c.index.ensures c.index-2.ensures in
    let exact = places_exact c.args.y show stored.targets_len in
    rw (
      c.deref.ensures.value,
      range.many,
      range.first,
      stored.numbers_are c.args.y inside,
      ← show.targets,
    ) exact

pub slice_bounds-result-count : goal.slice_bounds-result-count
slice_bounds-result-count g c =
    let stored = c.self.invariant in
    let range = range_at stored.by_target (state_in (shown stored c.self.view_is) c.requires)
    c.index.ensures c.index-2.ensures in
    omega (arith, range.rises)

pub slice_bounds-result-start : goal.slice_bounds-result-start
slice_bounds-result-start g c =
    let stored = c.self.invariant in
    let range = range_at stored.by_target (state_in (shown stored c.self.view_is) c.requires)
    c.index.ensures c.index-2.ensures in
    omega (arith, range.rises)

pub slice_bounds-result-end : goal.slice_bounds-result-end
slice_bounds-result-end g c =
    let stored = c.self.invariant in
    let range = range_at stored.by_target (state_in (shown stored c.self.view_is) c.requires)
    c.index.ensures c.index-2.ensures in
    omega (arith, range.ends, stored.numbers_len, stored.targets_len, c.deref.ensures.len)
