use Rattle.std.proofs.Common.{arith}
use Rattle.edge_store.proofs.Ranges.{range_at, chosen_range}
use Rattle.edge_store.proofs.Shown.{shown, state_in}
use Rattle.edge_store.proofs.store.EdgeStore.from_state.Goals as goal

pub returns-clause-labels : goal.returns-clause-labels
returns-clause-labels g c =
    let stored = c.self.invariant in
    let show = shown stored c.self.view_is in
    let range = range_at stored.by_source (state_in show c.requires) c.index.ensures
    c.index-2.ensures in
    rw (c.deref.ensures.value, range.many, range.first, show.sources, show.labels)
    (chosen_range c.args.x c.self.inside.sources.items c.self.inside.labels.items
    stored.ascending stored.labels_len)

pub offset_bounds-deref-from : goal.offset_bounds-deref-from
offset_bounds-deref-from g c =
    let stored = c.self.invariant in
    let range = range_at stored.by_source (state_in (shown stored c.self.view_is) c.requires)
    c.index.ensures c.index-2.ensures in
    omega (arith, range.ends, range.rises, stored.labels_len, c.deref.ensures.len)

pub slice_bounds-result-count : goal.slice_bounds-result-count
slice_bounds-result-count g c =
    let stored = c.self.invariant in
    let range = range_at stored.by_source (state_in (shown stored c.self.view_is) c.requires)
    c.index.ensures c.index-2.ensures in
    omega (arith, range.rises)

pub slice_bounds-result-start : goal.slice_bounds-result-start
slice_bounds-result-start g c =
    let stored = c.self.invariant in
    let range = range_at stored.by_source (state_in (shown stored c.self.view_is) c.requires)
    c.index.ensures c.index-2.ensures in
    omega (arith, range.rises)

pub slice_bounds-result-end : goal.slice_bounds-result-end
slice_bounds-result-end g c =
    let stored = c.self.invariant in
    let range = range_at stored.by_source (state_in (shown stored c.self.view_is) c.requires)
    c.index.ensures c.index-2.ensures in
    omega (arith, range.ends, stored.labels_len, c.deref.ensures.len)
