use Rattle.std.proofs.Common.{◌≡◌, length, sym, ap, ◌∙◌, arith}
use Rattle.edge_store.specs.Edges.{below, just, targets_from}
use Rattle.edge_store.proofs.Counts.{at_key, below_next, key_at, within}
use Rattle.edge_store.proofs.Ranges.{first_at, length-chosen, range_chosen}
use Rattle.edge_store.proofs.Shown.{shown, state_in, edge_in}
use Rattle.edge_store.proofs.store.EdgeStore.first_from.Goals as goal

pub returns-clause-first : goal.returns-clause-first
returns-clause-first g c =
    let stored = c.self.invariant in
    let show = shown stored c.self.view_is in
    first_at stored.by_source (state_in show c.requires) c.index.ensures
    ∙ ap (below c.args.x) (sym show.sources)

pub returns-clause-labels : goal.returns-clause-labels
returns-clause-labels g c =
    let stored = c.self.invariant in
    let show = shown stored c.self.view_is in
    let first = first_at stored.by_source (state_in show c.requires) c.index.ensures in
    rw (show.sources, show.labels)
    (range_chosen c.args.x c.index.result.now c.self.inside.sources.items
    c.self.inside.labels.items stored.ascending stored.labels_len first)

pub returns-clause-targets : goal.returns-clause-targets
returns-clause-targets g c =
    let stored = c.self.invariant in
    let show = shown stored c.self.view_is in
    let first = first_at stored.by_source (state_in show c.requires) c.index.ensures in
    rw (show.sources, show.targets)
    (range_chosen c.args.x c.index.result.now c.self.inside.sources.items
    c.self.inside.targets.items stored.ascending stored.targets_len first)

pub returns-clause-edges : goal.returns-clause-edges
returns-clause-edges g c = λ e he.
    let stored = c.self.invariant in
    let show = shown stored c.self.view_is in
    let inside = edge_in show he in
    let first = first_at stored.by_source (state_in show c.requires) c.index.ensures in
    let many = length-chosen c.args.x c.self.inside.sources.items c.self.inside.labels.items
    stored.labels_len in
    rw (show.sources, show.labels, many, first) (
      at_key c.args.x e c.self.inside.sources.items stored.ascending inside,
      key_at c.args.x e c.self.inside.sources.items stored.ascending inside,
    )

pub returns-clause-as_many : goal.returns-clause-as_many
returns-clause-as_many g c =
    let stored = c.self.invariant in
    let show = shown stored c.self.view_is in
    rw (show.sources, show.targets, show.labels)
    (length-chosen c.args.x c.self.inside.sources.items c.self.inside.targets.items
    stored.targets_len
    ∙ sym (length-chosen c.args.x c.self.inside.sources.items c.self.inside.labels.items
    stored.labels_len))

pub returns-clause-next : goal.returns-clause-next
returns-clause-next g c =
    let stored = c.self.invariant in
    let show = shown stored c.self.view_is in
    let first = first_at stored.by_source (state_in show c.requires) c.index.ensures in
    let many = length-chosen c.args.x c.self.inside.sources.items c.self.inside.labels.items
    stored.labels_len in
    rw (show.sources, show.labels)
    (omega (arith, first, many, below_next c.args.x c.self.inside.sources.items))

pub returns-clause-within : goal.returns-clause-within
returns-clause-within g c =
    let stored = c.self.invariant in
    let show = shown stored c.self.view_is in
    let first = first_at stored.by_source (state_in show c.requires) c.index.ensures in
    let many : length (targets_from c.args.self.now.edges c.args.x)
    ≡ just c.args.x c.self.inside.sources.items =
    rw (show.sources, show.targets)
    (length-chosen c.args.x c.self.inside.sources.items c.self.inside.targets.items
    stored.targets_len) in
    omega (arith, first, many, within c.args.x c.self.inside.sources.items, show.edges)
