use Rattle.std.proofs.Common.{◌∙◌, arith}
use Rattle.edge_store.specs.Edges.{sources_of}
use Rattle.edge_store.proofs.Counts.{below_all, below_zero}
use Rattle.edge_store.proofs.Shown.{shown}
use Rattle.edge_store.proofs.store.EdgeStore.is_stored.Goals as goal

pub returns-clause-few : goal.returns-clause-few
returns-clause-few g c =
    let show = shown c.self.invariant c.self.view_is in
    omega (arith, show.edges, c.self.invariant.few)

pub returns-clause-ascending : goal.returns-clause-ascending
returns-clause-ascending g c =
    rw ((shown c.self.invariant c.self.view_is).sources) c.self.invariant.ascending

pub returns-clause-sources_in : goal.returns-clause-sources_in
returns-clause-sources_in g c =
    let show = shown c.self.invariant c.self.view_is in
    rw (show.sources, show.states) c.self.invariant.sources_in

pub returns-clause-targets_in : goal.returns-clause-targets_in
returns-clause-targets_in g c =
    let show = shown c.self.invariant c.self.view_is in
    rw (show.targets, show.states) c.self.invariant.targets_in

pub returns-clause-none : goal.returns-clause-none
returns-clause-none g c = below_zero (sources_of c.args.self.now.edges)

pub returns-clause-all : goal.returns-clause-all
returns-clause-all g c =
    let show = shown c.self.invariant c.self.view_is in
    rw (show.states, show.sources)
    (below_all c.self.inside.count c.self.inside.sources.items c.self.invariant.sources_in
    ∙ omega (arith, show.edges))
