use Rattle.std.proofs.Common.{◌≡◌, take}
use Rattle.edge_store.specs.Edges.{sources_of}
use Rattle.refiner.proofs.start.edge_sources.Given as goal

abbrev pub invariant-loop-e : goal.invariant-loop-e
invariant-loop-e g l = l.found.items ≡ take l.e (sources_of l.store.edges)
