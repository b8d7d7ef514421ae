use Rattle.std.proofs.Common.{◌≡◌, ◌<◌, ◌≤◌, length}
use Rattle.std.specs.Prelude.{All, AllPairs}
use Rattle.edge_store.specs.Edges.{sources_of, targets_of}
use Rattle.edge_store.proofs.tests.random_edges.Given as goal

abbrev pub invariant-loop-label : goal.invariant-loop-label
invariant-loop-label l = record {
  len : length l.edges.items ≡ l.label;
  last_in : l.source < l.n;
  last : All (λ s. s ≤ l.source) (sources_of l.edges.items);
  ascending : AllPairs (λ a b. a ≤ b) (sources_of l.edges.items);
  sources_in : All (λ s. s < l.n) (sources_of l.edges.items);
  targets_in : All (λ t. t < l.n) (targets_of l.edges.items);
}
