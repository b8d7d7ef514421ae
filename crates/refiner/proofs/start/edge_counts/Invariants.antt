use Rattle.std.proofs.Common.{◌≡◌, ◌<◌, ℕ, length, get_or}
use Rattle.edge_store.specs.Edges.{sources_of}
use Rattle.refinable_partition.specs.Blocks.{size_in}
use Rattle.refiner.proofs.start.edge_counts.Given as goal

abbrev pub invariant-loop-x : goal.invariant-loop-x
invariant-loop-x g l = record {
  one_each : length l.found.items ≡ l.x;
  counts : (y : ℕ) → y < l.x → get_or l.found.items y 0 ≡ size_in (sources_of l.store.edges) y;
}
