use Rattle.std.proofs.Common.{◌≡◌, ◌<◌, ◌≤◌, ℕ, length}
use Rattle.std.specs.Prelude.{slice_index}
use Rattle.edge_store.specs.Edges.{below}
use Rattle.evaluation.proofs.firsts.first_edges.Given as goal

abbrev pub invariant-loop-x : goal.invariant-loop-x
invariant-loop-x l = record {
  len : length l.firsts.items ≡ l.x;
  each : (y : ℕ) → y < l.x → slice_index l.firsts.items y ≡ below y l.sources;
  known : l.at ≤ below l.x l.sources;
}
