use Rattle.std.proofs.Common.{◌≡◌, take}
use Rattle.edge_store.specs.Edges.{labels_of}
use Rattle.refiner.specs.Cells.{labels_at}
use Rattle.refiner.proofs.edges.read_labels.Given as goal

abbrev pub invariant-loop-e : goal.invariant-loop-e
invariant-loop-e g l =
    l.labels.items ≡ labels_at (labels_of l.store.edges) (take l.e-index l.edges)
