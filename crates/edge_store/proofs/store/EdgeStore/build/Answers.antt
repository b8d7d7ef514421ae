use Rattle.edge_store.proofs.Shown.{edges_of_parts}
use Rattle.edge_store.proofs.store.EdgeStore.build.Goals as goal

pub returns-clause-edges : goal.returns-clause-edges
returns-clause-edges g c =
    rw (
      c.in_ok-sources.ensures.sources,
      c.in_ok-labels.ensures.labels,
      c.in_ok-targets.ensures.targets,
      c.as_slice.ensures.value,
      c.as_slice-2.ensures.value,
      c.as_slice-3.ensures.value,
    )
    (edges_of_parts c.args.edges.items)
