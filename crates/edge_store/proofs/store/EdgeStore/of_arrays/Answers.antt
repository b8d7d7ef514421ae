use Rattle.edge_store.proofs.Shown.{sources-edges_of, labels-edges_of, targets-edges_of}
use Rattle.edge_store.proofs.store.EdgeStore.of_arrays.Goals as goal

pub returns-clause-sources : goal.returns-clause-sources
returns-clause-sources g c =
    sources-edges_of c.args.sources.items c.args.labels.items c.args.targets.items
    c.requires.one_label c.requires.one_target

pub returns-clause-labels : goal.returns-clause-labels
returns-clause-labels g c =
    labels-edges_of c.args.sources.items c.args.labels.items c.args.targets.items
    c.requires.one_label c.requires.one_target

pub returns-clause-targets : goal.returns-clause-targets
returns-clause-targets g c =
    targets-edges_of c.args.sources.items c.args.labels.items c.args.targets.items
    c.requires.one_label c.requires.one_target
