use Rattle.std.proofs.Common.{◌∙◌, sym}
use Rattle.edge_store.proofs.Shown.{shown}
use Rattle.edge_store.proofs.store.EdgeStore.labels.Goals as goal

pub returns : goal.returns
returns g c = record {
  labels = c.as_slice.ensures.value ∙ sym (shown c.self.invariant c.self.view_is).labels;
}
