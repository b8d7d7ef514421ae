use Rattle.std.proofs.Common.{arith}
use Rattle.edge_store.proofs.Shown.{shown}
use Rattle.edge_store.proofs.store.EdgeStore.len.Goals as goal

pub returns-clause-edges : goal.returns-clause-edges
returns-clause-edges g c =
    let show = shown c.self.invariant c.self.view_is in
    omega (arith, show.edges)
