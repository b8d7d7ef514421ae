use Rattle.std.proofs.Common.{length}
use Rattle.std.proofs.lemmas.Result.{IfOk-weaker}
use Rattle.copar_run.proofs.outputs.explained_output.Goals as goal

pub returns-clause-prints : goal.returns-clause-prints
returns-clause-prints g c =
    let found = c.in_ok-found.found in
    IfOk-weaker c.with_stats.result _ _
    (λ output same. (
      found.refined.labels,
      c.in_ok-found.ensures.rise,
      λ words numbered. (
        (found.system.store.states, length found.system.store.edges, c.in_ok-found.ensures.counted),
        (c.in_ok-text.text.items, c.in_ok-text.ensures words numbered, same),
      ),
    ))
    c.with_stats.ensures
