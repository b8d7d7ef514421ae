use Rattle.std.proofs.Common.{◌<◌, ℕ, All, subst}
use Rattle.typing.specs.Contents.{content_of}
use Rattle.edge_store.specs.Edges.{Graph, sources_of}
use Rattle.classes.proofs.Counting.{is_packed, counted}
use Rattle.classes.proofs.refining.refinement_of.Goals as goal

pub refined_states-requires-clause-system : goal.refined_states-requires-clause-system
refined_states-requires-clause-system g c =
    is_packed (content_of c.args.c.now) c.in_ok-system.system c.in_ok-system.ensures.desorted
    c.sorted_states_are_a_system.ensures c.is_term.ensures

pub returns-clause-counted : goal.returns-clause-counted
returns-clause-counted g c =
    let system = c.in_ok-system.system in
    let sources : All (λ x. x < system.store.states) (sources_of system.store.edges) =
    subst (λ (g : Graph ℕ). All (λ x. x < g.states) (sources_of g.edges))
    c.store-store.ensures.store c.is_stored.ensures.sources_in in
    counted (content_of c.args.c.now) system c.in_ok-system.ensures.desorted
    c.in_ok-refined.refined c.in_ok-refined.ensures.refined sources
