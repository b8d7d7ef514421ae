use Rattle.std.proofs.lemmas.List.Sorted.{IsNonDecreasingBy-from_sort}
use Rattle.refiner.proofs.Gathered.{within_sorted}
use Rattle.refiner.proofs.edges.edges_within.Goals as goal

pub returns : goal.returns
returns g c =
    let was = c.in_ok-edges_by_target.ensures in
    within_sorted c.args.store.now.edges c.args.blocks.now c.args.s c.edges_by_target.new.found.items
    c.sort_unstable.new.self.items was.each was.every was.apart c.sort_unstable.ensures.permutation
    (IsNonDecreasingBy-from_sort (λ x. x) c.sort_unstable.new.self.items
    c.sort_unstable.ensures.sorted)
