use Rattle.refiner.proofs.Gathered.{AreGathered}
use Rattle.refiner.proofs.edges.edges_by_target.Given as goal

abbrev pub invariant-loop-y : goal.invariant-loop-y
invariant-loop-y g l = AreGathered l.store.edges l.blocks l.s l.members l.y-index l.found.items
