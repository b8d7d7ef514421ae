use Rattle.std.proofs.Common.{◌≡◌, ◌+◌, map, take}
use Rattle.functor_terms.proofs.part.moved.Given as goal

abbrev pub invariant-loop-child : goal.invariant-loop-child
invariant-loop-child l = l.moved ≡ map (λ child. l.p + child) (take l.child-index l.children)
