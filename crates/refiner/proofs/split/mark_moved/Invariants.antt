use Rattle.std.proofs.Common.{◌≡◌, ◌<◌, ℕ, true, take}
use Rattle.std.specs.Prelude.{All, Any}
use Rattle.refinable_partition.specs.Blocks.{mark_at, states_of, IsSameBlocks}
use Rattle.refiner.specs.declared.moved.Moved.{Moved}
use Rattle.refiner.proofs.split.mark_moved.Given as goal

abbrev pub invariant-loop-m : goal.invariant-loop-m
invariant-loop-m l = record {
  blocks : IsSameBlocks l.initial.blocks l.blocks;
  all : All (λ (m : Moved). mark_at l.blocks m.state ≡ true) (take l.m-index l.moved);
  only : (x : ℕ) → x < states_of l.initial.blocks → mark_at l.blocks x ≡ true →
      Any (λ (m : Moved). m.state ≡ x) (take l.m-index l.moved);
}
