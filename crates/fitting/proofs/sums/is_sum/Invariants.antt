use Rattle.std.proofs.Common.{◌≡◌, ◌+◌, ◌≤◌, ◌^◌, drop}
use Rattle.std.specs.Prelude.{◌+ℤ◌, unsigned_abs}
use Rattle.functor_terms.specs.declared.node.Node.TheVariants.{Distribution}
use Rattle.typing.specs.Bounds.{absolute_sum, joint_weight}
use Rattle.fitting.proofs.sums.is_sum.Given as goal

-- the sum so far and that of the rest are the sum of all, and stay within the bound
abbrev pub invariant-loop-weight : goal.invariant-loop-weight
invariant-loop-weight l = record {
  all :
      l.sum +ℤ joint_weight Distribution (drop l.weight-index l.entries)
      ≡ joint_weight Distribution l.entries;
  within : unsigned_abs l.sum + absolute_sum (drop l.weight-index l.entries) ≤ 2 ^ 126;
}
