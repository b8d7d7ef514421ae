use Rattle.std.proofs.Common.{ℕ, ◌+◌, ◌*◌, ◌-◌, vec_len}
use Rattle.functor_terms.specs.declared.link.Link.{Link}
use Rattle.functor_terms.specs.declared.link.Link.TheVariants as link
use Rattle.functor_terms.specs.Reading.{inside_at}
use Rattle.functor_terms.proofs.ChainLoop.{IsChained}
use Rattle.functor_terms.proofs.chain.+reading.Given as goal

-- how many forms stand inside such a chain
abbrev rank : Link → ℕ
rank link.Sum = 2
rank link.Product = 0

abbrev pub decreases-group : goal.decreases-group
decreases-group l = 9 * (l.room + l.depth)

abbrev pub decreases-atom : goal.decreases-atom
decreases-atom l = 9 * (l.room + l.depth) + 1

abbrev pub decreases-base : goal.decreases-base
decreases-base l = 9 * (l.room + l.depth) + 2

abbrev pub decreases-prefix : goal.decreases-prefix
decreases-prefix l = 9 * (l.room + l.depth) + 3

abbrev pub decreases-power : goal.decreases-power
decreases-power l = 9 * (l.room + l.depth) + 4

abbrev pub decreases-item : goal.decreases-item
decreases-item l = 9 * (l.room + l.depth) + 5 + rank l.link

abbrev pub decreases-chain : goal.decreases-chain
decreases-chain l = 9 * (l.room + l.depth) + 6 + rank l.link

-- the parts so far and those that are left are all
abbrev pub invariant-chain-parts : goal.invariant-chain-parts
invariant-chain-parts l = IsChained l.fn.link (inside_at l.fn.room) l.fn.depth l.fn.ahead
    l.parts.items l.left l.nodes

abbrev pub decreases-chain-parts : goal.decreases-chain-parts
decreases-chain-parts l = 256 - vec_len l.parts
