-- What a read of an array, and a condition on the view, say of the arrays themselves.
use Rattle.std.proofs.Common.{◌≡◌, ◌<◌, ℕ, length, ap, sym, subst}
use Rattle.refinable_partition.specs.Blocks.{Blocks, states_of}

-- a state of the view is a state of the arrays
pub state_in : {p view : Blocks} {x : ℕ} → p ≡ view → x < states_of view → x < length p.block
state_in {x = x} is h = subst (λ n. x < n) (ap (λ (q : Blocks). length q.block) (sym is)) h

-- a block of the view is a block of the arrays
pub block_in : {p view : Blocks} {b : ℕ} → p ≡ view → b < view.count → b < p.count
block_in {b = b} is h = subst (λ n. b < n) (ap (λ (q : Blocks). q.count) (sym is)) h
