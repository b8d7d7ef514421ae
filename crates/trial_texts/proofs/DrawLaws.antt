-- The generator as the machine computes it.
use Rattle.std.proofs.Common.{◌≡◌, ℕ, ◌+◌, ◌*◌, ◌/◌, ◌%◌, ◌^◌, ap, ◌∙◌, arith}
use Rattle.trial_texts.specs.Draws.{multiplier, increment, next, drawn}

wrapped : (a b : ℕ) → (a % 2 ^ 64 + b) % 2 ^ 64 ≡ (a + b) % 2 ^ 64
wrapped a b = omega arith

turned : (x : ℕ) → x * multiplier ≡ multiplier * x
turned x = omega arith

-- a product and a sum that wrap, each by itself
pub next-wraps : (x : ℕ) → (x * 6364136223846793005 % 2 ^ 64 + 1442695040888963407) % 2 ^ 64
    ≡ next x
unfolding next
next-wraps x =
    wrapped (x * 6364136223846793005) 1442695040888963407
    ∙ ap (λ n. (n + increment) % 2 ^ 64) (turned x)

-- and what is drawn from that number
pub drawn-by : (x k b : ℕ) → b ≡ k
    → (x * 6364136223846793005 % 2 ^ 64 + 1442695040888963407) % 2 ^ 64 / 8589934592 % b
    ≡ drawn k (next x)
unfolding drawn
drawn-by x k b e = (λ i. next-wraps x i / 8589934592 % e i)
