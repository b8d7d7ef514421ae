-- The numbers that are drawn, one after the other.
--
-- next x          == the number of the generator behind the number x
-- drawn k x       == what is drawn below k where the generator's number has become x
-- number n x      == the generator's number behind n draws, where it was x before them
-- draw k n x      == what the n-th draw gives, below k, where the number was x before the first
-- pairs k m e x   == e pairs of draws, the first of a pair below k and the second below m
use Rattle.std.specs.Prelude.{ℕ, zero, suc, ◌+◌, ◌*◌, ◌/◌, ◌%◌, ◌^◌, List, [], ◌∷◌}

-- what the number before is multiplied by
abbrev pub multiplier : ℕ
multiplier = 6364136223846793005

-- what is added to the product
abbrev pub increment : ℕ
increment = 1442695040888963407

-- the number of the generator behind the number x; numbers are below 2^64
unfoldable pub next : ℕ → ℕ
next x = (multiplier * x + increment) % 2 ^ 64

-- what is drawn below k where the generator's number has become x: its part above 2^33, modulo k
unfoldable pub drawn : ℕ → ℕ → ℕ
drawn k x = x / 2 ^ 33 % k

-- the generator's number behind n draws
abbrev pub number : ℕ → ℕ → ℕ
number zero x = x
number (suc n) x = number n (next x)

-- what the n-th draw gives, counted from 1, where the number was x before the first
abbrev pub draw : ℕ → ℕ → ℕ → ℕ
draw k n x = drawn k (number n x)

-- e pairs of draws, the first of a pair below k and the second below m
abbrev pub pairs : ℕ → ℕ → ℕ → ℕ → List (ℕ × ℕ)
pairs k m zero x = []
pairs k m (suc e) x = (draw k 1 x, draw m 2 x) ∷ pairs k m e (number 2 x)
