-- Fractions in lowest terms, and the common divisors and multiples that they rest on. std's
-- `IsGcd a b g` says that g divides both, and that each number that divides both divides g.
use Rattle.std.specs.Prelude.{◌≡◌, ℕ, zero, suc, ◌*◌, ◌/◌, ◌%◌, ◌≤◌, ◌==◌, if◌then◌else◌, ℤ, pos, ◌*ℤ◌, unsigned_abs, int_div}
use Rattle.std.specs.Int.{◌∣◌, IsGcd}
use Rattle.weights.specs.declared.ratio.Ratio.{Ratio}

-- the greatest common divisor by Euclid's rule, in at most so many steps
abbrev pub gcd_within : ℕ → ℕ → ℕ → ℕ
gcd_within zero a b = a
gcd_within (suc steps) a b = if b == 0 then a else gcd_within steps b (a % b)

-- the greatest common divisor, and 0 of 0 and 0. Each step makes the second number smaller, so b
-- are enough
unfoldable pub gcd_of : ℕ → ℕ → ℕ
gcd_of a b = gcd_within b a b

-- l is a multiple of both, and each number that is a multiple of both is one of l
abbrev pub IsLcm : ℕ → ℕ → ℕ → Type 0
IsLcm a b l = (a ∣ l) × (b ∣ l) × ((m : ℕ) → a ∣ m → b ∣ m → l ∣ m)

-- the least common multiple
unfoldable pub lcm_of : ℕ → ℕ → ℕ
lcm_of a b = a * (b / gcd_of a b)

-- p / q is the fraction n / d in lowest terms
pub record IsLowest (n : ℤ) (d : ℕ) (p : ℤ) (q : ℕ) : Type 0 where
  pub same : p *ℤ pos d ≡ n *ℤ pos q
  pub coprime : IsGcd (unsigned_abs p) q 1
  pub positive : 1 ≤ q

-- the fraction n / d with the greatest common divisor taken out of both
unfoldable pub lowest_terms : ℤ → ℕ → Ratio
lowest_terms n d =
    let g = gcd_of (unsigned_abs n) d in
    record { p = int_div n (pos g); q = d / g }
