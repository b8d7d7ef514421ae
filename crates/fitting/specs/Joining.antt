-- The common denominator as it is computed, number by number. Only private clauses cite it; that it
-- is the least common multiple within the limit is proved.
use Rattle.std.specs.Prelude.{ℕ, ◌&&◌, nat_le, if◌then◌else◌, List, [], ◌∷◌, Option, Some, None, option_and_then}
use Rattle.weights.specs.Fractions.{lcm_of}
use Rattle.fitting.specs.declared.fitted.Weight.{Weight}
use Rattle.fitting.specs.Scaling.{denominator_of, denominator_limit}

-- the least common multiple of two numbers from 1 on, if it is within the limit
abbrev pub joined_with : ℕ → ℕ → Option ℕ
joined_with l q =
    if nat_le 1 l && (nat_le 1 q && nat_le (lcm_of l q) denominator_limit)
    then Some (lcm_of l q)
    else None

-- l joined with each of some numbers in order, if all stays within the limit
abbrev pub joined : ℕ → List ℕ → Option ℕ
joined l [] = Some l
joined l (q ∷ qs) = option_and_then (λ m. joined m qs) (joined_with l q)

-- l joined with the denominator of a weight
abbrev pub joined_after : ℕ → Weight → Option ℕ
joined_after l w = joined l (denominator_of w)
