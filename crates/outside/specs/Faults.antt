-- Counts of faults and of calls. A count has 64 bits and never wraps.
use Rattle.std.specs.Prelude.{ℕ, ◌+◌, ◌-◌, ◌^◌, ◌≤◌, min, max}

-- where a count stays once it is there: the greatest number of 64 bits
abbrev pub last_count : ℕ
last_count = 2 ^ 64 - 1

-- the count rose, or it stands at the last count
abbrev pub Rose : ℕ → ℕ → Type 0
Rose before now = min (before + 1) last_count ≤ now

-- a count after one more: it rises up to the last count, and falls from nowhere
abbrev pub one_more : ℕ → ℕ
one_more count = max count (min (count + 1) last_count)
