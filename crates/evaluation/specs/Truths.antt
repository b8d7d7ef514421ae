-- Rows of truths, which may have been dropped.
--
-- truth_at row x       == the truth at place x of a row
-- row_at rows k        == the row of formula k
-- truth_in rows f x    == the truth of formula f at place x of its row
use Rattle.std.specs.Prelude.{ℕ, Bool, false, List, [], slice_get}
use Rattle.std.specs.Option.{option_map_or}

-- the truth at a place of a row, and false past its end
abbrev pub truth_at : List Bool → ℕ → Bool
truth_at row x = option_map_or (λ truth. truth) (slice_get row x) false

-- the row of formula k, and no truths past the last
abbrev pub row_at : List (List Bool) → ℕ → List Bool
row_at rows k = option_map_or (λ row. row) (slice_get rows k) []

-- the truth of formula f at place x of its row
abbrev pub truth_in : List (List Bool) → ℕ → ℕ → Bool
truth_in rows f x = truth_at (row_at rows f) x
