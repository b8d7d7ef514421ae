-- Rounds, splits and parts in three arrays, one after another.
--     split_of, round_of      what a row of an array stands for
--     LiesWithin              a range of an array
--     AreOfParts, IsFlat      the ranges of all rows are ranges of the arrays below
use Rattle.std.specs.Prelude.{◌≤◌, ℕ, List, length, map, slice_range, All}
use Rattle.refiner.specs.declared.parts.Part.{Part}
use Rattle.refiner.specs.declared.rows.SplitRow.{SplitRow}
use Rattle.refiner.specs.declared.rows.RoundRow.{RoundRow}
use Rattle.refiner.specs.Recorded.{Split, Round, round_with}

-- the split with the parts of a row's range
abbrev pub split_of : List Part → SplitRow → Split
split_of parts row = record { parent = row.parent; parts = slice_range parts row.from row.to }

-- the round with the splits of a row's range
abbrev pub round_of : List SplitRow → List Part → RoundRow → Round
round_of splits parts row =
    round_with row.numbers (map (split_of parts) (slice_range splits row.from row.to))

-- from one place to another is a range of an array of some length
abbrev pub LiesWithin : ℕ → ℕ → ℕ → Type 0
LiesWithin len from to = (from ≤ to) × (to ≤ len)

-- the range of each split is one of the parts
abbrev pub AreOfParts : List SplitRow → List Part → Type 0
AreOfParts splits parts = All (λ (s : SplitRow). LiesWithin (length parts) s.from s.to) splits

-- the range of each round is one of the splits, that of each split one of the parts, and the splits
-- of the round that has not ended begin at a place of theirs
pub record IsFlat
    (ended : ℕ) (rounds : List RoundRow) (splits : List SplitRow) (parts : List Part)
    : Type 0 where
  pub of_splits : All (λ (r : RoundRow). LiesWithin (length splits) r.from r.to) rounds
  pub of_parts : AreOfParts splits parts
  pub open_within : ended ≤ length splits
