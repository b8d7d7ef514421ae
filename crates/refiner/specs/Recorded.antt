-- What the refiner answers, as plain lists: no array, no range of one and no capacity is spoken of.
--     Split, Round        a block that splits, with its parts; a round, with its splits
--     round_with          a round, by its numbers and its splits
--     Recorded            the rounds that have ended, and the splits of the one that has not
--     Answer              the whole answer
use Rattle.std.specs.Prelude.{ℕ, List}
use Rattle.refiner.specs.declared.parts.Part.{Part}
use Rattle.refiner.specs.declared.parts.Start.{Start}
use Rattle.refiner.specs.declared.parts.Numbers.{Numbers}

-- a block that splits in a round, and its parts
pub record Split : Type 0 where
  pub parent : ℕ
  pub parts : List Part

-- a round: the block that leaves its coarse block, the numbers of what they are then, the splits
pub record Round : Type 0 where
  pub splitter : ℕ
  pub coarse : ℕ
  pub inner : ℕ
  pub outer : ℕ
  pub splits : List Split

-- the round with these numbers and splits
abbrev pub round_with : Numbers → List Split → Round
round_with numbers splits = record {
  splitter = numbers.splitter;
  coarse = numbers.coarse;
  inner = numbers.inner;
  outer = numbers.outer;
  splits = splits;
}

-- the rounds that have ended, and the splits of the one that has not
pub record Recorded : Type 0 where
  pub rounds : List Round
  pub splits : List Split

-- the last block of each state, how many blocks there are, and how the refiner came to them
pub record Answer : Type 0 where
  pub block_of : List ℕ
  pub blocks : ℕ
  pub start : List Start
  pub rounds : List Round
  pub scans : List ℕ
  pub labels : ℕ
