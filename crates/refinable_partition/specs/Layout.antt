-- How one array holds the states, block after block, the marked ones of a block first.
use Rattle.std.specs.Prelude.{◌≡◌, ◌≢◌, ◌+◌, ◌<◌, ◌≤◌, ◌^◌, ℕ, nat_lt, Bool, List, [], ◌∷◌, length, slice_index, sum}
use Rattle.refinable_partition.specs.Blocks.{size_in}

-- a state is marked exactly if it stands among the first places of its block
abbrev pub marks_in : List ℕ → List ℕ → List ℕ → List ℕ → List Bool
marks_in [] place first marks = []
marks_in (b ∷ bs) [] first marks = []
marks_in (b ∷ bs) (i ∷ is) first marks =
    nat_lt i (slice_index first b + slice_index marks b) ∷ marks_in bs is first marks

-- the place is one of the block's
abbrev pub StandsIn : List ℕ → List ℕ → ℕ → ℕ → Type 0
StandsIn first sizes b i =
    (slice_index first b ≤ i) × (i < slice_index first b + slice_index sizes b)

-- the array of the states, the place of each state in it and the block of each state; and of each
-- block its first place, its size and its number of marks
pub record IsLaidOut (order place block first sizes marks : List ℕ) (count : ℕ) : Type 0 where
  pub few : length order < 2 ^ 26
  pub place_len : length place ≡ length order
  pub block_len : length block ≡ length order
  pub first_len : length first ≡ length order
  pub sizes_len : length sizes ≡ length order
  pub marks_len : length marks ≡ length order
  pub in_order :
      (i : ℕ) → i < length order →
      (slice_index order i < length order) × (slice_index place (slice_index order i) ≡ i)
  pub in_place :
      (x : ℕ) → x < length order →
      (slice_index place x < length order) × (slice_index order (slice_index place x) ≡ x)
  pub in_block :
      (x : ℕ) → x < length order →
      (slice_index block x < count)
      × StandsIn first sizes (slice_index block x) (slice_index place x)
  pub contiguous :
      (b i : ℕ) → b < count → slice_index first b ≤ i →
      i < slice_index first b + slice_index sizes b → slice_index block (slice_index order i) ≡ b
  pub ends : (b : ℕ) → b < count → slice_index first b + slice_index sizes b ≤ length order
  pub none_empty : (b : ℕ) → b < count → 0 < slice_index sizes b
  pub front : (b : ℕ) → b < count → slice_index marks b ≤ slice_index sizes b
  pub counted : count ≤ length order
  pub total : sum sizes ≡ length order
  pub sizes_are : (b : ℕ) → b < count → slice_index sizes b ≡ size_in block b
  pub unused : (b : ℕ) → count ≤ b → (slice_index sizes b ≡ 0) × (slice_index marks b ≡ 0)

-- some states moved from one block to another
pub record AreMoved (old new moved : ℕ) (before after : List ℕ) : Type 0 where
  pub to : size_in after new ≡ size_in before new + moved
  pub from : size_in after old + moved ≡ size_in before old
  pub others : (c : ℕ) → c ≢ new → c ≢ old → size_in after c ≡ size_in before c
