-- The coarse block of each state, beside the sizes of the coarse blocks.
--     AreSized       each state is in one of them, and these are their sizes
use Rattle.std.specs.Prelude.{◌≡◌, ◌<◌, ◌^◌, ℕ, List, length, slice_index, sum}
use Rattle.refinable_partition.specs.Blocks.{size_in}

-- each state is in a coarse block, and each of these has a member; so many they have
pub record AreSized (of sizes : List ℕ) : Type 0 where
  pub few : length of < 2 ^ 26
  pub in_range : (x : ℕ) → x < length of → slice_index of x < length sizes
  pub none_empty : (c : ℕ) → c < length sizes → 0 < slice_index sizes c
  pub total : sum sizes ≡ length of
  pub sizes_are : (c : ℕ) → c < length sizes → slice_index sizes c ≡ size_in of c
