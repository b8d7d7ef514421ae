-- Truths as bits, in words of 64. They serve private functions alone.
--
-- has_bit words x     == the bit with a number, where bits count from the lowest of the first word
-- first_truths f n    == the first n of truths that are numbered
-- ArePacked words n   == the words have room for n bits, and none is set behind them
-- HasRoomFor n old new == there is room for one more bit
use Rattle.std.specs.Prelude.{◌≡◌, ℕ, zero, suc, ◌+◌, ◌*◌, ◌/◌, ◌%◌, ◌<◌, ◌≤◌, ◌==◌, Bool, false, List, [], ◌∷◌, ◌++◌, length, slice_index}
use Rattle.std.specs.Int.{bit_at}

-- the bit with a number, where bits count from the lowest of the first word
abbrev pub has_bit : List ℕ → ℕ → Bool
has_bit words x = bit_at (slice_index words (x / 64)) (x % 64) == 1

-- the truths with the numbers 0, 1 and so on, n of them
abbrev pub first_truths : (ℕ → Bool) → ℕ → List Bool
first_truths f zero = []
first_truths f (suc n) = first_truths f n ++ f n ∷ []

-- there are as many words as n bits fill, and no bit is set behind them
pub record ArePacked (words : List ℕ) (n : ℕ) : Type 0 where
  pub room : n ≤ 64 * length words
  pub tight : 64 * length words < n + 64
  pub clear : (x : ℕ) → n ≤ x → has_bit words x ≡ false

-- the words have room for one more bit behind n bits, and have the same bits as before
pub record HasRoomFor (n : ℕ) (old new : List ℕ) : Type 0 where
  pub inside : n / 64 < length new
  pub room : n + 1 ≤ 64 * length new
  pub tight : 64 * length new < n + 1 + 64
  pub same : (x : ℕ) → has_bit new x ≡ has_bit old x

-- a bit was put behind n bits, which stay
pub record IsPushed (n : ℕ) (bit : Bool) (old new : List ℕ) : Type 0 where
  pub packed : ArePacked new (n + 1)
  pub last : has_bit new n ≡ bit
  pub kept : (x : ℕ) → x < n → has_bit new x ≡ has_bit old x
