-- What a partition is to its callers: the block of each state, which states are marked, and how
-- many blocks there are. No array and no place is spoken of here.
use Rattle.std.specs.Prelude.{◌≡◌, ◌≢◌, ◌+◌, ◌<◌, ◌==◌, ◌&&◌, if◌then◌else◌, ℕ, Bool, true, false, List, length, slice_index, slice_index_or, Contains, AllPairs, All, count_by}

-- the block of each state, whether it is marked, and the number of blocks
pub record Blocks : Type 0 where
  pub block : List ℕ
  pub marked : List Bool
  pub count : ℕ

-- the block of a state
abbrev pub block_at : Blocks → ℕ → ℕ
block_at p x = slice_index p.block x

-- whether a state is marked
abbrev pub mark_at : Blocks → ℕ → Bool
mark_at p x = slice_index_or p.marked x false

-- how many states there are
abbrev pub states_of : Blocks → ℕ
states_of p = length p.block

-- how many states a list of blocks puts in one block
abbrev pub size_in : List ℕ → ℕ → ℕ
size_in blocks b = count_by (λ c. c == b) blocks

-- the list has exactly the members of the block, each once, and there is one
pub record IsMembers (p : Blocks) (b : ℕ) (xs : List ℕ) : Type 0 where
  pub each : All (λ x. (x < states_of p) × (block_at p x ≡ b)) xs
  pub every : (x : ℕ) → x < states_of p → block_at p x ≡ b → Contains xs x
  pub once : AllPairs (λ x y. x ≢ y) xs
  pub some : 0 < length xs
  pub as_many : length xs ≡ size_in p.block b

-- some member of the block has this mark
abbrev pub HasMember : Blocks → ℕ → Bool → Type 0
HasMember p b mark = (x : ℕ) × (x < states_of p) × (block_at p x ≡ b) × (mark_at p x ≡ mark)

-- some member of the block is marked, and some is not
abbrev pub IsMixed : Blocks → ℕ → Type 0
IsMixed p b = HasMember p b true × HasMember p b false

-- the marked members of the block are in a new one, and every other state stays in its block
pub record IsSplitOff (p : Blocks) (b : ℕ) (q : Blocks) : Type 0 where
  pub one_more : q.count ≡ p.count + 1
  pub block :
      (x : ℕ) → x < states_of p →
      block_at q x ≡ (if (block_at p x == b) && mark_at p x then p.count else block_at p x)

-- each state has the same block, and no block is new
pub record IsSameBlocks (p q : Blocks) : Type 0 where
  pub count : q.count ≡ p.count
  pub block : q.block ≡ p.block

-- the marks in the block are gone, and every other mark stays
abbrev pub IsCleared : Blocks → ℕ → Blocks → Type 0
IsCleared p b q =
    (x : ℕ) → x < states_of p →
    mark_at q x ≡ (if block_at p x == b then false else mark_at p x)
