-- What the answer to a read of one piece says of the file and of the buffer.
use Rattle.std.specs.Prelude.{◌≡◌, ℕ, ◌+◌, ◌≤◌, Bool, true, false, List, length, take, drop, ⊤, Option, Some, None}
use Rattle.outside.specs.declared.folder.Piece.{Piece}
use Rattle.outside.specs.declared.folder.Piece.TheVariants.{Got, End, Failed}

-- if bytes came, they are at least one and at most so many
abbrev pub GotWithin : Piece → ℕ → Type 0
GotWithin (Got k) most = (1 ≤ k) × (k ≤ most)
GotWithin End most = ⊤
GotWithin Failed most = ⊤

-- if bytes came, the file has them from the place on, and they stand at the front of the buffer
abbrev pub GotBytes : Piece → Option (List ℕ) → ℕ → List ℕ → Type 0
GotBytes (Got k) (Some bytes) from buffer =
    (from + k ≤ length bytes) × (take k buffer ≡ take k (drop from bytes))
GotBytes (Got k) None from buffer = ⊥
GotBytes End file from buffer = ⊤
GotBytes Failed file from buffer = ⊤

-- the file is there, and has no byte at the place or after it
abbrev pub IsPastEnd : Option (List ℕ) → ℕ → Type 0
IsPastEnd None from = ⊥
IsPastEnd (Some bytes) from = length bytes ≤ from

-- whether the read failed
abbrev pub is_failed : Piece → Bool
is_failed (Got k) = false
is_failed End = false
is_failed Failed = true
