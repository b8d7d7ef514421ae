-- What the answer to a write says of the bytes that were offered.
use Rattle.std.specs.Prelude.{◌≡◌, ℕ, ◌≤◌, Bool, true, false, List, [], take, ⊤}
use Rattle.outside.specs.declared.sink.Wrote.{Wrote}
use Rattle.outside.specs.declared.sink.Wrote.TheVariants.{Took, Failed}

-- if bytes were taken, they are at least one and at most those offered
abbrev pub TookWithin : Wrote → ℕ → Type 0
TookWithin (Took k) offered = (1 ≤ k) × (k ≤ offered)
TookWithin Failed offered = ⊤

-- if bytes were taken, they are so many
abbrev pub TookExactly : Wrote → ℕ → Type 0
TookExactly (Took k) count = k ≡ count
TookExactly Failed count = ⊤

-- the bytes taken of those offered: the first ones, and none after a failure
abbrev pub part_taken : Wrote → List ℕ → List ℕ
part_taken (Took k) bytes = take k bytes
part_taken Failed bytes = []

-- whether the write failed
abbrev pub is_refused : Wrote → Bool
is_refused (Took k) = false
is_refused Failed = true
