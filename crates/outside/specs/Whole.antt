-- How the bytes read so far stand to a file.
use Rattle.std.specs.Prelude.{◌≡◌, ℕ, ◌<◌, ◌≤◌, List, [], length, take, Option, Some, None}

-- the file, if it is there, begins with these bytes; of an absent file no byte was read
abbrev pub BeginsWith : Option (List ℕ) → List ℕ → Type 0
BeginsWith None got = got ≡ []
BeginsWith (Some bytes) got = (length got ≤ length bytes) × (take (length got) bytes ≡ got)

-- the file is there and has more than so many bytes
abbrev pub IsLongerThan : Option (List ℕ) → ℕ → Type 0
IsLongerThan None bound = ⊥
IsLongerThan (Some bytes) bound = bound < length bytes
