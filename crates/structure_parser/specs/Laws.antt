-- Laws of reading, as statements. Each is the contract of a function that does nothing.
use Rattle.std.specs.Prelude.{◌≡◌, ℕ, List}
use Rattle.typing.specs.Contents.{Content}
use Rattle.structure_parser.specs.Reads.{Reads, Fault, IsFault}

-- bytes denote one coalgebra at most, its denominator with it
abbrev pub OneReading : Type 0
OneReading = (bytes : List ℕ) (c d : Content) → Reads bytes c → Reads bytes d → d ≡ c

-- bytes have one first fault at most
abbrev pub OneFault : Type 0
OneFault = (bytes : List ℕ) (f g : Fault) → IsFault bytes f → IsFault bytes g → f ≡ g

-- bytes with a fault denote no coalgebra
abbrev pub FaultsRefuse : Type 0
FaultsRefuse = (bytes : List ℕ) (f : Fault) (c : Content) → IsFault bytes f → ¬ Reads bytes c
