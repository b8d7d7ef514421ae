-- Laws of the canonical text, as statements. Each is the contract of a function that does nothing.
--
-- TextsSpell         == the canonical text of a coalgebra spells it
-- FilesAreSpelled    == a text that spells a coalgebra, and is accepted as a file, denotes the same
--                       term, names and fractions
-- TextsAreReadBack   == so does the canonical text of a coalgebra, where it is accepted as a file
-- OnlyBoundsRefuse   == and that text has no fault as a file but a number past its bound
-- TextsAreOfFractions == coalgebras with the same fractions have one canonical text
use Rattle.std.specs.Prelude.{◌≡◌, ◌≤◌, ℕ, List, IsTrue}
use Rattle.std.specs.List.{list_all}
use Rattle.typing.specs.Contents.{Content}
use Rattle.typing.specs.Fits.{fits}
use Rattle.structure_parser.specs.Reads.{Reads, Fault, IsFault}
use Rattle.rescaling.specs.Rescaled.{SameFractions}
use Rattle.structure_writer.specs.Text.{canonical}
use Rattle.structure_writer.specs.Spelled.{Spells, IsWellFormed}

-- the canonical text of a coalgebra spells it
abbrev pub TextsSpell : Type 0
TextsSpell = (c : Content) → IsWellFormed c → Spells (canonical c) c

-- a text that spells a coalgebra, and is accepted as a file, denotes a coalgebra with the same
-- term, names and fractions
abbrev pub FilesAreSpelled : Type 0
FilesAreSpelled =
    (text : List ℕ) (d e : Content) → Spells text d → Reads text e → SameFractions d e

-- where the canonical text of a coalgebra is accepted as a file, it denotes a coalgebra with the
-- same term, names and fractions
abbrev pub TextsAreReadBack : Type 0
TextsAreReadBack =
    (d e : Content) → IsWellFormed d → Reads (canonical d) e → SameFractions d e

-- the canonical text of a coalgebra has no fault as a file but a number past its bound
abbrev pub OnlyBoundsRefuse : Type 0
OnlyBoundsRefuse =
    (d : Content) → IsWellFormed d → (fault : Fault) → IsFault (canonical d) fault →
    (line : ℕ) × (fault ≡ Fault.PastBound line)

-- coalgebras with the same fractions have one canonical text
abbrev pub TextsAreOfFractions : Type 0
TextsAreOfFractions =
    (d e : Content) → SameFractions d e → 1 ≤ d.denominator →
    IsTrue (list_all (fits e.term 0) e.values) → canonical e ≡ canonical d
