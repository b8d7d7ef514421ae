-- What the bytes of a file are read as: a coalgebra, or their first fault. The stages are
--
--     1. the file has at most 2^26 bytes
--     2. the first line that is not skipped is a functor line
--     3. each other line is a head, a colon and a tree
--     4. no head repeats an earlier one, and each tree fits the functor
--     5. no number is over its bound, and the common denominator stays within its limit
--     6. the weights of each distribution sum to 1
--
-- The earliest stage that finds a fault decides, and in it the first line.
--
-- IsNormalForm l t f v    == v is the normal form of the fitted tree f over the denominator l
-- Reads bytes c           == the bytes denote the coalgebra
-- Fault                   == a fault of reading
-- IsFault bytes fault     == it is the first fault of the bytes
-- Tells bytes fault       == the answer tells the first fault of the bytes, or want of memory
use Rattle.std.specs.Prelude.{◌≡◌, ℕ, ◌≤◌, ◌<◌, ◌^◌, List, length, IsTrue}
use Rattle.std.specs.List.{AllZip}
use Rattle.functor_terms.specs.Terms.{Nodes}
use Rattle.typing.specs.declared.kind.TypeKind.{TypeKind}
use Rattle.typing.specs.declared.value.Value.{Value}
use Rattle.typing.specs.Contents.{Content}
use Rattle.typing.specs.Fits.{fits}
use Rattle.typing.specs.Order.{is_normal}
use Rattle.typing.specs.Equality.{are_equal}
use Rattle.fitting.specs.declared.fitted.Fitted.{Fitted}
use Rattle.fitting.specs.Scaling.{scaled}
use Rattle.structure_parser.specs.Rows.{Row, AreRows, IsGrammarFault}
use Rattle.structure_parser.specs.Stages.{Outcome, heads_of, reads_rows}
use Rattle.structure_parser.specs.declared.fault.FileFault.{FileFault}
use Rattle.structure_parser.specs.declared.fault.FileFault.TheVariants as answer

-- the most bytes that a file may have, 67,108,864
abbrev pub most_bytes : ℕ
most_bytes = 2 ^ 26

-- v is a normal value that fits the term, and equal to that of the fitted tree over the
-- denominator l
pub record IsNormalForm (l : ℕ) (t : Nodes) (f : Fitted) (v : Value) : Type 0 where
  pub fitting : IsTrue (fits t 0 v)
  pub normal : IsTrue (is_normal t 0 v)
  pub equal : IsTrue (are_equal t 0 v (scaled l t 0 f))

-- The lines are a functor line and rows, and no stage finds a fault. The coalgebra has the term
-- that the functor line spells, the heads as names in line order, the common denominator of all
-- weights, and for each state the normal form of its tree.
pub record Reads (bytes : List ℕ) (c : Content) : Type 0 where
  pub rows : List Row
  pub fitted : List Fitted
  pub within : length bytes ≤ most_bytes
  pub spelled : AreRows bytes c.term rows
  pub read : reads_rows c.term rows ≡ Outcome.accepted c.denominator fitted
  pub same_names : c.names ≡ heads_of rows
  pub values : AllZip (IsNormalForm c.denominator c.term) fitted c.values

-- a fault of reading, behind the first stage
pub data Fault : Type 0 where
  Grammar : (line : ℕ) → Fault
  Misfit : (line : ℕ) → (kind : TypeKind) → Fault
  PastBound : (line : ℕ) → Fault
  ShortSum : (line : ℕ) → Fault

-- the lines are a functor line and rows, and the stages say this of them
pub record IsOutcome (bytes : List ℕ) (outcome : Outcome) : Type 0 where
  pub term : Nodes
  pub rows : List Row
  pub spelled : AreRows bytes term rows
  pub read : reads_rows term rows ≡ outcome

-- it is the first fault of bytes that are not too many
abbrev pub IsFirst : List ℕ → Fault → Type 0
IsFirst bytes (Fault.Grammar line) = IsGrammarFault bytes line
IsFirst bytes (Fault.Misfit line kind) = IsOutcome bytes (Outcome.misfit line kind)
IsFirst bytes (Fault.PastBound line) = IsOutcome bytes (Outcome.past_bound line)
IsFirst bytes (Fault.ShortSum line) = IsOutcome bytes (Outcome.short_sum line)

-- the bytes are not too many, and it is their first fault
abbrev pub IsFault : List ℕ → Fault → Type 0
IsFault bytes fault = (length bytes ≤ most_bytes) × IsFirst bytes fault

-- the answer tells the first fault of the bytes, or that memory was wanting
abbrev pub Tells : List ℕ → FileFault → Type 0
Tells bytes answer.TooLong = most_bytes < length bytes
Tells bytes (answer.Grammar line) = IsFault bytes (Fault.Grammar line)
Tells bytes (answer.TypeFault line kind) = IsFault bytes (Fault.Misfit line kind)
Tells bytes (answer.WeightBound line) = IsFault bytes (Fault.PastBound line)
Tells bytes (answer.SumFault line) = IsFault bytes (Fault.ShortSum line)
Tells bytes answer.NoMemory = Unit {0}
