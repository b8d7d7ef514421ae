-- The lines that say why a run has no whole output.
--
-- line_of s               == the line of a status that stands in it alone, with its line feed
-- stranger_line word      == the line of a word that names no state
-- told_line s word        == the line of a status, with the word that it is of, if it is of one
-- line_at stage s         == the line of a status with which the stage stops a run
-- IsLine words o s line   == the line tells how a run on these words may have ended with the status
-- IsToldOn words o s old new counts
--                         == a sink with these bytes and counts, before and after, was told so
use Rattle.std.specs.Prelude.{◌≡◌, ◌≢◌, ◌⊎◌, ℕ, List, [], ◌++◌, ◌-◌, true, false, take, slice_get, unwrap_or, codes, decimal, Option}
use Rattle.std.specs.Io.KnownBytes.{append_known}
use Rattle.command_line.specs.Requests.{Request, Asks}
use Rattle.typing.specs.declared.kind.TypeKind.{TypeKind}
use Rattle.typing.specs.declared.kind.TypeKind.TheVariants.{UnknownState, NotALabel, WrongShape, WrongCount, RepeatedKey, MissingKey, BadIndex, NotANumber, Negative, RepeatedState}
use Rattle.copar_run.specs.declared.status.Status.{Status}
use Rattle.copar_run.specs.declared.status.Status.TheVariants as status
use Rattle.copar_run.specs.declared.status.Status.TheVariants.{Done, No, Usage, Grammar, TypeFault, WeightBound, SumFault, AnswerText, ReadFault, WriteFault, NoMemory, TooLong}
use Rattle.copar_run.specs.Outcome.{Counts, Outside, Stage, IsQuiet, is_end, stages_of, Reached, Stops}

-- how the line of a type fault ends, by its kind
abbrev pub ending_of : TypeKind → List ℕ
ending_of UnknownState = codes ": unknown state\n"
ending_of NotALabel = codes ": not a label\n"
ending_of WrongShape = codes ": wrong shape\n"
ending_of WrongCount = codes ": wrong count\n"
ending_of RepeatedKey = codes ": repeated key\n"
ending_of MissingKey = codes ": missing key\n"
ending_of BadIndex = codes ": bad index\n"
ending_of NotANumber = codes ": not a number\n"
ending_of Negative = codes ": negative\n"
ending_of RepeatedState = codes ": repeated state\n"

-- the line of a word that names no state
abbrev pub stranger_line : List ℕ → List ℕ
stranger_line word = codes "copar: unknown state " ++ word ++ codes "\n"

-- The line of a status that stands in it alone, with its line feed. Done and No have none, the text
-- of Usage is left open, and that of an unknown state has its word.
abbrev pub line_of : Status → List ℕ
line_of Done = []
line_of No = []
line_of Usage = []
line_of (Grammar line) = codes "copar: grammar fault on line " ++ decimal line ++ codes "\n"
line_of (TypeFault line kind) =
    codes "copar: type fault on line " ++ decimal line ++ ending_of kind
line_of (WeightBound line) = codes "copar: weight bound on line " ++ decimal line ++ codes "\n"
line_of (SumFault line) =
    codes "copar: distribution sum on line " ++ decimal line ++ codes "\n"
line_of (status.UnknownState place) = []
line_of (AnswerText line) = codes "copar: answer text on line " ++ decimal line ++ codes "\n"
line_of ReadFault = codes "copar: read fault\n"
line_of WriteFault = codes "copar: write fault\n"
line_of NoMemory = codes "copar: no memory\n"
line_of TooLong = codes "copar: file longer than 67108864 bytes\n"

-- the line of a status, with the word that names no state, if it is of one
abbrev pub told_line : Status → List ℕ → List ℕ
told_line (status.UnknownState place) word = stranger_line word
told_line s word = line_of s

-- the word that words, counted from a first number, have at a place
abbrev pub word_at : ℕ → List (List ℕ) → ℕ → List ℕ
word_at first words place = unwrap_or (slice_get words (place - first)) []

-- the line of a status with which the stage stops a run; a word that names no state is told
abbrev pub line_at : Stage → Status → List ℕ
line_at (Stage.FindStates file first words) (status.UnknownState place) =
    stranger_line (word_at first words place)
line_at stage s = line_of s

-- the statuses that no stage decides
abbrev pub IsFromOutside : Status → Type 0
IsFromOutside s = (s ≡ NoMemory) ⊎ (s ≡ WriteFault)

-- The line tells how a run on these words may have ended: for want of memory, by a failed write, or
-- by a stage.
pub data IsLine
    (words : List (List ℕ)) (o : Outside) (s : Status) (line : List ℕ) : Type 0 where
  FromOutside : IsFromOutside s → line ≡ line_of s → IsLine words o s line
  FromStage :
      (request : Request) → Asks words request → (stage : Stage)
      → Reached o (stages_of request) stage → Stops o stage s → line ≡ line_at stage s
      → IsLine words o s line

-- The status was told on a sink, which had and has these bytes and counts. After Done it is as
-- before. For each other status but Usage it got one line that tells it, whole where no write
-- failed, and in any case a part from its front. For Usage it got some text where no write failed.
pub record IsToldOn
    (words : List (List ℕ)) (o : Outside) (s : Status) (old new : Option (List ℕ))
    (w : Counts) : Type 0 where
  pub silent : is_end s ≡ true → new ≡ old
  pub told :
      is_end s ≡ false → s ≢ Usage →
      (line : List ℕ) × IsLine words o s line
      × ((n : ℕ) × (new ≡ append_known old (take n line)))
      × (IsQuiet w.before w.now → new ≡ append_known old line)
  pub usage :
      s ≡ Usage → IsQuiet w.before w.now →
      (text : List ℕ) × (text ≢ []) × (new ≡ append_known old text)
