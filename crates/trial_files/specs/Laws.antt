-- Laws of trial inputs as files, as statements. Each is the contract of a function that does
-- nothing.
--
-- TrialTextsAreShort     == a trial input has fewer than 2^24 bytes
-- TrialTextsAreAccepted  == it denotes a coalgebra, with as many states as are asked for
-- TrialTextsHaveNoFault  == so it has no fault as a file
use Rattle.std.specs.Prelude.{◌≡◌, ◌<◌, ◌^◌, ℕ, length}
use Rattle.trial_texts.specs.declared.kind.TrialKind.{TrialKind}
use Rattle.trial_texts.specs.Text.{IsSized, text_of_trial}
use Rattle.typing.specs.Contents.{Content}
use Rattle.structure_parser.specs.Reads.{Reads, Fault, IsFault}

-- a trial input has fewer than 2^24 bytes
abbrev pub TrialTextsAreShort : Type 0
TrialTextsAreShort =
    (kind : TrialKind) (seed size : ℕ) → IsSized size →
    length (text_of_trial kind seed size) < 2 ^ 24

-- a trial input denotes a coalgebra, with as many states as are asked for
abbrev pub TrialTextsAreAccepted : Type 0
TrialTextsAreAccepted =
    (kind : TrialKind) (seed size : ℕ) → IsSized size →
    (c : Content) × Reads (text_of_trial kind seed size) c × (length c.names ≡ size)

-- so it has no fault as a file
abbrev pub TrialTextsHaveNoFault : Type 0
TrialTextsHaveNoFault =
    (kind : TrialKind) (seed size : ℕ) → IsSized size →
    (fault : Fault) → ¬ IsFault (text_of_trial kind seed size) fault
