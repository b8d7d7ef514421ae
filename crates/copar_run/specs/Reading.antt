-- The statuses that tell what the bytes of a file are read as.
--
-- status_of fault       == the status that tells a fault of reading
-- Tells bytes status    == the status tells the first fault of the bytes, or want of memory
use Rattle.std.specs.Prelude.{ℕ, List}
use Rattle.structure_parser.specs.Reads.{Fault, IsFault}
use Rattle.copar_run.specs.declared.status.Status.{Status}
use Rattle.copar_run.specs.declared.status.Status.TheVariants as status

-- the status that tells a fault of reading
abbrev pub status_of : Fault → Status
status_of (Fault.Grammar line) = status.Grammar line
status_of (Fault.Misfit line kind) = status.TypeFault line kind
status_of (Fault.PastBound line) = status.WeightBound line
status_of (Fault.ShortSum line) = status.SumFault line

-- the status tells the first fault of the bytes, or that memory was wanting
abbrev pub Tells : List ℕ → Status → Type 0
Tells bytes (status.Grammar line) = IsFault bytes (Fault.Grammar line)
Tells bytes (status.TypeFault line kind) = IsFault bytes (Fault.Misfit line kind)
Tells bytes (status.WeightBound line) = IsFault bytes (Fault.PastBound line)
Tells bytes (status.SumFault line) = IsFault bytes (Fault.ShortSum line)
Tells bytes status.NoMemory = Unit {0}
Tells bytes _ = ⊥
