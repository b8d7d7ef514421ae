-- What an answer of the system to a read or a write becomes.
--
-- piece_for read   == no byte is the end of the file, and an error is a failure
-- wrote_for write  == no byte is a failure, and so is an error
use Rattle.std.specs.Prelude.{ℕ, zero, suc, Result, Ok, Err}
use Rattle.outside.specs.declared.folder.Piece.{Piece}
use Rattle.outside.specs.declared.folder.Piece.TheVariants as piece
use Rattle.outside.specs.declared.sink.Wrote.{Wrote}
use Rattle.outside.specs.declared.sink.Wrote.TheVariants as wrote

-- what an answer of the system to a read becomes: no byte is the end of the file
abbrev pub piece_for : {E : Type 0} → Result ℕ E → Piece
piece_for (Ok zero) = piece.End
piece_for (Ok (suc k)) = piece.Got (suc k)
piece_for (Err error) = piece.Failed

-- what an answer of the system to a write becomes: a write that takes no byte has failed
abbrev pub wrote_for : {E : Type 0} → Result ℕ E → Wrote
wrote_for (Ok zero) = wrote.Failed
wrote_for (Ok (suc k)) = wrote.Took (suc k)
wrote_for (Err error) = wrote.Failed
