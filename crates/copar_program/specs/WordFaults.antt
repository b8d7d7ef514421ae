-- How the program ends where it does not get the words of the command line.
--
-- status_for kind == no memory for them, or else words that are no text
use Rattle.std.specs.declared.io.ErrorKind.{ErrorKind}
use Rattle.std.specs.declared.io.ErrorKind.TheVariants.{OutOfMemory}
use Rattle.copar_run.specs.declared.status.Status.{Status}
use Rattle.copar_run.specs.declared.status.Status.TheVariants.{Usage, NoMemory}

-- no memory for them, or else words that are no text
abbrev pub status_for : ErrorKind → Status
status_for OutOfMemory = NoMemory
status_for _ = Usage
