use Rattle.std.proofs.Common.{◌≡◌}
use Rattle.std.specs.FinMap.{get}
use Rattle.std.specs.VecDeque.Iter.{deque_iter_rest}
use Rattle.outside.specs.Files.{files_of}
use Rattle.outside.proofs.Finding.{first_named}
use Rattle.outside.proofs.mem_folder.find.Given as goal

-- no file before the rest has the name
abbrev pub invariant-loop-file : goal.invariant-loop-file
invariant-loop-file l =
    get (files_of l.newest_first.items) l.name ≡
    first_named l.name (deque_iter_rest l.file-iterator)
