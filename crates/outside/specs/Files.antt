-- What a list of files, the newest first, stands for.
use Rattle.std.specs.Prelude.{ℕ, List, map as each, string_bytes}
use Rattle.std.specs.Ordering.{nat_cmp}
use Rattle.std.specs.Cmp.Lexicographic.{slice_cmp}
use Rattle.std.specs.FinMap as map
use Rattle.outside.specs.declared.mem_folder.File.{File}

-- the name and the bytes of a file
abbrev pub entry_of : File → List ℕ × List ℕ
entry_of file = (string_bytes file.name, file.bytes.items)

-- the map from names to the bytes of the newest file of that name
abbrev pub files_of : List File → map.FinMap (slice_cmp nat_cmp) (List ℕ)
files_of newest_first = map.from_entries (each entry_of newest_first)
