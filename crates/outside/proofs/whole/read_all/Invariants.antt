use Rattle.std.proofs.Common.{◌≡◌, ◌<◌, ◌≤◌, ◌+◌, ◌-◌, ℕ, List, IfSome, vec_len}
use Rattle.std.specs.FinMap as map
use Rattle.outside.specs.Whole.{BeginsWith}
use Rattle.outside.proofs.whole.read_all.Given as goal

abbrev pub invariant-pieces : goal.invariant-pieces
invariant-pieces g l = record {
  within : vec_len l.bytes ≤ l.bound + 1;
  room : 0 < vec_len l.buffer;
  begins : IfSome (g.F.Folder.files l.folder) (λ files. BeginsWith (map.get files l.name)
      l.bytes.items);
  files : g.F.Folder.files l.folder ≡ g.F.Folder.files l.initial.folder;
  quiet :
      (other : List ℕ) →
      g.F.Folder.faults l.folder other ≡ g.F.Folder.faults l.initial.folder other;
}

abbrev pub decreases-pieces : goal.decreases-pieces
decreases-pieces g l = l.bound + 1 - vec_len l.bytes
