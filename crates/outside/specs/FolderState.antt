-- What a folder in memory holds, and what a read does to it.
use Rattle.std.specs.Prelude.{ℕ, ◌==◌, ◌||◌, Bool, List, is_none, refl, if◌then◌else◌}
use Rattle.std.specs.List.{list_any}
use Rattle.std.specs.Ordering.{nat_cmp}
use Rattle.std.specs.Cmp.Lexicographic.{slice_cmp}
use Rattle.std.specs.FinMap as map
use Rattle.std.specs.Coded.{Coded, code_by, coded×, coded_ℕ, coded_list}
use Rattle.outside.specs.Faults.{one_more}

-- the files by name, the most bytes that one read gives, the numbers of the reads that fail, and
-- how many reads and faults there were
pub record FolderState : Type 0 where
  pub files : map.FinMap (slice_cmp nat_cmp) (List ℕ)
  pub piece : ℕ
  pub failing : List ℕ
  pub calls : ℕ
  pub faults : ℕ

-- a folder without a file, of which nothing was read yet
abbrev pub empty_folder : ℕ → List ℕ → FolderState
empty_folder piece failing =
    record { files = map.empty; piece = piece; failing = failing; calls = 0; faults = 0 }

-- the folder with these bytes under this name, in place of a file that had it
abbrev pub with_file : FolderState → List ℕ → List ℕ → FolderState
with_file folder name bytes = record folder { files = map.insert folder.files name bytes }

-- whether the next read of this name fails: its number is among the failing ones, or no file has
-- the name
abbrev pub read_fails : FolderState → List ℕ → Bool
read_fails folder name =
    list_any (λ number. number == folder.calls) folder.failing ||
    is_none (map.get folder.files name)

-- the folder after a read of this name: one more call, and one more fault if the read fails
abbrev pub after_read : FolderState → List ℕ → FolderState
after_read folder name = record folder {
  calls = one_more folder.calls;
  faults = if read_fails folder name then one_more folder.faults else folder.faults;
}

-- a folder in memory as plain data: its fields in order
abbrev pub folder_code : Coded FolderState
folder_code =
    code_by (map.FinMap (slice_cmp nat_cmp) (List ℕ) × (ℕ × (List ℕ × (ℕ × ℕ))))
    (coded× (map.code (coded_list coded_ℕ) (coded_list coded_ℕ))
    (coded× coded_ℕ (coded× (coded_list coded_ℕ) (coded× coded_ℕ coded_ℕ))))
    (λ s. (s.files, (s.piece, (s.failing, (s.calls, s.faults)))))
    (λ p. record {
      files = p.0;
      piece = p.1.0;
      failing = p.1.1.0;
      calls = p.1.1.1.0;
      faults = p.1.1.1.1;
    })
    (λ _. refl)
