-- A look-up in a list of files, one file at a time.
use Rattle.std.proofs.Common.{◌≡◌, ℕ, List, ◌∷◌, map as each, Option, Some, Bool, cond, ap, ◌∙◌, string_bytes, bytes_eq}
use Rattle.std.specs.Ordering.{nat_cmp}
use Rattle.std.specs.Cmp.Lexicographic.{slice_cmp}
use Rattle.std.specs.FinMap.{find}
use Rattle.std.proofs.lemmas.Map.Text.{is_eq-slice_cmp}
use Rattle.outside.specs.declared.mem_folder.File.{File}
use Rattle.outside.specs.Files.{entry_of}

-- the bytes of the first file of this name
abbrev pub first_named : List ℕ → List File → Option (List ℕ)
first_named name files = find (slice_cmp nat_cmp) name (each entry_of files)

-- the first file decides where its name is the one that is looked for, and else the others do
pub first_named-cons :
    (name : List ℕ) (file : File) (others : List File) (same : Bool) →
    bytes_eq name (string_bytes file.name) ≡ same →
    first_named name (file ∷ others) ≡ cond same (Some file.bytes.items) (first_named name others)
first_named-cons name file others same e =
    ap (λ b. cond b (Some file.bytes.items) (first_named name others))
    (is_eq-slice_cmp name (string_bytes file.name) ∙ e)
