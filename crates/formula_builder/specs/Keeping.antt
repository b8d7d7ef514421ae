-- How the formulas that are wanted or cited are found, and then kept.
--
-- IsMarked marks j           == number j has a mark
-- AreReasoned                == what has a mark is wanted, or cited by a formula with a mark
-- AreClosed dag marks k      == what a marked formula from k on cites has a mark
-- AreNeeded                  == marks of all that is wanted or cited, and of nothing else
-- AreKept                    == the marked formulas before number k stand in a list, renumbered
use Rattle.std.specs.Prelude.{◌≡◌, ◌<◌, ◌≤◌, ◌⊎◌, ℕ, Bool, true, List, length, All, Contains, slice_get, slice_index, Some}
use Rattle.formulas.specs.declared.formula.Formula.{Formula}
use Rattle.formulas.specs.Formulas.{IsDag}
use Rattle.formula_builder.specs.Cited.{Cites, renumbered}

-- number j has a mark
abbrev pub IsMarked : List Bool → ℕ → Type 0
IsMarked marks j = slice_get marks j ≡ Some true

-- what has a mark is wanted, or cited by a formula with a mark
abbrev pub AreReasoned : List Formula → List ℕ → List Bool → Type 0
AreReasoned dag wanted marks =
    (j : ℕ) → IsMarked marks j → Contains wanted j
    ⊎ ((k : ℕ) × (f : Formula) × (slice_get dag k ≡ Some f) × Cites f j × IsMarked marks k)

-- what a marked formula from number k on cites has a mark
abbrev pub AreClosed : List Formula → List Bool → ℕ → Type 0
AreClosed dag marks k =
    (j : ℕ) (f : Formula) (i : ℕ) → k ≤ j → slice_get dag j ≡ Some f → IsMarked marks j →
    Cites f i → IsMarked marks i

-- the marks are those of all that is wanted or cited
pub record AreNeeded (dag : List Formula) (wanted : List ℕ) (marks : List Bool) : Type 0 where
  pub one_each : length marks ≡ length dag
  pub wanted_marked : All (λ k. IsMarked marks k) wanted
  pub closed : AreClosed dag marks 0
  pub reasoned : AreReasoned dag wanted marks

-- The marked formulas before number k stand in the small list, in order and renumbered. Each number
-- before k has a new number.
pub record AreKept
    (dag : List Formula) (marks : List Bool) (small : List Formula) (numbers : List ℕ) (k : ℕ)
    : Type 0 where
  pub old : List ℕ
  pub one_each : length old ≡ length small
  pub in_order : (i j : ℕ) → i < j → j < length old → slice_index old i < slice_index old j
  pub same :
      (j : ℕ) (f : Formula) → slice_get small j ≡ Some f →
      slice_get dag (slice_index old j) ≡ Some (renumbered (slice_index old) f)
  pub ordered : IsDag small
  pub numbered : length numbers ≡ k
  pub marked :
      (j : ℕ) → j < length old →
      (slice_index old j < k) × IsMarked marks (slice_index old j)
      × (slice_index numbers (slice_index old j) ≡ j)
  pub found :
      (i : ℕ) → i < k → IsMarked marks i →
      (slice_index numbers i < length small) × (slice_index old (slice_index numbers i) ≡ i)
