-- Up to which number the row of each formula is used. It serves private functions alone.
--
-- IsUsedAt last_uses k f         == the rows that formula k cites are used up to k
-- AreLastUses dag n last_uses    == so it is for each of the first n formulas
-- KeepsRows last_uses k old new  == rows that are used past k stay
use Rattle.std.specs.Prelude.{◌≡◌, ℕ, ◌+◌, ◌<◌, ◌≤◌, Bool, List, length, slice_get, slice_index, Some}
use Rattle.formulas.specs.declared.formula.Formula.{Formula}
use Rattle.formulas.specs.declared.formula.Formula.TheVariants.{True, Not, And, At}
use Rattle.evaluation.specs.Truths.{row_at}

-- each row that formula k cites is used up to k at least
abbrev pub IsUsedAt : List ℕ → ℕ → Formula → Type 0
IsUsedAt last_uses k True = Unit {0}
IsUsedAt last_uses k (Not i) = k ≤ slice_index last_uses i
IsUsedAt last_uses k (And i j) = (k ≤ slice_index last_uses i) × (k ≤ slice_index last_uses j)
IsUsedAt last_uses k (At node value splitter coarse) =
    (k ≤ slice_index last_uses splitter) × (k ≤ slice_index last_uses coarse)

-- For each of the first n formulas a number up to which its row is used: the next one at least, and
-- that of each of them that cites it.
pub record AreLastUses (dag : List Formula) (n : ℕ) (last_uses : List ℕ) : Type 0 where
  pub one_each : length last_uses ≡ n
  pub newest : (j : ℕ) → j < n → j + 1 ≤ slice_index last_uses j
  pub cited :
      (k : ℕ) (f : Formula) → k < n → slice_get dag k ≡ Some f → IsUsedAt last_uses k f

-- rows of formulas that are used past number k stay
pub record KeepsRows (last_uses : List ℕ) (k : ℕ) (old new : List (List Bool)) : Type 0 where
  pub one_each : length new ≡ length old
  pub kept : (j : ℕ) → k < slice_index last_uses j → row_at new j ≡ row_at old j
