-- The formulas of a list that are wanted, or cited on the way from wanted ones.
--
-- Cites f j                 == the formula cites the number
-- IsCitedIn dag wanted n j  == so many citations in a row lead from a wanted formula to formula j
-- IsCited dag wanted j      == formula j is wanted, or cited on the way from a wanted one
-- renumbered new f          == the formula with each number that it cites replaced
-- IsOnlyCited               == a list is what is wanted and cited of another
use Rattle.std.specs.Prelude.{◌≡◌, ◌<◌, ◌⊎◌, ℕ, zero, suc, List, length, Contains, slice_get, slice_index, Some}
use Rattle.formulas.specs.declared.formula.Formula.{Formula}
use Rattle.formulas.specs.declared.formula.Formula.TheVariants.{True, Not, And, At}
use Rattle.formulas.specs.Formulas.{IsDag}

-- the formula cites the number
abbrev pub Cites : Formula → ℕ → Type 0
Cites True k = ⊥
Cites (Not i) k = k ≡ i
Cites (And i j) k = (k ≡ i) ⊎ (k ≡ j)
Cites (At node value splitter coarse) k = (k ≡ splitter) ⊎ (k ≡ coarse)

-- so many citations in a row lead from a wanted formula to formula j
abbrev pub IsCitedIn : List Formula → List ℕ → ℕ → ℕ → Type 0
IsCitedIn dag wanted zero j = Contains wanted j
IsCitedIn dag wanted (suc n) j =
    (k : ℕ) × (f : Formula) × (slice_get dag k ≡ Some f) × Cites f j × IsCitedIn dag wanted n k

-- formula j is wanted, or cited on the way from a wanted one
abbrev pub IsCited : List Formula → List ℕ → ℕ → Type 0
IsCited dag wanted j = (n : ℕ) × IsCitedIn dag wanted n j

-- the formula with each number that it cites replaced
abbrev pub renumbered : (ℕ → ℕ) → Formula → Formula
renumbered new True = True
renumbered new (Not i) = Not (new i)
renumbered new (And i j) = And (new i) (new j)
renumbered new (At node value splitter coarse) = At node value (new splitter) (new coarse)

-- Each formula of the small list is one of the large list, with its citations replaced, and they
-- stand in the same order. Each wanted formula is there, under its new number, and each formula is
-- cited on the way from a wanted one.
pub record IsOnlyCited
    (dag : List Formula) (wanted : List ℕ) (small : List Formula) (new : List ℕ) : Type 0 where
  pub old : List ℕ
  pub one_each : length old ≡ length small
  pub in_order : (i j : ℕ) → i < j → j < length old → slice_index old i < slice_index old j
  pub same :
      (j : ℕ) (f : Formula) → slice_get small j ≡ Some f →
      slice_get dag (slice_index old j) ≡ Some (renumbered (slice_index old) f)
  pub ordered : IsDag small
  pub all_wanted : length new ≡ length wanted
  pub there : (i : ℕ) → i < length wanted → slice_index new i < length small
  pub are_wanted :
      (i : ℕ) → i < length wanted →
      slice_index old (slice_index new i) ≡ slice_index wanted i
  pub cited : (j : ℕ) → j < length small → IsCited small new j
