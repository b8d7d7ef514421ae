-- Lists of formulas, in which each formula cites earlier ones alone.
--
-- CitesBelow n f     == each number that f cites is below n
-- IsDag dag          == formula k cites numbers below k
use Rattle.std.specs.Prelude.{◌≡◌, ◌<◌, ℕ, List, slice_get, Some}
use Rattle.formulas.specs.declared.formula.Formula.{Formula}
use Rattle.formulas.specs.declared.formula.Formula.TheVariants.{True, Not, And, At}

-- each number that the formula cites is below n
abbrev pub CitesBelow : ℕ → Formula → Type 0
CitesBelow n True = Unit {0}
CitesBelow n (Not i) = i < n
CitesBelow n (And i j) = (i < n) × (j < n)
CitesBelow n (At node value splitter coarse) = (splitter < n) × (coarse < n)

-- formula k cites numbers below k alone
abbrev pub IsDag : List Formula → Type 0
IsDag dag = (k : ℕ) (f : Formula) → slice_get dag k ≡ Some f → CitesBelow k f
