-- Laws of truth, as statements over the points of any layered structure. Each is the contract of a
-- function that does nothing.
--
-- EqualValuesPass              == the test of values finds them one exactly where they are
-- FormulasHoldByCases          == formula k holds by cases on it
-- NoOtherTruthsGoByCases       == truths that go by cases are these
-- LongerListsChangeNoTruth     == formulas put behind a list change no truth in it
-- AlikePointsHaveOneTruth      == a formula holds at both of two points that are alike, or at none
use Rattle.std.specs.Prelude.{◌≡◌, ◌↔◌, ◌<◌, ℕ, Bool, true, List, ◌++◌, length, slice_get, Some}
use Rattle.modalities.specs.declared.three.Three.{Three}
use Rattle.formulas.specs.declared.formula.Formula.{Formula}
use Rattle.formulas.specs.Formulas.{IsDag}
use Rattle.formulas.specs.Truth.{Layers, is_value, holds_by, holds, IsLikeness}

-- the test of values finds them one exactly where they are
abbrev pub EqualValuesPass : Type 0
EqualValuesPass = (a b : Three) → is_value a b ≡ true ↔ (a ≡ b)

-- formula k holds by cases on it
abbrev pub FormulasHoldByCases : Type 0 → Type 0
FormulasHoldByCases Point =
    (w : Layers Point) (dag : List Formula) → IsDag dag →
    (k : ℕ) (f : Formula) → slice_get dag k ≡ Some f → (x : Point) →
    holds w dag k x ≡ holds_by w (holds w dag) f x

-- truths of all formulas that go by cases are these
abbrev pub NoOtherTruthsGoByCases : Type 0 → Type 0
NoOtherTruthsGoByCases Point =
    (w : Layers Point) (dag : List Formula) → IsDag dag → (told : ℕ → Point → Bool) →
    ((k : ℕ) (f : Formula) → slice_get dag k ≡ Some f → (x : Point) →
    told k x ≡ holds_by w told f x) →
    (k : ℕ) → k < length dag → (x : Point) → told k x ≡ holds w dag k x

-- formulas that are put behind a list change no truth in it
abbrev pub LongerListsChangeNoTruth : Type 0 → Type 0
LongerListsChangeNoTruth Point =
    (w : Layers Point) (dag more : List Formula) → IsDag dag → IsDag (dag ++ more) →
    (k : ℕ) → k < length dag → (x : Point) → holds w (dag ++ more) k x ≡ holds w dag k x

-- a formula has one truth at two points that a test takes for alike, of one layered structure or of
-- two, where points that it takes for alike are so
abbrev pub AlikePointsHaveOneTruth : Type 0 → Type 0 → Type 0
AlikePointsHaveOneTruth Point Other =
    (w : Layers Point) (v : Layers Other) (like : Point → Other → Bool) →
    IsLikeness w v (λ x y. like x y ≡ true) →
    (dag : List Formula) → IsDag dag → (k : ℕ) → k < length dag →
    (x : Point) (y : Other) → like x y ≡ true → holds w dag k x ≡ holds v dag k y
