-- What is said of formulas and equivalence, and holds. Each is the contract of a function that does
-- nothing.
--
-- EquivalentStatesHaveOneTruth     == no formula tells equivalent states apart
-- TheSameOfCoalgebras              == the same of a coalgebra, as plain data
-- FormulasHoldByCases              == formula k holds at a structure by cases on it
-- LongerListsChangeNoTruth         == formulas put behind a list change no truth in it
use Rattle.std.specs.Prelude.{◌≡◌, ◌<◌, ◌↔◌, ℕ, List, ◌++◌, length, slice_get, Some}
use Rattle.functor_terms.specs.Terms.{Nodes, IsTerm}
use Rattle.typing.specs.declared.value.Value.{Value}
use Rattle.typing.specs.Stable.{AreEquivalent}
use Rattle.typing.specs.Laws.{AreInRange}
use Rattle.typing.specs.Contents.{Content}
use Rattle.typing.specs.Layers.{Place}
use Rattle.formulas.specs.declared.formula.Formula.{Formula}
use Rattle.formulas.specs.Formulas.{IsDag}
use Rattle.formulas.specs.Truth.{holds_by, holds}
use Rattle.satisfaction.specs.Satisfaction.{layers_of, holds_in, HoldsAt}

-- each formula of each list has one truth at equivalent states
abbrev pub EquivalentStatesHaveOneTruth : Type 0
EquivalentStatesHaveOneTruth =
    (t : Nodes) (d : ℕ) (values : List Value) → IsTerm t → AreInRange values →
    (dag : List Formula) → IsDag dag → (k : ℕ) → k < length dag →
    (i j : ℕ) → AreEquivalent t values i j →
    holds_in t d values dag k i ≡ holds_in t d values dag k j

-- each formula of each list holds at both of two equivalent states of a coalgebra, or at none
abbrev pub TheSameOfCoalgebras : Type 0
TheSameOfCoalgebras =
    (c : Content) → IsTerm c.term → AreInRange c.values →
    (dag : List Formula) → IsDag dag → (k : ℕ) → k < length dag →
    (i j : ℕ) → AreEquivalent c.term c.values i j → HoldsAt c dag k i ↔ HoldsAt c dag k j

-- formula k holds at a structure by cases on it
abbrev pub FormulasHoldByCases : Type 0
FormulasHoldByCases =
    (t : Nodes) (d : ℕ) (values : List Value) (dag : List Formula) → IsDag dag →
    (k : ℕ) (f : Formula) → slice_get dag k ≡ Some f → (x : Place) →
    holds (layers_of t d values) dag k x
    ≡ holds_by (layers_of t d values) (holds (layers_of t d values) dag) f x

-- formulas that are put behind a list change no truth in it
abbrev pub LongerListsChangeNoTruth : Type 0
LongerListsChangeNoTruth =
    (t : Nodes) (d : ℕ) (values : List Value) (dag more : List Formula) →
    IsDag dag → IsDag (dag ++ more) → (k : ℕ) → k < length dag → (x : Place) →
    holds (layers_of t d values) (dag ++ more) k x ≡ holds (layers_of t d values) dag k x
