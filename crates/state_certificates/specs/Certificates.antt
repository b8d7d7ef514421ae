-- What is told of the states of a coalgebra.
--
-- formula_of told i      == the number of the formula of state i
-- StatesAreTold          == the formula of a state holds at exactly the states equivalent to it
-- TellApart              == it tells the state apart from each that is not equivalent to it
-- HaveOneTruth c i j     == no formula tells the two states apart
-- FormulasSeparate c     == that is so exactly where they are equivalent
-- HaveForms t dag        == each modality has the form of its node
-- IsSeparation           == a formula tells two states apart, and its list has nothing else
-- AreCertificates c told == all that is promised of the formulas of the states at once
use Rattle.std.specs.Prelude.{◌≡◌, [], ◌∷◌, List, Some, IsTrue, slice_get, ◌↔◌, ◌<◌, ◌≤◌, ◌+◌, ◌*◌, ℕ, length, slice_index, All}
use Rattle.typing.specs.Contents.{Content}
use Rattle.typing.specs.Stable.{AreEquivalent}
use Rattle.typing.specs.Layers.{sorted_count}
use Rattle.functor_terms.specs.Terms.{Nodes, node_at, children_at}
use Rattle.modalities.specs.declared.three.Three.{Three}
use Rattle.formulas.specs.declared.formula.Formula.{Formula}
use Rattle.formulas.specs.declared.formula.Formula.TheVariants.{At}
use Rattle.formulas.specs.Formulas.{IsDag}
use Rattle.formulas.specs.Ranges.{IsWritable}
use Rattle.satisfaction.specs.Modalities.{has_form, AllFit}
use Rattle.sorted_systems.specs.Systems.{class_in}
use Rattle.formula_builder.specs.Certified.{Certified}
use Rattle.formula_builder.specs.Cited.{IsCited}
use Rattle.satisfaction.specs.Satisfaction.{HoldsAt}

-- the number of the formula of state i, which is that of its block
abbrev pub formula_of : Certified → ℕ → ℕ
formula_of told i = slice_index told.blocks (class_in told.block_of i)

-- The formula of a state is there, and holds at exactly the states that are equivalent to it.
-- States are in one block exactly where they are equivalent.
pub record StatesAreTold (c : Content) (told : Certified) : Type 0 where
  pub there : (i : ℕ) → i < length c.values → formula_of told i < length told.dag
  pub exactly :
      (i j : ℕ) → i < length c.values → j < length c.values →
      HoldsAt c told.dag (formula_of told i) j ↔ AreEquivalent c.term c.values i j
  pub blocks :
      (i j : ℕ) → i < length c.values → j < length c.values →
      (class_in told.block_of i ≡ class_in told.block_of j) ↔ AreEquivalent c.term c.values i j

-- the formula of the first of two states that are not equivalent holds at it, and fails at the
-- other
abbrev pub TellApart : Content → Certified → Type 0
TellApart c told =
    (i j : ℕ) → i < length c.values → j < length c.values →
    (AreEquivalent c.term c.values i j → ⊥) →
    HoldsAt c told.dag (formula_of told i) i × (HoldsAt c told.dag (formula_of told i) j → ⊥)

-- each modality is at a node of the term, and its value has the node's form
abbrev pub HaveForms : Nodes → List Formula → Type 0
HaveForms t dag =
    (k q : ℕ) (v : Three) (splitter coarse : ℕ) →
    slice_get dag k ≡ Some (At q v splitter coarse) →
    (q < length t) × IsTrue (has_form (node_at t q) (length (children_at t q)) v)

-- Formula k of the list holds at state i and fails at state j, and each formula of the list is k or
-- cited on the way from it.
pub record IsSeparation (c : Content) (i j : ℕ) (dag : List Formula) (k : ℕ) : Type 0 where
  pub there : k < length dag
  pub holds : HoldsAt c dag k i
  pub fails : HoldsAt c dag k j → ⊥
  pub cited : (n : ℕ) → n < length dag → IsCited dag (k ∷ []) n

-- Formulas of the states of a coalgebra: that of a state holds at exactly the states that are
-- equivalent to it, each formula fits the term and can be written, and there are few of them.
pub record AreCertificates (c : Content) (told : Certified) : Type 0 where
  pub exact : StatesAreTold c told
  pub one_each : length c.values ≤ length told.block_of
  pub fit : AllFit c.term told.dag
  pub writable : All IsWritable told.dag
  pub few : length told.dag ≤ 6 * sorted_count c.term c.values + 1

-- each formula of each list holds at both states, or at none
abbrev pub HaveOneTruth : Content → ℕ → ℕ → Type 0
HaveOneTruth c i j =
    (dag : List Formula) → IsDag dag → (k : ℕ) → k < length dag →
    HoldsAt c dag k i ↔ HoldsAt c dag k j

-- states are equivalent exactly where no formula tells them apart
abbrev pub FormulasSeparate : Content → Type 0
FormulasSeparate c =
    (i j : ℕ) → i < length c.values → j < length c.values →
    AreEquivalent c.term c.values i j ↔ HaveOneTruth c i j
