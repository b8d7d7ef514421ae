-- The classes of equivalent states with a formula for each, for print.
--
-- StandsIn blocks m i      == state i stands in block m
-- IsCertificate            == blocks are the classes, and each has a formula that holds there alone
use Rattle.std.specs.Prelude.{◌≡◌, ◌↔◌, ◌<◌, ◌≤◌, ◌+◌, ◌*◌, ℕ, List, length, slice_index, All, Contains}
use Rattle.typing.specs.Contents.{Content}
use Rattle.typing.specs.Stable.{AreEquivalent}
use Rattle.typing.specs.Layers.{sorted_count}
use Rattle.formulas.specs.declared.formula.Formula.{Formula}
use Rattle.formulas.specs.Formulas.{IsDag}
use Rattle.formulas.specs.Ranges.{IsWritable}
use Rattle.satisfaction.specs.Modalities.{AllFit}
use Rattle.satisfaction.specs.Satisfaction.{HoldsAt}
use Rattle.formula_builder.specs.Cited.{IsCited}
use Rattle.state_certificates.specs.Groups.{group_at, AreInOrder}

-- state i stands in block m
abbrev pub StandsIn : List (List ℕ) → ℕ → ℕ → Type 0
StandsIn blocks m i = Contains (group_at blocks m) i

-- Each state stands in one block, and with exactly the states that are equivalent to it. The states
-- of a block ascend, and so do the first states of the blocks. The formula of a block holds at the
-- states in the block and at no others. Each formula of the list is that of a block, or is cited on
-- the way from such a one; it fits the term, and can be written. There are few formulas.
pub record IsCertificate
    (c : Content) (dag : List Formula) (formulas : List ℕ) (blocks : List (List ℕ)) : Type 0 where
  pub each : (i : ℕ) → i < length c.values → (m : ℕ) × (m < length blocks) × StandsIn blocks m i
  pub once :
      (m l i : ℕ) → m < length blocks → l < length blocks →
      StandsIn blocks m i → StandsIn blocks l i → m ≡ l
  pub shared :
      (m i j : ℕ) → m < length blocks → StandsIn blocks m i →
      StandsIn blocks m j ↔ AreEquivalent c.term c.values i j
  pub in_order : AreInOrder blocks
  pub one_each : length formulas ≡ length blocks
  pub there : (m : ℕ) → m < length blocks → slice_index formulas m < length dag
  pub exactly :
      (m i : ℕ) → m < length blocks →
      HoldsAt c dag (slice_index formulas m) i ↔ StandsIn blocks m i
  pub cited : (n : ℕ) → n < length dag → IsCited dag formulas n
  pub ordered : IsDag dag
  pub fit : AllFit c.term dag
  pub writable : All IsWritable dag
  pub few : length dag ≤ 6 * sorted_count c.term c.values + 1
