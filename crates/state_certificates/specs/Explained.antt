-- What is told of pairs of states, for print.
--
-- IsVerdict c dag i j verdict   == None where the states are equivalent, else a formula that tells
--                                  them apart
-- numbers_in verdicts           == the numbers that verdicts name, in order
-- answer_of told pair           == the formula of the first state, unless both are in one block
-- renewed verdicts new          == the numbers in verdicts, replaced by others in order
-- IsExplanation                 == each pair has its verdict, over a list of what is cited for them
use Rattle.std.specs.Prelude.{◌<◌, ◌≤◌, ◌+◌, ◌*◌, ◌==◌, ℕ, if◌then◌else◌, List, [], ◌∷◌, length, Option, Some, None, All}
use Rattle.std.specs.List.{AllZip, filter_map}
use Rattle.typing.specs.Contents.{Content}
use Rattle.typing.specs.Stable.{AreEquivalent}
use Rattle.typing.specs.Layers.{sorted_count}
use Rattle.formulas.specs.declared.formula.Formula.{Formula}
use Rattle.formulas.specs.Formulas.{IsDag}
use Rattle.formulas.specs.Ranges.{IsWritable}
use Rattle.satisfaction.specs.Modalities.{AllFit}
use Rattle.satisfaction.specs.Satisfaction.{HoldsAt}
use Rattle.sorted_systems.specs.Systems.{class_in}
use Rattle.formula_builder.specs.Certified.{Certified}
use Rattle.formula_builder.specs.Cited.{IsCited}
use Rattle.state_certificates.specs.Certificates.{formula_of}

-- no number where the states are equivalent; and where they are not, that of a formula of the list
-- that holds at the first and fails at the second
abbrev pub IsVerdict : Content → List Formula → ℕ → ℕ → Option ℕ → Type 0
IsVerdict c dag i j None = AreEquivalent c.term c.values i j
IsVerdict c dag i j (Some k) =
    (AreEquivalent c.term c.values i j → ⊥) × (k < length dag) × HoldsAt c dag k i
    × (HoldsAt c dag k j → ⊥)

-- the numbers that verdicts name, in order
abbrev pub numbers_in : List (Option ℕ) → List ℕ
numbers_in verdicts = filter_map (λ v. v) verdicts

-- the number of the formula of the first of two states, unless both are in one block
abbrev pub answer_of : Certified → ℕ × ℕ → Option ℕ
answer_of told pair =
    if class_in told.block_of pair.0 == class_in told.block_of pair.1
    then None else Some (formula_of told pair.0)

-- the numbers in verdicts, replaced by others in order
abbrev pub renewed : List (Option ℕ) → List ℕ → List (Option ℕ)
renewed [] new = []
renewed (None ∷ verdicts) new = None ∷ renewed verdicts new
renewed (Some k ∷ verdicts) [] = Some k ∷ renewed verdicts []
renewed (Some k ∷ verdicts) (n ∷ new) = Some n ∷ renewed verdicts new

-- Each pair has its verdict. Each formula of the list is one that a verdict names, or is cited on
-- the way from such a one; it fits the term, and can be written. There are few formulas.
pub record IsExplanation
    (c : Content) (pairs : List (ℕ × ℕ)) (dag : List Formula) (verdicts : List (Option ℕ)) : Type 0
  where
    pub each : AllZip (λ pair verdict. IsVerdict c dag pair.0 pair.1 verdict) pairs verdicts
    pub cited : (n : ℕ) → n < length dag → IsCited dag (numbers_in verdicts) n
    pub ordered : IsDag dag
    pub fit : AllFit c.term dag
    pub writable : All IsWritable dag
    pub few : length dag ≤ 6 * sorted_count c.term c.values + 1
