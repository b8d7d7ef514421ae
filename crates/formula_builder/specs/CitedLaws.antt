-- Laws of the formulas that are wanted or cited, as statements over the points of any layered
-- structure.
--
-- CitedFormulasKeepTheirTruths   == a wanted formula holds where it held, under its new number
-- CitedModalitiesAreOld          == each modality has the node and the value of one of the large
-- list
-- CitedFormulasAreNoMore         == the small list is no longer than the large one
use Rattle.std.specs.Prelude.{◌≡◌, ◌<◌, ◌≤◌, ℕ, List, length, slice_get, slice_index, Some}
use Rattle.modalities.specs.declared.three.Three.{Three}
use Rattle.formulas.specs.declared.formula.Formula.{Formula}
use Rattle.formulas.specs.declared.formula.Formula.TheVariants.{At}
use Rattle.formulas.specs.Formulas.{IsDag}
use Rattle.formulas.specs.Truth.{Layers, holds}
use Rattle.formula_builder.specs.Cited.{IsOnlyCited}

-- a wanted formula holds where it held, under its new number
abbrev pub CitedFormulasKeepTheirTruths : Type 0 → Type 0
CitedFormulasKeepTheirTruths Point =
    (w : Layers Point) (dag : List Formula) (wanted : List ℕ) (small : List Formula)
    (new : List ℕ) → IsDag dag → IsOnlyCited dag wanted small new →
    (i : ℕ) → i < length wanted → (x : Point) →
    holds w small (slice_index new i) x ≡ holds w dag (slice_index wanted i) x

-- each modality of the small list has the node and the value of one of the large list
abbrev pub CitedModalitiesAreOld : Type 0
CitedModalitiesAreOld =
    (dag : List Formula) (wanted : List ℕ) (small : List Formula) (new : List ℕ) →
    IsOnlyCited dag wanted small new →
    (k q : ℕ) (v : Three) (splitter coarse : ℕ) →
    slice_get small k ≡ Some (At q v splitter coarse) →
    (j : ℕ) × (s : ℕ) × (c : ℕ) × (slice_get dag j ≡ Some (At q v s c))

-- the small list is no longer than the large one
abbrev pub CitedFormulasAreNoMore : Type 0
CitedFormulasAreNoMore =
    (dag : List Formula) (wanted : List ℕ) (small : List Formula) (new : List ℕ) →
    IsOnlyCited dag wanted small new → length small ≤ length dag
