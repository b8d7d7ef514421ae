-- What the searches for bad lines answer. No promise of a public call speaks of these words.
--
-- least_of_formulas t fs lines    == the least line of a formula whose modality does not fit
-- least_of_blocks names blocks    == the least line of a block with a name of no state
use Rattle.std.specs.Prelude.{ℕ, not, List, [], ◌∷◌, Option, None}
use Rattle.std.specs.List.{list_all}
use Rattle.functor_terms.specs.Terms.{Nodes}
use Rattle.formulas.specs.declared.formula.Formula.{Formula}
use Rattle.satisfaction.specs.Modalities.{fits_term}
use Rattle.answer_checker.specs.BadLines.{lesser, if_passed, is_state}

-- the least line of a formula whose modality does not fit
abbrev pub least_of_formulas : Nodes → List Formula → List ℕ → Option ℕ
least_of_formulas t [] lines = None
least_of_formulas t (f ∷ fs) [] = None
least_of_formulas t (f ∷ fs) (n ∷ lines) =
    lesser (if_passed (not (fits_term t f)) n) (least_of_formulas t fs lines)

-- the least line of a block with a name of no state
abbrev pub least_of_blocks : List (List ℕ) → List (ℕ × ℕ × List (List ℕ)) → Option ℕ
least_of_blocks names [] = None
least_of_blocks names (b ∷ blocks) =
    lesser (if_passed (not (list_all (is_state names) b.2)) b.0) (least_of_blocks names blocks)
