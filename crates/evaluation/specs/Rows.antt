-- Rows of truths at the structures of a coalgebra. They serve private functions alone.
--
-- AreLaidOut            == structures, where the edges of each begin, and where edges lead
-- trits_of              == for each edge the trit of the structure to which it leads
-- truth_by              == the truth of a formula, by the rows of those that it cites
-- Tells, IsEvaluating   == a row of truths; the rows that are still used
use Rattle.std.specs.Prelude.{◌≡◌, ℕ, ◌<◌, ◌≤◌, ◌==◌, Bool, true, not, ◌&&◌, List, [], length, map, slice_get, slice_index, Some}
use Rattle.functor_terms.specs.Terms.{Nodes, IsTerm, node_at}
use Rattle.typing.specs.declared.value.Value.{Value}
use Rattle.typing.specs.Contents.{Content}
use Rattle.typing.specs.Layers.{Place}
use Rattle.edge_store.specs.Edges.{chosen}
use Rattle.edge_store.specs.Stored.{AreStarts}
use Rattle.structures.specs.Structures.{sources_from, AreStructures}
use Rattle.formulas.specs.declared.formula.Formula.{Formula}
use Rattle.formulas.specs.declared.formula.Formula.TheVariants.{True, Not, And, At}
use Rattle.formulas.specs.Formulas.{IsDag}
use Rattle.formulas.specs.Truth.{Layers, is_value, trit, holds}
use Rattle.formula_checker.specs.LayerValues.{layer_value}
use Rattle.satisfaction.specs.Satisfaction.{layers_of}
use Rattle.evaluation.specs.Truths.{truth_at, row_at, truth_in}
use Rattle.evaluation.specs.Uses.{AreLastUses}

-- the structures of a coalgebra, where the edges of each begin, and to which structures they lead
pub record AreLaidOut
    (t : Nodes) (values : List Value) (places : List Place) (firsts targets : List ℕ)
    : Type 0 where
  pub term : IsTerm t
  pub structures : AreStructures t values places (sources_from t 0 places) targets
  pub starts : AreStarts (length places) (sources_from t 0 places) firsts

-- for each edge the trit of the structure to which it leads, by the rows of two formulas
abbrev pub edge_trits : List Bool → List Bool → List ℕ → List ℕ
edge_trits splitter coarse targets =
    map (λ y. trit (truth_at splitter y) (truth_at coarse y)) targets

-- the trits by which a modality holds, and none for other formulas
abbrev pub trits_of : List (List Bool) → List ℕ → Formula → List ℕ
trits_of rows targets True = []
trits_of rows targets (Not i) = []
trits_of rows targets (And i j) = []
trits_of rows targets (At node value splitter coarse) =
    edge_trits (row_at rows splitter) (row_at rows coarse) targets

-- The truth of a formula at structure x, which is a place, by the rows of the formulas that it
-- cites, where edges have trits.
abbrev pub truth_by :
    Nodes → ℕ → List ℕ → List (List Bool) → List ℕ → Formula → ℕ → Place → Bool
truth_by t d sources rows trits True x p = true
truth_by t d sources rows trits (Not i) x p = not (truth_in rows i x)
truth_by t d sources rows trits (And i j) x p = truth_in rows i x && truth_in rows j x
truth_by t d sources rows trits (At node value splitter coarse) x p =
    (p.0 == node)
    && is_value (layer_value d (node_at t p.0) p.1 (chosen x sources trits)) value

-- the row has the truth of formula k at each structure
abbrev pub Tells : Layers Place → List Formula → List Place → ℕ → List Bool → Type 0
Tells w dag places k row =
    (x : ℕ) (p : Place) → slice_get places x ≡ Some p → truth_at row x ≡ holds w dag k p

-- Rows of the formulas before a number, those that are used from it on with their truths at the
-- structures of a coalgebra.
pub record IsEvaluating
    (content : Content) (dag : List Formula) (places : List Place)
    (firsts targets last_uses : List ℕ) (rows : List (List Bool)) : Type 0 where
  pub laid_out : AreLaidOut content.term content.values places firsts targets
  pub positive : 1 ≤ content.denominator
  pub ordered : IsDag dag
  pub uses : AreLastUses dag (length dag) last_uses
  pub within : length rows ≤ length dag
  pub told :
      (j : ℕ) → j < length rows → length rows ≤ slice_index last_uses j →
      Tells (layers_of content.term content.denominator content.values) dag places j
      (row_at rows j)
