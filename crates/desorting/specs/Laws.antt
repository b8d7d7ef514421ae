-- What the sorted states of a coalgebra keep, as statements.
--
-- SystemToCoalgebra        a stable labelling gives a stable list
-- CoalgebraToSystem        a stable list gives each labelling that joins what is equal
-- SomeLabellingJoins       there is one
-- GreatestIsEquivalence    the greatest stable labelling tells which states are equivalent
-- ValuesAreOfLayers        the value by the interfaces is the layer's value
-- SortedStatesAreASystem   the sorted states are a system as a refiner wants it
use Rattle.std.specs.Prelude.{◌≡◌, ◌<◌, ◌↔◌, ℕ, List, length, slice_index}
use Rattle.functor_terms.specs.Terms.{Nodes, IsTerm, node_at}
use Rattle.typing.specs.declared.value.Value.{Value}
use Rattle.typing.specs.Stable as coalgebra
use Rattle.formula_checker.specs.LayerValues.{layer_value}
use Rattle.sorted_systems.specs.Systems.{IsSystem, IsStable, IsGreatestStable, class_in}
use Rattle.structures.specs.Structures.{Occurrence, IsSorting}
use Rattle.desorting.specs.Agreement.{IsJoined, root_labels}
use Rattle.layers.specs.Nest.{any_node, any_kin, any_fits, any_value, any_agree}
use Rattle.desorting.specs.Shapes.{shape_of, labels_of, sorted_system}

-- a stable labelling of the system gives a stable list of the coalgebra
abbrev pub SystemToCoalgebra : Type 0
SystemToCoalgebra =
    (t : Nodes) (values : List Value) (system : List Occurrence) (roots : List ℕ) → IsTerm t →
    IsSorting t values system roots →
    (s : List ℕ) → IsStable any_agree (sorted_system t system) s →
    coalgebra.IsStable t values (root_labels roots s)

-- a stable list of the coalgebra makes each labelling stable that joins what is equal under it
abbrev pub CoalgebraToSystem : Type 0
CoalgebraToSystem =
    (t : Nodes) (values : List Value) (system : List Occurrence) (roots : List ℕ) → IsTerm t →
    IsSorting t values system roots →
    (b s : List ℕ) → coalgebra.IsStable t values b → IsJoined t b system s →
    IsStable any_agree (sorted_system t system) s

-- and there is such a labelling
abbrev pub SomeLabellingJoins : Type 0
SomeLabellingJoins =
    (t : Nodes) (system : List Occurrence) (b : List ℕ) → (s : List ℕ) × IsJoined t b system s

-- the greatest stable labelling joins root structures exactly if their states are equivalent
abbrev pub GreatestIsEquivalence : Type 0
GreatestIsEquivalence =
    (t : Nodes) (values : List Value) (system : List Occurrence) (roots : List ℕ) → IsTerm t →
    IsSorting t values system roots →
    (r : List ℕ) → IsGreatestStable any_agree (sorted_system t system) r →
    (i j : ℕ) → i < length values → j < length values →
    (class_in r (slice_index roots i) ≡ class_in r (slice_index roots j))
    ↔ coalgebra.AreEquivalent t values i j

-- the value by the interfaces, over a shape and labels, is the value of the structure's layer
abbrev pub ValuesAreOfLayers : Type 0
ValuesAreOfLayers =
    (d p k : ℕ) (t : Nodes) (v : Value) (trits : List ℕ) →
    any_value d (shape_of (node_at t p) p v k) (labels_of (node_at t p) v k) trits
    ≡ layer_value d (node_at t p) v trits

-- every target is a sorted state, every structure fits, and two of one node are kin
abbrev pub SortedStatesAreASystem : Type 0
SortedStatesAreASystem =
    (t : Nodes) (values : List Value) (system : List Occurrence) (roots : List ℕ) → IsTerm t →
    IsSorting t values system roots →
    IsSystem any_node any_kin any_fits (sorted_system t system)
