-- Systems of sorted states, and labellings of them. A labelling is a list with a class for each
-- state.
--     Sorted, system_from       a state with its edges, and the states of some shapes and edges
--     IsState, seen, class_in   the state at a place; its structure under classes; a state's class
--     IsSystem                  every target is a state, every structure fits
--     IsStable, Refines         states of one class agree; one labelling is finer than another
--     IsGreatestStable          stable, and every stable labelling is finer
--     HasNode, HasValue         a state's node, and its value where each target has a trit
use Rattle.std.specs.Prelude.{◌≡◌, ◌+◌, ◌<◌, ℕ, List, [], ◌∷◌, length, map, slice_get, slice_index, Some, All}
use Rattle.modalities.specs.declared.three.Three.{Three}
use Rattle.iface.specs.Structures.{Classed}
use Rattle.edge_store.specs.declared.edge.Edge.{Edge}
use Rattle.edge_store.specs.Edges.{labels_from, targets_from}

-- a sorted state: its shape, and the labels and targets of its edges in order
pub record Sorted (Shape Label : Type 0) : Type 0 where
  pub shape : Shape
  pub labels : List Label
  pub targets : List ℕ

-- the states with these shapes, counted from a first one
abbrev pub system_from :
    {Shape Label : Type 0} → ℕ → List Shape → List (Edge Label) → List (Sorted Shape Label)
system_from first [] edges = []
system_from first (s ∷ shapes) edges =
    record { shape = s; labels = labels_from edges first; targets = targets_from edges first }
    ∷ system_from (first + 1) shapes edges

-- the state at a place of the system
abbrev pub IsState :
    {Shape Label : Type 0} → List (Sorted Shape Label) → ℕ → Sorted Shape Label → Type 0
IsState system x a = slice_get system x ≡ Some a

-- a state's structure, with each target replaced by its class
abbrev pub seen : {Shape Label : Type 0} → (ℕ → ℕ) → Sorted Shape Label → Classed Shape Label
seen class_of a =
    record { shape = a.shape; labels = a.labels; classes = map class_of a.targets }

-- the class that a labelling gives to a state
abbrev pub class_in : List ℕ → ℕ → ℕ
class_in s x = slice_index s x

-- every target is a state, every structure fits, and two states of one node are kin
pub record IsSystem
    {Shape Label : Type 0} (node : Shape → ℕ) (kin : Shape → Shape → Type 0)
    (fits : Shape → List Label → Type 0) (system : List (Sorted Shape Label)) : Type 0 where
  pub in_range :
      (x : ℕ) (a : Sorted Shape Label) →
      IsState system x a → All (λ t. t < length system) a.targets
  pub one_each :
      (x : ℕ) (a : Sorted Shape Label) →
      IsState system x a → length a.targets ≡ length a.labels
  pub fit : (x : ℕ) (a : Sorted Shape Label) → IsState system x a → fits a.shape a.labels
  pub same_kind :
      (x y : ℕ) (a b : Sorted Shape Label) → IsState system x a → IsState system y b →
      node a.shape ≡ node b.shape → kin a.shape b.shape

-- states of one class agree under the labelling
pub record IsStable
    {Shape Label : Type 0} (agree : Classed Shape Label → Classed Shape Label → Type 0)
    (system : List (Sorted Shape Label)) (s : List ℕ) : Type 0 where
  pub one_each : length s ≡ length system
  pub agrees :
      (x y : ℕ) (a b : Sorted Shape Label) → IsState system x a → IsState system y b →
      class_in s x ≡ class_in s y → agree (seen (class_in s) a) (seen (class_in s) b)

-- states of one class of the first are in one class of the second
abbrev pub Refines :
    {Shape Label : Type 0} → List (Sorted Shape Label) → List ℕ → List ℕ → Type 0
Refines system s b =
    (x y : ℕ) → x < length system → y < length system →
    class_in s x ≡ class_in s y → class_in b x ≡ class_in b y

-- the labelling is stable, and every stable labelling refines it
pub record IsGreatestStable
    {Shape Label : Type 0} (agree : Classed Shape Label → Classed Shape Label → Type 0)
    (system : List (Sorted Shape Label)) (b : List ℕ) : Type 0 where
  pub stable : IsStable agree system b
  pub greatest : (s : List ℕ) → IsStable agree system s → Refines system s b

-- the state has this node
abbrev pub HasNode :
    {Shape Label : Type 0} → (Shape → ℕ) → List (Sorted Shape Label) → ℕ → ℕ → Type 0
HasNode {Shape} {Label} node system x n =
    (a : Sorted Shape Label) × IsState system x a × (node a.shape ≡ n)

-- the state has this value, where each target has its trit
abbrev pub HasValue :
    {Shape Label : Type 0} → (Shape → List Label → List ℕ → Three) →
    List (Sorted Shape Label) → (ℕ → ℕ) → ℕ → Three → Type 0
HasValue {Shape} {Label} value system trit x three =
    (a : Sorted Shape Label) × IsState system x a ×
    (value a.shape a.labels (map trit a.targets) ≡ three)
