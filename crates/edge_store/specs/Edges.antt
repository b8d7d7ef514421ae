-- What a store of edges is to its callers: the edges in order. No range and no array of them is
-- spoken of here.
use Rattle.std.specs.Prelude.{◌≡◌, ◌+◌, ◌<◌, ◌==◌, if◌then◌else◌, nat_lt, ℕ, List, [], ◌∷◌, length, slice_index, map, count_by, All, AllPairs, Contains}
use Rattle.edge_store.specs.declared.edge.Edge.{Edge}

-- states, counted from 0, and the edges between them in order
pub record Graph (Label : Type 0) : Type 0 where
  pub states : ℕ
  pub edges : List (Edge Label)

-- the sources of edges, in order
abbrev pub sources_of : {Label : Type 0} → List (Edge Label) → List ℕ
sources_of edges = map (λ e. e.source) edges

-- their labels
abbrev pub labels_of : {Label : Type 0} → List (Edge Label) → List Label
labels_of edges = map (λ e. e.label) edges

-- their targets
abbrev pub targets_of : {Label : Type 0} → List (Edge Label) → List ℕ
targets_of edges = map (λ e. e.target) edges

-- the elements of a list whose key is a number, in order
abbrev pub chosen : {X : Type 0} → ℕ → List ℕ → List X → List X
chosen k [] xs = []
chosen k (key ∷ keys) [] = []
chosen k (key ∷ keys) (x ∷ xs) =
    if key == k then x ∷ chosen k keys xs else chosen k keys xs

-- the labels of the edges from a state, in order
abbrev pub labels_from : {Label : Type 0} → List (Edge Label) → ℕ → List Label
labels_from edges x = chosen x (sources_of edges) (labels_of edges)

-- the targets of the edges from a state, in order
abbrev pub targets_from : {Label : Type 0} → List (Edge Label) → ℕ → List ℕ
targets_from edges x = chosen x (sources_of edges) (targets_of edges)

-- the places of a key in a list, where the places count from a first one
abbrev pub places_of : ℕ → ℕ → List ℕ → List ℕ
places_of first k [] = []
places_of first k (key ∷ keys) =
    if key == k then first ∷ places_of (first + 1) k keys else places_of (first + 1) k keys

-- the numbers of the edges into a state, ascending
abbrev pub edges_into : {Label : Type 0} → List (Edge Label) → ℕ → List ℕ
edges_into edges y = places_of 0 y (targets_of edges)

-- a list has exactly the numbers of the edges into a state, ascending
pub record AreEdgesInto {Label : Type 0} (edges : List (Edge Label)) (y : ℕ) (numbers : List ℕ)
    : Type 0 where
  pub each : All (λ e. (e < length edges) × (slice_index (targets_of edges) e ≡ y)) numbers
  pub every :
      (e : ℕ) → e < length edges → slice_index (targets_of edges) e ≡ y → Contains numbers e
  pub ascending : AllPairs (λ d e. d < e) numbers

-- how many keys are below a number
abbrev pub below : ℕ → List ℕ → ℕ
below y keys = count_by (λ k. nat_lt k y) keys

-- how many keys are a number
abbrev pub just : ℕ → List ℕ → ℕ
just y keys = count_by (λ k. k == y) keys

-- the number of the first edge from a state, and of the first edge after it where it has none
abbrev pub first_of : {Label : Type 0} → List (Edge Label) → ℕ → ℕ
first_of edges x = below x (sources_of edges)
