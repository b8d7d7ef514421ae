-- The structures in the values of a coalgebra, numbered, each with the numbers of those to which
-- its edges lead.
--
-- Occurrence                      a structure where it stands, and where its edges lead
-- StandsFor, LeadsBy              what a number stands for, and where an edge leads
-- IsLayer t p                     structures at node p have a layer of their own
-- IsSorting                       the structures of a coalgebra, and the roots of its states
-- numbers_below n                 0, 1, 2 and so on, n of them
-- occurrences_from                the occurrences of structures and of the targets of their edges
-- sources_from                    each structure's number, as often as edges leave it
-- AreStructures                   numbered structures, and sources and targets of their edges
use Rattle.std.specs.Prelude.{◌≡◌, ℕ, zero, suc, ◌+◌, ◌<◌, ◌^◌, ◌⊎◌, false, List, [], ◌∷◌, ◌++◌, length, slice_get, slice_index, Some, IsTrue, All, AllPairs, ◌≤◌}
use Rattle.std.specs.List.{AllZip}
use Rattle.functor_terms.specs.declared.node.Node.{Node}
use Rattle.functor_terms.specs.declared.node.Node.TheVariants.{State}
use Rattle.functor_terms.specs.Terms.{Nodes, node_at}
use Rattle.typing.specs.declared.value.Value.{Value}
use Rattle.typing.specs.Values.{state}
use Rattle.typing.specs.Fits.{fits}
use Rattle.typing.specs.Bounds.{is_within}
use Rattle.typing.specs.Layers.{Place, is_state, leaves_of, sorted_count, edge_count}
use Rattle.edge_store.specs.Edges.{chosen}

-- a structure where it stands, a value at a node, and the numbers of those to which its edges lead
pub record Occurrence : Type 0 where
  pub node : ℕ
  pub value : Value
  pub targets : List ℕ

-- number x stands for the value at the node
abbrev pub StandsFor : List Occurrence → ℕ → ℕ → Value → Type 0
StandsFor system x p v =
    (o : Occurrence) × (slice_get system x ≡ Some o) × (o.node ≡ p) × (o.value ≡ v)

-- an edge from a place at a State node leads to the root structure of that very state, and one from
-- any other place to a number that stands for the structure there
abbrev pub LeadsBy : List Occurrence → List ℕ → Node → Place → ℕ → Type 0
LeadsBy system roots State place x =
    (i : ℕ) × (state place.1 ≡ Some i) × (i < length roots) × (slice_index roots i ≡ x)
LeadsBy system roots _ place x = StandsFor system x place.0 place.1

-- the node is node 0, or no State node
abbrev pub IsLayer : Nodes → ℕ → Type 0
IsLayer t p = (p ≡ 0) ⊎ (is_state (node_at t p) ≡ false)

-- the structures of a coalgebra, and for each state the number of its root structure
pub record IsSorting
    (t : Nodes) (values : List Value) (system : List Occurrence) (roots : List ℕ)
    : Type 0 where
  pub one_root : length roots ≡ length values
  pub rooted :
      (i : ℕ) (v : Value) → slice_get values i ≡ Some v →
      StandsFor system (slice_index roots i) 0 v
  pub linked :
      (x : ℕ) (o : Occurrence) → slice_get system x ≡ Some o →
      AllZip (λ place y. LeadsBy system roots (node_at t place.0) place y)
      (leaves_of t (o.node, o.value)) o.targets
  pub fit : (x : ℕ) (o : Occurrence) → slice_get system x ≡ Some o → IsTrue (fits t o.node o.value)
  pub within :
      (x : ℕ) (o : Occurrence) → slice_get system x ≡ Some o →
      IsTrue (is_within (2 ^ 106) o.value)
  pub at_layers : (x : ℕ) (o : Occurrence) → slice_get system x ≡ Some o → IsLayer t o.node

-- so many numbers, from a first one
abbrev pub numbers_on : ℕ → ℕ → List ℕ
numbers_on first zero = []
numbers_on first (suc n) = first ∷ numbers_on (first + 1) n

-- 0, 1, 2 and so on, n of them
abbrev pub numbers_below : ℕ → List ℕ
numbers_below n = numbers_on 0 n

-- the occurrences of structures that are numbered from a first one, where the edges from sources
-- lead to targets
abbrev pub occurrences_from : ℕ → List Place → List ℕ → List ℕ → List Occurrence
occurrences_from first [] sources targets = []
occurrences_from first (x ∷ xs) sources targets =
    record { node = x.0; value = x.1; targets = chosen first sources targets }
    ∷ occurrences_from (first + 1) xs sources targets

-- a number, so many times
abbrev pub repeated : ℕ → ℕ → List ℕ
repeated k zero = []
repeated k (suc n) = k ∷ repeated k n

-- the number of each structure, as often as edges leave it; they are numbered from a first one
abbrev pub sources_from : Nodes → ℕ → List Place → List ℕ
sources_from t first [] = []
sources_from t first (x ∷ xs) =
    repeated first (length (leaves_of t x)) ++ sources_from t (first + 1) xs

-- Structures, and the sources and targets of their edges: they are those of the coalgebra, state i
-- has the root structure i, and there are as many as the sizes say, fewer than 2^26 of each.
pub record AreStructures
    (t : Nodes) (values : List Value) (places : List Place) (sources targets : List ℕ)
    : Type 0 where
  pub sorting :
      IsSorting t values (occurrences_from 0 places sources targets)
      (numbers_below (length values))
  pub by_source : sources ≡ sources_from t 0 places
  pub one_each : length targets ≡ length sources
  pub ascending : AllPairs (λ a b. a ≤ b) sources
  pub sources_in : All (λ s. s < length places) sources
  pub targets_in : All (λ s. s < length places) targets
  pub sorted : length places ≡ sorted_count t values
  pub edges : length targets ≡ edge_count t values
  pub few : length places < 2 ^ 26
  pub few_edges : length targets < 2 ^ 26
