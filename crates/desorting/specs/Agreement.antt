-- Labellings of the structures of a coalgebra, in words of their values.
--
-- SameSums, AgreeAt                two structures agree when each child is replaced by its class
-- IsStableSorting                  structures of one class have one node and agree there
-- root_labels                      the label of each state's root structure
-- IsJoined                         the labels join what is equal under a list
use Rattle.std.specs.Prelude.{◌≡◌, ℕ, ℤ, pos, ◌==◌, ◌↔◌, List, length, map, slice_get, slice_index, Some, IsTrue}
use Rattle.functor_terms.specs.declared.node.Node.{Node}
use Rattle.functor_terms.specs.declared.node.Node.TheVariants.{State, Constant, Naturals, Product, Sum, Power, Powerset, Bag, Distribution, Integers, Rationals}
use Rattle.functor_terms.specs.Terms.{Nodes, node_at}
use Rattle.typing.specs.declared.value.Value.{Value}
use Rattle.typing.specs.Values.{label, index, entries, relabelled}
use Rattle.typing.specs.Equality.{are_equal, plus_at}
use Rattle.weights.specs.Sums.{sum_if}
use Rattle.powerset_iface.specs.Sets.{SameSet}
use Rattle.structures.specs.Structures.{Occurrence}

-- each class has the same sum in both
abbrev pub SameSums :
    (ℤ → ℤ → ℤ) → List (Value × ℤ) → List (Value × ℤ) → List ℕ → List ℕ → Type 0
SameSums plus us vs cs ds =
    (k : ℕ) →
    sum_if (pos 0) plus (λ c. c == k) (map (λ e. e.1) us) cs
    ≡ sum_if (pos 0) plus (λ c. c == k) (map (λ e. e.1) vs) ds

-- two structures at a node agree when each child is replaced by its class
abbrev pub AgreeAt : Node → Value → Value → List ℕ → List ℕ → Type 0
AgreeAt State v w cs ds = cs ≡ ds
AgreeAt (Constant labels) v w cs ds = label v ≡ label w
AgreeAt Naturals v w cs ds = label v ≡ label w
AgreeAt Product v w cs ds = cs ≡ ds
AgreeAt Sum v w cs ds = (index v ≡ index w) × (cs ≡ ds)
AgreeAt (Power labels) v w cs ds = cs ≡ ds
AgreeAt Powerset v w cs ds = SameSet cs ds
AgreeAt Bag v w cs ds = SameSums (plus_at Bag) (entries v) (entries w) cs ds
AgreeAt Distribution v w cs ds = SameSums (plus_at Distribution) (entries v) (entries w) cs ds
AgreeAt Integers v w cs ds = SameSums (plus_at Integers) (entries v) (entries w) cs ds
AgreeAt Rationals v w cs ds = SameSums (plus_at Rationals) (entries v) (entries w) cs ds

-- a labelling of the sorted states is stable: those of one class are at one node and agree there
pub record IsStableSorting (t : Nodes) (system : List Occurrence) (s : List ℕ) : Type 0 where
  pub one_each : length s ≡ length system
  pub agrees :
      (x y : ℕ) (o p : Occurrence) → slice_get system x ≡ Some o → slice_get system y ≡ Some p →
      slice_index s x ≡ slice_index s y →
      (o.node ≡ p.node) ×
      AgreeAt (node_at t o.node) o.value p.value (map (slice_index s) o.targets)
      (map (slice_index s) p.targets)

-- the label of each state's root structure
abbrev pub root_labels : List ℕ → List ℕ → List ℕ
root_labels roots s = map (slice_index s) roots

-- a labelling that joins two sorted states exactly if their nodes are equal, and their values once
-- their states are replaced by b
pub record IsJoined (t : Nodes) (b : List ℕ) (system : List Occurrence) (s : List ℕ)
    : Type 0 where
  pub one_each : length s ≡ length system
  pub joins :
      (x y : ℕ) (o p : Occurrence) → slice_get system x ≡ Some o → slice_get system y ≡ Some p →
      (slice_index s x ≡ slice_index s y)
      ↔ ((o.node ≡ p.node)
      × IsTrue (are_equal t o.node (relabelled b o.value) (relabelled b p.value)))
