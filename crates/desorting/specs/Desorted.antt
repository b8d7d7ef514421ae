-- What the system of sorted states is to a coalgebra.
--
-- packed_system, read_system    the sorted states by numbers, and as what they stand for
-- IsDesorted                    the system has a sorted state for each structure
use Rattle.std.specs.Prelude.{◌≡◌, ℕ, List, length}
use Rattle.functor_terms.specs.Terms.{Nodes}
use Rattle.typing.specs.declared.value.Value.{Value}
use Rattle.typing.specs.Layers.{sorted_count, edge_count}
use Rattle.sorted_systems.specs.Systems.{Sorted, IsState, system_from}
use Rattle.decoding.specs.Decoded.{decoded_system}
use Rattle.layers.specs.Nest.{AnyShape, AnyLabel}
use Rattle.layers.specs.Meanings.{shape_of, label_of, fits_layer}
use Rattle.structures.specs.Structures.{Occurrence, IsSorting, numbers_below}
use Rattle.desorting.specs.declared.system.System.{System}
use Rattle.desorting.specs.Shapes.{sorted_system}

-- the sorted states, where shapes and labels are numbers in the tables of the interface
abbrev pub packed_system : System → List (Sorted ℕ ℕ)
packed_system s = system_from 0 s.shapes.items s.store.edges

-- the sorted states with the shapes and labels that the numbers stand for
abbrev pub read_system : System → List (Sorted AnyShape AnyLabel)
read_system s =
    decoded_system (shape_of s.iface.shapes.items)
    (label_of s.iface.shapes.items s.iface.weights.items) (packed_system s)

-- The sorted states stand for the structures of a coalgebra with the denominator d, and state i has
-- the root structure i. There are as many of them, and of their edges, as the sizes say.
pub record IsDesorted (t : Nodes) (values : List Value) (d : ℕ) (s : System) : Type 0 where
  pub occurrences : List Occurrence
  pub sorting : IsSorting t values occurrences (numbers_below (length values))
  pub system : read_system s ≡ sorted_system t occurrences
  pub fit :
      (x : ℕ) (a : Sorted ℕ ℕ) → IsState (packed_system s) x a →
      fits_layer s.iface.shapes.items s.iface.weights.items a.shape a.labels
  pub sorted : s.store.states ≡ sorted_count t values
  pub edges : length s.store.edges ≡ edge_count t values
  pub states : s.states ≡ length values
  pub denominator : s.iface.denominator ≡ d
