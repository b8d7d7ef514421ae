-- What the refiner is given and answers, over a system of sorted states by numbers.
--
-- IsPacked       the sorted states are a system as the refiner wants it
-- IsRefined      what its answer is to them
use Rattle.std.specs.Prelude.{◌≡◌, ◌+◌, ◌*◌, ◌<◌, ◌≤◌, ◌^◌, ℕ, List, length, slice_index}
use Rattle.sorted_systems.specs.Systems.{IsSystem, IsGreatestStable}
use Rattle.refiner.specs.Cells.{scanned}
use Rattle.refiner.specs.Recorded.{Answer}
use Rattle.refiner.specs.History.{Moment, IsLegal, AreHalves}
use Rattle.decoding.specs.Decoded.{node_by, kin_by, value_by, agree_by}
use Rattle.layers.specs.Nest.{any_node, any_kin, any_value, any_agree}
use Rattle.layers.specs.Meanings.{shape_of, label_of, fits_layer}
use Rattle.desorting.specs.declared.system.System.{System}
use Rattle.desorting.specs.Desorted.{packed_system}

-- every target is a sorted state, every structure fits, and two of one node are kin
abbrev pub IsPacked : System → Type 0
IsPacked s =
    IsSystem (node_by (shape_of s.iface.shapes.items)
    (label_of s.iface.shapes.items s.iface.weights.items) any_node)
    (kin_by (shape_of s.iface.shapes.items)
    (label_of s.iface.shapes.items s.iface.weights.items) any_kin)
    (fits_layer s.iface.shapes.items s.iface.weights.items)
    (packed_system s)

-- The blocks are the greatest stable labelling, at the end of a legal history of smaller halves,
-- and labels are counted by the scans of targets.
pub record IsRefined (s : System) (r : Answer) : Type 0 where
  pub first : Moment
  pub later : List Moment
  pub greatest :
      IsGreatestStable
      (agree_by (shape_of s.iface.shapes.items)
      (label_of s.iface.shapes.items s.iface.weights.items) any_agree)
      (packed_system s) r.block_of
  pub legal :
      IsLegal
      (node_by (shape_of s.iface.shapes.items)
      (label_of s.iface.shapes.items s.iface.weights.items) any_node)
      (value_by (shape_of s.iface.shapes.items)
      (label_of s.iface.shapes.items s.iface.weights.items) (any_value s.iface.denominator))
      (packed_system s) r first later
  pub halves : AreHalves first later r.rounds
  pub scans : (y : ℕ) → y < s.store.states → 2 ^ slice_index r.scans y ≤ s.store.states
  pub labels : r.labels ≡ length s.store.edges + scanned r.scans s.store.edges
  pub few :
      (k : ℕ) → s.store.states < 2 ^ (k + 1) → r.labels ≤ length s.store.edges * (1 + k)
