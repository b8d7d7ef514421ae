-- The walk over the structures of a coalgebra, over plain lists. It serves private functions alone.
--
-- targets_of          where the places lead
-- LeadsTo, IsWalked   what holds when the walk has come to a place
use Rattle.std.specs.Prelude.{◌≡◌, ◌<◌, ◌≤◌, ◌^◌, ℕ, ◌+◌, cond, List, [], ◌∷◌, length, map, take, drop, slice_get, Some, unwrap_or, true}
use Rattle.std.specs.List.{AllByRecursion, AllZip}
use Rattle.functor_terms.specs.declared.node.Node.{Node}
use Rattle.functor_terms.specs.declared.node.Node.TheVariants.{State}
use Rattle.functor_terms.specs.Terms.{Nodes, node_at}
use Rattle.typing.specs.declared.value.Value.{Value}
use Rattle.typing.specs.Values.{state, states_below}
use Rattle.typing.specs.Fits.{fits}
use Rattle.typing.specs.Bounds.{is_within}
use Rattle.typing.specs.Layers.{Place, is_state_at, leaves_of, added, sorted_in, edges_in, sorted_count, edge_count}
use Rattle.edge_store.specs.Edges.{chosen}
use Rattle.structures.specs.Structures.{IsLayer, sources_from}

-- where the places lead, if the next structure has the number `next`: a state to itself, and any
-- other place to the next structure
abbrev pub targets_of : Nodes → ℕ → List Place → List ℕ
targets_of t next [] = []
targets_of t next (x ∷ xs) =
    cond (is_state_at t x) (unwrap_or (state x.1) 0 ∷ targets_of t next xs)
    (next ∷ targets_of t (next + 1) xs)

-- a place at a State node leads to its state, whose root structure has its number; any other to a
-- place in the list that is the same structure
abbrev pub LeadsTo : Node → ℕ → List Place → Place → ℕ → Type 0
LeadsTo State n places x y = (i : ℕ) × (state x.1 ≡ Some i) × (i < n) × (y ≡ i)
LeadsTo _ n places x y = slice_get places y ≡ Some x

-- The walk has come to a place: the root structures of the states are first, all are at layer
-- nodes, each place before it has its edges, and those behind it are still to be counted.
pub record IsWalked
    (t : Nodes) (values : List Value) (places : List Place) (sources targets : List ℕ) (at : ℕ)
    : Type 0 where
  pub rooted :
      (i : ℕ) (v : Value) → slice_get values i ≡ Some v → slice_get places i ≡ Some (0, v)
  pub enough : length values ≤ length places
  pub fit :
      (y : ℕ) (x : Place) → slice_get places y ≡ Some x →
      (fits t x.0 x.1 ≡ true) × (states_below (length values) x.1 ≡ true)
      × (is_within (2 ^ 106) x.1 ≡ true)
  pub at_layers : (y : ℕ) (x : Place) → slice_get places y ≡ Some x → IsLayer t x.0
  pub by_source : sources ≡ sources_from t 0 (take at places)
  pub one_each : length targets ≡ length sources
  pub inside : AllByRecursion (λ y. y < length places) targets
  pub linked :
      (y : ℕ) (x : Place) → y < at → slice_get places y ≡ Some x →
      AllZip (λ z k. LeadsTo (node_at t z.0) (length values) places z k) (leaves_of t x)
      (chosen y sources targets)
  pub counted : at + added (map (sorted_in t) (drop at places)) ≡ sorted_count t values
  pub edged : length targets + added (map (edges_in t) (drop at places)) ≡ edge_count t values
