-- How many steps it takes to find the classes of a coalgebra by rounds of smaller halves.
--
-- edges_of              how many edges structures have
-- scans_of_targets      how often the targets of all their edges stood in a splitter
-- IsCounted             the classes may be found with so many sorted states, edges and steps
use Rattle.std.specs.Prelude.{◌≡◌, ◌+◌, ◌*◌, ◌<◌, ◌≤◌, ◌^◌, ℕ, List, length, slice_index, sum_by}
use Rattle.typing.specs.Contents.{Content}
use Rattle.typing.specs.Layers.{sorted_count, edge_count}
use Rattle.sorted_systems.specs.Systems.{IsGreatestStable}
use Rattle.refiner.specs.Recorded.{Answer}
use Rattle.refiner.specs.History.{Moment, IsLegal, AreHalves}
use Rattle.layers.specs.Nest.{any_node, any_value, any_agree}
use Rattle.structures.specs.Structures.{Occurrence, IsSorting, numbers_below}
use Rattle.desorting.specs.Shapes.{sorted_system}

-- how many edges structures have
abbrev pub edges_of : List Occurrence → ℕ
edges_of occurrences = sum_by (λ (o : Occurrence). length o.targets) occurrences

-- how often the targets of all edges stood in a splitter, where each state did as often as is said
abbrev pub scans_of_targets : List ℕ → List Occurrence → ℕ
scans_of_targets scans occurrences =
    sum_by (λ (o : Occurrence). sum_by (λ y. slice_index scans y) o.targets) occurrences

-- The classes of a coalgebra may be found in so many steps: there are a system of its structures
-- and a legal history of smaller halves over it, whose last blocks are the greatest stable
-- labelling. The count is one for each edge, and one more for each scan of the edge's target. No
-- state is scanned more often than log2 of the number of sorted states.
pub record IsCounted (c : Content) (sorted edges rise : ℕ) : Type 0 where
  pub occurrences : List Occurrence
  pub answer : Answer
  pub first : Moment
  pub later : List Moment
  pub sorting : IsSorting c.term c.values occurrences (numbers_below (length c.values))
  pub each_sorted : length occurrences ≡ sorted
  pub each_edge : edges_of occurrences ≡ edges
  pub sorted_are : sorted ≡ sorted_count c.term c.values
  pub edges_are : edges ≡ edge_count c.term c.values
  pub legal :
      IsLegal any_node (any_value c.denominator) (sorted_system c.term occurrences) answer
      first later
  pub halves : AreHalves first later answer.rounds
  pub greatest :
      IsGreatestStable any_agree (sorted_system c.term occurrences) answer.block_of
  pub labels : answer.labels ≡ rise
  pub count : rise ≡ edges + scans_of_targets answer.scans occurrences
  pub scans : (y : ℕ) → y < sorted → 2 ^ slice_index answer.scans y ≤ sorted
  pub few : (k : ℕ) → sorted < 2 ^ (k + 1) → rise ≤ edges * (1 + k)
