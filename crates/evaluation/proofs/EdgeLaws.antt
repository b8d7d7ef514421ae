-- Structures that are laid out: the edges of each, and what holds of each.
--
-- IsEdgeRange       == a range of edges is within all of them
-- edge_range        == so is that of each structure
-- edges_chosen      == what stands in the range of a structure is what belongs to its edges
-- place_inside, place_within     == each structure is at a node, and its weights are in bounds
use Rattle.std.proofs.Common.{◌≡◌, ◌+◌, ◌-◌, ◌<◌, ◌≤◌, ◌^◌, ℕ, true, List, length, Some, slice_get, take, drop, ◌∙◌, ap, arith}
use Rattle.std.specs.Prelude.{slice_index, slice_range}
use Rattle.functor_terms.specs.Terms.{Nodes}
use Rattle.typing.specs.declared.value.Value.{Value}
use Rattle.typing.specs.Bounds.{is_within}
use Rattle.typing.specs.Layers.{Place}
use Rattle.edge_store.specs.Edges.{below, just, chosen}
use Rattle.edge_store.proofs.Counts.{below_next, within}
use Rattle.edge_store.proofs.Ranges.{chosen_range}
use Rattle.structures.specs.Structures.{sources_from}
use Rattle.structures.proofs.Sound.{fits_inside}
use Rattle.structures.proofs.WalkEnds.{occurrence_at}
use Rattle.evaluation.specs.Rows.{AreLaidOut}

-- a range of edges is within all of them
pub record IsEdgeRange (firsts : List ℕ) (count x : ℕ) : Type 0 where
  pub inside : x + 1 < length firsts
  pub rises : slice_index firsts x ≤ slice_index firsts (x + 1)
  pub ends : slice_index firsts (x + 1) ≤ count

module _
    (t : Nodes) (values : List Value) (places : List Place) (firsts targets : List ℕ)
    (laid : AreLaidOut t values places firsts targets) where
  abbrev sources : List ℕ
  sources = sources_from t 0 places

  -- the range of a structure is within all edges
  pub edge_range :
      (x count : ℕ) → x < length places → count ≡ length targets → IsEdgeRange firsts count x
  edge_range x count h e =
      let first = laid.starts.each x (omega arith) in
      let last = laid.starts.each (x + 1) (omega arith) in
      let next = below_next x sources in
      let all = within x sources in
      record {
        inside = omega (arith, laid.starts.len, h);
        rises = omega (arith, first, last, next);
        ends = omega (arith, last, next, all, laid.structures.one_each, e);
      }

  -- what stands in the range of a structure is what belongs to its edges
  pub edges_chosen :
      {X : Type 0} (xs : List X) (x : ℕ) → x < length places → length xs ≡ length targets →
      slice_range xs (slice_index firsts x) (slice_index firsts (x + 1)) ≡ chosen x sources xs
  edges_chosen xs x h e =
      let first : slice_index firsts x ≡ below x sources = laid.starts.each x (omega arith) in
      let last : slice_index firsts (x + 1) ≡ below (x + 1) sources =
      laid.starts.each (x + 1) (omega arith) in
      let many : slice_index firsts (x + 1) - slice_index firsts x ≡ just x sources =
      omega (arith, first, last, below_next x sources) in
      ap (λ n. take n (drop (slice_index firsts x) xs)) many
      ∙ ap (λ n. take (just x sources) (drop n xs)) first
      ∙ chosen_range x sources xs laid.structures.ascending
      (e ∙ laid.structures.one_each)

  -- each structure is at a node
  pub place_inside : (x : ℕ) (p : Place) → slice_get places x ≡ Some p → p.0 < length t
  place_inside x p e =
      fits_inside t p.0 p.1
      (laid.structures.sorting.fit x _ (occurrence_at sources targets 0 places x p e))

  -- its weights are in bounds
  pub place_within :
      (x : ℕ) (p : Place) → slice_get places x ≡ Some p → is_within (2 ^ 106) p.1 ≡ true
  place_within x p e =
      laid.structures.sorting.within x _ (occurrence_at sources targets 0 places x p e)
