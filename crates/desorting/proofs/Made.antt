-- Numbered structures with their edges are the sorted states of a coalgebra.
use Rattle.std.proofs.Common.{◌≡◌, ℕ, suc, ◌+◌, ◌<◌, ◌≤◌, ◌^◌, Bool, true, false, List, [], ◌∷◌, length, Some, slice_get, sym, ap, ◌∙◌, subst, arith}
use Rattle.std.specs.Prelude.{ℤ, ◌==◌, if◌then◌else◌}
use Rattle.std.proofs.lemmas.List.{length-map}
use Rattle.std.proofs.lemmas.Slice.Zip.{AllZip-long}
use Rattle.functor_terms.specs.Terms.{Nodes, IsTerm, node_at}
use Rattle.typing.specs.declared.value.Value.{Value}
use Rattle.typing.specs.Fits.{fits}
use Rattle.typing.specs.Bounds.{is_within}
use Rattle.typing.specs.Layers.{Place, leaves_of}
use Rattle.edge_store.specs.declared.edge.Edge.{Edge}
use Rattle.edge_store.specs.Edges.{sources_of, labels_of as labels_in, targets_of, chosen}
use Rattle.sorted_systems.specs.Systems.{Sorted, IsState, system_from}
use Rattle.decoding.specs.Decoded.{decoded_system}
use Rattle.layers.specs.declared.shape.LayerShape.{LayerShape}
use Rattle.layers.specs.Meanings.{shape_of as shape_with, label_of, fits_layer}
use Rattle.structures.specs.Structures.{LeadsBy, numbers_below, occurrences_from, AreStructures}
use Rattle.structures.proofs.Sound.{fits_inside}
use Rattle.structures.proofs.WalkEnds.{occurrence_at}
use Rattle.desorting.specs.Shapes.{sorted_system}
use Rattle.desorting.specs.Numbered.{IsLabelled, AreNumbered}
use Rattle.desorting.proofs.Decodes.{IsEdged, system_read, system_fits}

few_chosen : {X : Type 0} (k : ℕ) (keys : List ℕ) (xs : List X)
    → length (chosen k keys xs) ≤ length xs
few_chosen k [] xs = omega arith
few_chosen k (key ∷ keys) [] = omega arith
few_chosen k (key ∷ keys) (x ∷ xs) = by (key == k) (few_chosen k keys xs)
  where
    by :
        (b : Bool) → length (chosen k keys xs) ≤ length xs →
        length (if b then x ∷ chosen k keys xs else chosen k keys xs) ≤ suc (length xs)
    by true h = omega arith
    by false h = omega arith

module _
    (t : Nodes) (values : List Value) (places : List Place) (sources targets : List ℕ)
    (are : AreStructures t values places sources targets) where
  place_fits : (y : ℕ) (x : Place) → slice_get places y ≡ Some x → fits t x.0 x.1 ≡ true
  place_fits y x e = are.sorting.fit y _ (occurrence_at sources targets 0 places y x e)

  place_within :
      (y : ℕ) (x : Place) → slice_get places y ≡ Some x → is_within (2 ^ 106) x.1 ≡ true
  place_within y x e = are.sorting.within y _ (occurrence_at sources targets 0 places y x e)

  leaf_count :
      (y : ℕ) (x : Place) → slice_get places y ≡ Some x →
      length (chosen (0 + y) sources targets) ≡ length (leaves_of t x)
  leaf_count y x e =
      AllZip-long
      (λ z k. LeadsBy (occurrences_from 0 places sources targets)
      (numbers_below (length values)) (node_at t z.0) z k) (leaves_of t x)
      (chosen (0 + y) sources targets)
      (are.sorting.linked y _ (occurrence_at sources targets 0 places y x e))

  -- the node of a place is one of the term
  pub place_inside : (y : ℕ) (x : Place) → slice_get places y ≡ Some x → x.0 < length t
  place_inside y x e = fits_inside t x.0 x.1 (place_fits y x e)

  -- the children of a place are fewer than 2^32
  pub few_leaves :
      (y : ℕ) (x : Place) → slice_get places y ≡ Some x → length (leaves_of t x) < 2 ^ 32
  few_leaves y x e =
      omega (arith, leaf_count y x e, few_chosen (0 + y) sources targets, are.few_edges)

  module _
      (shapes : List LayerShape) (table : List ℤ) (numbers labels : List ℕ)
      (numbered : AreNumbered t shapes table places numbers labels) where
    -- a number for each place
    pub one_number : length numbers ≡ length places
    one_number = AllZip-long _ places numbers numbered.shaped

    pub one_label : length labels ≡ length sources
    one_label = numbered.labelled.one_each ∙ sym (ap length are.by_source)

    module _
        (edges : List (Edge ℕ)) (are_sources : sources_of edges ≡ sources)
        (are_labels : labels_in edges ≡ labels) (are_targets : targets_of edges ≡ targets) where
      edged :
          (y : ℕ) (x : Place) → slice_get places y ≡ Some x →
          IsEdged t shapes table sources targets labels edges are_sources are_labels are_targets
          (0 + y) x
      edged y x e =
          let zeroth : y ≡ 0 + y = omega arith in (
            subst (λ k. IsLabelled t table x (chosen k sources labels)) zeroth
                (subst (λ l. IsLabelled t table x (chosen y l labels)) (sym are.by_source)
                (numbered.labelled.each y x e)),
            leaf_count y x e,
          )

      -- what was made decodes to the sorted states
      pub made_system :
          decoded_system (shape_with shapes) (label_of shapes table)
          (system_from 0 numbers edges)
          ≡ sorted_system t (occurrences_from 0 places sources targets)
      made_system =
          system_read t shapes table sources targets labels edges are_sources are_labels
          are_targets 0 places numbers numbered.shaped edged

      -- each state of what was made suits its layer
      pub made_fit :
          IsTerm t → (x : ℕ) (a : Sorted ℕ ℕ) → IsState (system_from 0 numbers edges) x a →
          fits_layer shapes table a.shape a.labels
      made_fit is =
          system_fits t shapes table sources targets labels edges are_sources are_labels
          are_targets is 0 places numbers numbered.shaped edged
          (λ y x e. (place_fits y x e, place_within y x e))

-- there are as many edges as targets
pub as_many_targets :
    (edges : List (Edge ℕ)) (targets : List ℕ) → targets_of edges ≡ targets →
    length edges ≡ length targets
as_many_targets edges targets e =
    sym (length-map edges (λ (e : Edge ℕ). e.target)) ∙ ap length e
