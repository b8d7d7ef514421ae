-- The system by numbers stands for the sorted states of the structures.
use Rattle.std.proofs.Common.{◌≡◌, ℕ, zero, suc, ◌+◌, ◌^◌, true, List, [], ◌∷◌, length, map, Some, slice_get, refl, sym, ap, ◌∙◌, subst, arith}
use Rattle.std.specs.Prelude.{ℤ}
use Rattle.std.specs.List.{AllZip}
use Rattle.std.proofs.lemmas.Option.{get_or_from_slice_get, same_Some, none-some}
use Rattle.functor_terms.specs.Terms.{Nodes, IsTerm, node_at, children_at}
use Rattle.functor_terms.proofs.Folds.{fold-at}
use Rattle.typing.specs.Fits.{Check, fits, fits_step, no_check}
use Rattle.typing.specs.Bounds.{is_within}
use Rattle.typing.specs.Layers.{Place, leaves_of}
use Rattle.edge_store.specs.declared.edge.Edge.{Edge}
use Rattle.edge_store.specs.Edges.{sources_of, labels_of as labels_in, targets_of, labels_from, targets_from, chosen}
use Rattle.sorted_systems.specs.Systems.{Sorted, system_from}
use Rattle.decoding.specs.Decoded.{decoded_state, decoded_system}
use Rattle.layers.specs.declared.shape.LayerShape.{LayerShape}
use Rattle.layers.specs.Packing.{class_of}
use Rattle.layers.specs.Meanings.{shape_at, side_of, shape_of as shape_with, label_by, label_of, fits_class, fits_layer}
use Rattle.structures.specs.Structures.{Occurrence, occurrences_from}
use Rattle.structures.proofs.Leaves.{leaves-children}
use Rattle.structures.proofs.Sound.{fits_inside}
use Rattle.desorting.specs.Shapes.{shape_of, labels_of, sorted_of, sorted_system}
use Rattle.desorting.specs.Numbered.{layer_shape, IsLabelled}
use Rattle.desorting.proofs.Numbers.{side_is, labels_read, labels_fit}
use Rattle.desorting.proofs.Weighed.{weights_within}

module _
    (t : Nodes) (shapes : List LayerShape) (table : List ℤ) (sources targets labels : List ℕ)
    (edges : List (Edge ℕ)) (are_sources : sources_of edges ≡ sources)
    (are_labels : labels_in edges ≡ labels) (are_targets : targets_of edges ≡ targets) where
  -- the number s is that of the shape of x
  abbrev IsShaped : Place → ℕ → Type 0
  IsShaped x s = slice_get shapes s ≡ Some (layer_shape t x)

  -- edges from a number are as many as leave x, and have labels that stand for those of x
  abbrev pub IsEdged : ℕ → Place → Type 0
  IsEdged y x =
      IsLabelled t table x (chosen y sources labels)
      × (length (chosen y sources targets) ≡ length (leaves_of t x))

  abbrev packed : ℕ → ℕ → Sorted ℕ ℕ
  packed y s =
      record { shape = s; labels = labels_from edges y; targets = targets_from edges y }

  abbrev occurrence : ℕ → Place → Occurrence
  occurrence y x = record { node = x.0; value = x.1; targets = chosen y sources targets }

  shape_found : (x : Place) (s : ℕ) → IsShaped x s → shape_at shapes s ≡ layer_shape t x
  shape_found x s e = get_or_from_slice_get shapes s (layer_shape t x) _ e

  labels_are : (y : ℕ) → labels_from edges y ≡ chosen y sources labels
  labels_are y i = chosen y (are_sources i) (are_labels i)

  targets_are : (y : ℕ) → targets_from edges y ≡ chosen y sources targets
  targets_are y i = chosen y (are_sources i) (are_targets i)

  one_read :
      (y : ℕ) (x : Place) (s : ℕ) → IsShaped x s → IsEdged y x →
      decoded_state (shape_with shapes) (label_of shapes table) (packed y s)
      ≡ sorted_of t (occurrence y x)
  one_read y x s shaped (labelled, count) =
      let m = node_at t x.0 in
      let k : ℕ = length (leaves_of t x) in
      let found = shape_found x s shaped in
      let shape : shape_with shapes s ≡ shape_of m x.0 x.1 (length (chosen y sources targets)) =
      ap (λ (a : LayerShape). side_of a.kind a.node) found ∙ side_is m x.0 x.1 k
      ∙ ap (shape_of m x.0 x.1) (sym count) in
      let read :
      map (label_of shapes table s) (labels_from edges y)
      ≡ labels_of m x.1 (length (chosen y sources targets)) =
      ap (map (label_of shapes table s)) (labels_are y)
      ∙ ap (λ (a : LayerShape). map (label_by table a.kind) (chosen y sources labels)) found
      ∙ labels_read table x.1 k (chosen y sources labels) m labelled
      ∙ ap (labels_of m x.1) (sym count) in
      λ i. record { shape = shape i; labels = read i; targets = targets_are y i }

  -- what was numbered decodes to the structures it came from
  pub system_read :
      (first : ℕ) (places : List Place) (numbers : List ℕ) → AllZip IsShaped places numbers →
      ((y : ℕ) (x : Place) → slice_get places y ≡ Some x → IsEdged (first + y) x) →
      decoded_system (shape_with shapes) (label_of shapes table) (system_from first numbers edges)
      ≡ sorted_system t (occurrences_from first places sources targets)
  system_read first [] [] z h = refl
  system_read first [] (s ∷ ss) z h = absurd z
  system_read first (x ∷ xs) [] z h = absurd z
  system_read first (x ∷ xs) (s ∷ ss) z h =
      let zeroth : first + 0 ≡ first = omega arith in
      let here : IsEdged first x = subst (λ n. IsEdged n x) zeroth (h 0 x refl) in
      let later = system_read (first + 1) xs ss z.1 (λ y w e.
      let next : first + suc y ≡ first + 1 + y = omega arith in
      subst (λ n. IsEdged n w) next (h (suc y) w e)) in
      λ i. one_read first x s z.0 here i ∷ later i

  module _ (is : IsTerm t) where
    one_fits :
        (y : ℕ) (x : Place) (s : ℕ) → fits t x.0 x.1 ≡ true → is_within (2 ^ 106) x.1 ≡ true →
        IsShaped x s → IsEdged y x → fits_layer shapes table s (labels_from edges y)
    one_fits y x s fit small shaped (labelled, count) =
        let m = node_at t x.0 in
        let k : ℕ = length (leaves_of t x) in
        let step : fits_step m (map (fits t) (children_at t x.0)) x.1 ≡ true =
        sym (ap (λ (f : Check). f x.1)
        (fold-at no_check fits_step t is x.0 (fits_inside t x.0 x.1 fit))) ∙ fit in
        subst (λ l. fits_layer shapes table s l) (sym (labels_are y))
        (subst
        (λ (a : LayerShape). fits_class table (class_of a.kind) (chosen y sources labels))
        (sym (shape_found x s shaped))
        (labels_fit table x.1 k (chosen y sources labels) (weights_within (2 ^ 106) x.1 small)
        (children_at t x.0) x.0 m (fits t) step (ap length (leaves-children t x)) labelled))

    -- what was numbered fits its table
    pub system_fits :
        (first : ℕ) (places : List Place) (numbers : List ℕ) → AllZip IsShaped places numbers →
        ((y : ℕ) (x : Place) → slice_get places y ≡ Some x → IsEdged (first + y) x) →
        ((y : ℕ) (x : Place) → slice_get places y ≡ Some x →
        (fits t x.0 x.1 ≡ true) × (is_within (2 ^ 106) x.1 ≡ true)) →
        (y : ℕ) (a : Sorted ℕ ℕ) → slice_get (system_from first numbers edges) y ≡ Some a →
        fits_layer shapes table a.shape a.labels
    system_fits first [] [] z h g y a e = absurd (none-some a e)
    system_fits first [] (s ∷ ss) z h g y a e = absurd z
    system_fits first (x ∷ xs) [] z h g y a e = absurd z
    system_fits first (x ∷ xs) (s ∷ ss) z h g zero a e =
        let zeroth : first + 0 ≡ first = omega arith in
        let here : IsEdged first x = subst (λ n. IsEdged n x) zeroth (h 0 x refl) in
        let good = g 0 x refl in
        subst (λ (a : Sorted ℕ ℕ). fits_layer shapes table a.shape a.labels)
        (same_Some (packed first s) a e) (one_fits first x s good.0 good.1 z.0 here)
    system_fits first (x ∷ xs) (s ∷ ss) z h g (suc y) a e =
        system_fits (first + 1) xs ss z.1 (λ y w e.
        let next : first + suc y ≡ first + 1 + y = omega arith in
        subst (λ n. IsEdged n w) next (h (suc y) w e)) (λ y w e. g (suc y) w e) y a e
