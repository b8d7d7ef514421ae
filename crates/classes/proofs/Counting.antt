-- What the refiner's answer on numbers says of the structures that they stand for.
use Rattle.std.proofs.Common.{◌≡◌, ℕ, suc, ◌+◌, ◌<◌, List, [], ◌∷◌, length, sum_by, All, refl, sym, ap, ◌∙◌, subst}
use Rattle.std.specs.Prelude.{slice_index}
use Rattle.std.proofs.lemmas.List.{length-map}
use Rattle.functor_terms.specs.Terms.{IsTerm}
use Rattle.typing.specs.Contents.{Content}
use Rattle.edge_store.specs.declared.edge.Edge.{Edge}
use Rattle.edge_store.specs.Edges.{sources_of}
use Rattle.sorted_systems.specs.Systems.{Sorted, IsSystem, IsGreatestStable, system_from}
use Rattle.refiner.specs.Recorded.{Answer}
use Rattle.refiner.specs.Cells.{scanned}
use Rattle.refiner.specs.History.{IsLegal}
use Rattle.decoding.specs.Decoded.{decoded_state}
use Rattle.decoding.specs.Systems.{system_from_decoded, greatest_decoded}
use Rattle.layers.specs.Nest.{AnyShape, AnyLabel, any_node, any_kin, any_fits, any_value, any_agree}
use Rattle.layers.specs.Meanings.{shape_of, label_of, fits_layer}
use Rattle.structures.specs.Structures.{Occurrence, numbers_below}
use Rattle.desorting.specs.declared.system.System.{System}
use Rattle.desorting.specs.Shapes.{sorted_of, sorted_system}
use Rattle.desorting.specs.Desorted.{packed_system, IsDesorted}
use Rattle.desorting.specs.Laws.{SortedStatesAreASystem}
use Rattle.classes.specs.Refined.{IsPacked, IsRefined}
use Rattle.classes.specs.Counted.{edges_of, scans_of_targets, IsCounted}
use Rattle.classes.proofs.Histories.{legal_decoded}
use Rattle.classes.proofs.BySource.{by_source}
use Rattle.classes.proofs.Sums.{sum_by-map, sum_by-one, ones_of_targets}

length-system :
    {Shape Label : Type 0} (first : ℕ) (shapes : List Shape) (edges : List (Edge Label)) →
    length (system_from first shapes edges) ≡ length shapes
length-system first [] edges = refl
length-system first (s ∷ shapes) edges = ap suc (length-system (first + 1) shapes edges)

module _ (c : Content) (s : System) (desorted : IsDesorted c.term c.values c.denominator s) where
  abbrev occurrences : List Occurrence
  occurrences = desorted.occurrences

  -- what a coalgebra is sorted into is packed
  pub is_packed : SortedStatesAreASystem → IsTerm c.term → IsPacked s
  is_packed law is_term =
      system_from_decoded (shape_of s.iface.shapes.items)
      (label_of s.iface.shapes.items s.iface.weights.items) (packed_system s)
      any_node any_kin any_fits (fits_layer s.iface.shapes.items s.iface.weights.items) desorted.fit
      (subst (IsSystem any_node any_kin any_fits) (sym desorted.system)
      (law c.term c.values occurrences (numbers_below (length c.values)) is_term
      desorted.sorting))

  -- a sum over the targets of all structures is one over the sorted states
  over : (f : List ℕ → ℕ) →
      sum_by (λ (o : Occurrence). f o.targets) occurrences
      ≡ sum_by (λ (a : Sorted ℕ ℕ). f a.targets) (packed_system s)
  over f =
      let far = sum_by-map (λ (a : Sorted AnyShape AnyLabel). f a.targets) (sorted_of c.term)
      occurrences in
      let near = sum_by-map (λ (a : Sorted AnyShape AnyLabel). f a.targets)
      (decoded_state (shape_of s.iface.shapes.items)
      (label_of s.iface.shapes.items s.iface.weights.items)) (packed_system s) in
      sym far
      ∙ ap (sum_by (λ (a : Sorted AnyShape AnyLabel). f a.targets)) (sym desorted.system) ∙ near

  each_sorted : length occurrences ≡ s.store.states
  each_sorted =
      sym (length-map occurrences (sorted_of c.term)) ∙ ap length (sym desorted.system)
      ∙ length-map (packed_system s) _
      ∙ length-system 0 s.shapes.items s.store.edges ∙ s.one_shape

  module _ (r : Answer) (refined : IsRefined s r) where
    -- the labelling is the greatest stable one of the sorted states
    pub great : IsGreatestStable any_agree (sorted_system c.term occurrences) r.block_of
    great =
        subst (λ sys. IsGreatestStable any_agree sys r.block_of) desorted.system
        (greatest_decoded (shape_of s.iface.shapes.items)
        (label_of s.iface.shapes.items s.iface.weights.items) (packed_system s) any_agree
        r.block_of refined.greatest)

    legal :
        IsLegal any_node (any_value c.denominator) (sorted_system c.term occurrences) r
        refined.first refined.later
    legal =
        subst
        (λ d. IsLegal any_node (any_value d) (sorted_system c.term occurrences) r
        refined.first refined.later) desorted.denominator
        (subst
        (λ sys. IsLegal any_node (any_value s.iface.denominator) sys r
        refined.first refined.later) desorted.system
        (legal_decoded (shape_of s.iface.shapes.items)
        (label_of s.iface.shapes.items s.iface.weights.items) any_node
        (any_value s.iface.denominator) (packed_system s) r refined.first refined.later
        refined.legal))

    module _ (sources : All (λ x. x < s.store.states) (sources_of s.store.edges)) where
      below : All (λ x. x < length s.shapes.items) (sources_of s.store.edges)
      below = subst (λ n. All (λ x. x < n) (sources_of s.store.edges)) (sym s.one_shape) sources

      by_states : (f : ℕ → ℕ) →
          sum_by (λ (o : Occurrence). sum_by f o.targets) occurrences
          ≡ sum_by (λ (e : Edge ℕ). f e.target) s.store.edges
      by_states f = over (sum_by f) ∙ by_source ℕ ℕ f s.shapes.items s.store.edges below

      each_edge : edges_of occurrences ≡ length s.store.edges
      each_edge = sym (ones_of_targets occurrences) ∙ by_states (λ y. 1) ∙ sum_by-one s.store.edges

      scans_same : scans_of_targets r.scans occurrences ≡ scanned r.scans s.store.edges
      scans_same = by_states (λ y. slice_index r.scans y)

      -- the counts that are told are those of the definition
      pub counted : IsCounted c s.store.states (length s.store.edges) r.labels
      counted = record {
        occurrences = occurrences;
        answer = r;
        first = refined.first;
        later = refined.later;
        sorting = desorted.sorting;
        each_sorted = each_sorted;
        each_edge = each_edge;
        sorted_are = desorted.sorted;
        edges_are = desorted.edges;
        legal = legal;
        halves = refined.halves;
        greatest = great;
        labels = refl;
        count = refined.labels ∙ ap (λ k. length s.store.edges + k) (sym scans_same);
        scans = refined.scans;
        few = refined.few;
      }
