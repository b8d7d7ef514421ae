-- The sorted states are a system as the refiner wants it.
use Rattle.std.proofs.Common.{◌≡◌, ℕ, zero, suc, ◌<◌, ◌≤◌, ◌^◌, true, get_or, List, [], ◌∷◌, length, map, Some, slice_get, refl, sym, ap, ◌∙◌, subst, arith, All}
use Rattle.std.specs.Prelude.{ℤ, slice_index}
use Rattle.std.specs.List.{AllZip}
use Rattle.std.proofs.lemmas.List.{length-map}
use Rattle.std.proofs.lemmas.Slice.Zip.{AllZip-long}
use Rattle.std.proofs.lemmas.Option.{slice_get_within}
use Rattle.functor_terms.specs.declared.node.Node.{Node}
use Rattle.functor_terms.specs.declared.node.Node.TheVariants.{State, Constant, Naturals, Product, Sum, Power, Powerset, Bag, Distribution, Integers, Rationals}
use Rattle.functor_terms.specs.Terms.{Nodes, IsTerm, node_at, children_at}
use Rattle.typing.specs.declared.value.Value.{Value}
use Rattle.typing.specs.Values.{index, inner, parts, entries}
use Rattle.typing.specs.Fits.{Check, fits, fits_step, no_check}
use Rattle.functor_terms.proofs.Folds.{fold-at}
use Rattle.structures.proofs.AtChild.{at_child-within}
use Rattle.structures.proofs.Arities.{has_one}
use Rattle.structures.proofs.Sound.{fits_inside}
use Rattle.desorting.proofs.BothWays.{sum_within}
use Rattle.typing.specs.Layers.{Place, child_places}
use Rattle.typing.proofs.StableLaws.{element}
use Rattle.weights.specs.Sums.{size_of}
use Rattle.layers.specs.NestLabels.{all_left, bag_fit, whole_fit, scaled_fit, dist_fit, places_fit}
use Rattle.desorting.proofs.Desorting.{linked_children}
use Rattle.sorted_systems.specs.Systems.{Sorted, IsSystem}
use Rattle.structures.specs.Structures.{Occurrence, LeadsBy, IsSorting}
use Rattle.layers.specs.Nest.{AnyShape, AnyLabel, any_node, any_kin, any_fits}
use Rattle.desorting.specs.Shapes.{shape_of, labels_of, sorted_of, sorted_system}
use Rattle.desorting.proofs.Bridge.{node_is}
use Rattle.desorting.proofs.Counts.{labels_count}
use Rattle.desorting.proofs.Weighed.{weights_within}
use Rattle.typing.proofs.MapLaws.{mapped_at}

module _ (qs : List ℕ) (p : ℕ) (v : Value) (k : ℕ) (small : size_of (λ (x : ℤ). x)
    (map (λ e. e.1) (entries v)) ≤ 2 ^ 106) where
  abbrev weight : Value × ℤ → ℤ
  weight e = e.1

  abbrev few : List ℤ → Type 0
  few ls = size_of (λ (x : ℤ). x) ls ≤ 2 ^ 106

  pub shape_fits :
      (m : Node) (f : ℕ → Check) → fits_step m (map f qs) v ≡ true →
      k ≡ length (child_places m qs p v) → any_fits (shape_of m p v k) (labels_of m v k)
  shape_fits State f fit h = places_fit k 1 h
  shape_fits (Constant labels) f fit h = places_fit k 0 h
  shape_fits Naturals f fit h = places_fit k 0 h
  shape_fits Product f fit h = places_fit k k refl
  shape_fits Sum f fit h =
      let inside : index v < length qs =
      subst (λ n. index v < n) (length-map qs f) (sum_within (map f qs) v fit) in
      places_fit k 1 (h ∙ ap length (at_child-within qs (index v) (inner v ∷ []) inside))
  shape_fits (Power labels) f fit h = places_fit k k refl
  shape_fits Powerset f fit h = (all_left _ (λ (u : Value). tt) (parts v), tt)
  shape_fits Bag f fit h = bag_fit weight (entries v) few small
  shape_fits Integers f fit h = whole_fit weight (entries v) few small
  shape_fits Distribution f fit h = dist_fit weight (entries v) few small
  shape_fits Rationals f fit h = scaled_fit weight (entries v) few small

kin_alike : (m : Node) (p : ℕ) (u v : Value) (j k : ℕ)
    → any_kin (shape_of m p u j) (shape_of m p v k)
kin_alike State p u v j k = tt
kin_alike (Constant labels) p u v j k = tt
kin_alike Naturals p u v j k = tt
kin_alike Product p u v j k = tt
kin_alike Sum p u v j k = tt
kin_alike (Power labels) p u v j k = tt
kin_alike Powerset p u v j k = tt
kin_alike Bag p u v j k = tt
kin_alike Distribution p u v j k = tt
kin_alike Integers p u v j k = tt
kin_alike Rationals p u v j k = tt

module _ (t : Nodes) (values : List Value) (system : List Occurrence) (roots : List ℕ)
    (is_term : IsTerm t) (sorting : IsSorting t values system roots) where
  small : (x : ℕ) (o : Occurrence) → slice_get system x ≡ Some o
      → size_of (λ (x : ℤ). x) (map (λ e. e.1) (entries o.value)) ≤ 2 ^ 106
  small x o at = weights_within (2 ^ 106) o.value (sorting.within x o at)

  fits-at :
      (x : ℕ) (o : Occurrence) → slice_get system x ≡ Some o →
      fits_step (node_at t o.node) (map (fits t) (children_at t o.node)) o.value ≡ true
  fits-at x o at =
      let fit : fits t o.node o.value ≡ true = sorting.fit x o at in
      sym (ap (λ (f : Check). f o.value)
      (fold-at no_check fits_step t is_term o.node (fits_inside t o.node o.value fit))) ∙ fit

  lead_inside : (m : Node) (z : Place) (y : ℕ) → LeadsBy system roots m z y → y < length system
  lead_inside State z y (i, is_i, in_i, at_i) =
      let (v, at_v) = element values i (subst (λ n. i < n) sorting.one_root in_i) in
      let (o, at_o, _, _) = sorting.rooted i v at_v in
      subst (λ k. k < length system) at_i (slice_get_within system (slice_index roots i) o at_o)
  lead_inside m z y h = slice_get_within system y h.0 h.1

  all_inside : (places : List Place) (targets : List ℕ)
      → AllZip (λ z y. LeadsBy system roots (node_at t z.0) z y) places targets → (k d : ℕ)
      → k < length targets → get_or targets k d < length system
  all_inside [] [] h k d l = absurd (omega arith)
  all_inside [] (y ∷ ys) h k d l = absurd h
  all_inside (z ∷ zs) [] h k d l = absurd h
  all_inside (z ∷ zs) (y ∷ ys) h zero d l = lead_inside (node_at t z.0) z y h.0
  all_inside (z ∷ zs) (y ∷ ys) h (suc k) d l = all_inside zs ys h.1 k d (omega arith)

  count : (x : ℕ) (o : Occurrence) → slice_get system x ≡ Some o
      → length o.targets ≡ length (child_places (node_at t o.node) (children_at t o.node) o.node
      o.value)
  count x o e = AllZip-long _ (child_places (node_at t o.node) (children_at t o.node) o.node o.value)
      o.targets (linked_children t values system roots sorting x o e)

  -- what values are sorted into is a system
  pub sorting_is_system : IsSystem any_node any_kin any_fits (sorted_system t system)
  sorting_is_system = record {
    in_range = λ x a e. let (o, at_o, is_o) = mapped_at (sorted_of t) system x a e in
        subst (λ (a : Sorted AnyShape AnyLabel). All (λ y. y < length (sorted_system t system))
        a.targets) is_o
        (λ k d l. subst (λ n. get_or o.targets k d < n) (sym (length-map system (sorted_of t)))
        (all_inside (child_places (node_at t o.node) (children_at t o.node) o.node o.value)
        o.targets (linked_children t values system roots sorting x o at_o) k d l));
    one_each = λ x a e. let (o, at_o, is_o) = mapped_at (sorted_of t) system x a e in
        subst (λ (a : Sorted AnyShape AnyLabel). length a.targets ≡ length a.labels) is_o
        (count x o at_o ∙ sym (labels_count (node_at t o.node) (children_at t o.node) o.node o.value
        (has_one t is_term o.node)) ∙ ap (λ n. length (labels_of (node_at t o.node) o.value n))
        (sym (count x o at_o)));
    fit = λ x a e. let (o, at_o, is_o) = mapped_at (sorted_of t) system x a e in
        subst (λ (a : Sorted AnyShape AnyLabel). any_fits a.shape a.labels) is_o
        (shape_fits (children_at t o.node) o.node o.value (length o.targets) (small x o at_o)
        (node_at t o.node) (fits t) (fits-at x o at_o) (count x o at_o));
    same_kind = λ x y a b e f same.
        let (o, at_o, is_o) = mapped_at (sorted_of t) system x a e in
        let (p, at_p, is_p) = mapped_at (sorted_of t) system y b f in
        let one : o.node ≡ p.node = sym (node_is (node_at t o.node) o.node o.value
        (length o.targets)) ∙ ap (λ (a : Sorted AnyShape AnyLabel). any_node a.shape) is_o
        ∙ same ∙ sym (ap (λ (a : Sorted AnyShape AnyLabel). any_node a.shape) is_p)
        ∙ node_is (node_at t p.node) p.node p.value (length p.targets) in
        subst (λ (a : Sorted AnyShape AnyLabel). any_kin a.shape b.shape) is_o
        (subst (λ (b : Sorted AnyShape AnyLabel). any_kin (shape_of (node_at t o.node) o.node
        o.value (length o.targets)) b.shape) is_p
        (subst (λ r. any_kin (shape_of (node_at t o.node) o.node o.value (length o.targets))
        (shape_of (node_at t r) r p.value (length p.targets))) one (kin_alike (node_at t o.node)
        o.node o.value p.value (length o.targets) (length p.targets))));
  }
