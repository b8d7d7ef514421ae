-- Stable labellings of the system, as the refiner knows them, and stable lists of the coalgebra.
use Rattle.std.proofs.Common.{◌≡◌, ℕ, ◌<◌, true, List, [], length, map, Some, slice_get, refl, sym, ap, ◌∙◌, subst}
use Rattle.std.specs.Prelude.{slice_index, ◌↔◌}
use Rattle.std.specs.Option.{option_map}
use Rattle.std.proofs.lemmas.List.{length-map, get_or-map}
use Rattle.std.proofs.lemmas.Option.{slice_get-map, slice_get_within}
use Rattle.std.proofs.lemmas.Slice.Zip.{AllZip-long}
use Rattle.functor_terms.specs.Terms.{Nodes, IsTerm, node_at, children_at}
use Rattle.typing.specs.declared.value.Value.{Value}
use Rattle.typing.specs.Values.{relabelled}
use Rattle.typing.specs.Layers.{child_places}
use Rattle.typing.specs.Equality.{are_equal}
use Rattle.typing.specs.Stable as coalgebra
use Rattle.typing.proofs.StableLaws.{element}
use Rattle.iface.specs.Structures.{Classed}
use Rattle.sorted_systems.specs.Systems.{IsState, IsStable, IsGreatestStable, class_in, seen}
use Rattle.structures.specs.Structures.{Occurrence, IsSorting}
use Rattle.desorting.specs.Agreement.{AgreeAt, IsStableSorting, root_labels, IsJoined}
use Rattle.layers.specs.Nest.{AnyShape, AnyLabel, any_agree}
use Rattle.desorting.specs.Shapes.{shape_of, labels_of, sorted_of, sorted_system}
use Rattle.desorting.proofs.Bridge.{structure, one_node, node_is, agree_to, agree_from}
use Rattle.desorting.proofs.Desorting.{linked_children, to_coalgebra, to_system, joined_labels, joined_labels-join}
use Rattle.typing.proofs.MapLaws.{mapped_at}

module _ (t : Nodes) (values : List Value) (system : List Occurrence) (roots : List ℕ)
    (is_term : IsTerm t) (sorting : IsSorting t values system roots) where
  abbrev classes : List ℕ → Occurrence → List ℕ
  classes s o = map (class_in s) o.targets

  abbrev structure_of : List ℕ → Occurrence → Classed AnyShape AnyLabel
  structure_of s o = structure (node_at t o.node) o.node o.value (classes s o)

  seen_is : (s : List ℕ) (o : Occurrence) → seen (class_in s) (sorted_of t o) ≡ structure_of s o
  seen_is s o =
      let one : length o.targets ≡ length (classes s o) = sym (length-map o.targets (class_in s)) in
      λ i. record {
        shape = shape_of (node_at t o.node) o.node o.value (one i);
        labels = labels_of
            (node_at t o.node) o.value (one i);
        classes = classes s o;
      }

  state_at : (x : ℕ) (o : Occurrence) → slice_get system x ≡ Some o
      → IsState (sorted_system t system) x (sorted_of t o)
  state_at x o at = slice_get-map (sorted_of t) system x ∙ ap (option_map (sorted_of t)) at

  one_class : (s : List ℕ) (o : Occurrence) (x : ℕ) → slice_get system x ≡ Some o
      → length (classes s o) ≡ length (child_places (node_at t o.node) (children_at t o.node) o.node
      o.value)
  one_class s o x at = length-map o.targets (class_in s)
      ∙ AllZip-long _ (child_places (node_at t o.node) (children_at t o.node) o.node o.value)
      o.targets (linked_children t values system roots sorting x o at)

  to_sorting : (s : List ℕ) → IsStable any_agree (sorted_system t system) s
      → IsStableSorting t system s
  to_sorting s stable = record {
    one_each = stable.one_each ∙ length-map system (sorted_of t);
    agrees = λ x y o p at_x at_y same. both o p (stable.agrees x y (sorted_of t o) (sorted_of t p)
        (state_at x o at_x) (state_at y p at_y) same);
  }
    where
      both : (o p : Occurrence)
          → any_agree (seen (class_in s) (sorted_of t o)) (seen (class_in s) (sorted_of t p))
          → (o.node ≡ p.node) × AgreeAt (node_at t o.node) o.value p.value (classes s o)
          (classes s p)
      both o p h =
          let agree : any_agree (structure_of s o) (structure_of s p) =
          subst (λ x. any_agree x (structure_of s p)) (seen_is s o)
          (subst (λ y. any_agree (seen (class_in s) (sorted_of t o)) y) (seen_is s p) h) in
          let one : o.node ≡ p.node = sym (node_is (node_at t o.node) o.node o.value
          (length (classes s o))) ∙ one_node (structure_of s o) (structure_of s p) agree
          ∙ node_is (node_at t p.node) p.node p.value (length (classes s p)) in (
            one,
            agree_to [] o.node o.value p.value (classes s o) (classes s p) (node_at t o.node)
                (subst (λ r. any_agree (structure_of s o) (structure (node_at t r) r p.value
                (classes s p))) (sym one) agree),
          )

  from_sorting : (s : List ℕ) → IsStableSorting t system s
      → IsStable any_agree (sorted_system t system) s
  from_sorting s stable = record {
    one_each = stable.one_each ∙ sym (length-map system (sorted_of t));
    agrees = λ x y a b is_a is_b same.
        let (o, at_x, same_a) = mapped_at (sorted_of t) system x a is_a in
        let (p, at_y, same_b) = mapped_at (sorted_of t) system y b is_b in
        subst (λ z. any_agree (seen (class_in s) z) (seen (class_in s) b)) same_a
        (subst (λ z. any_agree (seen (class_in s) (sorted_of t o)) (seen (class_in s) z)) same_b
        (both x y o p at_x at_y (stable.agrees x y o p at_x at_y same)));
  }
    where
      both : (x y : ℕ) (o p : Occurrence) → slice_get system x ≡ Some o
          → slice_get system y ≡ Some p → (o.node ≡ p.node) × AgreeAt (node_at t o.node) o.value
          p.value (classes s o) (classes s p)
          → any_agree (seen (class_in s) (sorted_of t o)) (seen (class_in s) (sorted_of t p))
      both x y o p at_x at_y (one, h) =
          let qs = children_at t o.node in
          let count : length (classes s p) ≡ length (child_places (node_at t o.node)
          (children_at t o.node) o.node p.value) = subst (λ r. length (classes s p)
          ≡ length (child_places (node_at t r) (children_at t r) r p.value)) (sym one)
          (one_class s p y at_y) in
          let agree : any_agree (structure_of s o) (structure (node_at t o.node) o.node p.value
          (classes s p)) =
          agree_from (children_at t o.node) o.node o.value p.value (classes s o) (classes s p)
          (node_at t o.node) (one_class s o x at_x) count h in
          let there : any_agree (structure_of s o) (structure_of s p) =
          subst (λ r. any_agree (structure_of s o) (structure (node_at t r) r p.value
          (classes s p))) one agree in
          subst (λ z. any_agree z (seen (class_in s) (sorted_of t p))) (sym (seen_is s o))
          (subst (λ z. any_agree (structure_of s o) z) (sym (seen_is s p)) there)

  -- a stable labelling of the system gives a stable list of the coalgebra
  pub stable_to_coalgebra : (s : List ℕ) → IsStable any_agree (sorted_system t system) s
      → coalgebra.IsStable t values (root_labels roots s)
  stable_to_coalgebra s stable = to_coalgebra t values system roots is_term sorting
      (root_labels roots s) s refl (to_sorting s stable)

  -- and a stable list gives a stable labelling
  pub stable_to_system : (b s : List ℕ) → coalgebra.IsStable t values b → IsJoined t b system s
      → IsStable any_agree (sorted_system t system) s
  stable_to_system b s stable joined = from_sorting s (to_system t values system roots is_term
      sorting b s stable joined)

  -- the greatest stable labelling joins two root structures exactly if their states are equivalent
  pub roots_together : (r : List ℕ) → IsGreatestStable any_agree (sorted_system t system) r
      → (i j : ℕ) → i < length values → j < length values
      → (class_in r (slice_index roots i) ≡ class_in r (slice_index roots j)) ↔
      coalgebra.AreEquivalent t values i j
  roots_together r greatest i j in_i in_j = (
    (λ same. (
      in_i,
      in_j,
      root_labels roots r,
      stable_to_coalgebra r greatest.stable,
      label i in_i
          ∙ same ∙ sym (label j in_j),
    )),
    (λ equivalent. let (_, _, b, stable, same) = equivalent in joined b stable same),
  )
    where
      label : (i : ℕ) → i < length values
          → slice_index (root_labels roots r) i ≡ class_in r (slice_index roots i)
      label i h = get_or-map (class_in r) roots i 0 0 (subst (λ n. i < n) (sym sorting.one_root) h)

      joined : (b : List ℕ) → coalgebra.IsStable t values b → slice_index b i ≡ slice_index b j
          → class_in r (slice_index roots i) ≡ class_in r (slice_index roots j)
      joined b stable same =
          let s : List ℕ = joined_labels t b system in
          let join : IsJoined t b system s = joined_labels-join t b system in
          let (u, at_u) = element values i in_i in
          let (v, at_v) = element values j in_j in
          let (o, at_o, node_o, value_o) = sorting.rooted i u at_u in
          let (p, at_p, node_p, value_p) = sorting.rooted j v at_v in
          let equal : are_equal t o.node (relabelled b o.value) (relabelled b p.value) ≡ true =
          (λ k. are_equal t (node_o k) (relabelled b (value_o k)) (relabelled b (value_p k)))
          ∙ stable.equal i j u v at_u at_v same in
          let together = (join.joins (slice_index roots i) (slice_index roots j) o p at_o at_p).1
          (node_o ∙ sym node_p, equal) in
          let inside : (x : ℕ) (o : Occurrence) → slice_get system x ≡ Some o
          → x < length (sorted_system t system) = λ x o at. subst (λ n. x < n)
          (sym (length-map system (sorted_of t))) (slice_get_within system x o at) in
          greatest.greatest s (stable_to_system b s stable join) (slice_index roots i)
          (slice_index roots j) (inside _ o at_o) (inside _ p at_p) together
