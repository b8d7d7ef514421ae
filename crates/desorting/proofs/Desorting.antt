-- The system of sorted states keeps equivalence, in both directions.
use Rattle.std.proofs.Common.{◌≡◌, ℕ, zero, suc, ◌+◌, ◌<◌, ◌≤◌, Bool, true, ◌&&◌, List, [], ◌∷◌, length, map, Some, slice_get, Contains, refl, sym, ap, ◌∙◌, subst, arith}
use Rattle.std.specs.Prelude.{slice_index, nat_eq, ◌==◌}
use Rattle.std.specs.List.{AllZip}
use Rattle.std.specs.Option.{option_eq, option_map}
use Rattle.std.specs.Cmp.{IsEquivalence}
use Rattle.std.proofs.lemmas.Cmp.{nat_eq_equiv, on_equiv}
use Rattle.std.proofs.lemmas.Bool.{eqb-true, eq-eqb, and_parts, and_from}
use Rattle.std.proofs.lemmas.List.{length-map, get_or-map}
use Rattle.std.proofs.lemmas.Option.{get_or_from_slice_get, slice_get-map, slice_get_within}
use Rattle.functor_terms.specs.declared.node.Node.{Node}
use Rattle.functor_terms.specs.declared.node.Node.TheVariants.{State}
use Rattle.functor_terms.specs.Terms.{Nodes, IsTerm, node_at, children_at}
use Rattle.functor_terms.proofs.Folds.{fold-at}
use Rattle.typing.specs.declared.value.Value.{Value}
use Rattle.typing.specs.Values.{state, relabelled}
use Rattle.typing.specs.Layers.{Place, child_places}
use Rattle.typing.specs.Fits.{Check, fits, fits_step, no_check}
use Rattle.typing.specs.Equality.{Test, no_test, eq_step, are_equal}
use Rattle.typing.specs.Stable.{IsStable}
use Rattle.typing.proofs.MapLaws.{state_map}
use Rattle.typing.proofs.EqualityLaws.{eq-equivalence, chosen_symm, chosen_congr}
use Rattle.typing.proofs.FirstPlaces.{first_of, first_of-same, first_of-equal}
use Rattle.typing.proofs.StableLaws.{element}
use Rattle.structures.specs.Structures.{Occurrence, StandsFor, LeadsBy, IsSorting}
use Rattle.desorting.specs.Agreement.{AgreeAt, IsStableSorting, root_labels, IsJoined}
use Rattle.functor_terms.proofs.TermLaws.{term-later}
use Rattle.structures.proofs.Arities.{has_one, some_node}
use Rattle.structures.proofs.Leaves.{leaves-children}
use Rattle.structures.proofs.Sound.{fits_inside}
use Rattle.desorting.proofs.Steps.{ClassesEqual, EqualsMeet}
use Rattle.desorting.proofs.BothWays.{layer-equal, layer-agree}

-- the targets of a sorted state, child by child
pub linked_children : (t : Nodes) (values : List Value) (system : List Occurrence) (roots : List ℕ)
    → IsSorting t values system roots → (x : ℕ) (o : Occurrence) → slice_get system x ≡ Some o
    → AllZip (λ place y. LeadsBy system roots (node_at t place.0) place y)
    (child_places (node_at t o.node) (children_at t o.node) o.node o.value) o.targets
linked_children t values system roots sorting x o at =
    subst (λ l. AllZip (λ place y. LeadsBy system roots (node_at t place.0) place y) l o.targets)
    (leaves-children t (o.node, o.value)) (sorting.linked x o at)

module _ (t : Nodes) (values : List Value) (system : List Occurrence) (roots : List ℕ)
    (is_term : IsTerm t) (sorting : IsSorting t values system roots) (b s : List ℕ) where
  abbrev class_of : ℕ → ℕ
  class_of x = slice_index s x

  -- a child at a place has a class
  abbrev HasClass : Place → ℕ → Type 0
  HasClass place c = (x : ℕ) × LeadsBy system roots (node_at t place.0) place x × (class_of x ≡ c)

  abbrev equal_at : ℕ → Test
  equal_at q = are_equal t q

  classed : (places : List Place) (targets : List ℕ)
      → AllZip (λ place x. LeadsBy system roots (node_at t place.0) place x) places targets
      → AllZip HasClass places (map class_of targets)
  classed [] [] h = tt
  classed [] (x ∷ xs) h = absurd h
  classed (p ∷ ps) [] h = absurd h
  classed (p ∷ ps) (x ∷ xs) h = ((x, h.0, refl), classed ps xs h.1)

  abbrev places_of : ℕ → Value → List Place
  places_of p v = child_places (node_at t p) (children_at t p) p v

  children_classed : (x : ℕ) (o : Occurrence) → slice_get system x ≡ Some o
      → AllZip HasClass (places_of o.node o.value) (map class_of o.targets)
  children_classed x o at = classed (places_of o.node o.value) o.targets
      (linked_children t values system roots sorting x o at)

  -- what the step says of a node that is there
  eq-at : (p : ℕ) (u w : Value) → p < length t
      → are_equal t p u w ≡ eq_step (node_at t p) (map (are_equal t) (children_at t p)) u w
  eq-at p u w h = ap (λ (f : Test). f u w) (fold-at no_test eq_step t is_term p h)

  fits-at : (p : ℕ) (u : Value) → p < length t
      → fits t p u ≡ fits_step (node_at t p) (map (fits t) (children_at t p)) u
  fits-at p u h = ap (λ (f : Check). f u) (fold-at no_check fits_step t is_term p h)

  -- states with equal labels in b, at roots of one class
  states_equal : (u w : Value) (i j : ℕ) → state u ≡ Some i → state w ≡ Some j
      → slice_index b i ≡ slice_index b j
      → option_eq nat_eq (state (relabelled b u)) (state (relabelled b w)) ≡ true
  states_equal u w i j is_i is_j same =
      (λ k. option_eq nat_eq (state_map b u k) (state_map b w k))
      ∙ (λ k. option_eq nat_eq (option_map (slice_index b) (is_i k)) (option_map (slice_index b)
      (is_j k))) ∙ eq-eqb (slice_index b i) (slice_index b j) same

  states_same : (u w : Value) (i j : ℕ) → state u ≡ Some i → state w ≡ Some j
      → option_eq nat_eq (state (relabelled b u)) (state (relabelled b w)) ≡ true
      → slice_index b i ≡ slice_index b j
  states_same u w i j is_i is_j e =
      eqb-true (slice_index b i) (slice_index b j)
      (sym ((λ k. option_eq nat_eq (state_map b u k) (state_map b w k))
      ∙ (λ k. option_eq nat_eq (option_map (slice_index b) (is_i k)) (option_map (slice_index b)
      (is_j k)))) ∙ e)

  -- from the system to the coalgebra
  module _ (labels : b ≡ root_labels roots s) (stable : IsStableSorting t system s) where
    label_is : (i : ℕ) → i < length roots → slice_index b i ≡ class_of (slice_index roots i)
    label_is i h = ap (λ l. slice_index l i) labels ∙ get_or-map class_of roots i 0 0 h

    -- at a State node
    state_claim : (q : ℕ) (u w : Value) (c : ℕ) → node_at t q ≡ State → HasClass (q, u) c
        → HasClass (q, w) c → option_eq nat_eq (state (relabelled b u)) (state (relabelled b w))
        ≡ true
    state_claim q u w c e (x, lead, cx) (y, lead', cy) =
        let to : (v : Value) (z : ℕ) → LeadsBy system roots (node_at t q) (q, v) z
        → LeadsBy system roots State (q, v) z = λ v z l. subst (λ n. LeadsBy system roots n
        (q, v) z) e l in
        let (i, is_i, in_i, at_i) = to u x lead in
        let (j, is_j, in_j, at_j) = to w y lead' in
        states_equal u w i j is_i is_j (label_is i in_i ∙ ap class_of at_i ∙ cx ∙ sym cy
        ∙ sym (ap class_of at_j) ∙ sym (label_is j in_j))

    -- sorted states of one class have equal values, if this holds of their children
    layer : (q : ℕ) → q < length t → ((r : ℕ) → Contains (children_at t q) r
        → ClassesEqual HasClass b equal_at r)
        → (x y : ℕ) (o p : Occurrence) → slice_get system x ≡ Some o → slice_get system y ≡ Some p
        → o.node ≡ q → class_of x ≡ class_of y
        → are_equal t q (relabelled b o.value) (relabelled b p.value) ≡ true
    layer q inside below x y o p at_x at_y here same =
        let (one_node, agree) = stable.agrees x y o p at_x at_y same in
        let first : AllZip HasClass (places_of q o.value) (map class_of o.targets) =
        subst (λ r. AllZip HasClass (places_of r o.value) (map class_of o.targets)) here
        (children_classed x o at_x) in
        let second : AllZip HasClass (places_of q p.value) (map class_of p.targets) =
        subst (λ r. AllZip HasClass (places_of r p.value) (map class_of p.targets))
        (sym one_node ∙ here) (children_classed y p at_y) in
        let fit : fits t q o.value ≡ true = subst (λ r. fits t r o.value ≡ true) here
        (sorting.fit x o at_x) in
        let agrees : AgreeAt (node_at t q) o.value p.value (map class_of o.targets)
        (map class_of p.targets) = subst (λ r. AgreeAt (node_at t r) o.value p.value
        (map class_of o.targets) (map class_of p.targets)) here agree in
        eq-at q (relabelled b o.value) (relabelled b p.value) inside
        ∙ layer-equal HasClass b equal_at (λ r. eq-equivalence t r) (children_at t q) q o.value
        p.value (map class_of o.targets) (map class_of p.targets) below (node_at t q)
        (has_one t is_term q) (fits t) (sym (fits-at q o.value inside) ∙ fit)
        (λ e c r r'. state_claim q o.value p.value c e r r') first second agrees

    stand : (q : ℕ) → q < length t → ((r : ℕ) → Contains (children_at t q) r
        → ClassesEqual HasClass b equal_at r)
        → (x y : ℕ) (u w : Value) → StandsFor system x q u → StandsFor system y q w
        → class_of x ≡ class_of y → are_equal t q (relabelled b u) (relabelled b w) ≡ true
    stand q inside below x y u w (o, at_x, node_o, value_o) (p, at_y, node_p, value_p) same =
        (λ k. are_equal t q (relabelled b (sym value_o k)) (relabelled b (sym value_p k)))
        ∙ layer q inside below x y o p at_x at_y node_o same

    claim : (n q : ℕ) → length t ≤ n + q → q < length t → ClassesEqual HasClass b equal_at q
    claim zero q deep inside u w c r r' = absurd (omega arith)
    claim (suc n) q deep inside u w c r r' = by (λ k child. let (later, last) = term-later t is_term
        q k child in claim n k (omega arith) last) (node_at t q) refl
      where
        by : ((k : ℕ) → Contains (children_at t q) k → ClassesEqual HasClass b equal_at k)
            → (m : Node) → node_at t q ≡ m → are_equal t q (relabelled b u) (relabelled b w) ≡ true
        by below State e = eq-at q (relabelled b u) (relabelled b w) inside
            ∙ ap (λ m. eq_step m (map (are_equal t) (children_at t q)) (relabelled b u)
            (relabelled b w)) e ∙ state_claim q u w c e r r'
        by below m e = stands (subst (λ n. LeadsBy system roots n (q, u) r.0) e r.1)
            (subst (λ n. LeadsBy system roots n (q, w) r'.0) e r'.1)
          where
            stands : StandsFor system r.0 q u → StandsFor system r'.0 q w
                → are_equal t q (relabelled b u) (relabelled b w) ≡ true
            stands one two = stand q inside below r.0 r'.0 u w one two (r.2 ∙ sym r'.2)

    -- a stable labelling of the sorted states is stable at the states
    pub to_coalgebra : IsStable t values b
    to_coalgebra = record {
      covers = ap length labels ∙ length-map roots class_of ∙ sorting.one_root;
      equal = λ i j u v at_i at_j same.
          let in_i : i < length roots = subst (λ n. i < n) (sym sorting.one_root)
          (slice_get_within values i u at_i) in
          let in_j : j < length roots = subst (λ n. j < n) (sym sorting.one_root)
          (slice_get_within values j v at_j) in
          stand 0 (some_node t is_term) (λ k child. let (later, last) = term-later t is_term 0 k
          child in claim (length t) k (omega arith) last)
          (slice_index roots i) (slice_index roots j) u v (sorting.rooted i u at_i)
          (sorting.rooted j v at_j) (sym (label_is i in_i) ∙ same ∙ label_is j in_j);
    }

  -- from the coalgebra to the system
  module _ (stable : IsStable t values b) (joined : IsJoined t b system s) where
    root_at : (i : ℕ) → i < length roots → (v : Value) × (slice_get values i ≡ Some v)
    root_at i h = element values i (subst (λ n. i < n) sorting.one_root h)

    stand_together : (q x y : ℕ) (u w : Value) → StandsFor system x q u → StandsFor system y q w
        → are_equal t q (relabelled b u) (relabelled b w) ≡ true → class_of x ≡ class_of y
    stand_together q x y u w (o, at_x, node_o, value_o) (p, at_y, node_p, value_p) e =
        (joined.joins x y o p at_x at_y).1 (
          node_o
              ∙ sym node_p,
          (λ k. are_equal t (node_o k) (relabelled b (value_o k))
              (relabelled b (value_p k))) ∙ e,
        )

    states_meet : (q : ℕ) (u w : Value) (c d : ℕ) → node_at t q ≡ State → HasClass (q, u) c
        → HasClass (q, w) d → option_eq nat_eq (state (relabelled b u)) (state (relabelled b w))
        ≡ true → c ≡ d
    states_meet q u w c d e (x, lead, cx) (y, lead', cy) same =
        let to : (v : Value) (z : ℕ) → LeadsBy system roots (node_at t q) (q, v) z
        → LeadsBy system roots State (q, v) z = λ v z l. subst (λ n. LeadsBy system roots n
        (q, v) z) e l in
        let (i, is_i, in_i, at_i) = to u x lead in
        let (j, is_j, in_j, at_j) = to w y lead' in
        let (ci, value_i) = root_at i in_i in
        let (cj, value_j) = root_at j in_j in
        let equal = stable.equal i j ci cj value_i value_j (states_same u w i j is_i is_j same) in
        let together = stand_together 0 (slice_index roots i) (slice_index roots j) ci cj
        (sorting.rooted i ci value_i) (sorting.rooted j cj value_j) equal in
        sym cx ∙ sym (ap class_of at_i) ∙ together ∙ ap class_of at_j ∙ cy

    meets : (q : ℕ) → q < length t → EqualsMeet HasClass b equal_at q
    meets q inside u w c d r r' same = by (node_at t q) refl
      where
        by : (m : Node) → node_at t q ≡ m → c ≡ d
        by State e = states_meet q u w c d e r r'
            (sym (eq-at q (relabelled b u) (relabelled b w) inside
            ∙ ap (λ m. eq_step m (map (are_equal t) (children_at t q)) (relabelled b u)
            (relabelled b w)) e) ∙ same)
        by m e = stands (subst (λ n. LeadsBy system roots n (q, u) r.0) e r.1)
            (subst (λ n. LeadsBy system roots n (q, w) r'.0) e r'.1)
          where
            stands : StandsFor system r.0 q u → StandsFor system r'.0 q w → c ≡ d
            stands one two = sym r.2 ∙ stand_together q r.0 r'.0 u w one two same ∙ r'.2

    agrees : (x y : ℕ) (o p : Occurrence) → slice_get system x ≡ Some o
        → slice_get system y ≡ Some p → class_of x ≡ class_of y
        → (o.node ≡ p.node) × AgreeAt (node_at t o.node) o.value p.value (map class_of o.targets)
        (map class_of p.targets)
    agrees x y o p at_x at_y same =
        let (one_node, equal) = (joined.joins x y o p at_x at_y).0 same in
        let q : ℕ = o.node in
        let inside : q < length t = fits_inside t q o.value (sorting.fit x o at_x) in
        let second : AllZip HasClass (places_of q p.value) (map class_of p.targets) =
        subst (λ r. AllZip HasClass (places_of r p.value) (map class_of p.targets))
        (sym one_node) (children_classed y p at_y) in (
          one_node,
          layer-agree HasClass b equal_at (λ r. eq-equivalence t r) (children_at t q) q o.value
              p.value (map class_of o.targets) (map class_of p.targets)
              (λ r child. meets r (term-later t is_term q r child).1) (node_at t q)
              (has_one t is_term q) (fits t) (sym (fits-at q o.value inside)
              ∙ sorting.fit x o at_x)
              (λ e c d r r' same. states_meet q o.value p.value c d e r r' same)
              (children_classed x o at_x) second
              (sym (eq-at q (relabelled b o.value) (relabelled b p.value) inside) ∙ equal),
        )

    -- a stable list of the states is stable at the sorted states
    pub to_system : IsStableSorting t system s
    to_system = record { one_each = joined.one_each; agrees = agrees }

-- a list of numbers that joins what is equal: the first place of an equal one
module _ (t : Nodes) (b : List ℕ) (system : List Occurrence) where
  abbrev under : ℕ → Test
  under k u w = are_equal t k (relabelled b u) (relabelled b w)

  under-equivalence : (k : ℕ) → IsEquivalence (under k)
  under-equivalence k = on_equiv (relabelled b) (eq-equivalence t k)

  abbrev pub together : Occurrence → Occurrence → Bool
  together o p = (o.node == p.node) && under o.node o.value p.value

  pub together-equivalence : IsEquivalence together
  together-equivalence = record {
    refl = λ o. and_from (o.node == o.node) (under o.node o.value o.value)
        (nat_eq_equiv.refl o.node) ((under-equivalence o.node).refl o.value);
    symm = λ o p. chosen_symm under under-equivalence o.node p.node o.value p.value;
    congr = λ o p r e. chosen_congr under under-equivalence o.node p.node r.node o.value p.value
        r.value e;
  }

  -- the labels that make occurrences of equal values one
  abbrev pub joined_labels : List ℕ
  joined_labels = map (first_of together together-equivalence system) system

  label_at : (x : ℕ) (o : Occurrence) → slice_get system x ≡ Some o
      → slice_index joined_labels x ≡ first_of together together-equivalence system o
  label_at x o at = get_or_from_slice_get joined_labels x (first_of together together-equivalence
      system o) 0 (slice_get-map (first_of together together-equivalence system) system x
      ∙ ap (option_map (first_of together together-equivalence system)) at)

  -- the labels join exactly the occurrences that are equal
  pub joined_labels-join : IsJoined t b system joined_labels
  joined_labels-join = record {
    one_each = length-map system (first_of together together-equivalence system);
    joins = λ x y o p at_x at_y. (
      (λ same.
          let e = first_of-equal together together-equivalence system x y o p at_x at_y
          (sym (label_at x o at_x) ∙ same ∙ label_at y p at_y) in
          let both = and_parts (o.node == p.node) (under o.node o.value p.value) e in
          (eqb-true o.node p.node both.0, both.1)),
      (λ both.
          let e : together o p ≡ true = and_from (o.node == p.node) (under o.node o.value p.value)
          (eq-eqb o.node p.node both.0) both.1 in
          label_at x o at_x ∙ first_of-same together together-equivalence system o p e
          ∙ sym (label_at y p at_y)),
    );
  }
