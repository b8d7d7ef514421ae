-- What a sorted state shows has the form of its node.
--
-- value_form       == the value of a structure that fits has the form of its node
-- fits_inside      == what fits is at a node of the term
-- form_shown       == what a sorted state shows has the form of its node
-- layer_shown      == and is at a layer node
-- writable_shown   == and can be written
-- forms, all_fit, all_writable   == so it is with each modality
use Rattle.std.proofs.Common.{◌≡◌, ◌<◌, ◌≤◌, ◌==◌, ◌&&◌, ◌||◌, not, ◌+◌, ◌*◌, ◌^◌, ℕ, zero, suc, Bool, true, false, List, [], ◌∷◌, length, map, Option, Some, None, slice_get, refl, sym, ◌∙◌, ap, subst, inl, inr, true≢false, arith}
use Rattle.std.specs.Prelude.{slice_index, slice_index_or, All, nat_lt, nat_le, if◌then◌else◌}
use Rattle.std.specs.List.{list_all, list_any, zip}
use Rattle.std.specs.Option.{option_map_or}
use Rattle.std.proofs.lemmas.Bool.{and_parts, and_from, eq-eqb, eqb-true}
use Rattle.std.proofs.lemmas.Bool.Decides.{nat_tests}
use Rattle.std.proofs.lemmas.Option.{slice_get-get_or}
use Rattle.std.proofs.lemmas.Slice.Zip.{AllZip-long}
use Rattle.std.proofs.lemmas.List.{length-map}
use Rattle.modalities.specs.declared.three.Three.{Three}
use Rattle.sorted_systems.specs.Systems.{Sorted, IsState}
use Rattle.functor_terms.specs.declared.node.Branch.{Branch}
use Rattle.functor_terms.specs.declared.node.Node.{Node}
use Rattle.functor_terms.specs.declared.node.Node.TheVariants.{State, Constant, Naturals, Product, Sum, Power, Powerset, Bag, Distribution, Integers, Rationals}
use Rattle.functor_terms.specs.Terms.{Nodes, IsTerm, node_at, children_at, label_count, fold_within}
use Rattle.functor_terms.proofs.Folds.{fold-at}
use Rattle.functor_terms.proofs.FewChildren.{children-few}
use Rattle.functor_terms.proofs.TermLaws.{term-some}
use Rattle.typing.specs.declared.value.Value.{Value, Value-F, out-Value}
use Rattle.typing.specs.Values.{label_in, index_in, inner_in, parts_in, index, inner, parts}
use Rattle.typing.specs.Fits.{Check, no_check, check_at, each_fits, fits_level, fits_step, fits}
use Rattle.typing.specs.Layers.{Place, is_state, at_child, child_places, children_of}
use Rattle.typing.proofs.TermFacts.{child_exists}
use Rattle.layers.specs.Nest.{AnyShape, AnyLabel, any_node, any_value}
use Rattle.structures.specs.Structures.{Occurrence, LeadsBy, IsLayer, numbers_below}
use Rattle.desorting.specs.declared.system.System.{System}
use Rattle.desorting.specs.Shapes.{sorted_of}
use Rattle.desorting.specs.Desorted.{packed_system, IsDesorted}
use Rattle.desorting.specs.Laws.{ValuesAreOfLayers}
use Rattle.formulas.specs.declared.formula.Formula.{Formula}
use Rattle.formulas.specs.declared.formula.Formula.TheVariants.{True, Not, And, At}
use Rattle.formulas.specs.Ranges.{IsWritableValue, IsWritable}
use Rattle.formula_checker.specs.LayerValues.{bit_of, members_of, layer_value}
use Rattle.satisfaction.specs.Modalities.{has_form, is_layer, AllFit}
use Rattle.formula_builder.specs.SortedLayers.{IsShown, BlocksAreTold}
use Rattle.state_certificates.specs.Certificates.{HaveForms}
use Rattle.state_certificates.proofs.TermNodes.{node_known}
use Rattle.state_certificates.proofs.Writable.{value_writable}
use Rattle.state_certificates.proofs.Alike.{node, value, read, map_at, node_of_shape}
use Rattle.structures.proofs.Sound.{fits_inside}
use Rattle.structures.proofs.Leaves.{leaves_within-children}
use Rattle.typing.proofs.MapLaws.{mapped_at}

-- what fits one level

constant_fits : (labels : _) (fs : List Check) (x : Value-F Value) →
    fits_level (Constant labels) fs x ≡ true → nat_lt (label_in x) (label_count labels) ≡ true
constant_fits labels fs (Value-F.Label n) h = h
constant_fits labels fs (Value-F.State i) h = absurd (true≢false (sym h))
constant_fits labels fs (Value-F.Tuple vs) h = absurd (true≢false (sym h))
constant_fits labels fs (Value-F.Inj k v) h = absurd (true≢false (sym h))
constant_fits labels fs (Value-F.Set vs) h = absurd (true≢false (sym h))
constant_fits labels fs (Value-F.Weights es) h = absurd (true≢false (sym h))

naturals_fits : (fs : List Check) (x : Value-F Value) → fits_level Naturals fs x ≡ true →
    nat_le (label_in x) (2 ^ 40) ≡ true
naturals_fits fs (Value-F.Label n) h = h
naturals_fits fs (Value-F.State i) h = absurd (true≢false (sym h))
naturals_fits fs (Value-F.Tuple vs) h = absurd (true≢false (sym h))
naturals_fits fs (Value-F.Inj k v) h = absurd (true≢false (sym h))
naturals_fits fs (Value-F.Set vs) h = absurd (true≢false (sym h))
naturals_fits fs (Value-F.Weights es) h = absurd (true≢false (sym h))

product_fits : (fs : List Check) (x : Value-F Value) → fits_level Product fs x ≡ true →
    each_fits fs (parts_in x) ≡ true
product_fits fs (Value-F.Tuple vs) h = h
product_fits fs (Value-F.State i) h = absurd (true≢false (sym h))
product_fits fs (Value-F.Label n) h = absurd (true≢false (sym h))
product_fits fs (Value-F.Inj k v) h = absurd (true≢false (sym h))
product_fits fs (Value-F.Set vs) h = absurd (true≢false (sym h))
product_fits fs (Value-F.Weights es) h = absurd (true≢false (sym h))

power_fits : (labels : _) (fs : List Check) (x : Value-F Value) → fits_level (Power labels) fs x
    ≡ true →
    ((length (parts_in x) == label_count labels) && list_all (check_at fs 0) (parts_in x)) ≡ true
power_fits labels fs (Value-F.Tuple vs) h = h
power_fits labels fs (Value-F.State i) h = absurd (true≢false (sym h))
power_fits labels fs (Value-F.Label n) h = absurd (true≢false (sym h))
power_fits labels fs (Value-F.Inj k v) h = absurd (true≢false (sym h))
power_fits labels fs (Value-F.Set vs) h = absurd (true≢false (sym h))
power_fits labels fs (Value-F.Weights es) h = absurd (true≢false (sym h))

sum_fits : (other : Value) (fs : List Check) (x : Value-F Value) → fits_level Sum fs x ≡ true →
    check_at fs (index_in x) (inner_in other x) ≡ true
sum_fits other fs (Value-F.Inj k v) h = h
sum_fits other fs (Value-F.State i) h = absurd (true≢false (sym h))
sum_fits other fs (Value-F.Label n) h = absurd (true≢false (sym h))
sum_fits other fs (Value-F.Tuple vs) h = absurd (true≢false (sym h))
sum_fits other fs (Value-F.Set vs) h = absurd (true≢false (sym h))
sum_fits other fs (Value-F.Weights es) h = absurd (true≢false (sym h))

-- as many parts as places
zip_fits : (t : Nodes) (qs : List ℕ) (vs : List Value) → each_fits (map (fits t) qs) vs ≡ true →
    length (zip qs vs) ≡ length qs
zip_fits t [] vs h = refl
zip_fits t (q ∷ qs) [] h = absurd (true≢false (sym h))
zip_fits t (q ∷ qs) (v ∷ vs) h =
    ap suc (zip_fits t qs vs (and_parts (fits t q v) (each_fits (map (fits t) qs) vs) h).1)

child_length : (t : Nodes) (qs : List ℕ) (vs : List Value) →
    list_all (check_at (map (fits t) qs) 0) vs ≡ true → length (at_child qs 0 vs) ≡ length vs
child_length t [] [] h = refl
child_length t [] (v ∷ vs) h = absurd (true≢false (sym h))
child_length t (q ∷ qs) vs h = length-map vs (λ u. (q, u))

trits_test : (g : List ℕ) → All (λ t. t ≤ 2) g → list_all (λ t. nat_le t 2) g ≡ true
trits_test [] few = refl
trits_test (t ∷ g) few =
    and_from (nat_le t 2) (list_all (λ t. nat_le t 2) g)
    (let h : t ≤ 2 = few 0 t (omega arith) in grind (arith, nat_tests))
    (trits_test g (λ k d h. few (suc k) d (omega arith)))

first_test : (g : List ℕ) → All (λ t. t ≤ 2) g → nat_le (slice_index g 0) 2 ≡ true
first_test [] few = refl
first_test (t ∷ g) few = let h : t ≤ 2 = few 0 t (omega arith) in grind (arith, nat_tests)

bit_small : (b : Bool) → (if b then 1 else 0) ≤ 1
bit_small true = omega arith
bit_small false = omega arith

members_test : (g : List ℕ) → nat_lt (members_of g) 8 ≡ true
members_test g = below (bit_of g 0) (bit_of g 1) (bit_of g 2) (bit_small (list_any (λ x. x == 0) g))
    (bit_small (list_any (λ x. x == 1) g)) (bit_small (list_any (λ x. x == 2) g))
  where
    below : (a b c : ℕ) → a ≤ 1 → b ≤ 1 → c ≤ 1 → nat_lt (a + 2 * b + 4 * c) 8 ≡ true
    below a b c ha hb hc = let h : a + 2 * b + 4 * c < 8 = omega arith in grind (arith, nat_tests)

-- the value of a structure that fits has the form of its node
pub value_form :
    (t : Nodes) (d : ℕ) (m : Node) (qs : List ℕ) (p : ℕ) (v : Value) (g : List ℕ) →
    fits_step m (map (fits t) qs) v ≡ true → length g ≡ length (child_places m qs p v) →
    All (λ x. x ≤ 2) g → has_form m (length qs) (layer_value d m v g) ≡ true
value_form t d State qs p v g h size few = first_test g few
value_form t d (Constant labels) qs p v g h size few =
    constant_fits labels (map (fits t) qs) (out-Value v) h
value_form t d Naturals qs p v g h size few = naturals_fits (map (fits t) qs) (out-Value v) h
value_form t d Product qs p v g h size few =
    and_from (length g == length qs) (list_all (λ x. nat_le x 2) g)
    (eq-eqb (length g) (length qs)
    (size ∙ zip_fits t qs (parts v) (product_fits (map (fits t) qs) (out-Value v) h)))
    (trits_test g few)
value_form t d Sum qs p v g h size few =
    and_from (nat_lt (index v) (length qs)) (nat_le (slice_index g 0) 2)
    (let k : index v < length qs =
    child_exists t qs (index v) (inner v) (sum_fits v (map (fits t) qs) (out-Value v) h) in
    grind (arith, nat_tests))
    (first_test g few)
value_form t d (Power labels) qs p v g h size few =
    let both =
    and_parts (length (parts v) == label_count labels) (list_all (check_at (map (fits t) qs) 0)
    (parts v)) (power_fits labels (map (fits t) qs) (out-Value v) h) in
    and_from (length g == label_count labels) (list_all (λ x. nat_le x 2) g)
    (eq-eqb (length g) (label_count labels) (size ∙ child_length t qs (parts v) both.1
    ∙ eqb-true (length (parts v)) (label_count labels) both.0)) (trits_test g few)
value_form t d Powerset qs p v g h size few = members_test g
value_form t d Bag qs p v g h size few = refl
value_form t d Distribution qs p v g h size few = refl
value_form t d Integers qs p v g h size few = refl
value_form t d Rationals qs p v g h size few = refl

-- nothing fits past the term
none_within :
    (t : Nodes) (p : ℕ) (v : Value) → slice_get t p ≡ None → (n : ℕ) →
    fold_within no_check fits_step t n p v ≡ false
none_within t p v e zero = refl
none_within t p v e (suc n) =
    ap (λ (o : Option Branch). option_map_or
    (λ b. fits_step b.node (map (fold_within no_check fits_step t n) b.children)) o no_check v) e

-- node 0, and each node that is no State node, passes the test for layer nodes
layer_test : (t : Nodes) (p : ℕ) → IsLayer t p → is_layer t p ≡ true
layer_test t p h = elim h [
  | inl root ↦ ap (λ b. b || not (is_state (node_at t p))) (eq-eqb p 0 root)
  | inr other ↦ ap (λ b. (p == 0) || not b) other ∙ or_true (p == 0)
]
  where
    or_true : (b : Bool) → (b || true) ≡ true
    or_true true = refl
    or_true false = refl

module _
    (t : Nodes) (term : IsTerm t) (d : ℕ) (values : List Value) (s : System)
    (desorted : IsDesorted t values d s) (values_of : ValuesAreOfLayers) where
  -- the occurrence that a sorted state is of
  occurrence_of :
      (x : ℕ) (a : Sorted ℕ ℕ) → IsState (packed_system s) x a →
      (o : Occurrence) × (slice_get desorted.occurrences x ≡ Some o)
      × (sorted_of t o ≡ read t d values s desorted values_of a)
  occurrence_of x a is =
      mapped_at (sorted_of t) desorted.occurrences x (read t d values s desorted values_of a)
      (sym (ap (λ (l : List (Sorted AnyShape AnyLabel)). slice_get l x) desorted.system)
      ∙ map_at (read t d values s desorted values_of) (packed_system s) x a is)

  -- the structure at node q that has the value v, and the trits of its children
  pub record IsSeen (q : ℕ) (v : Three) : Type 0 where
    pub place : ℕ
    pub structure : Occurrence
    pub at : slice_get desorted.occurrences place ≡ Some structure
    pub node_is : structure.node ≡ q
    pub trits : List ℕ
    pub small : All (λ x. x ≤ 2) trits
    pub one_each : length trits ≡ length (children_of t (structure.node, structure.value))
    pub value_is : layer_value d (node_at t structure.node) structure.value trits ≡ v

  -- what a sorted state shows is seen at its structure
  seen :
      (q : ℕ) (v : Three) →
      IsShown (node t d values s desorted values_of) (value t d values s desorted values_of)
      (packed_system s) q v → IsSeen q v
  seen q v shown =
      let (o, at, same) = occurrence_of shown.place shown.state shown.is_state in
      let edges : length (children_of t (o.node, o.value)) ≡ length o.targets =
      sym (ap (λ (ps : List Place). length ps)
      (leaves_within-children t (length t) (o.node, o.value)))
      ∙ sym (AllZip-long (λ (place : Place) (y : ℕ).
      LeadsBy desorted.occurrences (numbers_below (length values)) (node_at t place.0) place y)
      _ o.targets (desorted.sorting.linked shown.place o at)) in
      record {
        place = shown.place;
        structure = o;
        at = at;
        node_is =
            sym (node_of_shape (node_at t o.node) o.node o.value (length o.targets))
            ∙ ap (λ (b : Sorted AnyShape AnyLabel). any_node b.shape) same ∙ shown.node_is;
        trits = shown.trits;
        small = shown.small;
        one_each =
            shown.one_each ∙ sym (ap (λ (b : Sorted AnyShape AnyLabel). length b.targets) same)
            ∙ sym edges;
        value_is =
            sym (values_of d o.node (length o.targets) t o.value shown.trits)
            ∙ sym (ap (λ n. any_value n (sorted_of t o).shape (sorted_of t o).labels shown.trits)
            desorted.denominator)
            ∙ ap (λ (b : Sorted AnyShape AnyLabel).
            any_value s.iface.denominator b.shape b.labels shown.trits) same
            ∙ shown.value_is;
      }

  -- a structure is at a node of the term
  inside : (q : ℕ) (v : Three) (is : IsSeen q v) → is.structure.node < length t
  inside q v is =
      fits_inside t is.structure.node is.structure.value
      (desorted.sorting.fit is.place is.structure is.at)

  -- its value has the form of the node
  form :
      (q : ℕ) (v : Three) (is : IsSeen q v) →
      has_form (node_at t is.structure.node) (length (children_at t is.structure.node))
      (layer_value d (node_at t is.structure.node) is.structure.value is.trits) ≡ true
  form q v is =
      let o = is.structure in
      let level : fits_step (node_at t o.node) (map (fits t) (children_at t o.node)) o.value
      ≡ true =
      sym (ap (λ (f : Check). f o.value) (fold-at no_check fits_step t term o.node (inside q v is)))
      ∙ desorted.sorting.fit is.place o is.at in
      value_form t d (node_at t o.node) (children_at t o.node) o.node o.value is.trits level
      is.one_each is.small

  -- what a sorted state shows has the form of its node
  pub form_shown :
      (q : ℕ) (v : Three) →
      IsShown (node t d values s desorted values_of) (value t d values s desorted values_of)
      (packed_system s) q v →
      (q < length t) × (has_form (node_at t q) (length (children_at t q)) v ≡ true)
  form_shown q v shown =
      let is = seen q v shown in
      let here : has_form (node_at t is.structure.node)
      (length (children_at t is.structure.node)) v ≡ true =
      subst (λ w. has_form (node_at t is.structure.node)
      (length (children_at t is.structure.node)) w ≡ true) is.value_is (form q v is) in
      subst (λ p. (p < length t) × (has_form (node_at t p) (length (children_at t p)) v ≡ true))
      is.node_is (inside q v is, here)

  -- and is at a layer node
  pub layer_shown :
      (q : ℕ) (v : Three) →
      IsShown (node t d values s desorted values_of) (value t d values s desorted values_of)
      (packed_system s) q v → is_layer t q ≡ true
  layer_shown q v shown =
      let is = seen q v shown in
      subst (λ p. is_layer t p ≡ true) is.node_is
      (layer_test t is.structure.node (desorted.sorting.at_layers is.place is.structure is.at))

  -- and can be written
  pub writable_shown :
      1 ≤ d → d ≤ 2 ^ 40 → (q : ℕ) (v : Three) →
      IsShown (node t d values s desorted values_of) (value t d values s desorted values_of)
      (packed_system s) q v → (q < 256) × IsWritableValue v
  writable_shown some few q v shown =
      let is = seen q v shown in
      let o = is.structure in (
        omega (arith, is.node_is, inside q v is, (term-some t term).1),
        subst IsWritableValue is.value_is
            (value_writable d some few (node_at t o.node) (length (children_at t o.node))
            (node_known t term o.node) (children-few t term o.node) o.value
            (desorted.sorting.within is.place o is.at) is.trits is.small (form q v is)),
      )

  module _
      (dag : List Formula) (formulas block_of : List ℕ)
      (told : BlocksAreTold (node t d values s desorted values_of)
      (value t d values s desorted values_of) (packed_system s) dag formulas block_of) where
    -- each modality has the form of its node
    pub forms : HaveForms t dag
    forms k q v splitter coarse e = form_shown q v (told.shown k q v splitter coarse e)

    -- and fits
    pub all_fit : AllFit t dag
    all_fit k True e = refl
    all_fit k (Not i) e = refl
    all_fit k (And i j) e = refl
    all_fit k (At q v splitter coarse) e =
        let shown = told.shown k q v splitter coarse e in
        let (below, has) = form_shown q v shown in
        let within : nat_lt q (length t) ≡ true = grind (arith, nat_tests) in
        and_from (nat_lt q (length t) && is_layer t q)
        (has_form (node_at t q) (length (children_at t q)) v)
        (and_from (nat_lt q (length t)) (is_layer t q) within (layer_shown q v shown)) has

    -- and can be written
    pub all_writable : 1 ≤ d → d ≤ 2 ^ 40 → All IsWritable dag
    all_writable some few k other h =
        by (slice_index_or dag k other) (slice_get-get_or dag k other h)
      where
        by : (f : Formula) → slice_get dag k ≡ Some f → IsWritable f
        by True e = tt
        by (Not i) e = tt
        by (And i j) e = tt
        by (At q v splitter coarse) e =
            writable_shown some few q v (told.shown k q v splitter coarse e)
