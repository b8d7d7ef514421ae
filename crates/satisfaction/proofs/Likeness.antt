-- Structures that are equal once their states are relabelled by a stable list are alike: they have
-- one node, and one value wherever alike children have one trit.
--
-- IsLike           == two structures at one node that are equal there under the list
-- root_like        == root structures of states of one class are alike
-- child_like       == children that are equal are alike, also where they are states
-- .._trits         == the trits of children at each kind of node
-- value_like       == alike structures have one value, node by node
-- likeness         == so likeness is as truth asks
-- one_truth        == each formula has one truth at equivalent states
use Rattle.std.proofs.Common.{◌≡◌, ℕ, suc, ◌<◌, ◌==◌, Bool, true, false, ◌&&◌, ◌||◌, List, [], ◌∷◌, length, map, Contains, Option, Some, None, slice_get, refl, sym, ap, ◌∙◌, subst, inl, inr, true≢false, arith}
use Rattle.std.specs.Prelude.{ℤ, ◌+◌, ◌*◌, if◌then◌else◌, slice_index, nat_eq}
use Rattle.std.specs.List.{list_all, list_any, zip}
use Rattle.std.specs.Option.{option_map, option_eq, option_map_or}
use Rattle.std.specs.Cmp.{IsEquivalence}
use Rattle.std.specs.Cmp.Lexicographic.{pointwise}
use Rattle.std.proofs.lemmas.Bool.{and_parts, eqb-true}
use Rattle.std.proofs.lemmas.Cmp.{on_equiv}
use Rattle.weights.specs.Fractions.{lowest_terms}
use Rattle.modalities.specs.declared.three.Three.TheVariants as value
use Rattle.modalities.specs.Values.{triple}
use Rattle.modalities.specs.declared.three.Three.{Three}
use Rattle.functor_terms.specs.declared.node.Node.{Node}
use Rattle.functor_terms.specs.declared.node.Node.TheVariants.{State, Constant, Naturals, Product, Sum, Power, Powerset, Bag, Distribution, Integers, Rationals}
use Rattle.functor_terms.specs.Terms.{Nodes, IsTerm, node_at, children_at}
use Rattle.functor_terms.proofs.Folds.{fold-at}
use Rattle.functor_terms.proofs.TermLaws.{term-later, term-some}
use Rattle.typing.specs.declared.value.Value.{Value}
use Rattle.typing.specs.Values.{state, label, index, inner, parts, entries, relabelled, states_below}
use Rattle.typing.specs.Equality.{Test, no_test, test_at, each_place, has, same_members, the_sum, weight_of, same_weights, eq_step, are_equal}
use Rattle.typing.specs.Stable.{IsStable, AreEquivalent}
use Rattle.typing.proofs.EqualityLaws.{eq-equivalence}
use Rattle.typing.proofs.MapLaws.{parts_map, index_map, inner_map, entries_map, label_map, state_map, parts_below, inner_below, entries_below, state_within}
use Rattle.typing.proofs.StableLaws.{each_of, element}
use Rattle.typing.proofs.Tests.{same_weights-Decides, bools_agree}
use Rattle.formulas.specs.declared.formula.Formula.{Formula}
use Rattle.formulas.specs.Formulas.{IsDag}
use Rattle.formulas.specs.Truth.{Layers, holds, IsLikeness}
use Rattle.formulas.proofs.TruthLaws.{holds-like}
use Rattle.typing.specs.Layers.{Place, at_child, child_places, is_state, is_state_at, root_at, kids}
use Rattle.formula_checker.specs.LayerValues.{joint_with, layer_value}
use Rattle.satisfaction.specs.Satisfaction.{layers_of, holds_in}
use Rattle.satisfaction.proofs.Layer.{child_cases, through_child, joint_none, trits_pointwise, occurs, joint_same}
use Rattle.typing.proofs.Coarser.{weight_of-moved}

-- a test of relabelled values, place by place
pointwise_map :
    (e : Test) (r : Value → Value) (us vs : List Value) →
    pointwise e (map r us) (map r vs) ≡ pointwise (λ x y. e (r x) (r y)) us vs
pointwise_map e r [] [] = refl
pointwise_map e r [] (v ∷ vs) = refl
pointwise_map e r (u ∷ us) [] = refl
pointwise_map e r (u ∷ us) (v ∷ vs) = ap (λ o. e (r u) (r v) && o) (pointwise_map e r us vs)

-- some relabelled value is equal to a relabelled one
has_map :
    (e : Test) (r : Value → Value) (us : List Value) (a : Value) →
    has e (map r us) (r a) ≡ has (λ x y. e (r x) (r y)) us a
has_map e r [] a = refl
has_map e r (u ∷ us) a = ap (λ o. e (r u) (r a) || o) (has_map e r us a)

-- each relabelled value is equal to one of others
covered_map :
    (e : Test) (r : Value → Value) (us vs : List Value) →
    list_all (has e (map r vs)) (map r us) ≡ list_all (has (λ x y. e (r x) (r y)) vs) us
covered_map e r [] vs = refl
covered_map e r (u ∷ us) vs = λ i. has_map e r vs u i && covered_map e r us vs i

-- the entries with their values relabelled
abbrev moved : List ℕ → List (Value × ℤ) → List (Value × ℤ)
moved b es = map (λ w. (relabelled b w.0, w.1)) es

module _
    (t : Nodes) (term : IsTerm t) (d : ℕ) (values : List Value)
    (in_range : list_all (states_below (length values)) values ≡ true)
    (b : List ℕ) (stable : IsStable t values b) where
  -- a child: at a State node the root structure of the state there
  abbrev thr : Place → Place
  thr x = if is_state_at t x then root_at values x else x

  -- the value speaks of states of the list alone
  abbrev D : Value → Bool
  D = states_below (length values)

  -- the value under the list
  abbrev r : Value → Value
  r = relabelled b

  -- the values are equal at a node under the list
  abbrev E : ℕ → Test
  E q x y = are_equal t q (relabelled b x) (relabelled b y)

  -- that is an equivalence
  E_is : (q : ℕ) → IsEquivalence (E q)
  E_is q = on_equiv (relabelled b) (eq-equivalence t q)

  -- two structures at one node that are equal there under the list
  pub record IsLike (x y : Place) : Type 0 where
    pub one_place : x.0 ≡ y.0
    pub inside : x.0 < length t
    pub left : states_below (length values) x.1 ≡ true
    pub right : states_below (length values) y.1 ≡ true
    pub equal : are_equal t x.0 (relabelled b x.1) (relabelled b y.1) ≡ true

  -- the root structures of two states of one class
  pub root_like :
      (i j : ℕ) (u v : Value) → slice_get values i ≡ Some u → slice_get values j ≡ Some v →
      slice_index b i ≡ slice_index b j → IsLike (0, u) (0, v)
  root_like i j u v at at' same = record {
    one_place = refl;
    inside = (term-some t term).0;
    left = each_of D values in_range i u at;
    right = each_of D values in_range j v at';
    equal = stable.equal i j u v at at' same;
  }

  -- the place that a state stands for, if there is one
  abbrev root_place : Place → Option ℕ → Place
  root_place x o = option_map_or (λ i. option_map_or (λ v. (0, v)) (slice_get values i) x) o x

  -- a state's root structure
  root_is :
      (x : Place) (i : ℕ) (v : Value) → slice_get values i ≡ Some v →
      root_place x (Some i) ≡ (0, v)
  root_is x i v at = ap (λ o. option_map_or (λ w. (0, w)) o x) at

  -- a child at a node of this kind
  abbrev at_kind : Node → Place → Place
  at_kind m x = if is_state m then root_at values x else x

  -- children that are equal are alike, also where they are states
  child_like :
      (q : ℕ) → q < length t → (u v : Value) → D u ≡ true → D v ≡ true → E q u v ≡ true →
      IsLike (thr (q, u)) (thr (q, v))
  child_like q inside u v du dv h = by (node_at t q) refl
    where
      like : IsLike (q, u) (q, v)
      like = record { one_place = refl; inside = inside; left = du; right = dv; equal = h }

      states :
          (x y : Option ℕ) → state u ≡ x → state v ≡ y →
          option_eq nat_eq (option_map (slice_index b) x) (option_map (slice_index b) y) ≡ true →
          IsLike (root_place (q, u) x) (root_place (q, v) y)
      states None None eu ev e = like
      states None (Some j) eu ev e = absurd (true≢false (sym e))
      states (Some i) None eu ev e = absurd (true≢false (sym e))
      states (Some i) (Some j) eu ev e =
          let (w, at) = element values i (state_within (length values) u du i eu) in
          let (w', at') = element values j (state_within (length values) v dv j ev) in
          subst (λ x. IsLike x (root_place (q, v) (Some j))) (sym (root_is (q, u) i w at))
          (subst (λ y. IsLike (0, w) y) (sym (root_is (q, v) j w' at'))
          (root_like i j w w' at at' (eqb-true (slice_index b i) (slice_index b j) e)))

      by : (m : Node) → node_at t q ≡ m → IsLike (at_kind m (q, u)) (at_kind m (q, v))
      by State e =
          states (state u) (state v) refl refl
          (sym (λ i. option_eq nat_eq (state_map b u i) (state_map b v i))
          ∙ sym (ap (λ F. F (r u) (r v)) (fold-at no_test eq_step t term q inside)
          ∙ ap (λ m. eq_step m (map (are_equal t) (children_at t q)) (r u) (r v)) e) ∙ h)
      by m e = like

  -- trits f on the left and g on the right, one where structures are alike
  module _ (f g : Place → ℕ) (same : (x y : Place) → IsLike x y → f x ≡ g y) where
    -- equal values at a node have one trit, f on the left and g on the right
    same_at :
        (q : ℕ) → q < length t → (x y : Value) → D x ≡ true → D y ≡ true → E q x y ≡ true →
        f (thr (q, x)) ≡ g (thr (q, y))
    same_at q inside x y dx dy h = same (thr (q, x)) (thr (q, y)) (child_like q inside x y dx dy h)

    -- and g on the left and f on the right
    back_at :
        (q : ℕ) → q < length t → (x y : Value) → D x ≡ true → D y ≡ true → E q x y ≡ true →
        g (thr (q, x)) ≡ f (thr (q, y))
    back_at q inside x y dx dy h = sym (same_at q inside y x dy dx (sym ((E_is q).symm x y) ∙ h))

    -- the trits of children, on the left and on the right
    abbrev lefts : List Place → List ℕ
    lefts xs = map f (map thr xs)

    abbrev rights : List Place → List ℕ
    rights xs = map g (map thr xs)

    -- values at the places of a product
    product_trits :
        (qs : List ℕ) → ((q : ℕ) → Contains qs q → q < length t) → (us vs : List Value) →
        list_all D us ≡ true → list_all D vs ≡ true →
        each_place (map (are_equal t) qs) (map r us) (map r vs) ≡ true →
        lefts (zip qs us) ≡ rights (zip qs vs)
    product_trits [] below us vs hu hv h = refl
    product_trits (q ∷ qs) below [] [] hu hv h = refl
    product_trits (q ∷ qs) below [] (v ∷ vs) hu hv h = absurd (true≢false (sym h))
    product_trits (q ∷ qs) below (u ∷ us) [] hu hv h = absurd (true≢false (sym h))
    product_trits (q ∷ qs) below (u ∷ us) (v ∷ vs) hu hv h =
        let pu = and_parts (D u) (list_all D us) hu in
        let pv = and_parts (D v) (list_all D vs) hv in
        let p = and_parts (E q u v) (each_place (map (are_equal t) qs) (map r us) (map r vs)) h in
        let later : (k : ℕ) → Contains qs k → k < length t =
        λ k c. below k (suc c.0, omega (arith, c.1), c.2) in
        λ i. same_at q (below q (0, omega arith, refl)) u v pu.0 pv.0 p.0 i
        ∷ product_trits qs later us vs pu.1 pv.1 p.1 i

    -- trits at one child node
    abbrev left_at : ℕ → Value → ℕ
    left_at q x = f (thr (q, x))

    abbrev right_at : ℕ → Value → ℕ
    right_at q y = g (thr (q, y))

    module _ (qs : List ℕ) (below : (q : ℕ) → Contains qs q → q < length t) where
      -- the tests at the k-th child
      abbrev at : ℕ → Test
      at k = test_at (map (are_equal t) qs) k

      -- one value at the k-th child
      one_trit :
          (k : ℕ) (u v : Value) → D u ≡ true → D v ≡ true → at k (r u) (r v) ≡ true →
          lefts (at_child qs k (u ∷ [])) ≡ rights (at_child qs k (v ∷ []))
      one_trit k u v du dv h = elim (child_cases (are_equal t) qs k) [
        | inl found ↦ (
            let (q, c, test, places) = found in
            let equal : E q u v ≡ true = sym (ap (λ F. F (r u) (r v)) test) ∙ h in
            ap lefts (places (u ∷ []))
            ∙ ap (λ n. n ∷ []) (same_at q (below q c) u v du dv equal)
            ∙ sym (ap rights (places (v ∷ []))))
        | inr none ↦ ap lefts (none (u ∷ [])) ∙ sym (ap rights (none (v ∷ [])))
      ]

      -- values place by place
      power_trits :
          (us vs : List Value) → list_all D us ≡ true → list_all D vs ≡ true →
          pointwise (at 0) (map r us) (map r vs) ≡ true →
          lefts (at_child qs 0 us) ≡ rights (at_child qs 0 vs)
      power_trits us vs hu hv h = elim (child_cases (are_equal t) qs 0) [
        | inl found ↦ (
            let (q, c, test, places) = found in
            let equal : pointwise (E q) us vs ≡ true =
            sym (pointwise_map (are_equal t q) r us vs)
            ∙ sym (ap (λ F. pointwise F (map r us) (map r vs)) test) ∙ h in
            ap lefts (places us)
            ∙ through_child f thr q us
            ∙ trits_pointwise (E q) (E_is q) D (left_at q) (right_at q) (same_at q (below q c))
            us vs hu hv equal
            ∙ sym (through_child g thr q vs)
            ∙ sym (ap rights (places vs)))
        | inr none ↦ ap lefts (none us) ∙ sym (ap rights (none vs))
      ]

      -- members that have their like on the other side
      covered_at :
          (q : ℕ) → at 0 ≡ are_equal t q → (us vs : List Value) →
          list_all (has (at 0) (map r vs)) (map r us) ≡ true → list_all (has (E q) vs) us ≡ true
      covered_at q test us vs h =
          sym (covered_map (are_equal t q) r us vs)
          ∙ sym (ap (λ F. list_all (has F (map r vs)) (map r us)) test)
          ∙ h

      -- the same trits occur
      set_trits :
          (us vs : List Value) → list_all D us ≡ true → list_all D vs ≡ true →
          same_members (at 0) (map r us) (map r vs) ≡ true → (k : ℕ) →
          list_any (λ x. x == k) (lefts (at_child qs 0 us))
          ≡ list_any (λ x. x == k) (rights (at_child qs 0 vs))
      set_trits us vs hu hv h k = elim (child_cases (are_equal t) qs 0) [
        | inl found ↦ (
            let (q, c, test, places) = found in
            let p =
            and_parts (list_all (has (at 0) (map r vs)) (map r us))
            (list_all (has (at 0) (map r us)) (map r vs)) h in
            ap (list_any (λ x. x == k)) (ap lefts (places us) ∙ through_child f thr q us)
            ∙ bools_agree (list_any (λ x. x == k) (map (left_at q) us))
            (list_any (λ x. x == k) (map (right_at q) vs))
            (occurs (E q) (E_is q) D (left_at q) (right_at q) (same_at q (below q c))
            us vs hu hv (covered_at q test us vs p.0) k)
            (occurs (E q) (E_is q) D (right_at q) (left_at q) (back_at q (below q c))
            vs us hv hu (covered_at q test vs us p.1) k)
            ∙ sym (ap (list_any (λ x. x == k)) (ap rights (places vs) ∙ through_child g thr q vs)))
        | inr none ↦
            ap (list_any (λ x. x == k)) (ap lefts (none us))
            ∙ sym (ap (list_any (λ x. x == k)) (ap rights (none vs)))
      ]

      -- entries with the same totals of relabelled values have them before
      totals_at :
          (q : ℕ) → at 0 ≡ are_equal t q → (es fs : List (Value × ℤ)) →
          same_weights (at 0) (moved b es) (moved b fs) ≡ true → (a : Value) →
          weight_of (E q) es a ≡ weight_of (E q) fs a
      totals_at q test es fs h a =
          let equal : same_weights (are_equal t q) (moved b es) (moved b fs) ≡ true =
          sym (ap (λ F. same_weights F (moved b es) (moved b fs)) test) ∙ h in
          sym (weight_of-moved (are_equal t q) b es a)
          ∙ (same_weights-Decides (are_equal t q) (eq-equivalence t q) (moved b es) (moved b fs)).0
          equal (r a)
          ∙ weight_of-moved (are_equal t q) b fs a

      -- the sums of weights with each trit, on the left and on the right
      abbrev left_sum : List (Value × ℤ) → ℕ → ℤ
      left_sum es k = joint_with the_sum es (lefts (at_child qs 0 (map (λ e. e.0) es))) k

      abbrev right_sum : List (Value × ℤ) → ℕ → ℤ
      right_sum es k = joint_with the_sum es (rights (at_child qs 0 (map (λ e. e.0) es))) k

      -- the weights of each trit have one sum
      joint_trits :
          (es fs : List (Value × ℤ)) →
          list_all (λ e. D e.0) es ≡ true → list_all (λ e. D e.0) fs ≡ true →
          same_weights (at 0) (moved b es) (moved b fs) ≡ true →
          (k : ℕ) → left_sum es k ≡ right_sum fs k
      joint_trits es fs he hf h k = elim (child_cases (are_equal t) qs 0) [
        | inl found ↦ (
            let (q, c, test, places) = found in
            let us : List Value = map (λ e. e.0) es in
            let vs : List Value = map (λ e. e.0) fs in
            ap (λ ns. joint_with the_sum es ns k) (ap lefts (places us) ∙ through_child f thr q us)
            ∙ joint_same (E q) (E_is q) D (left_at q) (right_at q) (same_at q (below q c))
            es fs he hf (totals_at q test es fs h) k
            ∙ sym (ap (λ ns. joint_with the_sum fs ns k)
            (ap rights (places vs) ∙ through_child g thr q vs)))
        | inr none ↦
            ap (λ ns. joint_with the_sum es ns k) (ap lefts (none (map (λ e. e.0) es)))
            ∙ joint_none es k
            ∙ sym (joint_none fs k)
            ∙ sym (ap (λ ns. joint_with the_sum fs ns k) (ap rights (none (map (λ e. e.0) fs))))
      ]

      -- three sums of weights over one denominator
      abbrev sums_over : ℕ → (ℕ → ℤ) → Three
      sums_over n sum =
          triple (lowest_terms (sum 0) n) (lowest_terms (sum 1) n) (lowest_terms (sum 2) n)

      -- so the values of weights are one
      weights_like :
          (n : ℕ) (u v : Value) → D u ≡ true → D v ≡ true →
          same_weights (at 0) (entries (r u)) (entries (r v)) ≡ true →
          sums_over n (left_sum (entries u)) ≡ sums_over n (right_sum (entries v))
      weights_like n u v du dv h =
          let e : (k : ℕ) → left_sum (entries u) k ≡ right_sum (entries v) k =
          joint_trits (entries u) (entries v)
          (entries_below (length values) u du) (entries_below (length values) v dv)
          (sym (λ i. same_weights (at 0) (entries_map b u i) (entries_map b v i)) ∙ h) in
          λ i. triple (lowest_terms (e 0 i) n) (lowest_terms (e 1 i) n) (lowest_terms (e 2 i) n)

      -- the labels of equal values
      one_label : (u v : Value) → (label (r u) == label (r v)) ≡ true → label u ≡ label v
      one_label u v h =
          sym (label_map b u) ∙ eqb-true (label (r u)) (label (r v)) h ∙ label_map b v

      -- the index and the trit of equal values in a sum
      sum_like :
          (u v : Value) → D u ≡ true → D v ≡ true →
          eq_step Sum (map (are_equal t) qs) (r u) (r v) ≡ true →
          layer_value d Sum u (lefts (at_child qs (index u) (inner u ∷ [])))
          ≡ layer_value d Sum v (rights (at_child qs (index v) (inner v ∷ [])))
      sum_like u v du dv h =
          let both =
          and_parts (index (r u) == index (r v)) (at (index (r u)) (inner (r u)) (inner (r v)))
          h in
          let places : index u ≡ index v =
          sym (index_map b u)
          ∙ eqb-true (index (r u)) (index (r v)) both.0
          ∙ index_map b v in
          let trits :
          lefts (at_child qs (index u) (inner u ∷ []))
          ≡ rights (at_child qs (index u) (inner v ∷ [])) =
          one_trit (index u) (inner u) (inner v)
          (inner_below (length values) u du) (inner_below (length values) v dv)
          (sym (λ i. at (index_map b u i) (inner_map b u i) (inner_map b v i)) ∙ both.1) in
          (λ i. value.Tagged (index u) (slice_index (trits i) 0))
          ∙ (λ i. value.Tagged (places i)
          (slice_index (rights (at_child qs (places i) (inner v ∷ []))) 0))

      -- the parts of a value speak of states of the list
      parts_of : (u : Value) → D u ≡ true → list_all D (parts u) ≡ true
      parts_of u du = parts_below (length values) u du

      -- two structures that are equal under the list have one value
      value_like :
          (m : Node) (p : ℕ) → p < length t → (u v : Value) → D u ≡ true → D v ≡ true →
          E p u v ≡ true → eq_step m (map (are_equal t) qs) (r u) (r v) ≡ true →
          layer_value d m u (lefts (child_places m qs p u))
          ≡ layer_value d m v (rights (child_places m qs p v))
      value_like State p inside u v du dv whole h =
          ap value.Trit (same_at p inside u v du dv whole)
      value_like (Constant labels) p inside u v du dv whole h =
          ap value.Label (one_label u v h)
      value_like Naturals p inside u v du dv whole h = ap value.Label (one_label u v h)
      value_like Product p inside u v du dv whole h =
          ap value.Trits
          (product_trits qs below (parts u) (parts v) (parts_of u du) (parts_of v dv)
          (sym (λ i. each_place (map (are_equal t) qs) (parts_map b u i) (parts_map b v i)) ∙ h))
      value_like Sum p inside u v du dv whole h = sum_like u v du dv h
      value_like (Power labels) p inside u v du dv whole h =
          ap value.Trits
          (power_trits (parts u) (parts v) (parts_of u du) (parts_of v dv)
          (sym (λ i. pointwise (at 0) (parts_map b u i) (parts_map b v i)) ∙ h))
      value_like Powerset p inside u v du dv whole h =
          let bits =
          set_trits (parts u) (parts v) (parts_of u du) (parts_of v dv)
          (sym (λ i. same_members (at 0) (parts_map b u i) (parts_map b v i)) ∙ h) in
          λ i. value.Members ((if bits 0 i then 1 else 0)
          + 2 * (if bits 1 i then 1 else 0) + 4 * (if bits 2 i then 1 else 0))
      value_like Bag p inside u v du dv whole h = weights_like 1 u v du dv h
      value_like Distribution p inside u v du dv whole h = weights_like d u v du dv h
      value_like Integers p inside u v du dv whole h = weights_like 1 u v du dv h
      value_like Rationals p inside u v du dv whole h = weights_like d u v du dv h

    -- the same of structures at one place of a term
    at_place :
        (p : ℕ) (u v : Value) → IsLike (p, u) (p, v) →
        layer_value d (node_at t p) u (map f (kids t values (p, u)))
        ≡ layer_value d (node_at t p) v (map g (kids t values (p, v)))
    at_place p u v like =
        value_like (children_at t p) (λ q c. (term-later t term p q c).1) (node_at t p) p
        like.inside u v like.left like.right like.equal
        (sym (ap (λ F. F (r u) (r v)) (fold-at no_test eq_step t term p like.inside))
        ∙ like.equal)

  -- structures that are equal under the list are alike
  pub likeness : IsLikeness (layers_of t d values) (layers_of t d values) IsLike
  likeness = record {
    one_node = λ x y like. like.one_place;
    one_value = λ x y like f g f_small g_small same. (
        let onto : IsLike (x.0, x.1) (x.0, y.1) = record {
          one_place = refl;
          inside = like.inside;
          left = like.left;
          right = like.right;
          equal = like.equal;
        } in
        at_place f g same x.0 x.1 y.1 onto
        ∙ (λ i. layer_value d (node_at t (like.one_place i)) y.1
        (map g (kids t values (like.one_place i, y.1)))));
  }

-- each formula has one truth at equivalent states
pub one_truth :
    (t : Nodes) (d : ℕ) (values : List Value) → IsTerm t →
    list_all (states_below (length values)) values ≡ true →
    (dag : List Formula) → IsDag dag → (k : ℕ) → k < length dag →
    (i j : ℕ) → AreEquivalent t values i j →
    holds_in t d values dag k i ≡ holds_in t d values dag k j
one_truth t d values term in_range dag ordered k h i j alike =
    let (hi, hj, b, stable, same) = alike in
    let (u, at) = element values i hi in
    let (v, at') = element values j hj in
    let w : Layers Place = layers_of t d values in
    ap (λ o. option_map_or (λ x. holds w dag k (0, x)) o false) at
    ∙ holds-like w w (IsLike t term d values in_range b stable)
    (likeness t term d values in_range b stable) dag ordered k h (0, u) (0, v)
    (root_like t term d values in_range b stable i j u v at at' same)
    ∙ sym (ap (λ o. option_map_or (λ x. holds w dag k (0, x)) o false) at')
