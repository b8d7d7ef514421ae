-- The system of sorted states keeps equivalence, in both directions.
use Rattle.std.proofs.Common.{◌≡◌, ℕ, zero, suc, ◌-◌, ◌<◌, Bool, true, ◌&&◌, List, [], ◌∷◌, length, map, Contains, refl, sym, ap, ◌∙◌, subst, true≢false, arith}
use Rattle.std.specs.Prelude.{ℤ, ◌==◌, slice_index, if◌then◌else◌}
use Rattle.std.specs.Cmp.{IsEquivalence}
use Rattle.std.specs.Cmp.Lexicographic.{pointwise}
use Rattle.std.specs.List.{zip, AllZip}
use Rattle.std.proofs.lemmas.Bool.{and_parts, and_from, eqb-true, eq-eqb}
use Rattle.std.proofs.lemmas.List.{length-map}
use Rattle.functor_terms.specs.declared.node.Node.{Node}
use Rattle.functor_terms.specs.declared.node.Node.TheVariants.{State, Constant, Naturals, Product, Sum, Power, Powerset, Bag, Distribution, Integers, Rationals}
use Rattle.typing.specs.declared.value.Value.{Value, Value-F, out-Value}
use Rattle.typing.specs.Values.{label, index, inner, parts, entries, relabelled, index_in}
use Rattle.typing.specs.Layers.{Place, at_child, weighed, child_places}
use Rattle.structures.proofs.AtChild.{picked_in, at_child-within}
use Rattle.typing.specs.Fits.{Check, fits_level, fits_step}
use Rattle.typing.specs.Equality.{Test, test_at, each_place, same_members, same_weights, eq_step}
use Rattle.typing.proofs.MapLaws.{parts_map, index_map, inner_map, entries_map, label_map}
use Rattle.desorting.specs.Agreement.{AgreeAt}
use Rattle.structures.proofs.Arities.{HasOne}
use Rattle.desorting.proofs.Steps.{ClassesEqual, EqualsMeet, product-equal, product-agree, power-equal, power-agree, members-equal, members-agree}
use Rattle.desorting.proofs.WeightSteps.{weights-equal, weights-agree}
use Rattle.typing.proofs.TermFacts.{not_zero}
use Rattle.structures.proofs.GoodChildren.{check_within}

-- the k-th test of a list of tests, one for each node
pub test_at-map : (E : ℕ → Test) (qs : List ℕ) (k : ℕ) → k < length qs
    → test_at (map E qs) k ≡ E (slice_index qs k)
test_at-map E [] k h = absurd (omega arith)
test_at-map E (q ∷ qs) zero h = refl
test_at-map E (q ∷ qs) (suc k) h =
    let one : suc k - 1 ≡ k = omega arith in
    ap (λ o. if o then E q else test_at (map E qs) (suc k - 1)) (not_zero k)
    ∙ ap (test_at (map E qs)) one ∙ test_at-map E qs k (omega arith)

-- the index of an injection that fits is one of the parts
pub sum_within : (fs : List Check) (v : Value) → fits_step Sum fs v ≡ true → index v < length fs
sum_within fs v h = by (out-Value v) h
  where
    by : (x : Value-F Value) → fits_level Sum fs x ≡ true → index_in x < length fs
    by (Value-F.Inj k w) h = check_within fs k w h
    by (Value-F.State i) h = absurd (true≢false (sym h))
    by (Value-F.Label n) h = absurd (true≢false (sym h))
    by (Value-F.Tuple vs) h = absurd (true≢false (sym h))
    by (Value-F.Set vs) h = absurd (true≢false (sym h))
    by (Value-F.Weights es) h = absurd (true≢false (sym h))

head_of : (R : Place → ℕ → Type 0) (x : Place) (cs : List ℕ) → AllZip R (x ∷ []) cs
    → (c : ℕ) × R x c × (cs ≡ c ∷ [])
head_of R x [] h = absurd h
head_of R x (c ∷ []) h = (c, h.0, refl)
head_of R x (c ∷ d ∷ cs) h = absurd h.1

heads_same : (c d : ℕ) → c ∷ [] ≡ d ∷ [] → c ≡ d
heads_same c d e = cc

-- what has weights, at the first node
weighed-at :
    (q : ℕ) (es : List (Value × ℤ)) →
    map {B = Place} (λ u. (q, u)) (map (λ (e : Value × ℤ). e.0) es)
    ≡ map {B = Place} (λ (e : Value × ℤ). (q, e.0)) es
weighed-at q [] = refl
weighed-at q (e ∷ es) = ap (λ l. (q, e.0) ∷ l) (weighed-at q es)

pub weighed-within :
    (qs : List ℕ) (v : Value) → 0 < length qs →
    at_child qs 0 (weighed v)
    ≡ map {B = Place} (λ (e : Value × ℤ). (slice_index qs 0, e.0)) (entries v)
weighed-within qs v one =
    at_child-within qs 0 (weighed v) one ∙ weighed-at (slice_index qs 0) (entries v)

-- one layer, for any relation of children to classes
module _ (R : Place → ℕ → Type 0) (b : List ℕ) (E : ℕ → Test) (is : (q : ℕ)
    → IsEquivalence (E q)) (qs : List ℕ) (p : ℕ) (v w : Value) (cs ds : List ℕ) where
  abbrev places : Node → Value → List Place
  places m u = child_places m qs p u

  abbrev step : Node → Bool
  step m = eq_step m (map E qs) (relabelled b v) (relabelled b w)

  abbrev only : ℕ
  only = slice_index qs 0

  -- the parts, and what has weights, at the only node
  parts_at :
      (0 < length qs) → (u : Value) (es : List ℕ) → AllZip R (at_child qs 0 (parts u)) es →
      AllZip R (map (λ u. (only, u)) (parts u)) es
  parts_at one u es x = subst (λ l. AllZip R l es) (at_child-within qs 0 (parts u) one) x

  weighed_at :
      (0 < length qs) → (u : Value) (es : List ℕ) → AllZip R (at_child qs 0 (weighed u)) es →
      AllZip R (map (λ e. (only, e.0)) (entries u)) es
  weighed_at one u es x = subst (λ l. AllZip R l es) (weighed-within qs u one) x

  -- the inner value, at the node of its index
  inner_at :
      (u : Value) (es : List ℕ) → index u < length qs →
      AllZip R (at_child qs (index u) (inner u ∷ [])) es →
      AllZip R ((slice_index qs (index u), inner u) ∷ []) es
  inner_at u es h x =
      subst (λ l. AllZip R l es) (at_child-within qs (index u) (inner u ∷ []) h) x

  module _ (h : (q : ℕ) → Contains qs q → ClassesEqual R b E q) where
    each_equal : (0 < length qs) → AllZip R (map (λ u. (only, u)) (parts v)) cs
        → AllZip R (map (λ u. (only, u)) (parts w)) ds → cs ≡ ds
        → pointwise (test_at (map E qs) 0) (parts (relabelled b v)) (parts (relabelled b w)) ≡ true
    each_equal one x y same =
        (λ i. pointwise (test_at-map E qs 0 one i) (parts_map b v i) (parts_map b w i))
        ∙ power-equal R b E only (parts v) (parts w) cs (h only (picked_in qs 0 one)) x
        (subst (λ es. AllZip R (map (λ u. (only, u)) (parts w)) es) (sym same) y)

    sums_equal : (0 < length qs) → AllZip R (map (λ e. (only, e.0)) (entries v)) cs
        → AllZip R (map (λ e. (only, e.0)) (entries w)) ds → AgreeAt Bag v w cs ds
        → same_weights (test_at (map E qs) 0) (entries (relabelled b v)) (entries (relabelled b w))
        ≡ true
    sums_equal one x y same =
        (λ i. same_weights (test_at-map E qs 0 one i) (entries_map b v i) (entries_map b w i))
        ∙ weights-equal R b E only (is only) (entries v) (entries w) cs ds
        (h only (picked_in qs 0 one)) x y same

    -- values whose classes agree at a layer have equal images
    pub layer-equal : (m : Node) → HasOne m qs → (f : ℕ → Check) → fits_step m (map f qs) v ≡ true
        → (m ≡ State → (c : ℕ) → R (p, v) c → R (p, w) c
        → eq_step State (map E qs) (relabelled b v) (relabelled b w) ≡ true)
        → AllZip R (places m v) cs → AllZip R (places m w) ds → AgreeAt m v w cs ds → step m ≡ true
    layer-equal State one f fit at_state x y same =
        let (c, r, e) = head_of R (p, v) cs x in
        let (d, r', e') = head_of R (p, w) ds y in
        let one : c ≡ d = heads_same c d (sym e ∙ same ∙ e') in
        at_state refl c r (subst (λ k. R (p, w) k) (sym one) r')
    layer-equal (Constant labels) one f fit at_state x y same = (λ i. label_map b v i == label_map b
        w i) ∙ eq-eqb (label v) (label w) same
    layer-equal Naturals one f fit at_state x y same = (λ i. label_map b v i == label_map b w i)
        ∙ eq-eqb (label v) (label w) same
    layer-equal Product one f fit at_state x y same =
        (λ i. each_place (map E qs) (parts_map b v i) (parts_map b w i))
        ∙ product-equal R b E qs (parts v) (parts w) cs h x
        (subst (λ es. AllZip R (zip qs (parts w)) es) (sym same) y)
    layer-equal Sum one f fit at_state x y same =
        let k : ℕ = index v in
        let inside : k < length qs = subst (λ n. k < n) (length-map qs f)
        (sum_within (map f qs) v fit) in
        let (c, r, e) = head_of R (slice_index qs (index v), inner v) cs (inner_at v cs inside x) in
        let (d, r', e') = head_of R (slice_index qs (index w), inner w) ds
        (inner_at w ds (subst (λ n. n < length qs) same.0 inside) y) in
        let one : c ≡ d = heads_same c d (sym e ∙ same.1 ∙ e') in
        let there : R (slice_index qs k, inner w) c = subst (λ n. R (slice_index qs n, inner w) c)
        (sym same.0) (subst (λ n. R (slice_index qs (index w), inner w) n) (sym one) r') in
        let equal = h (slice_index qs k) (picked_in qs k inside) (inner v) (inner w) c r there in
        (λ i. (index_map b v i == index_map b w i) && test_at (map E qs) (index_map b v i)
        (inner_map b v i) (inner_map b w i))
        ∙ and_from (k == index w) (test_at (map E qs) k (relabelled b (inner v))
        (relabelled b (inner w))) (eq-eqb k (index w) same.0)
        (ap (λ g. g (relabelled b (inner v)) (relabelled b (inner w)))
        (test_at-map E qs k inside) ∙ equal)
    layer-equal (Power labels) one f fit at_state x y same =
        each_equal one (parts_at one v cs x) (parts_at one w ds y) same
    layer-equal Powerset one f fit at_state x y same =
        (λ i. same_members (test_at-map E qs 0 one i) (parts_map b v i) (parts_map b w i))
        ∙ members-equal R b E only (parts v) (parts w) cs ds (h only (picked_in qs 0 one))
        (parts_at one v cs x) (parts_at one w ds y) same
    layer-equal Bag one f fit at_state x y same =
        sums_equal one (weighed_at one v cs x) (weighed_at one w ds y) same
    layer-equal Distribution one f fit at_state x y same =
        sums_equal one (weighed_at one v cs x) (weighed_at one w ds y) same
    layer-equal Integers one f fit at_state x y same =
        sums_equal one (weighed_at one v cs x) (weighed_at one w ds y) same
    layer-equal Rationals one f fit at_state x y same =
        sums_equal one (weighed_at one v cs x) (weighed_at one w ds y) same

  module _ (h : (q : ℕ) → Contains qs q → EqualsMeet R b E q) where
    each_agree : (0 < length qs) → AllZip R (map (λ u. (only, u)) (parts v)) cs
        → AllZip R (map (λ u. (only, u)) (parts w)) ds
        → pointwise (test_at (map E qs) 0) (parts (relabelled b v)) (parts (relabelled b w)) ≡ true
        → cs ≡ ds
    each_agree one x y e =
        power-agree R b E only (parts v) (parts w) cs ds (h only (picked_in qs 0 one)) x y
        (sym (λ i. pointwise (test_at-map E qs 0 one i) (parts_map b v i) (parts_map b w i))
        ∙ e)

    sums_agree : (0 < length qs) → AllZip R (map (λ e. (only, e.0)) (entries v)) cs
        → AllZip R (map (λ e. (only, e.0)) (entries w)) ds
        → same_weights (test_at (map E qs) 0) (entries (relabelled b v)) (entries (relabelled b w))
        ≡ true → AgreeAt Bag v w cs ds
    sums_agree one x y e =
        weights-agree R b E only (is only) (entries v) (entries w) cs ds
        (h only (picked_in qs 0 one)) x y
        (sym (λ i. same_weights (test_at-map E qs 0 one i) (entries_map b v i)
        (entries_map b w i)) ∙ e)

    -- values whose images are equal at a layer have classes that agree
    pub layer-agree : (m : Node) → HasOne m qs → (f : ℕ → Check) → fits_step m (map f qs) v ≡ true
        → (m ≡ State → (c d : ℕ) → R (p, v) c → R (p, w) d
        → eq_step State (map E qs) (relabelled b v) (relabelled b w) ≡ true → c ≡ d)
        → AllZip R (places m v) cs → AllZip R (places m w) ds → step m ≡ true → AgreeAt m v w cs ds
    layer-agree State one f fit at_state x y e =
        let (c, r, is_c) = head_of R (p, v) cs x in
        let (d, r', is_d) = head_of R (p, w) ds y in
        let one : c ≡ d = at_state refl c d r r' e in
        is_c ∙ ap (λ k. k ∷ []) one ∙ sym is_d
    layer-agree (Constant labels) one f fit at_state x y e = eqb-true (label v) (label w)
        (sym (λ i. label_map b v i == label_map b w i) ∙ e)
    layer-agree Naturals one f fit at_state x y e = eqb-true (label v) (label w)
        (sym (λ i. label_map b v i == label_map b w i) ∙ e)
    layer-agree Product one f fit at_state x y e =
        product-agree R b E qs (parts v) (parts w) cs ds h x y
        (sym (λ i. each_place (map E qs) (parts_map b v i) (parts_map b w i)) ∙ e)
    layer-agree Sum one f fit at_state x y e =
        let k : ℕ = index v in
        let inside : k < length qs = subst (λ n. k < n) (length-map qs f)
        (sum_within (map f qs) v fit) in
        let plain = sym (λ i. (index_map b v i == index_map b w i) && test_at (map E qs)
        (index_map b v i) (inner_map b v i) (inner_map b w i)) ∙ e in
        let both = and_parts (k == index w) (test_at (map E qs) k (relabelled b (inner v))
        (relabelled b (inner w))) plain in
        let same : k ≡ index w = eqb-true k (index w) both.0 in
        let (c, r, is_c) = head_of R (slice_index qs (index v), inner v) cs
        (inner_at v cs inside x) in
        let (d, r', is_d) = head_of R (slice_index qs (index w), inner w) ds
        (inner_at w ds (subst (λ n. n < length qs) same inside) y) in
        let there : R (slice_index qs k, inner w) d = subst (λ n. R (slice_index qs n, inner w) d)
        (sym same) r' in
        let one : c ≡ d = h (slice_index qs k) (picked_in qs k inside) (inner v) (inner w) c d r
        there (sym (ap (λ g. g (relabelled b (inner v)) (relabelled b (inner w)))
        (test_at-map E qs k inside)) ∙ both.1) in
        (same, is_c ∙ ap (λ n. n ∷ []) one ∙ sym is_d)
    layer-agree (Power labels) one f fit at_state x y e =
        each_agree one (parts_at one v cs x) (parts_at one w ds y) e
    layer-agree Powerset one f fit at_state x y e =
        members-agree R b E only (parts v) (parts w) cs ds (h only (picked_in qs 0 one))
        (parts_at one v cs x) (parts_at one w ds y)
        (sym (λ i. same_members (test_at-map E qs 0 one i) (parts_map b v i) (parts_map b w i))
        ∙ e)
    layer-agree Bag one f fit at_state x y e =
        sums_agree one (weighed_at one v cs x) (weighed_at one w ds y) e
    layer-agree Distribution one f fit at_state x y e =
        sums_agree one (weighed_at one v cs x) (weighed_at one w ds y) e
    layer-agree Integers one f fit at_state x y e =
        sums_agree one (weighed_at one v cs x) (weighed_at one w ds y) e
    layer-agree Rationals one f fit at_state x y e =
        sums_agree one (weighed_at one v cs x) (weighed_at one w ds y) e
