-- What makes a value the relabelled normal form at a node.
use Rattle.std.proofs.Common.{◌≡◌, ℕ, zero, suc, ◌<◌, Bool, true, not, ◌&&◌, ◌||◌, List, [], ◌∷◌, map, length, Some, refl, sym, ap, ◌∙◌, true≢false, arith}
use Rattle.std.specs.Prelude.{ℤ, pos, ◌+ℤ◌, nat_lt, nat_eq, slice_index, ◌==◌, if◌then◌else◌}
use Rattle.std.specs.Option.{option_map, option_eq}
use Rattle.std.specs.Cmp.Lexicographic.{pointwise}
use Rattle.std.specs.List.{list_all, list_any, AllZip}
use Rattle.std.specs.Ordering.{int_eq}
use Rattle.std.proofs.lemmas.Bool.{and_parts, and_from}
use Rattle.std.proofs.lemmas.Cmp.{nat_eq_equiv}
use Rattle.std.proofs.lemmas.List.Folds.{list_all-map}
use Rattle.std.proofs.lemmas.Slice.Zip.{AllZip-long}
use Rattle.functor_terms.specs.declared.node.Node.{Node}
use Rattle.functor_terms.specs.declared.node.Node.TheVariants.{State, Constant, Naturals, Product, Sum, Power, Powerset, Bag, Distribution, Integers, Rationals}
use Rattle.functor_terms.specs.Terms.{Nodes, IsTerm, node_at, children_at}
use Rattle.functor_terms.specs.Lists.{Zip3}
use Rattle.functor_terms.proofs.Folds.{fold-at}
use Rattle.typing.specs.declared.value.Value.{Value, Value-F, out-Value}
use Rattle.typing.specs.declared.value.Value.TheVariants as value
use Rattle.typing.specs.declared.value.Value.TheViews.{outs-State, outs-Label, outs-Tuple, outs-Inj, outs-Set, outs-Weights}
use Rattle.typing.specs.Values.{state_in, label, label_in, index_in, inner_in, parts_in, entries, entries_in, relabelled, states_below}
use Rattle.typing.specs.Equality.{Test, no_test, test_at, each_place, has, same_members, weight_of, same_weights, eq_step, are_equal}
use Rattle.typing.specs.Fits.{Check, no_check, check_at, each_fits, fits_level, fits_step, fits}
use Rattle.functor_terms.specs.Terms.{label_count}
use Rattle.typing.specs.Order.{Form, no_form, form_at, ascends, each_normal, is_normal_list, is_normal_sum, normal_step, form_step, form}
use Rattle.typing.specs.NormalForms.{IsRelabelled, IsRelabelledAt, TiesAreOne, IsSetOf, IsTotalOf}
use Rattle.typing.specs.Equality.{the_sum}
use Rattle.typing.proofs.Tests.{same_members-Decides, same_weights-Decides}
use Rattle.typing.proofs.MapLaws.{parts_map, index_map, inner_map, entries_map, label_map, state_map, below_out, layer_below}
use Rattle.typing.proofs.NormalLaws.{IsCanonical, at_canonical, weight_check, bag_weighted, distribution_weighted, integers_weighted, rationals_weighted}
use Rattle.functor_terms.proofs.NamesLemmas.{list_any-map}

-- two lists whose elements are related
module _ {X Y : Type 0} (R : X → Y → Type 0) where
  -- what is related to each on the left holds of all on the right
  pub right_all : (q : Y → Bool) (xs : List X) (ys : List Y) → AllZip R xs ys
      → ((x : X) (y : Y) → R x y → q y ≡ true) → list_all q ys ≡ true
  right_all q [] [] z h = refl
  right_all q [] (y ∷ ys) z h = absurd z
  right_all q (x ∷ xs) [] z h = absurd z
  right_all q (x ∷ xs) (y ∷ ys) z h = and_from (q y) (list_all q ys) (h x y z.0)
      (right_all q xs ys z.1 h)

  pub any_agrees : (p : X → Bool) (q : Y → Bool) (xs : List X) (ys : List Y) → AllZip R xs ys
      → ((x : X) (y : Y) → R x y → q y ≡ p x) → list_any q ys ≡ list_any p xs
  any_agrees p q [] [] z h = refl
  any_agrees p q [] (y ∷ ys) z h = absurd z
  any_agrees p q (x ∷ xs) [] z h = absurd z
  any_agrees p q (x ∷ xs) (y ∷ ys) z h = λ i. h x y z.0 i || any_agrees p q xs ys z.1 h i

-- the step at a node gives the node
pub node_relabelled : (t : Nodes) → IsTerm t → (p : ℕ) → p < length t → (m : Node) → m ≡ node_at t p
    → (b : List ℕ) (v r : Value)
    → IsRelabelled (fits_step m (map (fits t) (children_at t p)))
    (form_step m (map (form t) (children_at t p)))
    (eq_step m (map (are_equal t) (children_at t p))) b v r → IsRelabelledAt t b p v r
node_relabelled t is p h m e b v r w = record {
  fitting = ap (λ (c : Check). c r) (fold-at no_check fits_step t is p h)
      ∙ sym (ap (λ n. fits_step n (map (fits t) (children_at t p)) r) e) ∙ w.fitting;
  normal = ap (λ (f : Form). f.is_normal r) (fold-at no_form form_step t is p h)
      ∙ sym (ap (λ n. normal_step n (map (form t) (children_at t p)) r) e) ∙ w.normal;
  equal = ap (λ (c : Test). c r (relabelled b v)) (fold-at no_test eq_step t is p h)
      ∙ sym (ap (λ n. eq_step n (map (are_equal t) (children_at t p)) r (relabelled b v)) e)
      ∙ w.equal;
  in_range = w.in_range;
}

-- a value that fits a node fits the step
pub node_fits : (t : Nodes) → IsTerm t → (p : ℕ) → p < length t → (m : Node) → m ≡ node_at t p
    → (v : Value) → fits t p v ≡ true → fits_step m (map (fits t) (children_at t p)) v ≡ true
node_fits t is p h m e v k = ap (λ n. fits_step n (map (fits t) (children_at t p)) v) e
    ∙ sym (ap (λ (c : Check). c v) (fold-at no_check fits_step t is p h)) ∙ k

-- the states of a value by its level
range_by : (m : ℕ) (r : Value) (x : Value-F Value) → out-Value r ≡ x → layer_below m x ≡ true
    → states_below m r ≡ true
range_by m r x e h = below_out m r ∙ ap (layer_below m) e ∙ h

module _ (b : List ℕ) where
  label_below : (m i : ℕ) → i < length b → list_all (λ j. nat_lt j m) b ≡ true
      → nat_lt (slice_index b i) m ≡ true
  label_below m i = by b i
    where
      by : (c : List ℕ) (i : ℕ) → i < length c → list_all (λ j. nat_lt j m) c ≡ true
          → nat_lt (slice_index c i) m ≡ true
      by [] i h a = absurd (omega arith)
      by (x ∷ xs) zero h a = (and_parts (nat_lt x m) (list_all (λ j. nat_lt j m) xs) a).0
      by (x ∷ xs) (suc i) h a = by xs i (omega arith)
          (and_parts (nat_lt x m) (list_all (λ j. nat_lt j m) xs) a).1

  module _ (xs : List Check) (fs : List Form) (es : List Test) where
    abbrev IsStep : Node → Value → Value → Type 0
    IsStep m = IsRelabelled (fits_step m xs) (form_step m fs) (eq_step m es) b

    abbrev IsChild : ℕ → Value → Value → Type 0
    IsChild k = IsRelabelled (check_at xs k) (form_at fs k) (test_at es k) b

    -- a state
    pub state_step : (m : Node) (v : Value) (i : ℕ) → out-Value v ≡ Value-F.State i
        → fits_step m xs v ≡ true → i < length b → IsStep m v (value.State (slice_index b i))
    state_step State v i o h inside =
        let r : Value = value.State (slice_index b i) in
        let out : out-Value r ≡ Value-F.State (slice_index b i) = outs-State (slice_index b i) in
        record {
          fitting = ap (fits_level State xs) out;
          normal = refl;
          equal = (λ k. option_eq nat_eq (state_in (out k)) (state_map b v k))
              ∙ ap (λ y. option_eq nat_eq (Some (slice_index b i)) (option_map (slice_index b)
              (state_in y))) o ∙ nat_eq_equiv.refl (slice_index b i);
          in_range = λ m a. range_by m r (Value-F.State (slice_index b i)) out
              (label_below m i inside a);
        }
    state_step (Constant labels) v i o h inside = absurd (true≢false (sym h
        ∙ ap (fits_level (Constant labels) xs) o))
    state_step Naturals v i o h inside = absurd (true≢false (sym h ∙ ap (fits_level Naturals xs) o))
    state_step Product v i o h inside = absurd (true≢false (sym h ∙ ap (fits_level Product xs) o))
    state_step Sum v i o h inside = absurd (true≢false (sym h ∙ ap (fits_level Sum xs) o))
    state_step (Power labels) v i o h inside = absurd (true≢false (sym h
        ∙ ap (fits_level (Power labels) xs) o))
    state_step Powerset v i o h inside = absurd (true≢false (sym h ∙ ap (fits_level Powerset xs) o))
    state_step Bag v i o h inside = absurd (true≢false (sym h ∙ ap (fits_level Bag xs) o))
    state_step Distribution v i o h inside = absurd (true≢false (sym h
        ∙ ap (fits_level Distribution xs) o))
    state_step Integers v i o h inside = absurd (true≢false (sym h ∙ ap (fits_level Integers xs) o))
    state_step Rationals v i o h inside = absurd (true≢false (sym h
        ∙ ap (fits_level Rationals xs) o))

    -- a label
    label_same : (m : Node) (v : Value) (n : ℕ) → out-Value v ≡ Value-F.Label n
        → (label (value.Label n) == label (relabelled b v)) ≡ true
    label_same m v n o = (λ k. label_in (outs-Label n k) == label_map b v k)
        ∙ ap (λ y. n == label_in y) o ∙ nat_eq_equiv.refl n

    -- a label is relabelled to itself
    pub label_step : (m : Node) (v : Value) (n : ℕ) → out-Value v ≡ Value-F.Label n
        → fits_step m xs v ≡ true → IsStep m v (value.Label n)
    label_step (Constant labels) v n o h = record {
      fitting = ap (fits_level (Constant labels) xs) (outs-Label n ∙ sym o) ∙ h;
      normal = refl;
      equal = label_same (Constant labels) v n o;
      in_range = λ m a. range_by m (value.Label n) (Value-F.Label n) (outs-Label n) refl;
    }
    label_step Naturals v n o h = record {
      fitting = ap (fits_level Naturals xs) (outs-Label n ∙ sym o) ∙ h;
      normal = refl;
      equal = label_same Naturals v n o;
      in_range = λ m a. range_by m (value.Label n) (Value-F.Label n) (outs-Label n) refl;
    }
    label_step State v n o h = absurd (true≢false (sym h ∙ ap (fits_level State xs) o))
    label_step Product v n o h = absurd (true≢false (sym h ∙ ap (fits_level Product xs) o))
    label_step Sum v n o h = absurd (true≢false (sym h ∙ ap (fits_level Sum xs) o))
    label_step (Power labels) v n o h = absurd (true≢false (sym h
        ∙ ap (fits_level (Power labels) xs) o))
    label_step Powerset v n o h = absurd (true≢false (sym h ∙ ap (fits_level Powerset xs) o))
    label_step Bag v n o h = absurd (true≢false (sym h ∙ ap (fits_level Bag xs) o))
    label_step Distribution v n o h = absurd (true≢false (sym h
        ∙ ap (fits_level Distribution xs) o))
    label_step Integers v n o h = absurd (true≢false (sym h ∙ ap (fits_level Integers xs) o))
    label_step Rationals v n o h = absurd (true≢false (sym h ∙ ap (fits_level Rationals xs) o))

    -- a part of a sum
    pub sum_step : (m : Node) (v : Value) (k : ℕ) (w s : Value) → out-Value v ≡ Value-F.Inj k w
        → fits_step m xs v ≡ true → IsChild k w s → IsStep m v (value.Inj k s)
    sum_step Sum v k w s o h c =
        let r : Value = value.Inj k s in
        let out : out-Value r ≡ Value-F.Inj k s = outs-Inj k s in
        record {
          fitting = ap (fits_level Sum xs) out ∙ c.fitting;
          normal = (λ i. (form_at fs (index_in (out i))).is_normal (inner_in r (out i))) ∙ c.normal;
          equal = (λ i. (index_in (out i) == index_map b v i) && test_at es (index_in (out i))
              (inner_in r (out i)) (inner_map b v i))
              ∙ ap (λ y. (k == index_in y) && test_at es k s (relabelled b (inner_in v y))) o
              ∙ and_from (k == k) (test_at es k s (relabelled b w)) (nat_eq_equiv.refl k)
              c.equal;
          in_range = λ m a. range_by m r (Value-F.Inj k s) out (c.in_range m a);
        }
    sum_step State v k w s o h c = absurd (true≢false (sym h ∙ ap (fits_level State xs) o))
    sum_step (Constant labels) v k w s o h c = absurd (true≢false (sym h
        ∙ ap (fits_level (Constant labels) xs) o))
    sum_step Naturals v k w s o h c = absurd (true≢false (sym h ∙ ap (fits_level Naturals xs) o))
    sum_step Product v k w s o h c = absurd (true≢false (sym h ∙ ap (fits_level Product xs) o))
    sum_step (Power labels) v k w s o h c = absurd (true≢false (sym h
        ∙ ap (fits_level (Power labels) xs) o))
    sum_step Powerset v k w s o h c = absurd (true≢false (sym h ∙ ap (fits_level Powerset xs) o))
    sum_step Bag v k w s o h c = absurd (true≢false (sym h ∙ ap (fits_level Bag xs) o))
    sum_step Distribution v k w s o h c = absurd (true≢false (sym h
        ∙ ap (fits_level Distribution xs) o))
    sum_step Integers v k w s o h c = absurd (true≢false (sym h ∙ ap (fits_level Integers xs) o))
    sum_step Rationals v k w s o h c = absurd (true≢false (sym h ∙ ap (fits_level Rationals xs) o))

    -- the states of each value in a list
    all_in_range : (k : ℕ) (vs rs : List Value) → AllZip (IsChild k) vs rs → (m : ℕ)
        → list_all (λ j. nat_lt j m) b ≡ true → list_all (states_below m) rs ≡ true
    all_in_range k vs rs z m a = right_all (IsChild k) (states_below m) vs rs z
        (λ v r c. c.in_range m a)

    pointwise_equal : (k : ℕ) (vs rs : List Value) → AllZip (IsChild k) vs rs
        → pointwise (test_at es k) rs (map (relabelled b) vs) ≡ true
    pointwise_equal k [] [] z = refl
    pointwise_equal k [] (r ∷ rs) z = absurd z
    pointwise_equal k (v ∷ vs) [] z = absurd z
    pointwise_equal k (v ∷ vs) (r ∷ rs) z = and_from (test_at es k r (relabelled b v))
        (pointwise (test_at es k) rs (map (relabelled b) vs)) z.0.equal
        (pointwise_equal k vs rs z.1)

    -- a power
    pub power_step : (m : Node) (v : Value) (vs rs : List Value) → out-Value v ≡ Value-F.Tuple vs
        → fits_step m xs v ≡ true → (m ≡ Product → ⊥) → AllZip (IsChild 0) vs rs
        → IsStep m v (value.Tuple rs)
    power_step (Power labels) v vs rs o h not_product z =
        let r : Value = value.Tuple rs in
        let out : out-Value r ≡ Value-F.Tuple rs = outs-Tuple rs in
        let w = and_parts (length vs == label_count labels) (list_all (check_at xs 0) vs)
        (sym (ap (fits_level (Power labels) xs) o) ∙ h) in
        record {
          fitting = ap (fits_level (Power labels) xs) out
              ∙ and_from (length rs == label_count labels) (list_all (check_at xs 0) rs)
              (ap (λ n. n == label_count labels) (AllZip-long (IsChild 0) vs rs z)
              ∙ w.0) (right_all (IsChild 0) (check_at xs 0) vs rs z (λ v r c. c.fitting));
          normal = ap (λ y. list_all (form_at fs 0).is_normal (parts_in y)) out
              ∙ right_all (IsChild 0) (form_at fs 0).is_normal vs rs z (λ v r c. c.normal);
          equal = (λ i. pointwise (test_at es 0) (parts_in (out i)) (parts_map b v i))
              ∙ ap (λ y. pointwise (test_at es 0) rs (map (relabelled b) (parts_in y))) o
              ∙ pointwise_equal 0 vs rs z;
          in_range = λ m a. range_by m r (Value-F.Tuple rs) out
              (list_all-map (λ c. c) (states_below m) rs ∙ all_in_range 0 vs rs z m a);
        }
    power_step Product v vs rs o h not_product z = absurd (not_product refl)
    power_step State v vs rs o h not_product z = absurd (true≢false (sym h
        ∙ ap (fits_level State xs) o))
    power_step (Constant labels) v vs rs o h not_product z = absurd (true≢false (sym h
        ∙ ap (fits_level (Constant labels) xs) o))
    power_step Naturals v vs rs o h not_product z = absurd (true≢false (sym h
        ∙ ap (fits_level Naturals xs) o))
    power_step Sum v vs rs o h not_product z = absurd (true≢false (sym h
        ∙ ap (fits_level Sum xs) o))
    power_step Powerset v vs rs o h not_product z = absurd (true≢false (sym h
        ∙ ap (fits_level Powerset xs) o))
    power_step Bag v vs rs o h not_product z = absurd (true≢false (sym h
        ∙ ap (fits_level Bag xs) o))
    power_step Distribution v vs rs o h not_product z = absurd (true≢false (sym h
        ∙ ap (fits_level Distribution xs) o))
    power_step Integers v vs rs o h not_product z = absurd (true≢false (sym h
        ∙ ap (fits_level Integers xs) o))
    power_step Rationals v vs rs o h not_product z = absurd (true≢false (sym h
        ∙ ap (fits_level Rationals xs) o))

    module _ (can : Zip3 IsCanonical xs fs es) where
      first : IsCanonical (check_at xs 0) (form_at fs 0) (test_at es 0)
      first = at_canonical xs fs es 0 can

      ties : TiesAreOne (form_at fs 0).compare (check_at xs 0)
      ties = record { one = first.tie }

      -- a set
      pub set_step : (m : Node) (v : Value) (vs us rs : List Value) → out-Value v ≡ Value-F.Set vs
          → fits_step m xs v ≡ true → AllZip (IsChild 0) vs us
          → IsSetOf (form_at fs 0).compare us rs → IsStep m v (value.Set rs)
      set_step Powerset v vs us rs o h z s =
          let r : Value = value.Set rs in
          let out : out-Value r ≡ Value-F.Set rs = outs-Set rs in
          let e : Test = test_at es 0 in
          let fitting_us = right_all (IsChild 0) (check_at xs 0) vs us z (λ v r c. c.fitting) in
          let same : (a : Value) → has e rs a ≡ has e (map (relabelled b) vs) a =
          λ a. s.members (check_at xs 0) ties fitting_us (λ u. e u a)
          ∙ any_agrees (IsChild 0) (λ w. e (relabelled b w) a) (λ u. e u a) vs us z
          (λ w u c. first.is.congr u (relabelled b w) a c.equal)
          ∙ sym (list_any-map (λ u. e u a) (relabelled b) vs) in
          record {
            fitting = ap (fits_level Powerset xs) out ∙ s.taken (check_at xs 0) fitting_us;
            normal = ap (λ y. is_normal_list (form_at fs 0) (parts_in y)) out
                ∙ and_from (ascends (form_at fs 0).compare rs) (list_all (form_at fs 0).is_normal
                rs) s.ascending (s.taken (form_at fs 0).is_normal
                (right_all (IsChild 0) (form_at fs 0).is_normal vs us z (λ v r c. c.normal)));
            equal = (λ i. same_members e (parts_in (out i)) (parts_map b v i))
                ∙ ap (λ y. same_members e rs (map (relabelled b) (parts_in y))) o
                ∙ (same_members-Decides e first.is rs (map (relabelled b) vs)).1 same;
            in_range = λ m a. range_by m r (Value-F.Set rs) out
                (list_all-map (λ c. c) (states_below m) rs
                ∙ s.taken (states_below m) (all_in_range 0 vs us z m a));
          }
      set_step State v vs us rs o h z s = absurd (true≢false (sym h ∙ ap (fits_level State xs) o))
      set_step (Constant labels) v vs us rs o h z s = absurd (true≢false (sym h
          ∙ ap (fits_level (Constant labels) xs) o))
      set_step Naturals v vs us rs o h z s = absurd (true≢false (sym h
          ∙ ap (fits_level Naturals xs) o))
      set_step Product v vs us rs o h z s = absurd (true≢false (sym h
          ∙ ap (fits_level Product xs) o))
      set_step Sum v vs us rs o h z s = absurd (true≢false (sym h ∙ ap (fits_level Sum xs) o))
      set_step (Power labels) v vs us rs o h z s = absurd (true≢false (sym h
          ∙ ap (fits_level (Power labels) xs) o))
      set_step Bag v vs us rs o h z s = absurd (true≢false (sym h ∙ ap (fits_level Bag xs) o))
      set_step Distribution v vs us rs o h z s = absurd (true≢false (sym h
          ∙ ap (fits_level Distribution xs) o))
      set_step Integers v vs us rs o h z s = absurd (true≢false (sym h
          ∙ ap (fits_level Integers xs) o))
      set_step Rationals v vs us rs o h z s = absurd (true≢false (sym h
          ∙ ap (fits_level Rationals xs) o))

      -- a weight list
      abbrev IsEntry : Value × ℤ → Value × ℤ → Type 0
      IsEntry v r = IsChild 0 v.0 r.0 × (r.1 ≡ v.1)

      firsts_all : (q : Value → Bool) (vs us : List (Value × ℤ)) → AllZip IsEntry vs us
          → ((v r : Value) → IsChild 0 v r → q r ≡ true) → list_all q (map (λ w. w.0) us) ≡ true
      firsts_all q vs us z h = list_all-map q (λ (w : Value × ℤ). w.0) us
          ∙ right_all IsEntry (λ w. q w.0) vs us z (λ v r c. h v.0 r.0 c.0)

      weights_agree : (a : Value) (vs us : List (Value × ℤ)) → AllZip IsEntry vs us
          → weight_of (test_at es 0) us a ≡ weight_of (test_at es 0)
          (map (λ w. (relabelled b w.0, w.1)) vs) a
      weights_agree a [] [] z = refl
      weights_agree a [] (u ∷ us) z = absurd z
      weights_agree a (v ∷ vs) [] z = absurd z
      weights_agree a (v ∷ vs) (u ∷ us) z = λ i. (if first.is.congr u.0 (relabelled b v.0) a
          z.0.0.equal i then z.0.1 i else pos 0) +ℤ weights_agree a vs us z.1 i

      weighted_step : (v : Value) (vs us rs : List (Value × ℤ)) → out-Value v ≡ Value-F.Weights vs
          → AllZip IsEntry vs us → IsTotalOf (form_at fs 0).compare the_sum us rs
          → (weight_check xs (out-Value (value.Weights rs)) ≡ true)
          × (is_normal_sum (form_at fs 0) (entries (value.Weights rs)) ≡ true)
          × (same_weights (test_at es 0) (entries (value.Weights rs)) (entries (relabelled b v))
          ≡ true)
          × ((m : ℕ) → list_all (λ j. nat_lt j m) b ≡ true
          → states_below m (value.Weights rs) ≡ true)
      weighted_step v vs us rs o z s =
          let r : Value = value.Weights rs in
          let out : out-Value r ≡ Value-F.Weights rs = outs-Weights rs in
          let e : Test = test_at es 0 in
          let firsts = λ (ws : List (Value × ℤ)). map (λ w. w.0) ws in
          let same : (a : Value)
          → weight_of e rs a ≡ weight_of e (map (λ w. (relabelled b w.0, w.1)) vs) a =
          λ a. s.totals (check_at xs 0) ties (firsts_all (check_at xs 0) vs us z
          (λ v r c. c.fitting)) e a ∙ weights_agree a vs us z in (
            ap (weight_check xs) out
                ∙ sym (list_all-map (check_at xs 0) (λ (w : Value × ℤ). w.0) rs)
                ∙ s.taken (check_at xs 0) (firsts_all (check_at xs 0) vs us z (λ v r c. c.fitting)),
            ap (λ y. is_normal_sum (form_at fs 0) (entries_in y)) out
                ∙ and_from (is_normal_list (form_at fs 0) (firsts rs))
                (list_all (λ w. not (int_eq w.1 (pos 0))) rs)
                (and_from (ascends (form_at fs 0).compare (firsts rs))
                (list_all (form_at fs 0).is_normal (firsts rs)) s.ascending
                (s.taken (form_at fs 0).is_normal (firsts_all (form_at fs 0).is_normal vs us z
                (λ v r c. c.normal))))
                s.nonzero,
            (λ i. same_weights e (entries_in (out i)) (entries_map b v i))
                ∙ ap (λ y. same_weights e rs (map (λ w. (relabelled b w.0, w.1)) (entries_in y))) o
                ∙ (same_weights-Decides e first.is rs (map (λ w. (relabelled b w.0, w.1)) vs)).1
                same,
            (λ m a. range_by m r (Value-F.Weights rs) out (list_all-map (λ (w : Bool × ℤ). w.0)
                (λ (w : Value × ℤ). (states_below m w.0, w.1)) rs
                ∙ sym (list_all-map (states_below m) (λ (w : Value × ℤ). w.0) rs)
                ∙ s.taken (states_below m) (firsts_all (states_below m) vs us z
                (λ v r c. c.in_range m a)))),
          )

      -- weights are relabelled by their sums
      pub weights_step : (m : Node) (v : Value) (vs us rs : List (Value × ℤ))
          → out-Value v ≡ Value-F.Weights vs → fits_step m xs v ≡ true → AllZip IsEntry vs us
          → IsTotalOf (form_at fs 0).compare the_sum us rs → IsStep m v (value.Weights rs)
      weights_step Bag v vs us rs o h z s = let w = weighted_step v vs us rs o z s in
          record {
            fitting = bag_weighted xs (out-Value (value.Weights rs))
                ∙ w.0;
            normal = w.1;
            equal = w.2;
            in_range = w.3;
          }
      weights_step Distribution v vs us rs o h z s = let w = weighted_step v vs us rs o z s in
          record {
            fitting = distribution_weighted xs (out-Value (value.Weights rs))
                ∙ w.0;
            normal = w.1;
            equal = w.2;
            in_range = w.3;
          }
      weights_step Integers v vs us rs o h z s = let w = weighted_step v vs us rs o z s in
          record {
            fitting = integers_weighted xs (out-Value (value.Weights rs))
                ∙ w.0;
            normal = w.1;
            equal = w.2;
            in_range = w.3;
          }
      weights_step Rationals v vs us rs o h z s = let w = weighted_step v vs us rs o z s in
          record {
            fitting = rationals_weighted xs (out-Value (value.Weights rs))
                ∙ w.0;
            normal = w.1;
            equal = w.2;
            in_range = w.3;
          }
      weights_step State v vs us rs o h z s = absurd (true≢false (sym h
          ∙ ap (fits_level State xs) o))
      weights_step (Constant labels) v vs us rs o h z s = absurd (true≢false (sym h
          ∙ ap (fits_level (Constant labels) xs) o))
      weights_step Naturals v vs us rs o h z s = absurd (true≢false (sym h
          ∙ ap (fits_level Naturals xs) o))
      weights_step Product v vs us rs o h z s = absurd (true≢false (sym h
          ∙ ap (fits_level Product xs) o))
      weights_step Sum v vs us rs o h z s = absurd (true≢false (sym h ∙ ap (fits_level Sum xs) o))
      weights_step (Power labels) v vs us rs o h z s = absurd (true≢false (sym h
          ∙ ap (fits_level (Power labels) xs) o))
      weights_step Powerset v vs us rs o h z s = absurd (true≢false (sym h
          ∙ ap (fits_level Powerset xs) o))

  -- a product: each part at its own child
  module _ (t : Nodes) where
    abbrev pub ArePlaces : List ℕ → List Value → List Value → Type 0
    ArePlaces qs vs rs = Zip3 (IsRelabelledAt t b) qs vs rs

    places_fit : (qs : List ℕ) (vs rs : List Value) → ArePlaces qs vs rs
        → each_fits (map (fits t) qs) rs ≡ true
    places_fit [] [] [] z = refl
    places_fit [] [] (r ∷ rs) z = absurd z
    places_fit [] (v ∷ vs) rs z = absurd z
    places_fit (q ∷ qs) [] rs z = absurd z
    places_fit (q ∷ qs) (v ∷ vs) [] z = absurd z
    places_fit (q ∷ qs) (v ∷ vs) (r ∷ rs) z = and_from (fits t q r) (each_fits (map (fits t) qs) rs)
        z.0.fitting (places_fit qs vs rs z.1)

    places_normal : (qs : List ℕ) (vs rs : List Value) → ArePlaces qs vs rs
        → each_normal (map (form t) qs) rs ≡ true
    places_normal [] [] [] z = refl
    places_normal [] [] (r ∷ rs) z = absurd z
    places_normal [] (v ∷ vs) rs z = absurd z
    places_normal (q ∷ qs) [] rs z = absurd z
    places_normal (q ∷ qs) (v ∷ vs) [] z = absurd z
    places_normal (q ∷ qs) (v ∷ vs) (r ∷ rs) z = and_from ((form t q).is_normal r)
        (each_normal (map (form t) qs) rs) z.0.normal (places_normal qs vs rs z.1)

    places_equal : (qs : List ℕ) (vs rs : List Value) → ArePlaces qs vs rs
        → each_place (map (are_equal t) qs) rs (map (relabelled b) vs) ≡ true
    places_equal [] [] [] z = refl
    places_equal [] [] (r ∷ rs) z = absurd z
    places_equal [] (v ∷ vs) rs z = absurd z
    places_equal (q ∷ qs) [] rs z = absurd z
    places_equal (q ∷ qs) (v ∷ vs) [] z = absurd z
    places_equal (q ∷ qs) (v ∷ vs) (r ∷ rs) z = and_from (are_equal t q r (relabelled b v))
        (each_place (map (are_equal t) qs) rs (map (relabelled b) vs)) z.0.equal
        (places_equal qs vs rs z.1)

    places_range : (qs : List ℕ) (vs rs : List Value) → ArePlaces qs vs rs → (m : ℕ)
        → list_all (λ j. nat_lt j m) b ≡ true → list_all (states_below m) rs ≡ true
    places_range [] [] [] z m a = refl
    places_range [] [] (r ∷ rs) z m a = absurd z
    places_range [] (v ∷ vs) rs z m a = absurd z
    places_range (q ∷ qs) [] rs z m a = absurd z
    places_range (q ∷ qs) (v ∷ vs) [] z m a = absurd z
    places_range (q ∷ qs) (v ∷ vs) (r ∷ rs) z m a = and_from (states_below m r)
        (list_all (states_below m) rs) (z.0.in_range m a) (places_range qs vs rs z.1 m a)

    -- a tuple of a product is relabelled place by place
    pub product_step : (qs : List ℕ) (v : Value) (vs rs : List Value)
        → out-Value v ≡ Value-F.Tuple vs → ArePlaces qs vs rs
        → IsRelabelled (fits_step Product (map (fits t) qs)) (form_step Product (map (form t) qs))
        (eq_step Product (map (are_equal t) qs)) b v (value.Tuple rs)
    product_step qs v vs rs o z =
        let r : Value = value.Tuple rs in
        let out : out-Value r ≡ Value-F.Tuple rs = outs-Tuple rs in
        record {
          fitting = ap (fits_level Product (map (fits t) qs)) out ∙ places_fit qs vs rs z;
          normal = ap (λ y. each_normal (map (form t) qs) (parts_in y)) out
              ∙ places_normal qs vs rs z;
          equal = (λ i. each_place (map (are_equal t) qs) (parts_in (out i)) (parts_map b v i))
              ∙ ap (λ y. each_place (map (are_equal t) qs) rs (map (relabelled b) (parts_in y))) o
              ∙ places_equal qs vs rs z;
          in_range = λ m a. range_by m r (Value-F.Tuple rs) out
              (list_all-map (λ c. c) (states_below m) rs ∙ places_range qs vs rs z m a);
        }
