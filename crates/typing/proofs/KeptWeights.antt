-- A normal form keeps what the weights of the relabelled value hold to.
use Rattle.std.proofs.Common.{◌≡◌, ℕ, zero, suc, ◌+◌, ◌-◌, Bool, true, false, not, ◌&&◌, ◌||◌, List, [], ◌∷◌, length, map, Option, Some, None, slice_get, refl, sym, ap, ◌∙◌, subst, true≢false, arith, ⊎_elim}
use Rattle.std.specs.Prelude.{ℤ, pos, ◌==◌, nat_le, int_lt, unsigned_abs, if◌then◌else◌}
use Rattle.std.specs.declared.cmp.Ordering.TheVariants.{Equal}
use Rattle.std.specs.Ordering.{is_lt, int_eq}
use Rattle.std.specs.Option.{option_map_or}
use Rattle.std.specs.Cmp.{tied_itself}
use Rattle.std.specs.Cmp.Lexicographic.{pointwise}
use Rattle.std.specs.List.{list_all, list_any, sum_by}
use Rattle.std.proofs.lemmas.Bool.{and_parts, and_from, or_cases, eqb-true, leb-true, le-leb}
use Rattle.std.proofs.lemmas.Bool.Decides.{Decides-int_eq}
use Rattle.std.proofs.lemmas.List.Folds.{list_all-map}
use Rattle.std.proofs.lemmas.List.Sums.{sum_by-cons}
use Rattle.functor_terms.specs.declared.node.Node.{Node}
use Rattle.functor_terms.specs.declared.node.Node.TheVariants.{State, Constant, Naturals, Product, Sum, Power, Powerset, Bag, Distribution, Integers, Rationals}
use Rattle.functor_terms.specs.declared.node.Branch.{Branch}
use Rattle.functor_terms.specs.declared.node.LabelSet.{LabelSet}
use Rattle.functor_terms.specs.Terms.{Nodes, fold_within, fold}
use Rattle.typing.specs.declared.value.Value.{Value, Value-F, out-Value, fold_out-Value, map-Value}
use Rattle.typing.specs.Values.{index, inner, inner_in, parts, parts_in, entries, entries_in, relabelled}
use Rattle.typing.specs.Equality.{Test, no_test, test_at, each_place, has, weight_of, plus_at, same_weights, eq_step, are_equal}
use Rattle.typing.specs.Bounds.{absolute_sum, within_step, is_within, are_positive, are_from_zero, joint_weight, each_holds, entries_hold, sums_step, weights_step, any_weights, sums_hold, weights_hold}
use Rattle.typing.specs.Fits.{Check, no_check, check_at, each_fits, fits_level, fits_step, fits}
use Rattle.typing.specs.Order.{Form, no_form, form_at, ascends, each_normal, is_normal_list, is_normal_sum, form_step, form}
use Rattle.typing.specs.NormalForms.{IsRelabelledAt}
use Rattle.typing.proofs.Tests.{same_weights-Decides, weight_of-none}
use Rattle.typing.proofs.MapLaws.{parts_map, index_map, inner_map, entries_map}
use Rattle.typing.proofs.NormalLaws.{IsCanonical, none_canonical, step_canonical, set_shape, product_shape, power_shape, sum_shape, weight_shape, IsWeighted, bag_weighted, distribution_weighted, integers_weighted, rationals_weighted}
use Rattle.functor_terms.specs.Lists.{Zip3}
use Rattle.typing.proofs.WeightTests.{positive-from_zero, sums-weaker}
use Rattle.typing.proofs.WeightSums.{AreApart, AreOwn, own, own_in, own_positive, absolute_least, joint_same}
use Rattle.typing.proofs.Ascending.{lt_is, less_equal, below_all, rest_ascends}

-- five lists, place by place
abbrev Zip5 :
    {A B C D E : Type 0} → (A → B → C → D → E → Type 0) →
    List A → List B → List C → List D → List E → Type 0
Zip5 R [] [] [] [] [] = Unit {0}
Zip5 R (x ∷ xs) (y ∷ ys) (z ∷ zs) (w ∷ ws) (v ∷ vs) = R x y z w v × Zip5 R xs ys zs ws vs
Zip5 R _ _ _ _ _ = ⊥

module _ {X A B C D E : Type 0} (R : A → B → C → D → E → Type 0)
    (f : X → A) (g : X → B) (h : X → C) (i : X → D) (j : X → E)
    (k : (x : X) → R (f x) (g x) (h x) (i x) (j x)) where
  zip5_images : (xs : List X) → Zip5 R (map f xs) (map g xs) (map h xs) (map i xs) (map j xs)
  zip5_images [] = tt
  zip5_images (x ∷ xs) = (k x, zip5_images xs)

-- what five steps keep holds between five folds
module _ {A B C D E : Type 0} (R : A → B → C → D → E → Type 0)
    (a : A) (b : B) (c : C) (d : D) (e : E)
    (f : Node → List A → A) (g : Node → List B → B) (h : Node → List C → C)
    (i : Node → List D → D) (j : Node → List E → E) (at_other : R a b c d e)
    (keeps : (m : Node) (xs : List A) (ys : List B) (zs : List C) (ws : List D) (vs : List E)
    → Zip5 R xs ys zs ws vs → R (f m xs) (g m ys) (h m zs) (i m ws) (j m vs))
    (t : Nodes) where
  abbrev IsKept : ℕ → ℕ → Type 0
  IsKept n p =
      R (fold_within a f t n p) (fold_within b g t n p) (fold_within c h t n p)
      (fold_within d i t n p) (fold_within e j t n p)

  abbrev taken : {X : Type 0} → X → (Node → List X → X) → ℕ → Option Branch → X
  taken other step n o =
      option_map_or (λ y. step y.node (map (fold_within other step t n) y.children)) o other

  within-related5 : (n p : ℕ) → IsKept n p
  within-related5 zero p = at_other
  within-related5 (suc n) p = by (within-related5 n) (slice_get t p)
    where
      by :
          ((q : ℕ) → IsKept n q) → (o : Option Branch)
          → R (taken a f n o) (taken b g n o) (taken c h n o) (taken d i n o) (taken e j n o)
      by below None = at_other
      by below (Some y) =
          keeps y.node _ _ _ _ _
          (zip5_images R (fold_within a f t n) (fold_within b g t n) (fold_within c h t n)
          (fold_within d i t n) (fold_within e j t n) below y.children)

  fold-related5 : (p : ℕ) → R (fold a f t p) (fold b g t p) (fold c h t p) (fold d i t p)
      (fold e j t p)
  fold-related5 p = within-related5 (length t) p

-- a value is within a bound where each of its parts is
module _ (n : ℕ) where
  -- whether a layer is within the bound
  abbrev pub layer_within : Value-F Value → Bool
  layer_within x = within_step n (map-Value Value Bool (is_within n) x)

  -- the bound, layer by layer
  pub within_out : (v : Value) → is_within n v ≡ layer_within (out-Value v)
  within_out v = fold_out-Value Bool (within_step n) v

  -- the parts of a value are within the bound
  pub parts_within : (v : Value) → is_within n v ≡ true → list_all (is_within n) (parts v) ≡ true
  parts_within v h = by (out-Value v) (sym (within_out v) ∙ h)
    where
      by : (x : Value-F Value) → layer_within x ≡ true → list_all (is_within n) (parts_in x) ≡ true
      by (Value-F.Tuple vs) h = sym (list_all-map (λ b. b) (is_within n) vs) ∙ h
      by (Value-F.Set vs) h = sym (list_all-map (λ b. b) (is_within n) vs) ∙ h
      by (Value-F.State i) h = refl
      by (Value-F.Label k) h = refl
      by (Value-F.Inj k v) h = refl
      by (Value-F.Weights es) h = refl

  -- the value in an injection is within the bound
  pub inner_within : (v : Value) → is_within n v ≡ true → is_within n (inner v) ≡ true
  inner_within v h = by (out-Value v) (sym (within_out v) ∙ h)
    where
      by : (x : Value-F Value) → layer_within x ≡ true → is_within n (inner_in v x) ≡ true
      by (Value-F.Tuple vs) e = h
      by (Value-F.Set vs) e = h
      by (Value-F.State i) e = h
      by (Value-F.Label k) e = h
      by (Value-F.Inj k v) e = e
      by (Value-F.Weights es) e = h

  abbrev tested : List (Value × ℤ) → List (Bool × ℤ)
  tested es = map (λ e. (is_within n e.0, e.1)) es

  tested_sum : (es : List (Value × ℤ))
      → sum_by (λ e. unsigned_abs e.1) (tested es) ≡ absolute_sum es
  tested_sum [] = refl
  tested_sum (e ∷ es) = sum_by-cons (λ (w : Bool × ℤ). unsigned_abs w.1) (is_within n e.0, e.1)
      (tested es) ∙ (λ i. unsigned_abs e.1 + tested_sum es i)
      ∙ sym (sum_by-cons (λ (w : Value × ℤ). unsigned_abs w.1) e es)

  -- the elements and the weights of what is within a bound are
  pub entries_within : (v : Value) → is_within n v ≡ true
      → (list_all (λ e. is_within n e.0) (entries v) ≡ true)
      × (nat_le (absolute_sum (entries v)) n ≡ true)
  entries_within v h = by (out-Value v) (sym (within_out v) ∙ h)
    where
      none : nat_le 0 n ≡ true
      none = le-leb 0 n (omega arith)

      by : (x : Value-F Value) → layer_within x ≡ true
          → (list_all (λ e. is_within n e.0) (entries_in x) ≡ true)
          × (nat_le (absolute_sum (entries_in x)) n ≡ true)
      by (Value-F.Tuple vs) h = (refl, none)
      by (Value-F.Set vs) h = (refl, none)
      by (Value-F.State i) h = (refl, none)
      by (Value-F.Label k) h = (refl, none)
      by (Value-F.Inj k v) h = (refl, none)
      by (Value-F.Weights es) h =
          let p = and_parts (list_all (λ (e : Bool × ℤ). e.0) (tested es))
          (nat_le (sum_by (λ (e : Bool × ℤ). unsigned_abs e.1) (tested es)) n) h in (
            sym (list_all-map (λ (e : Bool × ℤ). e.0) (λ (e : Value × ℤ). (is_within n e.0, e.1))
                es)
                ∙ p.0,
            sym (ap (λ k. nat_le k n) (tested_sum es)) ∙ p.1,
          )

  at_level : (v : Value) (x : Value-F Value) → out-Value v ≡ x → layer_within x ≡ true
      → is_within n v ≡ true
  at_level v x o h = within_out v ∙ ap layer_within o ∙ h

  -- a tuple is within the bound where its parts are
  pub within_tuple : (v : Value) (vs : List Value) → out-Value v ≡ Value-F.Tuple vs
      → list_all (is_within n) vs ≡ true → is_within n v ≡ true
  within_tuple v vs o h = at_level v (Value-F.Tuple vs) o
      (list_all-map (λ b. b) (is_within n) vs ∙ h)

  -- a set is within the bound where its members are
  pub within_set : (v : Value) (vs : List Value) → out-Value v ≡ Value-F.Set vs
      → list_all (is_within n) vs ≡ true → is_within n v ≡ true
  within_set v vs o h = at_level v (Value-F.Set vs) o (list_all-map (λ b. b) (is_within n) vs ∙ h)

  -- an injection is within the bound where its value is
  pub within_inner : (v : Value) (k : ℕ) (w : Value) → out-Value v ≡ Value-F.Inj k w
      → is_within n w ≡ true → is_within n v ≡ true
  within_inner v k w o h = at_level v (Value-F.Inj k w) o h

  -- weights are within the bound where elements and sum are
  pub within_entries : (v : Value) (es : List (Value × ℤ)) → out-Value v ≡ Value-F.Weights es
      → list_all (λ e. is_within n e.0) es ≡ true → nat_le (absolute_sum es) n ≡ true
      → is_within n v ≡ true
  within_entries v es o h k =
      at_level v (Value-F.Weights es) o
      (and_from (list_all (λ (e : Bool × ℤ). e.0) (tested es))
      (nat_le (sum_by (λ (e : Bool × ℤ). unsigned_abs e.1) (tested es)) n)
      (list_all-map (λ (e : Bool × ℤ). e.0) (λ (e : Value × ℤ). (is_within n e.0, e.1)) es ∙ h)
      (ap (λ k. nat_le k n) (tested_sum es) ∙ k))

-- the values of normal entries are no two equal
module _ (x : Check) (f : Form) (e : Test) (c : IsCanonical x f e) where
  abbrev IsGood : Value → Type 0
  IsGood v = (x v ≡ true) × (f.is_normal v ≡ true)

  not_above : (a w : Value) → IsGood a → IsGood w → is_lt (f.compare a w) ≡ true → e w a ≡ false
  not_above a w ga gw h = by (e w a) refl
    where
      by : (b : Bool) → e w a ≡ b → b ≡ false
      by true q = absurd (less_equal (f.compare a w) (lt_is (f.compare a w) h)
          (subst (λ y. f.compare a y ≡ Equal) (sym (c.unique w a gw.0 ga.0 gw.1 ga.1 q))
          (tied_itself c.ordered.total a)))
      by false q = refl

  abbrev firsts : List (Value × ℤ) → List Value
  firsts es = map (λ w. w.0) es

  none_equal : (a : Value) (us : List (Value × ℤ)) → IsGood a → list_all (λ w. x w.0) us ≡ true
      → list_all f.is_normal (firsts us) ≡ true
      → list_all (λ w. is_lt (f.compare a w)) (firsts us) ≡ true
      → list_any (λ w. e w.0 a) us ≡ false
  none_equal a [] g hx hn h = refl
  none_equal a (u ∷ us) g hx hn h =
      let p = and_parts (x u.0) (list_all (λ w. x w.0) us) hx in
      let q = and_parts (f.is_normal u.0) (list_all f.is_normal (firsts us)) hn in
      let r = and_parts (is_lt (f.compare a u.0))
      (list_all (λ w. is_lt (f.compare a w)) (firsts us)) h in
      (λ i. not_above a u.0 g (p.0, q.0) r.0 i || none_equal a us g p.1 q.1 r.1 i)

  apart : (us : List (Value × ℤ)) → list_all (λ w. x w.0) us ≡ true
      → list_all f.is_normal (firsts us) ≡ true → ascends f.compare (firsts us) ≡ true
      → AreApart e c.is us
  apart [] hx hn h = tt
  apart (u ∷ us) hx hn h =
      let p = and_parts (x u.0) (list_all (λ w. x w.0) us) hx in
      let q = and_parts (f.is_normal u.0) (list_all f.is_normal (firsts us)) hn in (
        none_equal u.0 us (p.0, q.0) p.1 q.1 (below_all f.compare c.ordered.total u.0 (firsts us) h),
        apart us p.1 q.1 (rest_ascends f.compare c.ordered.total u.0 (firsts us) h),
      )

-- entries with their states replaced
abbrev onto : List ℕ → List (Value × ℤ) → List (Value × ℤ)
onto b vs = map (λ w. (relabelled b w.0, w.1)) vs

onto_size : (b : List ℕ) (vs : List (Value × ℤ)) → absolute_sum (onto b vs) ≡ absolute_sum vs
onto_size b [] = refl
onto_size b (v ∷ vs) = sum_by-cons (λ (w : Value × ℤ). unsigned_abs w.1) (relabelled b v.0, v.1)
    (onto b vs) ∙ ap (λ k. unsigned_abs v.1 + k) (onto_size b vs)
    ∙ sym (sum_by-cons (λ (w : Value × ℤ). unsigned_abs w.1) v vs)

onto_joint : (b : List ℕ) (vs : List (Value × ℤ))
    → joint_weight Distribution (onto b vs) ≡ joint_weight Distribution vs
onto_joint b [] = refl
onto_joint b (v ∷ vs) = ap (plus_at Distribution v.1) (onto_joint b vs)

-- d is the common denominator, n bounds absolute sums, and states are replaced by b
module _ (d n : ℕ) (b : List ℕ) where
  -- where a value passes g, a normal value that is equal to it once states are replaced passes h
  abbrev Carries : Check → Form → Test → Check → Check → Type 0
  Carries x f e g h =
      (r v : Value) → x r ≡ true → f.is_normal r ≡ true → e r (relabelled b v) ≡ true
      → g v ≡ true → h r ≡ true

  -- where no weight is below 0, none of the normal value is 0 or below; and bounds stay
  record Keeps (x : Check) (f : Form) (e : Test) (g h : Check) : Type 0 where
    pub canonical : IsCanonical x f e
    pub weights : Carries x f e g h
    pub bounds : Carries x f e (is_within n) (is_within n)

  none_keeps : (g h : Check) → Keeps no_check no_form no_test g h
  none_keeps g h = record {
    canonical = none_canonical;
    weights = λ r v k. absurd (true≢false (sym k));
    bounds = λ r v k. absurd (true≢false (sym k));
  }

  abbrev KeepAll : List Check → List Form → List Test → List Check → List Check → Type 0
  KeepAll = Zip5 Keeps

  at_keeps :
      (xs : List Check) (fs : List Form) (es : List Test) (gs hs : List Check) (k : ℕ)
      → KeepAll xs fs es gs hs
      → Keeps (check_at xs k) (form_at fs k) (test_at es k) (check_at gs k) (check_at hs k)
  at_keeps [] [] [] [] [] k z = none_keeps no_check no_check
  at_keeps [] [] [] [] (h ∷ hs) k z = absurd z
  at_keeps [] [] [] (g ∷ gs) hs k z = absurd z
  at_keeps [] [] (e ∷ es) gs hs k z = absurd z
  at_keeps [] (f ∷ fs) es gs hs k z = absurd z
  at_keeps (x ∷ xs) [] es gs hs k z = absurd z
  at_keeps (x ∷ xs) (f ∷ fs) [] gs hs k z = absurd z
  at_keeps (x ∷ xs) (f ∷ fs) (e ∷ es) [] hs k z = absurd z
  at_keeps (x ∷ xs) (f ∷ fs) (e ∷ es) (g ∷ gs) [] k z = absurd z
  at_keeps (x ∷ xs) (f ∷ fs) (e ∷ es) (g ∷ gs) (h ∷ hs) k z =
      by (k == 0) (at_keeps xs fs es gs hs (k - 1) z.1)
    where
      by :
          (o : Bool)
          → Keeps (check_at xs (k - 1)) (form_at fs (k - 1)) (test_at es (k - 1))
          (check_at gs (k - 1)) (check_at hs (k - 1))
          → Keeps (if o then x else check_at xs (k - 1)) (if o then f else form_at fs (k - 1))
          (if o then e else test_at es (k - 1)) (if o then g else check_at gs (k - 1))
          (if o then h else check_at hs (k - 1))
      by true later = z.0
      by false later = later

  all_canonical :
      (xs : List Check) (fs : List Form) (es : List Test) (gs hs : List Check)
      → KeepAll xs fs es gs hs → Zip3 IsCanonical xs fs es
  all_canonical [] [] [] [] [] z = tt
  all_canonical [] [] [] [] (h ∷ hs) z = absurd z
  all_canonical [] [] [] (g ∷ gs) hs z = absurd z
  all_canonical [] [] (e ∷ es) gs hs z = absurd z
  all_canonical [] (f ∷ fs) es gs hs z = absurd z
  all_canonical (x ∷ xs) [] es gs hs z = absurd z
  all_canonical (x ∷ xs) (f ∷ fs) [] gs hs z = absurd z
  all_canonical (x ∷ xs) (f ∷ fs) (e ∷ es) [] hs z = absurd z
  all_canonical (x ∷ xs) (f ∷ fs) (e ∷ es) (g ∷ gs) [] z = absurd z
  all_canonical (x ∷ xs) (f ∷ fs) (e ∷ es) (g ∷ gs) (h ∷ hs) z =
      (z.0.canonical, all_canonical xs fs es gs hs z.1)

  -- lists, element by element
  module _ (x : Check) (f : Form) (e : Test) (c : IsCanonical x f e) (g o : Check)
      (k : Carries x f e g o) where
    list_kept : (rs vs : List Value) → list_all x rs ≡ true → list_all f.is_normal rs ≡ true
        → pointwise e rs (map (relabelled b) vs) ≡ true → list_all g vs ≡ true
        → list_all o rs ≡ true
    list_kept [] vs hx hn h hg = refl
    list_kept (r ∷ rs) [] hx hn h hg = absurd (true≢false (sym h))
    list_kept (r ∷ rs) (v ∷ vs) hx hn h hg =
        let p = and_parts (x r) (list_all x rs) hx in
        let q = and_parts (f.is_normal r) (list_all f.is_normal rs) hn in
        let s = and_parts (e r (relabelled b v)) (pointwise e rs (map (relabelled b) vs)) h in
        let t = and_parts (g v) (list_all g vs) hg in
        and_from (o r) (list_all o rs) (k r v p.0 q.0 s.0 t.0) (list_kept rs vs p.1 q.1 s.1 t.1)

    found : (r : Value) (vs : List Value) → has e (map (relabelled b) vs) r ≡ true
        → list_all g vs ≡ true → (v : Value) × (e r (relabelled b v) ≡ true) × (g v ≡ true)
    found r [] h hg = absurd (true≢false (sym h))
    found r (v ∷ vs) h hg =
        let t = and_parts (g v) (list_all g vs) hg in
        ⊎_elim (λ here. (v, c.is.symm r (relabelled b v) ∙ here, t.0))
        (λ later. found r vs later t.1)
        (or_cases (e (relabelled b v) r) (has e (map (relabelled b) vs) r) h)

    set_kept : (rs vs : List Value) → list_all x rs ≡ true → list_all f.is_normal rs ≡ true
        → list_all (has e (map (relabelled b) vs)) rs ≡ true → list_all g vs ≡ true
        → list_all o rs ≡ true
    set_kept [] vs hx hn h hg = refl
    set_kept (r ∷ rs) vs hx hn h hg =
        let p = and_parts (x r) (list_all x rs) hx in
        let q = and_parts (f.is_normal r) (list_all f.is_normal rs) hn in
        let s = and_parts (has e (map (relabelled b) vs) r)
        (list_all (has e (map (relabelled b) vs)) rs) h in
        let (v, same, holds) = found r vs s.0 hg in
        and_from (o r) (list_all o rs) (k r v p.0 q.0 same holds) (set_kept rs vs p.1 q.1 s.1 hg)

    moved_has : (a : Value) (vs : List (Value × ℤ)) → list_any (λ w. e w.0 a) (onto b vs) ≡ true
        → list_all (λ w. g w.0) vs ≡ true
        → (v : Value) × (e a (relabelled b v) ≡ true) × (g v ≡ true)
    moved_has a [] h hg = absurd (true≢false (sym h))
    moved_has a (v ∷ vs) h hg =
        let t = and_parts (g v.0) (list_all (λ w. g w.0) vs) hg in
        ⊎_elim (λ here. (v.0, c.is.symm a (relabelled b v.0) ∙ here, t.0))
        (λ later. moved_has a vs later t.1)
        (or_cases (e (relabelled b v.0) a) (list_any (λ w. e w.0 a) (onto b vs)) h)

    -- an entry that has a weight has an equal one among the others
    entry_found : (a : Value × ℤ) (vs : List (Value × ℤ)) → weight_of e (onto b vs) a.0 ≡ a.1
        → not (int_eq a.1 (pos 0)) ≡ true → list_all (λ w. g w.0) vs ≡ true
        → (v : Value) × (e a.0 (relabelled b v) ≡ true) × (g v ≡ true)
    entry_found a vs same nonzero hg = by (list_any (λ w. e w.0 a.0) (onto b vs)) refl
      where
        by : (c : Bool) → list_any (λ w. e w.0 a.0) (onto b vs) ≡ c
            → (v : Value) × (e a.0 (relabelled b v) ≡ true) × (g v ≡ true)
        by true q = moved_has a.0 vs q hg
        by false q = absurd (true≢false (sym nonzero ∙ ap not
            ((Decides-int_eq a.1 (pos 0)).1 (sym same ∙ weight_of-none e c.is (onto b vs) a.0 q))))

    entries_kept : (rs vs : List (Value × ℤ)) → list_all (λ w. x w.0) rs ≡ true
        → list_all f.is_normal (map (λ w. w.0) rs) ≡ true
        → list_all (λ w. not (int_eq w.1 (pos 0))) rs ≡ true → AreOwn e c.is (onto b vs) rs
        → list_all (λ w. g w.0) vs ≡ true → list_all (λ w. o w.0) rs ≡ true
    entries_kept [] vs hx hn hz h hg = refl
    entries_kept (r ∷ rs) vs hx hn hz h hg =
        let p = and_parts (x r.0) (list_all (λ w. x w.0) rs) hx in
        let q = and_parts (f.is_normal r.0) (list_all f.is_normal (map (λ w. w.0) rs)) hn in
        let z = and_parts (not (int_eq r.1 (pos 0)))
        (list_all (λ w. not (int_eq w.1 (pos 0))) rs) hz in
        let (v, same, holds) = entry_found r vs h.0 z.0 hg in
        and_from (o r.0) (list_all (λ w. o w.0) rs) (k r.0 v p.0 q.0 same holds)
        (entries_kept rs vs p.1 q.1 z.1 h.1 hg)

  -- places, each by its own
  places_kept :
      (xs : List Check) (fs : List Form) (es : List Test) (gs hs : List Check)
      → KeepAll xs fs es gs hs → (rs vs : List Value)
      → each_fits xs rs ≡ true → each_normal fs rs ≡ true
      → each_place es rs (map (relabelled b) vs) ≡ true
      → each_holds gs vs ≡ true → each_holds hs rs ≡ true
  places_kept [] [] [] [] [] z rs vs hx hn k hg = refl
  places_kept [] [] [] [] (h ∷ hs) z rs vs hx hn k hg = absurd z
  places_kept [] [] [] (g ∷ gs) hs z rs vs hx hn k hg = absurd z
  places_kept [] [] (e ∷ es) gs hs z rs vs hx hn k hg = absurd z
  places_kept [] (f ∷ fs) es gs hs z rs vs hx hn k hg = absurd z
  places_kept (x ∷ xs) [] es gs hs z rs vs hx hn k hg = absurd z
  places_kept (x ∷ xs) (f ∷ fs) [] gs hs z rs vs hx hn k hg = absurd z
  places_kept (x ∷ xs) (f ∷ fs) (e ∷ es) [] hs z rs vs hx hn k hg = absurd z
  places_kept (x ∷ xs) (f ∷ fs) (e ∷ es) (g ∷ gs) [] z rs vs hx hn k hg = absurd z
  places_kept (x ∷ xs) (f ∷ fs) (e ∷ es) (g ∷ gs) (h ∷ hs) z [] vs hx hn k hg = refl
  places_kept (x ∷ xs) (f ∷ fs) (e ∷ es) (g ∷ gs) (h ∷ hs) z (r ∷ rs) [] hx hn k hg =
      absurd (true≢false (sym k))
  places_kept (x ∷ xs) (f ∷ fs) (e ∷ es) (g ∷ gs) (h ∷ hs) z (r ∷ rs) (v ∷ vs) hx hn k hg =
      let p = and_parts (x r) (each_fits xs rs) hx in
      let q = and_parts (f.is_normal r) (each_normal fs rs) hn in
      let s = and_parts (e r (relabelled b v)) (each_place es rs (map (relabelled b) vs)) k in
      let t = and_parts (g v) (each_holds gs vs) hg in
      and_from (h r) (each_holds hs rs) (z.0.weights r v p.0 q.0 s.0 t.0)
      (places_kept xs fs es gs hs z.1 rs vs p.1 q.1 s.1 t.1)

  places_bound :
      (xs : List Check) (fs : List Form) (es : List Test) (gs hs : List Check)
      → KeepAll xs fs es gs hs → (rs vs : List Value)
      → each_fits xs rs ≡ true → each_normal fs rs ≡ true
      → each_place es rs (map (relabelled b) vs) ≡ true
      → list_all (is_within n) vs ≡ true → list_all (is_within n) rs ≡ true
  places_bound [] [] [] [] [] z [] vs hx hn k hg = refl
  places_bound [] [] [] [] [] z (r ∷ rs) vs hx hn k hg = absurd (true≢false (sym hx))
  places_bound [] [] [] [] (h ∷ hs) z rs vs hx hn k hg = absurd z
  places_bound [] [] [] (g ∷ gs) hs z rs vs hx hn k hg = absurd z
  places_bound [] [] (e ∷ es) gs hs z rs vs hx hn k hg = absurd z
  places_bound [] (f ∷ fs) es gs hs z rs vs hx hn k hg = absurd z
  places_bound (x ∷ xs) [] es gs hs z rs vs hx hn k hg = absurd z
  places_bound (x ∷ xs) (f ∷ fs) [] gs hs z rs vs hx hn k hg = absurd z
  places_bound (x ∷ xs) (f ∷ fs) (e ∷ es) [] hs z rs vs hx hn k hg = absurd z
  places_bound (x ∷ xs) (f ∷ fs) (e ∷ es) (g ∷ gs) [] z rs vs hx hn k hg = absurd z
  places_bound (x ∷ xs) (f ∷ fs) (e ∷ es) (g ∷ gs) (h ∷ hs) z [] vs hx hn k hg = refl
  places_bound (x ∷ xs) (f ∷ fs) (e ∷ es) (g ∷ gs) (h ∷ hs) z (r ∷ rs) [] hx hn k hg =
      absurd (true≢false (sym k))
  places_bound (x ∷ xs) (f ∷ fs) (e ∷ es) (g ∷ gs) (h ∷ hs) z (r ∷ rs) (v ∷ vs) hx hn k hg =
      let p = and_parts (x r) (each_fits xs rs) hx in
      let q = and_parts (f.is_normal r) (each_normal fs rs) hn in
      let s = and_parts (e r (relabelled b v)) (each_place es rs (map (relabelled b) vs)) k in
      let t = and_parts (is_within n v) (list_all (is_within n) vs) hg in
      and_from (is_within n r) (list_all (is_within n) rs) (z.0.bounds r v p.0 q.0 s.0 t.0)
      (places_bound xs fs es gs hs z.1 rs vs p.1 q.1 s.1 t.1)

  module _ (xs : List Check) (fs : List Form) (es : List Test) (gs hs : List Check)
      (z : KeepAll xs fs es gs hs) where
    one :
        Keeps (check_at xs 0) (form_at fs 0) (test_at es 0) (check_at gs 0) (check_at hs 0)
    one = at_keeps xs fs es gs hs 0 z

    -- a normal weight list with the weights of another
    record IsSummed (r v : Value) : Type 0 where
      pub out : out-Value r ≡ Value-F.Weights (entries r)
      pub fitting : list_all (λ w. check_at xs 0 w.0) (entries r) ≡ true
      pub normal : list_all (form_at fs 0).is_normal (map (λ w. w.0) (entries r)) ≡ true
      pub nonzero : list_all (λ w. not (int_eq w.1 (pos 0))) (entries r) ≡ true
      pub apart : AreApart (test_at es 0) one.canonical.is (entries r)
      pub same : (a : Value) → weight_of (test_at es 0) (entries r) a
          ≡ weight_of (test_at es 0) (onto b (entries v)) a

    summed : (m : Node) → IsWeighted m → (r v : Value) → fits_step m xs r ≡ true
        → is_normal_sum (form_at fs 0) (entries r) ≡ true
        → same_weights (test_at es 0) (entries r) (entries (relabelled b v)) ≡ true → IsSummed r v
    summed m w r v hx hn h =
        let a = weight_shape xs (out-Value r) (sym (w xs (out-Value r)) ∙ hx) in
        let p = and_parts (is_normal_list (form_at fs 0) (map (λ w. w.0) (entries r)))
        (list_all (λ w. not (int_eq w.1 (pos 0))) (entries r)) hn in
        let q = and_parts (ascends (form_at fs 0).compare (map (λ w. w.0) (entries r)))
        (list_all (form_at fs 0).is_normal (map (λ w. w.0) (entries r))) p.0 in
        record {
          out = a.0;
          fitting = a.1;
          normal = q.1;
          nonzero = p.1;
          apart = apart (check_at xs 0) (form_at fs 0) (test_at es 0) one.canonical
              (entries r) a.1 q.1 q.0;
          same = λ x. (same_weights-Decides (test_at es 0) one.canonical.is (entries r)
              (entries (relabelled b v))).0 h x
              ∙ ap (λ ws. weight_of (test_at es 0) ws x) (entries_map b v);
        }

    module _ (r v : Value) (s : IsSummed r v) where
      owned : AreOwn (test_at es 0) one.canonical.is (onto b (entries v)) (entries r)
      owned = own_in (test_at es 0) one.canonical.is (entries r) (onto b (entries v))
          (entries r) s.same (own (test_at es 0) one.canonical.is (entries r) s.apart)

      each_kept : (g h : Check) → Carries (check_at xs 0) (form_at fs 0) (test_at es 0) g h
          → list_all (λ w. g w.0) (entries v) ≡ true → list_all (λ w. h w.0) (entries r) ≡ true
      each_kept g h k hg = entries_kept (check_at xs 0) (form_at fs 0)
          (test_at es 0) one.canonical g h k (entries r)
          (entries v) s.fitting s.normal s.nonzero owned hg

      positive_kept : are_from_zero (entries v) ≡ true → are_positive (entries r) ≡ true
      positive_kept h =
          own_positive (test_at es 0) one.canonical.is (onto b (entries v)) (entries r)
          (list_all-map (λ (w : Value × ℤ). not (int_lt w.1 (pos 0)))
          (λ (w : Value × ℤ). (relabelled b w.0, w.1)) (entries v) ∙ h) owned s.nonzero

      size_kept : nat_le (absolute_sum (entries v)) n ≡ true
          → nat_le (absolute_sum (entries r)) n ≡ true
      size_kept h =
          le-leb (absolute_sum (entries r)) n
          (omega (
            arith,
            leb-true (absolute_sum (entries v)) n h,
            onto_size b (entries v),
            absolute_least (test_at es 0) one.canonical.is (entries r)
                (onto b (entries v)) s.apart s.same,
          ))

      joint_kept : joint_weight Distribution (entries r) ≡ joint_weight Distribution (entries v)
      joint_kept = joint_same (test_at es 0) one.canonical.is (entries r)
          (onto b (entries v)) s.same ∙ onto_joint b (entries v)

      bound_kept : is_within n v ≡ true → is_within n r ≡ true
      bound_kept h =
          let w = entries_within n v h in
          within_entries n r (entries r) s.out
          (each_kept (is_within n) (is_within n) one.bounds w.0) (size_kept w.1)

    abbrev Step : Node → Check → Check → Type 0
    Step m = Carries (fits_step m xs) (form_step m fs) (eq_step m es)

    -- a part of a sum
    sum_parts : (r v : Value) → fits_step Sum xs r ≡ true → eq_step Sum es r (relabelled b v) ≡ true
        → (index r ≡ index v) × (check_at xs (index r) (inner r) ≡ true)
        × (test_at es (index r) (inner r) (relabelled b (inner v)) ≡ true)
        × (out-Value r ≡ Value-F.Inj (index r) (inner r))
    sum_parts r v hx h =
        let a = sum_shape xs r (out-Value r) hx in
        let k = sym (λ i. (index r == index_map b v i) && test_at es (index r) (inner r)
        (inner_map b v i)) ∙ h in
        let p = and_parts (index r == index v)
        (test_at es (index r) (inner r) (relabelled b (inner v))) k in
        (eqb-true (index r) (index v) p.0, a.1, p.1, a.0)

    weights_kept : (m : Node) → Step m (sums_step are_from_zero d m gs) (weights_step d m hs)
    weights_kept State r v hx hn h hg = refl
    weights_kept (Constant labels) r v hx hn h hg = refl
    weights_kept Naturals r v hx hn h hg = refl
    weights_kept Product r v hx hn h hg =
        places_kept xs fs es gs hs z (parts r) (parts v) (product_shape xs (out-Value r) hx).1 hn
        (sym (ap (each_place es (parts r)) (parts_map b v)) ∙ h) hg
    weights_kept Sum r v hx hn h hg =
        let (same, fit, eq, out) = sum_parts r v hx h in
        (at_keeps xs fs es gs hs (index r) z).weights (inner r) (inner v) fit hn eq
        (subst (λ k. check_at gs k (inner v) ≡ true) (sym same) hg)
    weights_kept (Power labels) r v hx hn h hg =
        list_kept (check_at xs 0) (form_at fs 0) (test_at es 0) one.canonical (check_at gs 0)
        (check_at hs 0) one.weights (parts r) (parts v)
        (power_shape labels xs (out-Value r) hx).1 hn
        (sym (ap (pointwise (test_at es 0) (parts r)) (parts_map b v)) ∙ h) hg
    weights_kept Powerset r v hx hn h hg =
        set_kept (check_at xs 0) (form_at fs 0) (test_at es 0) one.canonical (check_at gs 0)
        (check_at hs 0) one.weights (parts r) (parts v) (set_shape xs (out-Value r) hx).1
        (and_parts (ascends (form_at fs 0).compare (parts r))
        (list_all (form_at fs 0).is_normal (parts r)) hn).1
        (sym (ap (λ vs. list_all (has (test_at es 0) vs) (parts r)) (parts_map b v))
        ∙ (and_parts (list_all (has (test_at es 0) (parts (relabelled b v))) (parts r))
        (list_all (has (test_at es 0) (parts r)) (parts (relabelled b v))) h).0) hg
    weights_kept Bag r v hx hn h hg =
        let s = summed Bag bag_weighted r v hx hn h in
        let p = and_parts (are_from_zero (entries v))
        (entries_hold (check_at gs 0) (entries v)) hg in
        and_from (are_positive (entries r)) (entries_hold (check_at hs 0) (entries r))
        (positive_kept r v s p.0) (each_kept r v s (check_at gs 0) (check_at hs 0) one.weights p.1)
    weights_kept Distribution r v hx hn h hg =
        let s = summed Distribution distribution_weighted r v hx hn h in
        let sums : List (Value × ℤ) → Bool = λ ws. int_eq (joint_weight Distribution ws) (pos d) in
        let p = and_parts (are_from_zero (entries v) && sums (entries v))
        (entries_hold (check_at gs 0) (entries v)) hg in
        let q = and_parts (are_from_zero (entries v)) (sums (entries v)) p.0 in
        and_from (are_positive (entries r) && sums (entries r))
        (entries_hold (check_at hs 0) (entries r))
        (and_from (are_positive (entries r)) (sums (entries r)) (positive_kept r v s q.0)
        (ap (λ k. int_eq k (pos d)) (joint_kept r v s) ∙ q.1))
        (each_kept r v s (check_at gs 0) (check_at hs 0) one.weights p.1)
    weights_kept Integers r v hx hn h hg =
        each_kept r v (summed Integers integers_weighted r v hx hn h) (check_at gs 0)
        (check_at hs 0) one.weights hg
    weights_kept Rationals r v hx hn h hg =
        each_kept r v (summed Rationals rationals_weighted r v hx hn h) (check_at gs 0)
        (check_at hs 0) one.weights hg

    -- a state and a label have no weights
    state_within : (x : Value-F Value) → fits_level State xs x ≡ true → layer_within n x ≡ true
    state_within (Value-F.State i) h = refl
    state_within (Value-F.Label k) h = absurd (true≢false (sym h))
    state_within (Value-F.Tuple vs) h = absurd (true≢false (sym h))
    state_within (Value-F.Inj k v) h = absurd (true≢false (sym h))
    state_within (Value-F.Set vs) h = absurd (true≢false (sym h))
    state_within (Value-F.Weights es) h = absurd (true≢false (sym h))

    label_within : (labels : LabelSet) (x : Value-F Value)
        → fits_level (Constant labels) xs x ≡ true → layer_within n x ≡ true
    label_within labels (Value-F.State i) h = absurd (true≢false (sym h))
    label_within labels (Value-F.Label k) h = refl
    label_within labels (Value-F.Tuple vs) h = absurd (true≢false (sym h))
    label_within labels (Value-F.Inj k v) h = absurd (true≢false (sym h))
    label_within labels (Value-F.Set vs) h = absurd (true≢false (sym h))
    label_within labels (Value-F.Weights es) h = absurd (true≢false (sym h))

    number_within : (x : Value-F Value) → fits_level Naturals xs x ≡ true → layer_within n x ≡ true
    number_within (Value-F.State i) h = absurd (true≢false (sym h))
    number_within (Value-F.Label k) h = refl
    number_within (Value-F.Tuple vs) h = absurd (true≢false (sym h))
    number_within (Value-F.Inj k v) h = absurd (true≢false (sym h))
    number_within (Value-F.Set vs) h = absurd (true≢false (sym h))
    number_within (Value-F.Weights es) h = absurd (true≢false (sym h))

    bounds_kept : (m : Node) → Step m (is_within n) (is_within n)
    bounds_kept State r v hx hn h hg = within_out n r ∙ state_within (out-Value r) hx
    bounds_kept (Constant labels) r v hx hn h hg = within_out n r
        ∙ label_within labels (out-Value r) hx
    bounds_kept Naturals r v hx hn h hg = within_out n r ∙ number_within (out-Value r) hx
    bounds_kept Product r v hx hn h hg =
        let a = product_shape xs (out-Value r) hx in
        within_tuple n r (parts r) a.0 (places_bound xs fs es gs hs z (parts r) (parts v) a.1 hn
        (sym (ap (each_place es (parts r)) (parts_map b v)) ∙ h) (parts_within n v hg))
    bounds_kept Sum r v hx hn h hg =
        let (same, fit, eq, out) = sum_parts r v hx h in
        within_inner n r (index r) (inner r) out
        ((at_keeps xs fs es gs hs (index r) z).bounds (inner r) (inner v) fit hn eq
        (inner_within n v hg))
    bounds_kept (Power labels) r v hx hn h hg =
        let a = power_shape labels xs (out-Value r) hx in
        within_tuple n r (parts r) a.0 (list_kept (check_at xs 0) (form_at fs 0)
        (test_at es 0) one.canonical (is_within n) (is_within n) one.bounds (parts r)
        (parts v) a.1 hn (sym (ap (pointwise (test_at es 0) (parts r)) (parts_map b v)) ∙ h)
        (parts_within n v hg))
    bounds_kept Powerset r v hx hn h hg =
        let a = set_shape xs (out-Value r) hx in
        within_set n r (parts r) a.0 (set_kept (check_at xs 0) (form_at fs 0)
        (test_at es 0) one.canonical (is_within n) (is_within n) one.bounds (parts r)
        (parts v) a.1
        (and_parts (ascends (form_at fs 0).compare (parts r))
        (list_all (form_at fs 0).is_normal (parts r)) hn).1
        (sym (ap (λ vs. list_all (has (test_at es 0) vs) (parts r)) (parts_map b v))
        ∙ (and_parts (list_all (has (test_at es 0) (parts (relabelled b v))) (parts r))
        (list_all (has (test_at es 0) (parts r)) (parts (relabelled b v))) h).0)
        (parts_within n v hg))
    bounds_kept Bag r v hx hn h hg = bound_kept r v (summed Bag bag_weighted r v hx hn h) hg
    bounds_kept Distribution r v hx hn h hg =
        bound_kept r v (summed Distribution distribution_weighted r v hx hn h) hg
    bounds_kept Integers r v hx hn h hg =
        bound_kept r v (summed Integers integers_weighted r v hx hn h) hg
    bounds_kept Rationals r v hx hn h hg =
        bound_kept r v (summed Rationals rationals_weighted r v hx hn h) hg

  step_keeps :
      (m : Node) (xs : List Check) (fs : List Form) (es : List Test) (gs hs : List Check)
      → KeepAll xs fs es gs hs
      → Keeps (fits_step m xs) (form_step m fs) (eq_step m es) (sums_step are_from_zero d m gs)
      (weights_step d m hs)
  step_keeps m xs fs es gs hs z = record {
    canonical = step_canonical m xs fs es (all_canonical xs fs es gs hs z);
    weights = weights_kept xs fs es gs hs z m;
    bounds = bounds_kept xs fs es gs hs z m;
  }

  node_keeps :
      (t : Nodes) (p : ℕ)
      → Keeps (fits t p) (form t p) (are_equal t p) (sums_hold are_from_zero d t p)
      (weights_hold d t p)
  node_keeps t p =
      fold-related5 Keeps no_check no_form no_test any_weights any_weights fits_step form_step
      eq_step (sums_step are_from_zero d) (weights_step d) (none_keeps any_weights any_weights)
      step_keeps t p

-- where no weight of a value is below 0, the weights of its normal form hold
pub form-sums :
    (d : ℕ) (t : Nodes) (p : ℕ) (b : List ℕ) (v r : Value) → IsRelabelledAt t b p v r
    → sums_hold are_from_zero d t p v ≡ true → weights_hold d t p r ≡ true
form-sums d t p b v r c h = (node_keeps d 0 b t p).weights r v c.fitting c.normal c.equal h

-- so those of a normal form hold where those of the value do
pub form-weights :
    (d : ℕ) (t : Nodes) (p : ℕ) (b : List ℕ) (v r : Value) → IsRelabelledAt t b p v r
    → weights_hold d t p v ≡ true → weights_hold d t p r ≡ true
form-weights d t p b v r c h =
    form-sums d t p b v r c (sums-weaker are_positive are_from_zero positive-from_zero d t p v h)

-- a normal form is within each bound within which the value is
pub form-within :
    (n : ℕ) (t : Nodes) (p : ℕ) (b : List ℕ) (v r : Value) → IsRelabelledAt t b p v r
    → is_within n v ≡ true → is_within n r ≡ true
form-within n t p b v r c h = (node_keeps 0 n b t p).bounds r v c.fitting c.normal c.equal h
