-- Normal values that are equal at a node are one value.
use Rattle.std.proofs.Common.{◌≡◌, ℕ, ◌-◌, Bool, true, false, not, ◌&&◌, List, [], ◌∷◌, map, Some, refl, sym, ap, subst, ◌∙◌, true≢false}
use Rattle.std.specs.Prelude.{ℤ, pos, ◌==◌, nat_eq, if◌then◌else◌}
use Rattle.std.specs.Option.{option_eq, option_cmp}
use Rattle.std.specs.declared.cmp.Ordering.TheVariants.{Equal}
use Rattle.std.specs.Ordering.{nat_cmp, int_cmp, int_eq, is_eq}
use Rattle.std.specs.Cmp.{IsEquivalence, signed_Decides}
use Rattle.std.specs.Cmp.Lexicographic.{pointwise, slice_cmp}
use Rattle.std.specs.List.{list_all, AllByRecursion}
use Rattle.std.proofs.lemmas.Bool.{and_parts, eqb-true}
use Rattle.std.proofs.lemmas.List.Folds.{list_all-map}
use Rattle.functor_terms.specs.declared.node.Node.{Node}
use Rattle.functor_terms.specs.declared.node.Node.TheVariants.{State, Constant, Naturals, Product, Sum, Power, Powerset, Bag, Distribution, Integers, Rationals}
use Rattle.functor_terms.specs.Terms.{Nodes}
use Rattle.functor_terms.specs.Lists.{Zip3}
use Rattle.functor_terms.proofs.Folds.{fold-related3}
use Rattle.typing.specs.declared.value.Value.{Value, Value-F, out-Value, roll-Value, roll-out-Value}
use Rattle.typing.specs.Values.{state, state_in, label, label_in, index, index_in, inner, inner_in, parts, parts_in, entries, entries_in}
use Rattle.typing.specs.Equality.{Test, no_test, test_at, each_place, has, same_members, same_weights, eq_step, are_equal}
use Rattle.typing.specs.Fits.{Check, no_check, check_at, each_fits, fits_level, fits_step, fits}
use Rattle.typing.specs.Order.{Form, no_form, form_at, each_cmp, entry_cmp, cmp_step, ascends, each_normal, is_normal_list, is_normal_sum, normal_step, form_step, form, is_normal}
use Rattle.typing.proofs.Tests.{no_test-equivalence, same_weights-Decides}
use Rattle.typing.proofs.EqualityLaws.{eq_step-equivalence}
use Rattle.typing.proofs.OrderLaws.{IsOrdered, no_form-ordered, step_total, equal_numbers, tied}
use Rattle.typing.proofs.Canonical.{all_both, same_sets, same_sums}

-- values with one level are one value
pub same_value : (u v : Value) → out-Value u ≡ out-Value v → u ≡ v
same_value u v e = sym (roll-out-Value u) ∙ ap roll-Value e ∙ roll-out-Value v

-- values that pass the check and are normal are one value where the test passes, and where the
-- comparison ties
pub record IsCanonical (x : Check) (f : Form) (e : Test) : Type 0 where
  pub ordered : IsOrdered f
  pub is : IsEquivalence e
  pub unique : (u v : Value) → x u ≡ true → x v ≡ true → f.is_normal u ≡ true → f.is_normal v ≡ true
      → e u v ≡ true → u ≡ v
  pub tie : (u v : Value) → x u ≡ true → x v ≡ true → f.compare u v ≡ Equal → u ≡ v

-- the form past the last child is canonical
pub none_canonical : IsCanonical no_check no_form no_test
none_canonical = record {
  ordered = no_form-ordered;
  is = no_test-equivalence;
  unique =
      λ u v hu hv nu nv h. absurd (true≢false (sym hu));
  tie = λ u v hu hv h. absurd
      (true≢false (sym hu));
}

-- forms that are canonical at each child are so at the k-th
pub at_canonical : (xs : List Check) (fs : List Form) (es : List Test) (k : ℕ)
    → Zip3 IsCanonical xs fs es → IsCanonical (check_at xs k) (form_at fs k) (test_at es k)
at_canonical [] [] [] k h = none_canonical
at_canonical [] [] (e ∷ es) k h = absurd h
at_canonical [] (f ∷ fs) es k h = absurd h
at_canonical (x ∷ xs) [] es k h = absurd h
at_canonical (x ∷ xs) (f ∷ fs) [] k h = absurd h
at_canonical (x ∷ xs) (f ∷ fs) (e ∷ es) k h = by (k == 0) (at_canonical xs fs es (k - 1) h.1)
  where
    by : (b : Bool) → IsCanonical (check_at xs (k - 1)) (form_at fs (k - 1)) (test_at es (k - 1))
        → IsCanonical (if b then x else check_at xs (k - 1)) (if b then f else form_at fs (k - 1))
        (if b then e else test_at es (k - 1))
    by true later = h.0
    by false later = later

all_ordered : (xs : List Check) (fs : List Form) (es : List Test) → Zip3 IsCanonical xs fs es
    → AllByRecursion IsOrdered fs
all_ordered [] [] [] h = tt
all_ordered [] [] (e ∷ es) h = absurd h
all_ordered [] (f ∷ fs) es h = absurd h
all_ordered (x ∷ xs) [] es h = absurd h
all_ordered (x ∷ xs) (f ∷ fs) [] h = absurd h
all_ordered (x ∷ xs) (f ∷ fs) (e ∷ es) h = (h.0.ordered, all_ordered xs fs es h.1)

all_equivalences : (xs : List Check) (fs : List Form) (es : List Test) → Zip3 IsCanonical xs fs es
    → AllByRecursion IsEquivalence es
all_equivalences [] [] [] h = tt
all_equivalences [] [] (e ∷ es) h = absurd h
all_equivalences [] (f ∷ fs) es h = absurd h
all_equivalences (x ∷ xs) [] es h = absurd h
all_equivalences (x ∷ xs) (f ∷ fs) [] h = absurd h
all_equivalences (x ∷ xs) (f ∷ fs) (e ∷ es) h = (h.0.is, all_equivalences xs fs es h.1)

-- the form of a value that fits
pub state_shape : (fs : List Check) (x : Value-F Value) → fits_level State fs x ≡ true
    → (i : ℕ) × (x ≡ Value-F.State i)
state_shape fs (Value-F.State i) h = (i, refl)
state_shape fs (Value-F.Label n) h = absurd (true≢false (sym h))
state_shape fs (Value-F.Tuple vs) h = absurd (true≢false (sym h))
state_shape fs (Value-F.Inj k v) h = absurd (true≢false (sym h))
state_shape fs (Value-F.Set vs) h = absurd (true≢false (sym h))
state_shape fs (Value-F.Weights es) h = absurd (true≢false (sym h))

-- a node at which values are labels
label_shape : (m : Node) (fs : List Check) → ((x : Value-F Value) → fits_level m fs x ≡ true
    → x ≡ Value-F.Label (label_in x)) → (u v : Value) → fits_step m fs u ≡ true
    → fits_step m fs v ≡ true → label u ≡ label v → u ≡ v
label_shape m fs shape u v hu hv e = same_value u v (shape (out-Value u) hu ∙ ap Value-F.Label e
    ∙ sym (shape (out-Value v) hv))

constant_shape : (labels : _) (fs : List Check) (x : Value-F Value)
    → fits_level (Constant labels) fs x ≡ true → x ≡ Value-F.Label (label_in x)
constant_shape labels fs (Value-F.State i) h = absurd (true≢false (sym h))
constant_shape labels fs (Value-F.Label n) h = refl
constant_shape labels fs (Value-F.Tuple vs) h = absurd (true≢false (sym h))
constant_shape labels fs (Value-F.Inj k v) h = absurd (true≢false (sym h))
constant_shape labels fs (Value-F.Set vs) h = absurd (true≢false (sym h))
constant_shape labels fs (Value-F.Weights es) h = absurd (true≢false (sym h))

naturals_shape : (fs : List Check) (x : Value-F Value) → fits_level Naturals fs x ≡ true
    → x ≡ Value-F.Label (label_in x)
naturals_shape fs (Value-F.State i) h = absurd (true≢false (sym h))
naturals_shape fs (Value-F.Label n) h = refl
naturals_shape fs (Value-F.Tuple vs) h = absurd (true≢false (sym h))
naturals_shape fs (Value-F.Inj k v) h = absurd (true≢false (sym h))
naturals_shape fs (Value-F.Set vs) h = absurd (true≢false (sym h))
naturals_shape fs (Value-F.Weights es) h = absurd (true≢false (sym h))

-- what fits a powerset is a set of members that fit
pub set_shape : (fs : List Check) (x : Value-F Value) → fits_level Powerset fs x ≡ true
    → (x ≡ Value-F.Set (parts_in x)) × (list_all (check_at fs 0) (parts_in x) ≡ true)
set_shape fs (Value-F.State i) h = absurd (true≢false (sym h))
set_shape fs (Value-F.Label n) h = absurd (true≢false (sym h))
set_shape fs (Value-F.Tuple vs) h = absurd (true≢false (sym h))
set_shape fs (Value-F.Inj k v) h = absurd (true≢false (sym h))
set_shape fs (Value-F.Set vs) h = (refl, h)
set_shape fs (Value-F.Weights es) h = absurd (true≢false (sym h))

-- lists, element by element
module _ (x : Check) (f : Form) (e : Test) (c : IsCanonical x f e) where
  lists_unique : (us vs : List Value) → list_all x us ≡ true → list_all x vs ≡ true
      → list_all f.is_normal us ≡ true → list_all f.is_normal vs ≡ true → pointwise e us vs ≡ true
      → us ≡ vs
  lists_unique [] [] hu hv nu nv h = refl
  lists_unique [] (v ∷ vs) hu hv nu nv h = absurd (true≢false (sym h))
  lists_unique (u ∷ us) [] hu hv nu nv h = absurd (true≢false (sym h))
  lists_unique (u ∷ us) (v ∷ vs) hu hv nu nv h =
      let a = and_parts (x u) (list_all x us) hu in
      let b = and_parts (x v) (list_all x vs) hv in
      let p = and_parts (f.is_normal u) (list_all f.is_normal us) nu in
      let q = and_parts (f.is_normal v) (list_all f.is_normal vs) nv in
      let r = and_parts (e u v) (pointwise e us vs) h in
      λ i. c.unique u v a.0 b.0 p.0 q.0 r.0 i ∷ lists_unique us vs a.1 b.1 p.1 q.1 r.1 i

  lists_tie : (us vs : List Value) → list_all x us ≡ true → list_all x vs ≡ true
      → slice_cmp f.compare us vs ≡ Equal → us ≡ vs
  lists_tie [] [] hu hv h = refl
  lists_tie [] (v ∷ vs) hu hv h = cc
  lists_tie (u ∷ us) [] hu hv h = cc
  lists_tie (u ∷ us) (v ∷ vs) hu hv h =
      let a = and_parts (x u) (list_all x us) hu in
      let b = and_parts (x v) (list_all x vs) hv in
      let r = tied (f.compare u v) (slice_cmp f.compare us vs) h in
      λ i. c.tie u v a.0 b.0 r.0 i ∷ lists_tie us vs a.1 b.1 r.1 i

  sets_unique : (us vs : List Value) → list_all x us ≡ true → list_all x vs ≡ true
      → is_normal_list f us ≡ true → is_normal_list f vs ≡ true → same_members e us vs ≡ true
      → us ≡ vs
  sets_unique us vs hu hv nu nv h =
      let ok : Value → Bool = λ w. x w && f.is_normal w in
      let p = and_parts (ascends f.compare us) (list_all f.is_normal us) nu in
      let q = and_parts (ascends f.compare vs) (list_all f.is_normal vs) nv in
      let r = and_parts (list_all (has e vs) us) (list_all (has e us) vs) h in
      same_sets f.compare c.ordered.total e ok
      (λ u v a b k. let s = and_parts (x u) (f.is_normal u) a in
      let t = and_parts (x v) (f.is_normal v) b in c.unique u v s.0 t.0 s.1 t.1 k)
      (λ u v a b k. let s = and_parts (x u) (f.is_normal u) a in
      let t = and_parts (x v) (f.is_normal v) b in c.tie u v s.0 t.0 k)
      us vs (all_both x f.is_normal us hu p.1) (all_both x f.is_normal vs hv q.1) p.0 q.0 r.0 r.1

  firsts_all : (es : List (Value × ℤ)) → list_all (λ w. x w.0) es ≡ true
      → list_all x (map (λ w. w.0) es) ≡ true
  firsts_all es h = list_all-map x (λ (w : Value × ℤ). w.0) es ∙ h

  sums_unique : (us vs : List (Value × ℤ)) → list_all (λ w. x w.0) us ≡ true
      → list_all (λ w. x w.0) vs ≡ true → is_normal_sum f us ≡ true → is_normal_sum f vs ≡ true
      → same_weights e us vs ≡ true → us ≡ vs
  sums_unique us vs hu hv nu nv h =
      let ok : Value → Bool = λ w. x w && f.is_normal w in
      let nonzero : Value × ℤ → Bool = λ w. not (int_eq w.1 (pos 0)) in
      let p = and_parts (is_normal_list f (map (λ w. w.0) us)) (list_all nonzero us) nu in
      let q = and_parts (is_normal_list f (map (λ w. w.0) vs)) (list_all nonzero vs) nv in
      let pp = and_parts (ascends f.compare (map (λ w. w.0) us))
      (list_all f.is_normal (map (λ w. w.0) us)) p.0 in
      let qq = and_parts (ascends f.compare (map (λ w. w.0) vs))
      (list_all f.is_normal (map (λ w. w.0) vs)) q.0 in
      same_sums f.compare c.ordered.total e ok
      (λ u v a b k. let s = and_parts (x u) (f.is_normal u) a in
      let t = and_parts (x v) (f.is_normal v) b in c.unique u v s.0 t.0 s.1 t.1 k)
      (λ u v a b k. let s = and_parts (x u) (f.is_normal u) a in
      let t = and_parts (x v) (f.is_normal v) b in c.tie u v s.0 t.0 k)
      us vs c.is (all_both x f.is_normal (map (λ w. w.0) us) (firsts_all us hu) pp.1)
      (all_both x f.is_normal (map (λ w. w.0) vs) (firsts_all vs hv) qq.1) pp.0 qq.0 p.1 q.1
      ((same_weights-Decides e c.is us vs).0 h)

  entries_tie : (us vs : List (Value × ℤ)) → list_all (λ w. x w.0) us ≡ true
      → list_all (λ w. x w.0) vs ≡ true → slice_cmp (entry_cmp f.compare) us vs ≡ Equal → us ≡ vs
  entries_tie [] [] hu hv h = refl
  entries_tie [] (v ∷ vs) hu hv h = cc
  entries_tie (u ∷ us) [] hu hv h = cc
  entries_tie (u ∷ us) (v ∷ vs) hu hv h =
      let a = and_parts (x u.0) (list_all (λ w. x w.0) us) hu in
      let b = and_parts (x v.0) (list_all (λ w. x w.0) vs) hv in
      let r = tied (entry_cmp f.compare u v) (slice_cmp (entry_cmp f.compare) us vs) h in
      let s = tied (f.compare u.0 v.0) (int_cmp u.1 v.1) r.0 in
      λ i. (c.tie u.0 v.0 a.0 b.0 s.0 i, (signed_Decides u.1 v.1).0 (ap is_eq s.1) i) ∷ entries_tie
      us vs a.1 b.1 r.1 i

-- places, each by its own
places_unique : (xs : List Check) (fs : List Form) (es : List Test) (us vs : List Value)
    → Zip3 IsCanonical xs fs es → each_fits xs us ≡ true → each_fits xs vs ≡ true
    → each_normal fs us ≡ true → each_normal fs vs ≡ true → each_place es us vs ≡ true → us ≡ vs
places_unique [] [] [] [] [] r hu hv nu nv h = refl
places_unique [] [] [] [] (v ∷ vs) r hu hv nu nv h = absurd (true≢false (sym hv))
places_unique [] [] [] (u ∷ us) vs r hu hv nu nv h = absurd (true≢false (sym hu))
places_unique [] [] (e ∷ es) us vs r hu hv nu nv h = absurd r
places_unique [] (f ∷ fs) es us vs r hu hv nu nv h = absurd r
places_unique (x ∷ xs) [] es us vs r hu hv nu nv h = absurd r
places_unique (x ∷ xs) (f ∷ fs) [] us vs r hu hv nu nv h = absurd r
places_unique (x ∷ xs) (f ∷ fs) (e ∷ es) [] vs r hu hv nu nv h = absurd (true≢false (sym hu))
places_unique (x ∷ xs) (f ∷ fs) (e ∷ es) (u ∷ us) [] r hu hv nu nv h = absurd (true≢false (sym hv))
places_unique (x ∷ xs) (f ∷ fs) (e ∷ es) (u ∷ us) (v ∷ vs) r hu hv nu nv h =
    let a = and_parts (x u) (each_fits xs us) hu in
    let b = and_parts (x v) (each_fits xs vs) hv in
    let p = and_parts (f.is_normal u) (each_normal fs us) nu in
    let q = and_parts (f.is_normal v) (each_normal fs vs) nv in
    let s = and_parts (e u v) (each_place es us vs) h in
    λ i. r.0.unique u v a.0 b.0 p.0 q.0 s.0 i ∷ places_unique xs fs es us vs r.1 a.1 b.1 p.1 q.1 s.1
    i

places_tie : (xs : List Check) (fs : List Form) (es : List Test) (us vs : List Value)
    → Zip3 IsCanonical xs fs es → each_fits xs us ≡ true → each_fits xs vs ≡ true
    → each_cmp fs us vs ≡ Equal → us ≡ vs
places_tie [] [] [] [] [] r hu hv h = refl
places_tie [] [] [] [] (v ∷ vs) r hu hv h = absurd (true≢false (sym hv))
places_tie [] [] [] (u ∷ us) vs r hu hv h = absurd (true≢false (sym hu))
places_tie [] [] (e ∷ es) us vs r hu hv h = absurd r
places_tie [] (f ∷ fs) es us vs r hu hv h = absurd r
places_tie (x ∷ xs) [] es us vs r hu hv h = absurd r
places_tie (x ∷ xs) (f ∷ fs) [] us vs r hu hv h = absurd r
places_tie (x ∷ xs) (f ∷ fs) (e ∷ es) [] vs r hu hv h = absurd (true≢false (sym hu))
places_tie (x ∷ xs) (f ∷ fs) (e ∷ es) (u ∷ us) [] r hu hv h = absurd (true≢false (sym hv))
places_tie (x ∷ xs) (f ∷ fs) (e ∷ es) (u ∷ us) (v ∷ vs) r hu hv h =
    let a = and_parts (x u) (each_fits xs us) hu in
    let b = and_parts (x v) (each_fits xs vs) hv in
    let s = tied (f.compare u v) (each_cmp fs us vs) h in
    λ i. r.0.tie u v a.0 b.0 s.0 i ∷ places_tie xs fs es us vs r.1 a.1 b.1 s.1 i

-- what fits a product is a tuple whose parts fit in their places
pub product_shape : (fs : List Check) (x : Value-F Value) → fits_level Product fs x ≡ true
    → (x ≡ Value-F.Tuple (parts_in x)) × (each_fits fs (parts_in x) ≡ true)
product_shape fs (Value-F.State i) h = absurd (true≢false (sym h))
product_shape fs (Value-F.Label n) h = absurd (true≢false (sym h))
product_shape fs (Value-F.Tuple vs) h = (refl, h)
product_shape fs (Value-F.Inj k v) h = absurd (true≢false (sym h))
product_shape fs (Value-F.Set vs) h = absurd (true≢false (sym h))
product_shape fs (Value-F.Weights es) h = absurd (true≢false (sym h))

-- what fits a power is a tuple of parts that fit its child
pub power_shape : (labels : _) (fs : List Check) (x : Value-F Value)
    → fits_level (Power labels) fs x ≡ true
    → (x ≡ Value-F.Tuple (parts_in x)) × (list_all (check_at fs 0) (parts_in x) ≡ true)
power_shape labels fs (Value-F.State i) h = absurd (true≢false (sym h))
power_shape labels fs (Value-F.Label n) h = absurd (true≢false (sym h))
power_shape labels fs (Value-F.Tuple vs) h = (refl, (and_parts _ (list_all (check_at fs 0) vs) h).1)
power_shape labels fs (Value-F.Inj k v) h = absurd (true≢false (sym h))
power_shape labels fs (Value-F.Set vs) h = absurd (true≢false (sym h))
power_shape labels fs (Value-F.Weights es) h = absurd (true≢false (sym h))

-- what fits a sum is an injection whose value fits its child
pub sum_shape : (fs : List Check) (other : Value) (x : Value-F Value) → fits_level Sum fs x ≡ true
    → (x ≡ Value-F.Inj (index_in x) (inner_in other x))
    × (check_at fs (index_in x) (inner_in other x) ≡ true)
sum_shape fs other (Value-F.State i) h = absurd (true≢false (sym h))
sum_shape fs other (Value-F.Label n) h = absurd (true≢false (sym h))
sum_shape fs other (Value-F.Tuple vs) h = absurd (true≢false (sym h))
sum_shape fs other (Value-F.Inj k v) h = (refl, h)
sum_shape fs other (Value-F.Set vs) h = absurd (true≢false (sym h))
sum_shape fs other (Value-F.Weights es) h = absurd (true≢false (sym h))

-- the nodes with weights
abbrev pub weight_check : List Check → Value-F Value → Bool
weight_check fs (Value-F.Weights es) = list_all (λ e. check_at fs 0 e.0) es
weight_check fs _ = false

-- what fits weights is a list of entries whose elements fit
pub weight_shape : (fs : List Check) (x : Value-F Value) → weight_check fs x ≡ true
    → (x ≡ Value-F.Weights (entries_in x)) × (list_all (λ e. check_at fs 0 e.0) (entries_in x)
    ≡ true)
weight_shape fs (Value-F.State i) h = absurd (true≢false (sym h))
weight_shape fs (Value-F.Label n) h = absurd (true≢false (sym h))
weight_shape fs (Value-F.Tuple vs) h = absurd (true≢false (sym h))
weight_shape fs (Value-F.Inj k v) h = absurd (true≢false (sym h))
weight_shape fs (Value-F.Set vs) h = absurd (true≢false (sym h))
weight_shape fs (Value-F.Weights es) h = (refl, h)

-- the node is of a kind with weights: its structures are lists of entries
abbrev pub IsWeighted : Node → Type 0
IsWeighted m = (fs : List Check) (x : Value-F Value) → fits_level m fs x ≡ weight_check fs x

-- bags are of a kind with weights
pub bag_weighted : IsWeighted Bag
bag_weighted fs (Value-F.State i) = refl
bag_weighted fs (Value-F.Label n) = refl
bag_weighted fs (Value-F.Tuple vs) = refl
bag_weighted fs (Value-F.Inj k v) = refl
bag_weighted fs (Value-F.Set vs) = refl
bag_weighted fs (Value-F.Weights es) = refl

-- distributions are of a kind with weights
pub distribution_weighted : IsWeighted Distribution
distribution_weighted fs (Value-F.State i) = refl
distribution_weighted fs (Value-F.Label n) = refl
distribution_weighted fs (Value-F.Tuple vs) = refl
distribution_weighted fs (Value-F.Inj k v) = refl
distribution_weighted fs (Value-F.Set vs) = refl
distribution_weighted fs (Value-F.Weights es) = refl

-- whole weights are of a kind with weights
pub integers_weighted : IsWeighted Integers
integers_weighted fs (Value-F.State i) = refl
integers_weighted fs (Value-F.Label n) = refl
integers_weighted fs (Value-F.Tuple vs) = refl
integers_weighted fs (Value-F.Inj k v) = refl
integers_weighted fs (Value-F.Set vs) = refl
integers_weighted fs (Value-F.Weights es) = refl

-- fractional weights are of a kind with weights
pub rationals_weighted : IsWeighted Rationals
rationals_weighted fs (Value-F.State i) = refl
rationals_weighted fs (Value-F.Label n) = refl
rationals_weighted fs (Value-F.Tuple vs) = refl
rationals_weighted fs (Value-F.Inj k v) = refl
rationals_weighted fs (Value-F.Set vs) = refl
rationals_weighted fs (Value-F.Weights es) = refl

module _ (xs : List Check) (fs : List Form) (es : List Test) (r : Zip3 IsCanonical xs fs es) where
  first : IsCanonical (check_at xs 0) (form_at fs 0) (test_at es 0)
  first = at_canonical xs fs es 0 r

  weights_unique : (m : Node) → IsWeighted m → (u v : Value) → fits_step m xs u ≡ true
      → fits_step m xs v ≡ true → is_normal_sum (form_at fs 0) (entries u) ≡ true
      → is_normal_sum (form_at fs 0) (entries v) ≡ true
      → same_weights (test_at es 0) (entries u) (entries v) ≡ true → u ≡ v
  weights_unique m w u v hu hv nu nv h =
      let a = weight_shape xs (out-Value u) (sym (w xs (out-Value u)) ∙ hu) in
      let b = weight_shape xs (out-Value v) (sym (w xs (out-Value v)) ∙ hv) in
      same_value u v (a.0 ∙ ap Value-F.Weights (sums_unique (check_at xs 0) (form_at fs 0)
      (test_at es 0) first (entries u) (entries v) a.1 b.1 nu nv h) ∙ sym b.0)

  weights_tie : (m : Node) → IsWeighted m → (u v : Value) → fits_step m xs u ≡ true
      → fits_step m xs v ≡ true → slice_cmp (entry_cmp (form_at fs 0).compare) (entries u)
      (entries v) ≡ Equal → u ≡ v
  weights_tie m w u v hu hv h =
      let a = weight_shape xs (out-Value u) (sym (w xs (out-Value u)) ∙ hu) in
      let b = weight_shape xs (out-Value v) (sym (w xs (out-Value v)) ∙ hv) in
      same_value u v (a.0 ∙ ap Value-F.Weights (entries_tie (check_at xs 0) (form_at fs 0)
      (test_at es 0) first (entries u) (entries v) a.1 b.1 h) ∙ sym b.0)

  sum_parts : (u v : Value) → fits_step Sum xs u ≡ true → fits_step Sum xs v ≡ true
      → index u ≡ index v → (check_at xs (index u) (inner u) ≡ true
      → check_at xs (index u) (inner v) ≡ true → inner u ≡ inner v) → u ≡ v
  sum_parts u v hu hv same h =
      let a = sum_shape xs u (out-Value u) hu in
      let b = sum_shape xs v (out-Value v) hv in
      same_value u v (a.0 ∙ (λ i. Value-F.Inj (same i)
      (h a.1 (subst (λ k. check_at xs k (inner v) ≡ true) (sym same) b.1) i)) ∙ sym b.0)

  states_same : (u v : Value) → fits_step State xs u ≡ true → fits_step State xs v ≡ true
      → ((i j : ℕ) → state u ≡ Some i → state v ≡ Some j → i ≡ j) → u ≡ v
  states_same u v hu hv h =
      let (i, a) = state_shape xs (out-Value u) hu in
      let (j, b) = state_shape xs (out-Value v) hv in
      same_value u v (a ∙ ap Value-F.State (h i j (ap state_in a) (ap state_in b)) ∙ sym b)

  step_unique : (m : Node) (u v : Value) → fits_step m xs u ≡ true → fits_step m xs v ≡ true
      → normal_step m fs u ≡ true → normal_step m fs v ≡ true → eq_step m es u v ≡ true → u ≡ v
  step_unique State u v hu hv nu nv h = states_same u v hu hv
      (λ i j a b. eqb-true i j (sym (λ k. option_eq nat_eq (a k) (b k)) ∙ h))
  step_unique (Constant labels) u v hu hv nu nv h = label_shape (Constant labels) xs
      (constant_shape labels xs) u v hu hv (eqb-true (label u) (label v) h)
  step_unique Naturals u v hu hv nu nv h = label_shape Naturals xs (naturals_shape xs) u v hu hv
      (eqb-true (label u) (label v) h)
  step_unique Product u v hu hv nu nv h =
      let a = product_shape xs (out-Value u) hu in
      let b = product_shape xs (out-Value v) hv in
      same_value u v (a.0 ∙ ap Value-F.Tuple (places_unique xs fs es (parts u) (parts v) r a.1 b.1
      nu nv h) ∙ sym b.0)
  step_unique (Power labels) u v hu hv nu nv h =
      let a = power_shape labels xs (out-Value u) hu in
      let b = power_shape labels xs (out-Value v) hv in
      same_value u v (a.0 ∙ ap Value-F.Tuple (lists_unique (check_at xs 0) (form_at fs 0)
      (test_at es 0) first (parts u) (parts v) a.1 b.1 nu nv h) ∙ sym b.0)
  step_unique Sum u v hu hv nu nv h =
      let p = and_parts (index u == index v) (test_at es (index u) (inner u) (inner v)) h in
      let same : index u ≡ index v = eqb-true (index u) (index v) p.0 in
      sum_parts u v hu hv same (λ a b. (at_canonical xs fs es (index u) r).unique (inner u)
      (inner v) a b nu (subst (λ k. (form_at fs k).is_normal (inner v) ≡ true) (sym same) nv)
      p.1)
  step_unique Powerset u v hu hv nu nv h =
      let a = set_shape xs (out-Value u) hu in
      let b = set_shape xs (out-Value v) hv in
      same_value u v (a.0 ∙ ap Value-F.Set (sets_unique (check_at xs 0) (form_at fs 0)
      (test_at es 0) first (parts u) (parts v) a.1 b.1 nu nv h) ∙ sym b.0)
  step_unique Bag u v hu hv nu nv h = weights_unique Bag bag_weighted u v hu hv nu nv h
  step_unique Distribution u v hu hv nu nv h = weights_unique Distribution distribution_weighted u v
      hu hv nu nv h
  step_unique Integers u v hu hv nu nv h = weights_unique Integers integers_weighted u v hu hv nu nv
      h
  step_unique Rationals u v hu hv nu nv h = weights_unique Rationals rationals_weighted u v hu hv nu
      nv h

  step_tie : (m : Node) (u v : Value) → fits_step m xs u ≡ true → fits_step m xs v ≡ true
      → cmp_step m fs u v ≡ Equal → u ≡ v
  step_tie State u v hu hv h = states_same u v hu hv (λ i j a b. equal_numbers i j
      (sym (λ k. option_cmp nat_cmp (a k) (b k)) ∙ h))
  step_tie (Constant labels) u v hu hv h = label_shape (Constant labels) xs
      (constant_shape labels xs) u v hu hv (equal_numbers (label u) (label v) h)
  step_tie Naturals u v hu hv h = label_shape Naturals xs (naturals_shape xs) u v hu hv
      (equal_numbers (label u) (label v) h)
  step_tie Product u v hu hv h =
      let a = product_shape xs (out-Value u) hu in
      let b = product_shape xs (out-Value v) hv in
      same_value u v (a.0 ∙ ap Value-F.Tuple (places_tie xs fs es (parts u) (parts v) r a.1 b.1 h)
      ∙ sym b.0)
  step_tie (Power labels) u v hu hv h =
      let a = power_shape labels xs (out-Value u) hu in
      let b = power_shape labels xs (out-Value v) hv in
      same_value u v (a.0 ∙ ap Value-F.Tuple (lists_tie (check_at xs 0) (form_at fs 0)
      (test_at es 0) first (parts u) (parts v) a.1 b.1 h) ∙ sym b.0)
  step_tie Sum u v hu hv h =
      let p = tied (nat_cmp (index u) (index v)) ((form_at fs (index u)).compare (inner u)
      (inner v)) h in
      sum_parts u v hu hv (equal_numbers (index u) (index v) p.0)
      (λ a b. (at_canonical xs fs es (index u) r).tie (inner u) (inner v) a b p.1)
  step_tie Powerset u v hu hv h =
      let a = set_shape xs (out-Value u) hu in
      let b = set_shape xs (out-Value v) hv in
      same_value u v (a.0 ∙ ap Value-F.Set (lists_tie (check_at xs 0) (form_at fs 0) (test_at es 0)
      first (parts u) (parts v) a.1 b.1 h) ∙ sym b.0)
  step_tie Bag u v hu hv h = weights_tie Bag bag_weighted u v hu hv h
  step_tie Distribution u v hu hv h = weights_tie Distribution distribution_weighted u v hu hv h
  step_tie Integers u v hu hv h = weights_tie Integers integers_weighted u v hu hv h
  step_tie Rationals u v hu hv h = weights_tie Rationals rationals_weighted u v hu hv h

-- a level over canonical forms is canonical
pub step_canonical : (m : Node) (xs : List Check) (fs : List Form) (es : List Test)
    → Zip3 IsCanonical xs fs es → IsCanonical (fits_step m xs) (form_step m fs) (eq_step m es)
step_canonical m xs fs es r = record {
  ordered = record { total = step_total fs (all_ordered xs fs es r) m };
  is = eq_step-equivalence m es (all_equivalences xs fs es r);
  unique = step_unique xs fs es r m;
  tie = step_tie xs fs es r m;
}

-- the form of a node is canonical
pub node_canonical : (t : Nodes) (p : ℕ) → IsCanonical (fits t p) (form t p) (are_equal t p)
node_canonical t p = fold-related3 IsCanonical no_check no_form no_test fits_step form_step eq_step
    none_canonical step_canonical t p

-- the forms of children are canonical
pub children_canonical : (t : Nodes) (qs : List ℕ)
    → Zip3 IsCanonical (map (fits t) qs) (map (form t) qs) (map (are_equal t) qs)
children_canonical t [] = tt
children_canonical t (q ∷ qs) = (node_canonical t q, children_canonical t qs)

-- normal values that fit and are equal are one value
pub normal_unique : (t : Nodes) (p : ℕ) (u v : Value) → fits t p u ≡ true → fits t p v ≡ true
    → is_normal t p u ≡ true → is_normal t p v ≡ true → are_equal t p u v ≡ true → u ≡ v
normal_unique t p = (node_canonical t p).unique
