-- A normal value is no larger than a value that is equal to it.
use Rattle.std.proofs.Common.{◌≡◌, ℕ, zero, suc, ◌+◌, ◌-◌, ◌≤◌, Bool, true, false, not, cond, ◌||◌, List, [], ◌∷◌, length, map, Option, Some, None, slice_get, refl, sym, ap, ◌∙◌, subst, true≢false, arith, ⊎_elim}
use Rattle.std.specs.Prelude.{ℤ, pos, ◌==◌, ◌⊎◌}
use Rattle.std.specs.declared.cmp.Ordering.TheVariants.{Equal}
use Rattle.std.specs.Ordering.{is_lt, int_eq}
use Rattle.std.specs.Option.{option_map_or}
use Rattle.std.specs.Cmp.{IsEquivalence, tied_itself}
use Rattle.std.specs.Cmp.Lexicographic.{pointwise}
use Rattle.std.specs.List.{list_all, list_any}
use Rattle.std.proofs.lemmas.Bool.{and_parts, and_from, or_cases, eqb-true, or_parts}
use Rattle.std.proofs.lemmas.Bool.Decides.{Decides-int_eq}
use Rattle.std.proofs.lemmas.List.Folds.{list_all-map}
use Rattle.functor_terms.specs.declared.node.Node.{Node}
use Rattle.functor_terms.specs.declared.node.Node.TheVariants.{State, Constant, Naturals, Product, Sum, Power, Powerset, Bag, Distribution, Integers, Rationals}
use Rattle.functor_terms.specs.declared.node.Branch.{Branch}
use Rattle.functor_terms.specs.Lists.{Zip3}
use Rattle.functor_terms.specs.Terms.{Nodes, fold_within}
use Rattle.typing.specs.declared.value.Value.{Value, out-Value}
use Rattle.typing.specs.Values.{index, inner, parts, entries}
use Rattle.typing.specs.Layers.{weighed}
use Rattle.typing.specs.Equality.{Test, no_test, test_at, each_place, has, weight_of, same_members, same_weights, eq_step, are_equal}
use Rattle.typing.specs.Fits.{Check, no_check, check_at, each_fits, fits_step, fits}
use Rattle.typing.specs.Order.{Form, no_form, form_at, ascends, each_normal, is_normal_list, is_normal_sum, form_step, is_normal}
use Rattle.typing.proofs.Tests.{same_weights-Decides, weight_of-none}
use Rattle.typing.proofs.NormalLaws.{IsCanonical, none_canonical, step_canonical, set_shape, product_shape, power_shape, sum_shape, weight_shape, IsWeighted, bag_weighted, distribution_weighted, integers_weighted, rationals_weighted}
use Rattle.typing.proofs.WeightSums.{AreApart, AreOwn, own, own_in}
use Rattle.file_sizes.proofs.Sizes.{Size, no_size, size_at, sum_each, sum_of, size_step, size_within, size}
use Rattle.typing.proofs.Ascending.{lt_is, less_equal, below_all, rest_ascends}

-- normal values that fit are no larger than what is equal to them
pub record IsLeast (x : Check) (f : Form) (e : Test) (s : Size) : Type 0 where
  pub canonical : IsCanonical x f e
  pub shrinks :
      (r v : Value) → x r ≡ true → f.is_normal r ≡ true → e r v ≡ true → s r ≤ s v

none_least : (s : Size) → IsLeast no_check no_form no_test s
none_least s = record {
  canonical = none_canonical;
  shrinks = λ r v hx. absurd (true≢false (sym hx));
}

-- the elements of a list that are not equal to u
abbrev others : Test → Value → List Value → List Value
others e u [] = []
others e u (v ∷ vs) = cond (e v u) (others e u vs) (v ∷ others e u vs)

module _ (x : Check) (f : Form) (e : Test) (s : Size) (g : IsLeast x f e s) where
  is : IsEquivalence e
  is = g.canonical.is

  others_less : (u : Value) (vs : List Value) → sum_of s (others e u vs) ≤ sum_of s vs
  others_less u [] = omega arith
  others_less u (v ∷ vs) = by (e v u) (others_less u vs)
    where
      by : (b : Bool) → sum_of s (others e u vs) ≤ sum_of s vs →
          sum_of s (cond b (others e u vs) (v ∷ others e u vs)) ≤ s v + sum_of s vs
      by true rest = omega (arith, rest)
      by false rest = omega (arith, rest)

  -- what is equal to u is as large, and the others are left
  found : (u : Value) (vs : List Value) → x u ≡ true → f.is_normal u ≡ true →
      has e vs u ≡ true → s u + sum_of s (others e u vs) ≤ sum_of s vs
  found u [] hx hn h = absurd (true≢false (sym h))
  found u (v ∷ vs) hx hn h = by (found u vs hx hn) (e v u) refl h
    where
      by :
          (has e vs u ≡ true → s u + sum_of s (others e u vs) ≤ sum_of s vs) → (b : Bool) →
          e v u ≡ b → (b || has e vs u) ≡ true →
          s u + sum_of s (cond b (others e u vs) (v ∷ others e u vs)) ≤ s v + sum_of s vs
      by later true q k =
          let here = g.shrinks u v hx hn (is.symm u v ∙ q) in
          let rest = others_less u vs in
          omega (arith, here, rest)
      by later false q k = let rest = later k in omega (arith, rest)

  -- what is equal to w and not to u is among the others
  kept : (u w : Value) (vs : List Value) → e w u ≡ false → has e vs w ≡ true →
      has e (others e u vs) w ≡ true
  kept u w [] differ h = absurd (true≢false (sym h))
  kept u w (v ∷ vs) differ h = by (kept u w vs differ) (e v u) refl (or_cases (e v w) (has e vs w)
      h)
    where
      by :
          (has e vs w ≡ true → has e (others e u vs) w ≡ true) → (b : Bool) → e v u ≡ b →
          (e v w ≡ true) ⊎ (has e vs w ≡ true) →
          has e (cond b (others e u vs) (v ∷ others e u vs)) w ≡ true
      by rest true q k =
          ⊎_elim (λ (here : e v w ≡ true). absurd (true≢false (sym q ∙ is.congr v w u here
          ∙ differ)))
          rest k
      by rest false q k =
          ⊎_elim (λ (here : e v w ≡ true). ap (λ b. b || has e (others e u vs) w) here)
          (λ later. or_later (e v w) (rest later)) k
        where
          or_later : (b : Bool) → has e (others e u vs) w ≡ true →
              (b || has e (others e u vs) w) ≡ true
          or_later true h = refl
          or_later false h = h

  all_kept : (u : Value) (ws vs : List Value) → list_any (λ w. e w u) ws ≡ false →
      list_all (has e vs) ws ≡ true → list_all (has e (others e u vs)) ws ≡ true
  all_kept u [] vs differ h = refl
  all_kept u (w ∷ ws) vs differ h =
      let p = and_parts (has e vs w) (list_all (has e vs) ws) h in
      let q = or_parts (e w u) (list_any (λ w. e w u) ws) differ in
      and_from (has e (others e u vs) w) (list_all (has e (others e u vs)) ws)
      (kept u w vs q.0 p.0) (all_kept u ws vs q.1 p.1)

  -- no value is equal to a later one
  abbrev AreDistinct : List Value → Type 0
  AreDistinct [] = Unit {0}
  AreDistinct (u ∷ us) = (list_any (λ w. e w u) us ≡ false) × AreDistinct us

  -- distinct normal values, each equal to one of a list, are no larger than the list
  pub distinct_shrink :
      (us vs : List Value) → list_all x us ≡ true → list_all f.is_normal us ≡ true →
      AreDistinct us → list_all (has e vs) us ≡ true → sum_of s us ≤ sum_of s vs
  distinct_shrink [] vs hx hn d h = omega arith
  distinct_shrink (u ∷ us) vs hx hn d h =
      let a = and_parts (x u) (list_all x us) hx in
      let b = and_parts (f.is_normal u) (list_all f.is_normal us) hn in
      let c = and_parts (has e vs u) (list_all (has e vs) us) h in
      let here = found u vs a.0 b.0 c.0 in
      let rest = distinct_shrink us (others e u vs) a.1 b.1 d.1 (all_kept u us vs d.0 c.1) in
      omega (arith, here, rest)

  not_above : (a w : Value) → x a ≡ true → f.is_normal a ≡ true → x w ≡ true →
      f.is_normal w ≡ true → is_lt (f.compare a w) ≡ true → e w a ≡ false
  not_above a w xa na xw nw h = by (e w a) refl
    where
      by : (b : Bool) → e w a ≡ b → b ≡ false
      by true q = absurd (less_equal (f.compare a w) (lt_is (f.compare a w) h)
          (subst (λ y. f.compare a y ≡ Equal) (sym (g.canonical.unique w a xw xa nw na q))
          (tied_itself g.canonical.ordered.total a)))
      by false q = refl

  none_equal : (a : Value) (us : List Value) → x a ≡ true → f.is_normal a ≡ true →
      list_all x us ≡ true → list_all f.is_normal us ≡ true →
      list_all (λ w. is_lt (f.compare a w)) us ≡ true → list_any (λ w. e w a) us ≡ false
  none_equal a [] xa na hx hn h = refl
  none_equal a (u ∷ us) xa na hx hn h =
      let p = and_parts (x u) (list_all x us) hx in
      let q = and_parts (f.is_normal u) (list_all f.is_normal us) hn in
      let r = and_parts (is_lt (f.compare a u))
      (list_all (λ w. is_lt (f.compare a w)) us) h in
      λ i. not_above a u xa na p.0 q.0 r.0 i || none_equal a us xa na p.1 q.1 r.1 i

  -- normal values in ascending order are distinct
  distinct : (us : List Value) → list_all x us ≡ true → list_all f.is_normal us ≡ true →
      ascends f.compare us ≡ true → AreDistinct us
  distinct [] hx hn h = tt
  distinct (u ∷ us) hx hn h =
      let p = and_parts (x u) (list_all x us) hx in
      let q = and_parts (f.is_normal u) (list_all f.is_normal us) hn in (
        none_equal u us p.0 q.0 p.1 q.1 (below_all f.compare g.canonical.ordered.total u us h),
        distinct us p.1 q.1 (rest_ascends f.compare g.canonical.ordered.total u us h),
      )

  -- a set, whose elements are in a list
  set_shrinks :
      (us vs : List Value) → list_all x us ≡ true → is_normal_list f us ≡ true →
      same_members e us vs ≡ true → sum_of s us ≤ sum_of s vs
  set_shrinks us vs hx hn h =
      let p = and_parts (ascends f.compare us) (list_all f.is_normal us) hn in
      let q = and_parts (list_all (has e vs) us) (list_all (has e us) vs) h in
      distinct_shrink us vs hx p.1 (distinct us hx p.1 p.0) q.0

  -- a list, element by element
  list_shrinks :
      (us vs : List Value) → list_all x us ≡ true → list_all f.is_normal us ≡ true →
      pointwise e us vs ≡ true → sum_of s us ≤ sum_of s vs
  list_shrinks [] vs hx hn h = omega arith
  list_shrinks (u ∷ us) [] hx hn h = absurd (true≢false (sym h))
  list_shrinks (u ∷ us) (v ∷ vs) hx hn h =
      let a = and_parts (x u) (list_all x us) hx in
      let b = and_parts (f.is_normal u) (list_all f.is_normal us) hn in
      let c = and_parts (e u v) (pointwise e us vs) h in
      let here = g.shrinks u v a.0 b.0 c.0 in
      let rest = list_shrinks us vs a.1 b.1 c.1 in
      omega (arith, here, rest)

  abbrev firsts : List (Value × ℤ) → List Value
  firsts es = map (λ w. w.0) es

  any_firsts : (q : Value → Bool) (ws : List (Value × ℤ)) →
      list_any q (firsts ws) ≡ list_any (λ w. q w.0) ws
  any_firsts q [] = refl
  any_firsts q (w ∷ ws) = ap (λ b. q w.0 || b) (any_firsts q ws)

  apart : (us : List (Value × ℤ)) → AreDistinct (firsts us) → AreApart e is us
  apart [] d = tt
  apart (u ∷ us) d = (sym (any_firsts (λ w. e w u.0) us) ∙ d.0, apart us d.1)

  -- a value with a weight that is not 0 is in each list that gives it this weight
  weighed_in : (vs : List (Value × ℤ)) (r : Value × ℤ) → weight_of e vs r.0 ≡ r.1 →
      not (int_eq r.1 (pos 0)) ≡ true → has e (firsts vs) r.0 ≡ true
  weighed_in vs r own_weight h = by (has e (firsts vs) r.0) refl
    where
      by : (b : Bool) → has e (firsts vs) r.0 ≡ b → b ≡ true
      by true q = refl
      by false q =
          let none : weight_of e vs r.0 ≡ pos 0 =
          weight_of-none e is vs r.0 (sym (any_firsts (λ w. e w r.0) vs) ∙ q) in
          absurd (true≢false
          (sym h ∙ ap not ((Decides-int_eq r.1 (pos 0)).1 (sym own_weight ∙ none))))

  all_in : (vs us : List (Value × ℤ)) → AreOwn e is vs us →
      list_all (λ w. not (int_eq w.1 (pos 0))) us ≡ true →
      list_all (has e (firsts vs)) (firsts us) ≡ true
  all_in vs [] h z = refl
  all_in vs (u ∷ us) h z =
      let p = and_parts (not (int_eq u.1 (pos 0)))
      (list_all (λ w. not (int_eq w.1 (pos 0))) us) z in
      and_from (has e (firsts vs) u.0) (list_all (has e (firsts vs)) (firsts us))
      (weighed_in vs u h.0 p.0) (all_in vs us h.1 p.1)

  -- a weight list, whose entries have the sums of another
  sum_shrinks :
      (us vs : List (Value × ℤ)) → list_all (λ w. x w.0) us ≡ true → is_normal_sum f us ≡ true →
      same_weights e us vs ≡ true → sum_of s (firsts us) ≤ sum_of s (firsts vs)
  sum_shrinks us vs hx hn h =
      let p = and_parts (is_normal_list f (firsts us))
      (list_all (λ w. not (int_eq w.1 (pos 0))) us) hn in
      let q = and_parts (ascends f.compare (firsts us)) (list_all f.is_normal (firsts us)) p.0 in
      let all : list_all x (firsts us) ≡ true =
      list_all-map x (λ (w : Value × ℤ). w.0) us ∙ hx in
      let d = distinct (firsts us) all q.1 q.0 in
      let same = (same_weights-Decides e is us vs).0 h in
      distinct_shrink (firsts us) (firsts vs) all q.1 d
      (all_in vs us (own_in e is us vs us same (own e is us (apart us d))) p.1)

-- at each node q, values that fit X, are normal by F and equal by E are no larger by S
module _
    (X : ℕ → Check) (F : ℕ → Form) (E : ℕ → Test) (S : ℕ → Size)
    (least : (q : ℕ) → IsLeast (X q) (F q) (E q) (S q)) where
  at_least : (qs : List ℕ) (k : ℕ) →
      IsLeast (check_at (map X qs) k) (form_at (map F qs) k) (test_at (map E qs) k)
      (size_at (map S qs) k)
  at_least [] k = none_least (λ v. 0)
  at_least (q ∷ qs) k = by (k == 0) (at_least qs (k - 1))
    where
      by : (b : Bool) →
          IsLeast (check_at (map X qs) (k - 1)) (form_at (map F qs) (k - 1))
          (test_at (map E qs) (k - 1)) (size_at (map S qs) (k - 1)) →
          IsLeast (cond b (X q) (check_at (map X qs) (k - 1)))
          (cond b (F q) (form_at (map F qs) (k - 1)))
          (cond b (E q) (test_at (map E qs) (k - 1)))
          (λ v. (cond b (S q) (size_at (map S qs) (k - 1))) v)
      by true later = least q
      by false later = later

  all_canonical : (qs : List ℕ) → Zip3 IsCanonical (map X qs) (map F qs) (map E qs)
  all_canonical [] = tt
  all_canonical (q ∷ qs) = ((least q).canonical, all_canonical qs)

  places_shrink :
      (qs : List ℕ) (us vs : List Value) → each_fits (map X qs) us ≡ true →
      each_normal (map F qs) us ≡ true → each_place (map E qs) us vs ≡ true →
      sum_each (map S qs) us ≤ sum_each (map S qs) vs
  places_shrink [] us vs hx hn h = omega arith
  places_shrink (q ∷ qs) [] vs hx hn h = omega arith
  places_shrink (q ∷ qs) (u ∷ us) [] hx hn h = absurd (true≢false (sym h))
  places_shrink (q ∷ qs) (u ∷ us) (v ∷ vs) hx hn h =
      let a = and_parts (X q u) (each_fits (map X qs) us) hx in
      let b = and_parts ((F q).is_normal u) (each_normal (map F qs) us) hn in
      let c = and_parts (E q u v) (each_place (map E qs) us vs) h in
      let here = (least q).shrinks u v a.0 b.0 c.0 in
      let rest = places_shrink qs us vs a.1 b.1 c.1 in
      omega (arith, here, rest)

  module _ (a : ℕ) (qs : List ℕ) where
    abbrev IsStep : Node → Type 0
    IsStep m =
        (r v : Value) → fits_step m (map X qs) r ≡ true →
        (form_step m (map F qs)).is_normal r ≡ true → eq_step m (map E qs) r v ≡ true →
        size_step a m (map S qs) r ≤ size_step a m (map S qs) v

    weights_shrink :
        (m : Node) → IsWeighted m → (r v : Value) → fits_step m (map X qs) r ≡ true →
        is_normal_sum (form_at (map F qs) 0) (entries r) ≡ true →
        same_weights (test_at (map E qs) 0) (entries r) (entries v) ≡ true →
        sum_of (size_at (map S qs) 0) (weighed r) ≤ sum_of (size_at (map S qs) 0) (weighed v)
    weights_shrink m w r v hx hn h =
        let shape = weight_shape (map X qs) (out-Value r) (sym (w (map X qs) (out-Value r)) ∙ hx) in
        sum_shrinks (check_at (map X qs) 0) (form_at (map F qs) 0) (test_at (map E qs) 0)
        (size_at (map S qs) 0) (at_least qs 0) (entries r) (entries v) shape.1 hn h

    step_shrinks : (m : Node) → IsStep m
    step_shrinks State r v hx hn h = omega arith
    step_shrinks (Constant labels) r v hx hn h = omega arith
    step_shrinks Naturals r v hx hn h = omega arith
    step_shrinks Product r v hx hn h =
        let shape = product_shape (map X qs) (out-Value r) hx in
        let rest = places_shrink qs (parts r) (parts v) shape.1 hn h in
        omega (arith, rest)
    step_shrinks Sum r v hx hn h =
        let p = and_parts (index r == index v)
        (test_at (map E qs) (index r) (inner r) (inner v)) h in
        let shape = sum_shape (map X qs) r (out-Value r) hx in
        let here = (at_least qs (index r)).shrinks (inner r) (inner v) shape.1 hn p.1 in
        let same = ap (λ k. size_at (map S qs) k (inner v))
        (eqb-true (index r) (index v) p.0) in
        omega (arith, here, same)
    step_shrinks (Power labels) r v hx hn h =
        let shape = power_shape labels (map X qs) (out-Value r) hx in
        let rest = list_shrinks (check_at (map X qs) 0) (form_at (map F qs) 0)
        (test_at (map E qs) 0) (size_at (map S qs) 0) (at_least qs 0) (parts r) (parts v)
        shape.1 hn h in
        omega (arith, rest)
    step_shrinks Powerset r v hx hn h =
        let shape = set_shape (map X qs) (out-Value r) hx in
        let rest = set_shrinks (check_at (map X qs) 0) (form_at (map F qs) 0)
        (test_at (map E qs) 0) (size_at (map S qs) 0) (at_least qs 0) (parts r) (parts v)
        shape.1 hn h in
        omega (arith, rest)
    step_shrinks Bag r v hx hn h =
        let rest = weights_shrink Bag bag_weighted r v hx hn h in omega (arith, rest)
    step_shrinks Distribution r v hx hn h =
        let rest = weights_shrink Distribution distribution_weighted r v hx hn h in
        omega (arith, rest)
    step_shrinks Integers r v hx hn h =
        let rest = weights_shrink Integers integers_weighted r v hx hn h in omega (arith, rest)
    step_shrinks Rationals r v hx hn h =
        let rest = weights_shrink Rationals rationals_weighted r v hx hn h in omega (arith, rest)

    step_least : (m : Node) →
        IsLeast (fits_step m (map X qs)) (form_step m (map F qs)) (eq_step m (map E qs))
        (size_step a m (map S qs))
    step_least m = record {
      canonical = step_canonical m (map X qs) (map F qs) (map E qs) (all_canonical qs);
      shrinks = step_shrinks m;
    }

module _ (a : ℕ) (t : Nodes) where
  node_least : (n p : ℕ) →
      IsLeast (fold_within no_check fits_step t n p) (fold_within no_form form_step t n p)
      (fold_within no_test eq_step t n p) (size_within a t n p)
  node_least zero p = none_least (no_size a)
  node_least (suc n) p = by (node_least n) (slice_get t p)
    where
      by :
          ((q : ℕ) →
          IsLeast (fold_within no_check fits_step t n q) (fold_within no_form form_step t n q)
          (fold_within no_test eq_step t n q) (size_within a t n q)) →
          (o : Option Branch) →
          IsLeast
          (option_map_or (λ b. fits_step b.node (map (fold_within no_check fits_step t n)
          b.children)) o no_check)
          (option_map_or (λ b. form_step b.node (map (fold_within no_form form_step t n)
          b.children)) o no_form)
          (option_map_or (λ b. eq_step b.node (map (fold_within no_test eq_step t n)
          b.children)) o no_test)
          (option_map_or (λ b. size_step a b.node (map (size_within a t n) b.children)) o
          (no_size a))
      by least None = none_least (no_size a)
      by least (Some b) =
          step_least (fold_within no_check fits_step t n) (fold_within no_form form_step t n)
          (fold_within no_test eq_step t n) (size_within a t n) least a b.children b.node

  -- a normal value that fits is no larger than one that is equal to it
  pub normal_shrinks :
      (p : ℕ) (r v : Value) → fits t p r ≡ true → is_normal t p r ≡ true →
      are_equal t p r v ≡ true → size a t p r ≤ size a t p v
  normal_shrinks p = (node_least (length t) p).shrinks
