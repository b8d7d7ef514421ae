-- The value of one layer, for two structures that are equal once their states are relabelled: what
-- tests of values say of trits that are one wherever values are equal.
--
-- child_cases          == the tests and the places at the k-th child
-- through_child        == what is read through the places at one child
-- trits_pointwise      == trits of lists that are equal place by place
-- occurs               == a trit that occurs in one of two lists occurs in the other
-- joint_same           == weights with equal totals have equal sums at each trit
use Rattle.std.proofs.Common.{◌≡◌, ℕ, suc, ◌-◌, ◌==◌, Bool, true, false, ◌||◌, ◌⊎◌, List, [], ◌∷◌, map, Contains, refl, sym, ap, ◌∙◌, inl, inr, true≢false, arith}
use Rattle.std.specs.Prelude.{ℤ, pos, if◌then◌else◌}
use Rattle.std.specs.List.{list_all, list_any}
use Rattle.std.specs.Cmp.{IsEquivalence}
use Rattle.std.specs.Cmp.Lexicographic.{pointwise}
use Rattle.std.proofs.lemmas.Bool.{and_parts, eq-eqb, eqb-true}
use Rattle.std.proofs.lemmas.Cmp.{on_equiv, nat_eq_equiv}
use Rattle.typing.specs.declared.value.Value.{Value}
use Rattle.typing.specs.Equality.{Test, test_at, has, the_sum, weight_of}
use Rattle.typing.proofs.Weights.{coarser_sums}
use Rattle.typing.specs.Layers.{Place, at_child}
use Rattle.formula_checker.specs.LayerValues.{joint_with}

-- the test is that of a child, and the places are at it
abbrev pub IsAtChild : (ℕ → Test) → List ℕ → Test → (List Value → List Place) → Type 0
IsAtChild e qs test places =
    (q : ℕ) × Contains qs q × (test ≡ e q)
    × ((us : List Value) → places us ≡ map (λ u. (q, u)) us)

-- the tests at the k-th child and the places there; past the last child there are no places
pub child_cases :
    (e : ℕ → Test) (qs : List ℕ) (k : ℕ) →
    IsAtChild e qs (test_at (map e qs) k) (at_child qs k)
    ⊎ ((us : List Value) → at_child qs k us ≡ [])
child_cases e [] k = inr (λ us. refl)
child_cases e (q ∷ qs) k = by (k == 0) (child_cases e qs (k - 1))
  where
    places : Bool → List Value → List Place
    places o us = if o then map (λ u. (q, u)) us else at_child qs (k - 1) us

    by : (o : Bool) →
        IsAtChild e qs (test_at (map e qs) (k - 1)) (at_child qs (k - 1))
        ⊎ ((us : List Value) → at_child qs (k - 1) us ≡ []) →
        IsAtChild e (q ∷ qs) (if o then e q else test_at (map e qs) (k - 1)) (places o)
        ⊎ ((us : List Value) → places o us ≡ [])
    by true later = inl (q, (0, omega arith, refl), refl, λ us. refl)
    by false (inl found) =
        let (r, in_, test, there) = found in
        let (j, below, same) = in_ in
        inl (r, (suc j, omega (arith, below), same), test, there)
    by false (inr none) = inr none

-- what is read through the places at one child
pub through_child :
    (f : Place → ℕ) (thr : Place → Place) (q : ℕ) (us : List Value) →
    map f (map thr (map (λ u. (q, u)) us)) ≡ map (λ u. f (thr (q, u))) us
through_child f thr q [] = refl
through_child f thr q (u ∷ us) = ap (λ ns. f (thr (q, u)) ∷ ns) (through_child f thr q us)

-- without trits nothing is joined
pub joint_none : (es : List (Value × ℤ)) (k : ℕ) → joint_with the_sum es [] k ≡ pos 0
joint_none [] k = refl
joint_none (e ∷ es) k = refl

-- the sum of the weights of the entries whose values have the number k
abbrev pub joint : (Value → ℕ) → List (Value × ℤ) → ℕ → ℤ
joint f es k = joint_with the_sum es (map f (map (λ e. e.0) es)) k

-- it is a total by the test that compares numbers
joint_is :
    (f : Value → ℕ) (es : List (Value × ℤ)) (a : Value) →
    joint f es (f a) ≡ weight_of (λ x y. f x == f y) es a
joint_is f [] a = refl
joint_is f (e ∷ es) a = ap (λ n. the_sum (if f e.0 == f a then e.1 else pos 0) n) (joint_is f es a)

-- where no entry has the number, nothing is joined
joint_without :
    (f : Value → ℕ) (es : List (Value × ℤ)) (k : ℕ) →
    list_any (λ e. f e.0 == k) es ≡ false → joint f es k ≡ pos 0
joint_without f [] k h = refl
joint_without f (e ∷ es) k h = by (f e.0 == k) h (joint_without f es k)
  where
    by : (o : Bool) → (o || list_any (λ e. f e.0 == k) es) ≡ false →
        (list_any (λ e. f e.0 == k) es ≡ false → joint f es k ≡ pos 0) →
        the_sum (if o then e.1 else pos 0) (joint f es k) ≡ pos 0
    by true h later = absurd (true≢false h)
    by false h later = ap (λ n. the_sum (pos 0) n) (later h)

-- two values have one number
abbrev same_number : (Value → ℕ) → Test
same_number f x y = f x == f y

-- maps that agree on the values that pass a test
map_passing :
    (D : Value → Bool) (f g : Value → ℕ) → ((x : Value) → D x ≡ true → f x ≡ g x) →
    (es : List (Value × ℤ)) → list_all (λ e. D e.0) es ≡ true →
    map f (map (λ e. e.0) es) ≡ map g (map (λ e. e.0) es)
map_passing D f g same [] h = refl
map_passing D f g same (e ∷ es) h =
    let p = and_parts (D e.0) (list_all (λ e. D e.0) es) h in
    λ i. same e.0 p.0 i ∷ map_passing D f g same es p.1 i

-- Values that E takes for one have one number, by f on the left and by g on the right. D are the
-- values of which this is known.
module _
    (E : Test) (e : IsEquivalence E) (D : Value → Bool) (f g : Value → ℕ)
    (same : (x y : Value) → D x ≡ true → D y ≡ true → E x y ≡ true → f x ≡ g y) where
  -- f and g are one there
  one : (x : Value) → D x ≡ true → f x ≡ g x
  one x h = same x x h h (e.refl x)

  -- values that are equal place by place have the same numbers
  pub trits_pointwise :
      (us vs : List Value) → list_all D us ≡ true → list_all D vs ≡ true →
      pointwise E us vs ≡ true → map f us ≡ map g vs
  trits_pointwise [] [] hu hv h = refl
  trits_pointwise [] (v ∷ vs) hu hv h = absurd (true≢false (sym h))
  trits_pointwise (u ∷ us) [] hu hv h = absurd (true≢false (sym h))
  trits_pointwise (u ∷ us) (v ∷ vs) hu hv h =
      let pu = and_parts (D u) (list_all D us) hu in
      let pv = and_parts (D v) (list_all D vs) hv in
      let p = and_parts (E u v) (pointwise E us vs) h in
      λ i. same u v pu.0 pv.0 p.0 i ∷ trits_pointwise us vs pu.1 pv.1 p.1 i

  -- a number that occurs on the left occurs on the right
  pub occurs :
      (us vs : List Value) → list_all D us ≡ true → list_all D vs ≡ true →
      list_all (has E vs) us ≡ true → (k : ℕ) →
      list_any (λ x. x == k) (map f us) ≡ true → list_any (λ x. x == k) (map g vs) ≡ true
  occurs [] vs hu hv h k found = absurd (true≢false (sym found))
  occurs (u ∷ us) vs hu hv h k found =
      let pu = and_parts (D u) (list_all D us) hu in
      let p = and_parts (has E vs u) (list_all (has E vs) us) h in
      by (f u == k) refl found pu.0 p.0 (occurs us vs pu.1 hv p.1 k)
    where
      there :
          (vs : List Value) → list_all D vs ≡ true → D u ≡ true → f u ≡ k →
          list_any (λ v. E v u) vs ≡ true → list_any (λ x. x == k) (map g vs) ≡ true
      there [] hv du e found = absurd (true≢false (sym found))
      there (v ∷ vs) hv du e found =
          let pv = and_parts (D v) (list_all D vs) hv in
          at (E v u) refl found pv.0 (there vs pv.1 du e)
        where
          at : (o : Bool) → E v u ≡ o → (o || list_any (λ v. E v u) vs) ≡ true → D v ≡ true →
              (list_any (λ v. E v u) vs ≡ true → list_any (λ x. x == k) (map g vs) ≡ true) →
              ((g v == k) || list_any (λ x. x == k) (map g vs)) ≡ true
          at true is h dv later =
              ap (λ o. o || list_any (λ x. x == k) (map g vs))
              (eq-eqb (g v) k (sym (one v dv) ∙ same v u dv du is ∙ sym (one u du) ∙ e))
          at false is h dv later = right (g v == k) (later h)
            where
              right :
                  (o : Bool) → list_any (λ x. x == k) (map g vs) ≡ true →
                  (o || list_any (λ x. x == k) (map g vs)) ≡ true
              right true h = refl
              right false h = h

      by : (o : Bool) → (f u == k) ≡ o → (o || list_any (λ x. x == k) (map f us)) ≡ true →
          D u ≡ true → has E vs u ≡ true →
          (list_any (λ x. x == k) (map f us) ≡ true → list_any (λ x. x == k) (map g vs) ≡ true) →
          list_any (λ x. x == k) (map g vs) ≡ true
      by true is h du has_u later = there vs hv du (eqb-true (f u) k is) has_u
      by false is h du has_u later = later h

  -- equal totals over each class of E are equal sums over each number
  pub joint_same :
      (us vs : List (Value × ℤ)) → list_all (λ w. D w.0) us ≡ true →
      list_all (λ w. D w.0) vs ≡ true →
      ((a : Value) → weight_of E us a ≡ weight_of E vs a) → (k : ℕ) → joint f us k ≡ joint g vs k
  joint_same us vs hu hv sums k =
      by (list_any (λ w. f w.0 == k) us) refl (list_any (λ w. f w.0 == k) vs) refl
      ∙ ap (λ ns. joint_with the_sum vs ns k) (map_passing D f g one vs hv)
    where
      coarser :
          (x y : Value) → D x ≡ true → D y ≡ true → E x y ≡ true → same_number f x y ≡ true
      coarser x y dx dy h = eq-eqb (f x) (f y) (same x y dx dy h ∙ sym (one y dy))

      f_is : IsEquivalence (same_number f)
      f_is = on_equiv f nat_eq_equiv

      some_has : (a : Value) → f a ≡ k → joint f us k ≡ joint f vs k
      some_has a is =
          ap (joint f us) (sym is)
          ∙ joint_is f us a
          ∙ coarser_sums E (same_number f) e f_is D coarser us vs hu hv sums a
          ∙ sym (joint_is f vs a)
          ∙ ap (joint f vs) is

      found :
          (ws : List (Value × ℤ)) → list_any (λ w. f w.0 == k) ws ≡ true →
          (a : Value) × (f a ≡ k)
      found [] h = absurd (true≢false (sym h))
      found (w ∷ ws) h = at (f w.0 == k) refl h (found ws)
        where
          at : (o : Bool) → (f w.0 == k) ≡ o → (o || list_any (λ w. f w.0 == k) ws) ≡ true →
              (list_any (λ w. f w.0 == k) ws ≡ true → (a : Value) × (f a ≡ k)) →
              (a : Value) × (f a ≡ k)
          at true is h later = (w.0, eqb-true (f w.0) k is)
          at false is h later = later h

      by : (o : Bool) → list_any (λ w. f w.0 == k) us ≡ o →
          (p : Bool) → list_any (λ w. f w.0 == k) vs ≡ p → joint f us k ≡ joint f vs k
      by true a p b = let (x, is) = found us a in some_has x is
      by false a true b = let (x, is) = found vs b in some_has x is
      by false a false b = joint_without f us k a ∙ sym (joint_without f vs k b)
