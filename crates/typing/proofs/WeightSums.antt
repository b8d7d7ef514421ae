-- Sums of weights in lists in which no two values are equal.
use Rattle.std.proofs.Common.{◌≡◌, ℕ, zero, suc, ◌+◌, ◌≤◌, Bool, true, false, not, cond, List, [], ◌∷◌, filter, refl, sym, ap, ◌∙◌, subst, true≢false, arith}
use Rattle.std.specs.Prelude.{ℤ, pos, negsuc, ◌+ℤ◌, unsigned_abs, int_lt, if◌then◌else◌}
use Rattle.std.specs.Cmp.{IsEquivalence}
use Rattle.std.specs.List.{list_all, list_any, AllByRecursion}
use Rattle.std.specs.Ordering.{int_eq}
use Rattle.std.proofs.lemmas.Bool.{and_parts, and_from, lt-ltb, or_parts}
use Rattle.std.proofs.lemmas.Int.{ints}
use Rattle.std.proofs.lemmas.List.Sums.{sum_by-cons}
use Rattle.functor_terms.specs.declared.node.Node.TheVariants.{Distribution}
use Rattle.typing.specs.declared.value.Value.{Value}
use Rattle.typing.specs.declared.value.Value.TheVariants as value
use Rattle.typing.specs.Equality.{Test, no_test, weight_of}
use Rattle.typing.specs.Bounds.{absolute_sum, are_positive, are_from_zero, joint_weight}
use Rattle.typing.proofs.Tests.{right_congr, no_test-equivalence, all_from_each, weight_of-congr, weight_of-none}
use Rattle.typing.proofs.Weights.{coarser_sums}

-- the size of a sum is at most the sum of the sizes
pub triangle : (a b : ℤ) → unsigned_abs (a +ℤ b) ≤ unsigned_abs a + unsigned_abs b
triangle a b = omega (arith, ints)

natural_is : (z : ℤ) → not (int_lt z (pos 0)) ≡ true → (n : ℕ) × (z ≡ pos n)
natural_is (pos n) h = (n, refl)
natural_is (negsuc n) h = absurd (true≢false (sym h))

positive_pos : (n : ℕ) → not (int_eq (pos n) (pos 0)) ≡ true → int_lt (pos 0) (pos n) ≡ true
positive_pos zero h = absurd (true≢false (sym h))
positive_pos (suc n) h = lt-ltb zero (suc n) (omega arith)

-- a number from 0 that is not 0 is above it
pub positive_from : (z : ℤ) (n : ℕ) → z ≡ pos n → not (int_eq z (pos 0)) ≡ true
    → int_lt (pos 0) z ≡ true
positive_from z n e h = subst (λ (y : ℤ). int_lt (pos 0) y ≡ true) (sym e)
    (positive_pos n (subst (λ (y : ℤ). not (int_eq y (pos 0)) ≡ true) e h))

abbrev size : Value × ℤ → ℕ
size w = unsigned_abs w.1

-- the sum of all weights is the weight where all values count as equal
joint_is : (ws : List (Value × ℤ)) (a : Value)
    → joint_weight Distribution ws ≡ weight_of no_test ws a
joint_is [] a = refl
joint_is (w ∷ ws) a = ap (λ n. w.1 +ℤ n) (joint_is ws a)

module _ (e : Test) (is : IsEquivalence e) where
  -- no value is equal to a later one
  abbrev pub AreApart : List (Value × ℤ) → Type 0
  AreApart [] = Unit {0}
  AreApart (u ∷ us) = (list_any (λ w. e w.0 u.0) us ≡ false) × AreApart us

  -- each entry has the weight of its own value
  abbrev pub AreOwn : List (Value × ℤ) → List (Value × ℤ) → Type 0
  AreOwn vs us = AllByRecursion (λ r. weight_of e vs r.0 ≡ r.1) us

  own_head : (u : Value × ℤ) (us : List (Value × ℤ)) → list_any (λ w. e w.0 u.0) us ≡ false
      → weight_of e (u ∷ us) u.0 ≡ u.1
  own_head u us h = ap (λ b. (if b then u.1 else pos 0) +ℤ weight_of e us u.0) (is.refl u.0)
      ∙ ap (λ n. u.1 +ℤ n) (weight_of-none e is us u.0 h) ∙ omega (arith, ints)

  own_more : (u : Value × ℤ) (us ws : List (Value × ℤ)) → list_any (λ w. e w.0 u.0) ws ≡ false
      → AreOwn us ws → AreOwn (u ∷ us) ws
  own_more u us [] h k = tt
  own_more u us (w ∷ ws) h k =
      let p = or_parts (e w.0 u.0) (list_any (λ w. e w.0 u.0) ws) h in (
        ap (λ b. (if b then u.1 else pos 0) +ℤ weight_of e us w.0) (is.symm u.0 w.0 ∙ p.0)
            ∙ ap (λ n. pos 0 +ℤ n) k.0 ∙ omega (arith, ints),
        own_more u us ws p.1 k.1,
      )

  -- entries of which no two are equal are their own sums
  pub own : (us : List (Value × ℤ)) → AreApart us → AreOwn us us
  own [] h = tt
  own (u ∷ us) h = (own_head u us h.0, own_more u us us h.0 (own us h.1))

  -- where no weight is below 0, no sum is
  pub natural_sum : (ws : List (Value × ℤ)) (a : Value) → are_from_zero ws ≡ true
      → (n : ℕ) × (weight_of e ws a ≡ pos n)
  natural_sum [] a h = (0, refl)
  natural_sum (w ∷ ws) a h =
      let p = and_parts (not (int_lt w.1 (pos 0))) (are_from_zero ws) h in
      let (m, q) = natural_is w.1 p.0 in
      let (n, r) = natural_sum ws a p.1 in
      by m n q r (e w.0 a)
    where
      by : (m n : ℕ) → w.1 ≡ pos m → weight_of e ws a ≡ pos n → (b : Bool)
          → (k : ℕ) × ((if b then w.1 else pos 0) +ℤ weight_of e ws a ≡ pos k)
      by m n q r true = (m + n, omega (arith, ints, q, r))
      by m n q r false = (n, omega (arith, ints, r))

  -- so each has the weight of its own value in a list with the same weights
  pub own_in : (us vs ws : List (Value × ℤ)) → ((a : Value) → weight_of e us a ≡ weight_of e vs a)
      → AreOwn us ws → AreOwn vs ws
  own_in us vs [] same h = tt
  own_in us vs (w ∷ ws) same h = (sym (same w.0) ∙ h.0, own_in us vs ws same h.1)

  -- and is above 0 if none of those is below
  pub own_positive : (vs us : List (Value × ℤ)) → are_from_zero vs ≡ true → AreOwn vs us
      → list_all (λ w. not (int_eq w.1 (pos 0))) us ≡ true → are_positive us ≡ true
  own_positive vs [] h k z = refl
  own_positive vs (u ∷ us) h k z =
      let p = and_parts (not (int_eq u.1 (pos 0)))
      (list_all (λ w. not (int_eq w.1 (pos 0))) us) z in
      let (n, q) = natural_sum vs u.0 h in
      and_from (int_lt (pos 0) u.1) (are_positive us) (positive_from u.1 n (sym k.0 ∙ q) p.0)
      (own_positive vs us h k.1 p.1)

  -- the entries whose values are not equal to x
  abbrev without : Value → List (Value × ℤ) → List (Value × ℤ)
  without x ws = filter (λ w. not (e w.0 x)) ws

  split_size : (x : Value) (ws : List (Value × ℤ))
      → unsigned_abs (weight_of e ws x) + absolute_sum (without x ws) ≤ absolute_sum ws
  split_size x [] = omega arith
  split_size x (w ∷ ws) = by (e w.0 x) (split_size x ws)
    where
      by : (b : Bool) → unsigned_abs (weight_of e ws x) + absolute_sum
          (without x ws) ≤ absolute_sum ws
          → unsigned_abs ((if b then w.1 else pos 0) +ℤ weight_of e ws x) + absolute_sum
          (cond (not b) (w ∷ without x ws) (without x ws)) ≤ absolute_sum (w ∷ ws)
      by true h = omega (arith, triangle w.1 (weight_of e ws x), sum_by-cons size w ws, h)
      by false h = omega (
        arith,
        triangle (pos 0) (weight_of e ws x),
        sum_by-cons size w ws,
        sum_by-cons size w (without x ws),
        h,
      )

  -- the others keep their weights
  others : (x a : Value) (ws : List (Value × ℤ))
      → weight_of e (without x ws) a ≡ (if e a x then pos 0 else weight_of e ws a)
  others x a [] = by (e a x)
    where
      by : (b : Bool) → pos 0 ≡ (if b then pos 0 else pos 0)
      by true = refl
      by false = refl
  others x a (w ∷ ws) = by (e w.0 x) (e a x) (λ same. is.congr w.0 x a same ∙ is.symm x a)
      (λ same. right_congr is a x w.0 same) (others x a ws)
    where
      by : (b c : Bool) → (b ≡ true → e w.0 a ≡ c) → (c ≡ true → e w.0 a ≡ b)
          → weight_of e (without x ws) a ≡ (if c then pos 0 else weight_of e ws a)
          → weight_of e (cond (not b) (w ∷ without x ws) (without x ws)) a
          ≡ (if c then pos 0 else (if e w.0 a then w.1 else pos 0) +ℤ weight_of e ws a)
      by true true g k h = h
      by true false g k h = h ∙ sym (ap (λ o. (if o then w.1 else pos 0) +ℤ weight_of e ws a)
          (g refl) ∙ omega (arith, ints))
      by false true g k h = ap (λ o. (if o then w.1 else pos 0) +ℤ weight_of e (without x ws) a)
          (k refl) ∙ ap (λ n. pos 0 +ℤ n) h
      by false false g k h = ap (λ n. (if e w.0 a then w.1 else pos 0) +ℤ n) h

  -- weights that agree still do so once the first value is taken out
  rest_same : (u : Value × ℤ) (us vs : List (Value × ℤ)) → list_any (λ w. e w.0 u.0) us ≡ false
      → ((a : Value) → weight_of e (u ∷ us) a ≡ weight_of e vs a) → (a : Value)
      → weight_of e us a ≡ weight_of e (without u.0 vs) a
  rest_same u us vs none same a = by (e a u.0) refl ∙ sym (others u.0 a vs)
    where
      by : (b : Bool) → e a u.0 ≡ b → weight_of e us a ≡ (if b then pos 0 else weight_of e vs a)
      by true q = weight_of-congr e is us a u.0 q ∙ weight_of-none e is us u.0 none
      by false q =
          let head : weight_of e (u ∷ us) a ≡ pos 0 +ℤ weight_of e us a =
          ap (λ b. (if b then u.1 else pos 0) +ℤ weight_of e us a) (is.symm u.0 a ∙ q) in
          let all : weight_of e (u ∷ us) a ≡ weight_of e vs a = same a in
          omega (arith, ints, head, all)

  -- a list in which no two values are equal has the least absolute sum
  pub absolute_least : (us vs : List (Value × ℤ)) → AreApart us
      → ((a : Value) → weight_of e us a ≡ weight_of e vs a) → absolute_sum us ≤ absolute_sum vs
  absolute_least [] vs h same = omega arith
  absolute_least (u ∷ us) vs h same =
      let first : unsigned_abs u.1 ≡ unsigned_abs (weight_of e vs u.0) =
      ap unsigned_abs (sym (own_head u us h.0) ∙ same u.0) in
      omega (
        arith,
        sum_by-cons size u us,
        split_size u.0 vs,
        first,
        absolute_least us (without u.0 vs) h.1 (rest_same u us vs h.0 same),
      )

  -- the sum of all weights stays
  pub joint_same : (us vs : List (Value × ℤ)) → ((a : Value) → weight_of e us a ≡ weight_of e vs a)
      → joint_weight Distribution us ≡ joint_weight Distribution vs
  joint_same us vs same =
      let a : Value = value.Label 0 in
      let all : (ws : List (Value × ℤ)) → list_all (λ w. true) ws ≡ true =
      λ ws. all_from_each (λ w. true) ws (λ w. refl) in
      joint_is us a ∙ coarser_sums e no_test is no_test-equivalence (λ v. true)
      (λ x y hx hy h. refl) us vs (all us) (all vs) same a ∙ sym (joint_is vs a)
