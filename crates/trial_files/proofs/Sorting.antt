-- Lists put in order, and the sets and totals that follow.
use Rattle.std.proofs.Common.{◌≡◌, ℕ, zero, suc, ◌+◌, Bool, true, false, not, cond, List, [], ◌∷◌, filter, refl, ap, ◌∙◌, arith}
use Rattle.std.specs.Prelude.{ℤ, pos, slice_index_or}
use Rattle.std.specs.Cmp.{IsTotalOrder}
use Rattle.std.specs.List.{dedup}
use Rattle.std.specs.List.Sorted.{IsPermutation, IsSortedBy}
use Rattle.std.specs.Ordering.{is_lt, eq_by_cmp, int_eq}
use Rattle.std.proofs.lemmas.List.Sorted.{ranks_by, IsPermutation-refl, IsPermutation-trans, IsPermutation-cons, IsPermutation-middle}
use Rattle.typing.specs.declared.value.Value.{Value}
use Rattle.typing.specs.Equality.{the_sum}
use Rattle.typing.specs.Order.{Compare}
use Rattle.typing.specs.NormalForms.{IsSetOf, IsTotalOf, joined}
use Rattle.typing.proofs.InOrder.{IsSetOf-sorted, IsTotalOf-sorted}
use Rattle.typing.proofs.Tests.{all_from_each}
use Rattle.typing.proofs.Totals.{any_number, sum-IsMonoid}

module _ {X : Type 0} (lt : X → X → Bool) (one_way : (x y : X) → lt x y ≡ true
    → lt y x ≡ false) where
  -- an element before the first that is not below it
  abbrev put_in : X → List X → List X
  put_in x [] = x ∷ []
  put_in x (y ∷ ys) = cond (lt y x) (y ∷ put_in x ys) (x ∷ y ∷ ys)

  abbrev in_order : List X → List X
  in_order [] = []
  in_order (x ∷ xs) = put_in x (in_order xs)

  -- the elements stay
  put_permutes : (x : X) (ys : List X) → IsPermutation (x ∷ ys) (put_in x ys)
  put_permutes x [] = IsPermutation-refl (x ∷ [])
  put_permutes x (y ∷ ys) = by (lt y x) (put_permutes x ys)
    where
      by : (b : Bool) → IsPermutation (x ∷ ys) (put_in x ys)
          → IsPermutation (x ∷ y ∷ ys) (cond b (y ∷ put_in x ys) (x ∷ y ∷ ys))
      by true rest =
          IsPermutation-trans (x ∷ y ∷ ys) (y ∷ x ∷ ys) (y ∷ put_in x ys)
          (IsPermutation-middle (x ∷ []) y ys)
          (IsPermutation-cons y (x ∷ ys) (put_in x ys) rest)
      by false rest = IsPermutation-refl (x ∷ y ∷ ys)

  order_permutes : (xs : List X) → IsPermutation xs (in_order xs)
  order_permutes [] = IsPermutation-refl []
  order_permutes (x ∷ xs) =
      IsPermutation-trans (x ∷ xs) (x ∷ in_order xs) (put_in x (in_order xs))
      (IsPermutation-cons x xs (in_order xs) (order_permutes xs)) (put_permutes x (in_order xs))

  -- no element is below the one before it
  abbrev Ordered : List X → Type 0
  Ordered [] = Unit {0}
  Ordered (x ∷ []) = Unit {0}
  Ordered (x ∷ y ∷ ys) = (lt y x ≡ false) × Ordered (y ∷ ys)

  ordered_rest : (x : X) (xs : List X) → Ordered (x ∷ xs) → Ordered xs
  ordered_rest x [] h = tt
  ordered_rest x (y ∷ ys) h = h.1

  put_after : (y x : X) (zs : List X) → Ordered (y ∷ zs) → lt x y ≡ false
      → Ordered (put_in x zs) → Ordered (y ∷ put_in x zs)
  put_after y x [] h e k = (e, tt)
  put_after y x (z ∷ zs) h e k = by (lt z x) k
    where
      by : (b : Bool) → Ordered (cond b (z ∷ put_in x zs) (x ∷ z ∷ zs))
          → Ordered (y ∷ cond b (z ∷ put_in x zs) (x ∷ z ∷ zs))
      by true k = (h.0, k)
      by false k = (e, k)

  put_ordered : (x : X) (ys : List X) → Ordered ys → Ordered (put_in x ys)
  put_ordered x [] h = tt
  put_ordered x (y ∷ ys) h = by (lt y x) refl (put_ordered x ys (ordered_rest y ys h))
    where
      by : (b : Bool) → lt y x ≡ b → Ordered (put_in x ys)
          → Ordered (cond b (y ∷ put_in x ys) (x ∷ y ∷ ys))
      by true e k = put_after y x ys h (one_way y x e) k
      by false e k = (e, h)

  order_ordered : (xs : List X) → Ordered (in_order xs)
  order_ordered [] = tt
  order_ordered (x ∷ xs) = put_ordered x (in_order xs) (order_ordered xs)

  ordered_sorted : (xs : List X) → Ordered xs → IsSortedBy lt xs
  ordered_sorted [] h k d low high = absurd (omega (arith, high))
  ordered_sorted (x ∷ []) h k d low high = absurd (omega (arith, high))
  ordered_sorted (x ∷ y ∷ ys) h zero d low high = h.0
  ordered_sorted (x ∷ y ∷ ys) h (suc k) d low high =
      ap (λ n. lt (slice_index_or (x ∷ y ∷ ys) n d) (slice_index_or (y ∷ ys) k d)) (moved k)
      ∙ ordered_sorted (y ∷ ys) h.1 k d (omega arith) (omega (arith, high))
    where
      moved : (k : ℕ) → suc k + 1 ≡ suc (k + 1)
      moved k = omega arith

  -- the elements of a list in order
  pub sorted : (xs : List X) → (ys : List X) × IsPermutation xs ys × IsSortedBy lt ys
  sorted xs = (in_order xs, order_permutes xs, ordered_sorted (in_order xs) (order_ordered xs))

module _ (c : Compare) (total : IsTotalOrder c) where
  -- each list of values has a set
  pub set-exists : (us : List Value) → (rs : List Value) × IsSetOf c us rs
  set-exists us =
      let (ss, same, ordered) = sorted (λ (u v : Value). is_lt (c u v))
      (ranks_by total (λ (v : Value). v)).one_way us in (
        dedup (eq_by_cmp c) ss,
        IsSetOf-sorted c total us ss (dedup (eq_by_cmp c) ss) same ordered refl,
      )

  -- and each list of entries has its totals
  pub totals-exist : (us : List (Value × ℤ)) → (rs : List (Value × ℤ)) × IsTotalOf c the_sum us rs
  totals-exist us =
      let (ss, same, ordered) = sorted (λ (u v : Value × ℤ). is_lt (c u.0 v.0))
      (ranks_by total (λ (e : Value × ℤ). e.0)).one_way us in
      let rs : List (Value × ℤ) = filter (λ w. not (int_eq w.1 (pos 0))) (joined c the_sum ss) in (
        rs,
        IsTotalOf-sorted c the_sum total any_number sum-IsMonoid us ss rs
            (all_from_each (λ (w : Value × ℤ). any_number w.1) us (λ w. refl)) same ordered refl
            (all_from_each (λ (w : Value × ℤ). any_number w.1) (joined c the_sum ss) (λ w. refl)),
      )
