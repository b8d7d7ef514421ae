-- Lists that were sorted, and in which elements that tie were joined.
use Rattle.std.proofs.Common.{◌≡◌, ◌+◌, ◌<◌, Bool, true, false, not, cond, ◌&&◌, ◌||◌, List, [], ◌∷◌, map, filter, length, refl, sym, ap, ◌∙◌, subst, true≢false, arith}
use Rattle.std.specs.Prelude.{ℤ, pos}
use Rattle.std.specs.declared.cmp.Ordering.TheVariants.{Less}
use Rattle.std.specs.Ordering.{is_lt, eq_by_cmp, int_eq}
use Rattle.std.specs.Cmp.{IsTotalOrder}
use Rattle.std.specs.List.{list_all, list_any, dedup, dedup_from, AllByRecursion}
use Rattle.std.specs.List.Sorted.{IsPermutation, IsSorted, IsSortedBy, IsStrictlySortedBy}
use Rattle.std.proofs.lemmas.Bool.{and_parts, and_from}
use Rattle.std.proofs.lemmas.List.{get_or-map, length-map}
use Rattle.std.proofs.lemmas.List.Sorted.{list_any-IsPermutation, IsPermutation-map}
use Rattle.std.proofs.lemmas.List.Kept.{IsStrictlySortedBy-dedup, IsStrictlySortedBy-filter}
use Rattle.typing.specs.declared.value.Value.{Value}
use Rattle.typing.specs.Order.{Compare, ascends}
use Rattle.typing.specs.NormalForms.{TiesAreOne, IsSetOf, IsTotalOf, joined_from, joined}
use Rattle.typing.proofs.Totals.{IsMonoid, equal_is, total-permutation, total-joined, total-nonzero}

list_all-not : {X : Type 0} (p : X → Bool) (xs : List X)
    → list_all p xs ≡ not (list_any (λ x. not (p x)) xs)
list_all-not p [] = refl
list_all-not p (x ∷ xs) = by (p x) (list_all-not p xs)
  where
    by : (b : Bool) → list_all p xs ≡ not (list_any (λ x. not (p x)) xs)
        → (b && list_all p xs) ≡ not (not b || list_any (λ x. not (p x)) xs)
    by true h = h
    by false h = refl

pub list_all-permutation : {X : Type 0} (p : X → Bool) (xs ys : List X) → IsPermutation xs ys
    → list_all p xs ≡ list_all p ys
list_all-permutation p xs ys s = list_all-not p xs
    ∙ ap not (list_any-IsPermutation (λ x. not (p x)) xs ys s) ∙ sym (list_all-not p ys)

-- each element below those after it, as neighbours
pub ascends-strictly : (c : Compare) (vs : List Value) → IsStrictlySortedBy c vs
    → ascends c vs ≡ true
unfolding IsStrictlySortedBy
ascends-strictly c [] h = refl
ascends-strictly c (v ∷ []) h = refl
ascends-strictly c (u ∷ v ∷ vs) h = and_from (is_lt (c u v)) (ascends c (v ∷ vs)) (ap is_lt h.0.0)
    (ascends-strictly c (v ∷ vs) h.1)

module _ (c : Compare) where
  -- what is left of elements that tie
  all-dedup_from : (p : Value → Bool) (k : Value) (vs : List Value) → p k ≡ true
      → list_all p vs ≡ true → list_all p (dedup_from (eq_by_cmp c) k vs) ≡ true
  all-dedup_from p k [] hk h = and_from (p k) true hk refl
  all-dedup_from p k (v ∷ vs) hk h =
      let q = and_parts (p v) (list_all p vs) h in
      by (eq_by_cmp c v k) (all-dedup_from p k vs hk q.1) (all-dedup_from p v vs q.0 q.1)
    where
      by : (b : Bool) → list_all p (dedup_from (eq_by_cmp c) k vs) ≡ true
          → list_all p (dedup_from (eq_by_cmp c) v vs) ≡ true
          → list_all p (cond b (dedup_from (eq_by_cmp c) k vs) (k ∷ dedup_from (eq_by_cmp c) v vs))
          ≡ true
      by true one two = one
      by false one two = and_from (p k) (list_all p (dedup_from (eq_by_cmp c) v vs)) hk two

  pub all-dedup : (p : Value → Bool) (vs : List Value) → list_all p vs ≡ true
      → list_all p (dedup (eq_by_cmp c) vs) ≡ true
  all-dedup p [] h = refl
  all-dedup p (v ∷ vs) h = let q = and_parts (p v) (list_all p vs) h in
      all-dedup_from p v vs q.0 q.1

  module _ (good : Value → Bool) (ties : TiesAreOne c good) (p : Value → Bool) where
    twice : (a b : Bool) → a ≡ b → (a || b) ≡ a
    twice true b h = refl
    twice false b h = sym h

    regroup : (x y r : Bool) → x ≡ y → (x || r) ≡ (x || (y || r))
    regroup true y r h = refl
    regroup false true r h = absurd (true≢false (sym h))
    regroup false false r h = refl

    any-dedup_from : (k : Value) (vs : List Value) → good k ≡ true → list_all good vs ≡ true
        → list_any p (dedup_from (eq_by_cmp c) k vs) ≡ (p k || list_any p vs)
    any-dedup_from k [] gk g = refl
    any-dedup_from k (v ∷ vs) gk g =
        let q = and_parts (good v) (list_all good vs) g in
        by (eq_by_cmp c v k) (λ h. ap p (sym (ties.one v k q.0 gk (equal_is (c v k) h))))
        (any-dedup_from k vs gk q.1) (any-dedup_from v vs q.0 q.1)
      where
        by : (b : Bool) → (b ≡ true → p k ≡ p v) → list_any p (dedup_from (eq_by_cmp c) k vs)
            ≡ (p k || list_any p vs) → list_any p (dedup_from (eq_by_cmp c) v vs)
            ≡ (p v || list_any p vs)
            → list_any p (cond b (dedup_from (eq_by_cmp c) k vs) (k ∷ dedup_from (eq_by_cmp c) v
            vs)) ≡ (p k || (p v || list_any p vs))
        by true same one two = one ∙ regroup (p k) (p v) (list_any p vs) (same refl)
        by false same one two = ap (λ b. p k || b) two

    pub any-dedup : (vs : List Value) → list_all good vs ≡ true
        → list_any p (dedup (eq_by_cmp c) vs) ≡ list_any p vs
    any-dedup [] g = refl
    any-dedup (v ∷ vs) g = let q = and_parts (good v) (list_all good vs) g in
        any-dedup_from v vs q.0 q.1

-- a list that was sorted, and in which one of those that tie was kept
pub IsSetOf-sorted : (c : Compare) → IsTotalOrder c → (us ss rs : List Value) → IsPermutation us ss
    → IsSorted c ss → rs ≡ dedup (eq_by_cmp c) ss → IsSetOf c us rs
IsSetOf-sorted c o us ss rs same sorted is = subst (IsSetOf c us) (sym is) record {
  ascending = ascends-strictly c (dedup (eq_by_cmp c) ss) (IsStrictlySortedBy-dedup o (λ x y. refl)
      ss sorted);
  taken = λ p h. all-dedup c p ss (sym (list_all-permutation p us ss same) ∙ h);
  members = λ good ties g p. any-dedup c good ties p ss (sym (list_all-permutation good us ss same)
      ∙ g) ∙ sym (list_any-IsPermutation p us ss same);
}

-- sorted by their first parts
pub IsSorted-firsts : (c : Compare) (ws : List (Value × ℤ))
    → IsSortedBy (λ x y. is_lt (c x.0 y.0)) ws → IsSorted c (map (λ w. w.0) ws)
IsSorted-firsts c ws h k d low high =
    let e : length (map (λ (w : Value × ℤ). w.0) ws) ≡ length ws = rw length-map in
    let inside : k + 1 < length ws = omega arith in
    let before : k < length ws = omega arith in
    let default : Value × ℤ = (d, pos 0) in
    ap is_lt (λ i. c (get_or-map (λ (w : Value × ℤ). w.0) ws (k + 1) default d inside i)
    (get_or-map (λ (w : Value × ℤ). w.0) ws k default d before i)) ∙ h k default low inside

module _ (c : Compare) (plus : ℤ → ℤ → ℤ) where
  -- the values that are left are those of a set
  firsts-joined_from : (k : Value × ℤ) (ws : List (Value × ℤ))
      → map (λ w. w.0) (joined_from c plus k ws) ≡ dedup_from (eq_by_cmp c) k.0 (map (λ w. w.0) ws)
  firsts-joined_from k [] = refl
  firsts-joined_from k (w ∷ ws) = by (eq_by_cmp c w.0 k.0) (firsts-joined_from (k.0, plus k.1 w.1)
      ws) (firsts-joined_from w ws)
    where
      by : (b : Bool) → map (λ w. w.0) (joined_from c plus (k.0, plus k.1 w.1) ws) ≡ dedup_from
          (eq_by_cmp c) k.0 (map (λ w. w.0) ws)
          → map (λ w. w.0) (joined_from c plus w ws) ≡ dedup_from (eq_by_cmp c) w.0
          (map (λ w. w.0) ws)
          → map (λ w. w.0) (cond b (joined_from c plus (k.0, plus k.1 w.1) ws)
          (k ∷ joined_from c plus w ws))
          ≡ cond b (dedup_from (eq_by_cmp c) k.0 (map (λ w. w.0) ws))
          (k.0 ∷ dedup_from (eq_by_cmp c) w.0 (map (λ w. w.0) ws))
      by true one two = one
      by false one two = ap (λ vs. k.0 ∷ vs) two

  firsts-joined : (ws : List (Value × ℤ)) → map (λ w. w.0) (joined c plus ws) ≡ dedup (eq_by_cmp c)
      (map (λ w. w.0) ws)
  firsts-joined [] = refl
  firsts-joined (w ∷ ws) = firsts-joined_from w ws

  -- sorted pairs and sorted firsts
  below-firsts : (u : Value) (ws : List (Value × ℤ))
      → AllByRecursion (λ v. c u v ≡ Less) (map (λ w. w.0) ws)
      → AllByRecursion (λ w. c u w.0 ≡ Less) ws
  below-firsts u [] h = tt
  below-firsts u (w ∷ ws) h = (h.0, below-firsts u ws h.1)

  below-firsts' : (u : Value) (ws : List (Value × ℤ)) → AllByRecursion (λ w. c u w.0 ≡ Less) ws
      → AllByRecursion (λ v. c u v ≡ Less) (map (λ w. w.0) ws)
  below-firsts' u [] h = tt
  below-firsts' u (w ∷ ws) h = (h.0, below-firsts' u ws h.1)

  by-firsts : (ws : List (Value × ℤ)) → IsStrictlySortedBy c (map (λ w. w.0) ws)
      → IsStrictlySortedBy (λ (x y : Value × ℤ). c x.0 y.0) ws
  unfolding IsStrictlySortedBy
  by-firsts [] h = tt
  by-firsts (w ∷ ws) h = (below-firsts w.0 ws h.0, by-firsts ws h.1)

  to-firsts : (ws : List (Value × ℤ)) → IsStrictlySortedBy (λ (x y : Value × ℤ). c x.0 y.0) ws
      → IsStrictlySortedBy c (map (λ w. w.0) ws)
  unfolding IsStrictlySortedBy
  to-firsts [] h = tt
  to-firsts (w ∷ ws) h = (below-firsts' w.0 ws h.0, to-firsts ws h.1)

  all-kept : (p : Value → Bool) (q : Value × ℤ → Bool) (ws : List (Value × ℤ))
      → list_all p (map (λ w. w.0) ws) ≡ true → list_all p (map (λ w. w.0) (filter q ws)) ≡ true
  all-kept p q [] h = refl
  all-kept p q (w ∷ ws) h = let r = and_parts (p w.0) (list_all p (map (λ w. w.0) ws)) h in
      by (q w) (all-kept p q ws r.1)
    where
      by : (b : Bool) → list_all p (map (λ w. w.0) (filter q ws)) ≡ true
          → list_all p (map (λ w. w.0) (cond b (w ∷ filter q ws) (filter q ws))) ≡ true
      by true k = and_from (p w.0) (list_all p (map (λ w. w.0) (filter q ws)))
          (and_parts (p w.0) (list_all p (map (λ w. w.0) ws)) h).0 k
      by false k = k

  pub all-filter : {X : Type 0} (q : X → Bool) (xs : List X) → list_all q (filter q xs) ≡ true
  all-filter q [] = refl
  all-filter q (x ∷ xs) = by (q x) refl (all-filter q xs)
    where
      by : (b : Bool) → q x ≡ b → list_all q (filter q xs) ≡ true
          → list_all q (cond b (x ∷ filter q xs) (filter q xs)) ≡ true
      by true e k = and_from (q x) (list_all q (filter q xs)) e k
      by false e k = k

  -- entries that were sorted, joined, and rid of those with the weight 0
  pub IsTotalOf-sorted : IsTotalOrder c → (ok : ℤ → Bool) → IsMonoid ok plus
      → (us ss rs : List (Value × ℤ)) → list_all (λ w. ok w.1) us ≡ true → IsPermutation us ss
      → IsSortedBy (λ x y. is_lt (c x.0 y.0)) ss
      → rs ≡ filter (λ w. not (int_eq w.1 (pos 0))) (joined c plus ss)
      → list_all (λ w. ok w.1) (joined c plus ss) ≡ true → IsTotalOf c plus us rs
  IsTotalOf-sorted o ok m us ss rs okay same sorted is okay' =
      let firsts = λ (ws : List (Value × ℤ)). map (λ w. w.0) ws in
      let moved = IsPermutation-map (λ (w : Value × ℤ). w.0) us ss same in
      let strict : IsStrictlySortedBy c (firsts (joined c plus ss)) = subst (IsStrictlySortedBy c)
      (sym (firsts-joined ss)) (IsStrictlySortedBy-dedup o (λ x y. refl) (firsts ss)
      (IsSorted-firsts c ss sorted)) in
      let nonzero : Value × ℤ → Bool = λ w. not (int_eq w.1 (pos 0)) in
      let okay_ss : list_all (λ w. ok w.1) ss ≡ true =
      sym (list_all-permutation (λ (w : Value × ℤ). ok w.1) us ss same) ∙ okay in
      subst (IsTotalOf c plus us) (sym is) record {
        ascending = ascends-strictly c (firsts (filter nonzero (joined c plus ss)))
            (to-firsts (filter nonzero (joined c plus ss))
            (IsStrictlySortedBy-filter (λ (x y : Value × ℤ). c x.0 y.0) nonzero (joined c plus ss)
            (by-firsts (joined c plus ss) strict)));
        nonzero = all-filter nonzero (joined c plus ss);
        taken = λ p h. all-kept p nonzero (joined c plus ss)
            (subst (λ (vs : List Value). list_all p vs ≡ true) (sym (firsts-joined ss))
            (all-dedup c p (firsts ss) (sym (list_all-permutation p (firsts us) (firsts ss) moved)
            ∙ h)));
        totals = λ good ties g e a.
            total-nonzero ok plus m e a (joined c plus ss) okay'
            ∙ total-joined ok plus m e a c good ties ss okay_ss
            (sym (list_all-permutation good (firsts us) (firsts ss) moved) ∙ g)
            ∙ total-permutation ok plus m e a us ss same okay;
      }
