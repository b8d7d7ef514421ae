-- Totals of weights in a commutative monoid.
use Rattle.std.proofs.Common.{◌≡◌, ℕ, zero, suc, ◌<◌, Bool, true, false, not, cond, List, [], ◌∷◌, length, map, filter, get_or, set, refl, sym, ap, ◌∙◌, subst, arith, true≢false}
use Rattle.std.specs.Prelude.{ℤ, pos, if◌then◌else◌}
use Rattle.std.specs.List.{list_all}
use Rattle.std.specs.List.Sorted.{IsPermutation}
use Rattle.std.specs.Ordering.{is_eq, eq_by_cmp, int_eq}
use Rattle.std.specs.declared.cmp.Ordering.TheVariants.{Less, Equal, Greater}
use Rattle.std.specs.declared.cmp.Ordering.{Ordering}
use Rattle.std.proofs.lemmas.Bool.{and_parts, and_from}
use Rattle.std.proofs.lemmas.Bool.Decides.{Decides-int_eq}
use Rattle.std.proofs.lemmas.Int.{ints}
use Rattle.std.proofs.lemmas.List.Edits.{swap_is}
use Rattle.std.proofs.lemmas.List.Sorted.{IsPermutation-keeps, IsPermutation-map}
use Rattle.typing.specs.declared.value.Value.{Value}
use Rattle.typing.specs.Equality.{Test, total}
use Rattle.typing.specs.Order.{Compare}
use Rattle.typing.specs.NormalForms.{TiesAreOne, joined_from, joined}
use Rattle.typing.specs.Equality.{the_sum}

-- the test of equal holds of equal alone
pub equal_is : (r : Ordering) → is_eq r ≡ true → r ≡ Equal
equal_is Less h = cc
equal_is Equal h = refl
equal_is Greater h = cc

-- the numbers that pass ok are a commutative monoid with 0
pub record IsMonoid (ok : ℤ → Bool) (plus : ℤ → ℤ → ℤ) : Type 0 where
  pub zero_ok : ok (pos 0) ≡ true
  pub keeps : (a b : ℤ) → ok a ≡ true → ok b ≡ true → ok (plus a b) ≡ true
  pub neutral : (a : ℤ) → ok a ≡ true → plus (pos 0) a ≡ a
  pub comm : (a b : ℤ) → ok a ≡ true → ok b ≡ true → plus a b ≡ plus b a
  pub assoc : (a b c : ℤ) → ok a ≡ true → ok b ≡ true → ok c ≡ true
      → plus (plus a b) c ≡ plus a (plus b c)

-- each number is a weight
abbrev pub any_number : ℤ → Bool
any_number n = true

-- sums of numbers are a monoid
pub sum-IsMonoid : IsMonoid any_number the_sum
sum-IsMonoid = record {
  zero_ok = refl;
  keeps = λ a b h k. refl;
  neutral = λ a h. omega (arith, ints);
  comm = λ a b h k. omega (arith, ints);
  assoc = λ a b c h k l. omega (arith, ints);
}

module _ (ok : ℤ → Bool) (plus : ℤ → ℤ → ℤ) (m : IsMonoid ok plus) where
  abbrev msum : List ℤ → ℤ
  msum [] = pos 0
  msum (x ∷ xs) = plus x (msum xs)

  msum-ok : (xs : List ℤ) → list_all ok xs ≡ true → ok (msum xs) ≡ true
  msum-ok [] h = m.zero_ok
  msum-ok (x ∷ xs) h = let p = and_parts (ok x) (list_all ok xs) h in
      m.keeps x (msum xs) p.0 (msum-ok xs p.1)

  exchange : (a b c : ℤ) → ok a ≡ true → ok b ≡ true → ok c ≡ true
      → plus a (plus b c) ≡ plus b (plus a c)
  exchange a b c ha hb hc = sym (m.assoc a b c ha hb hc) ∙ ap (λ n. plus n c) (m.comm a b ha hb)
      ∙ m.assoc b a c hb ha hc

  set_ok : (l : List ℤ) (i : ℕ) (z : ℤ) → list_all ok l ≡ true → ok z ≡ true
      → list_all ok (set l i z) ≡ true
  set_ok [] i z h k = refl
  set_ok (x ∷ xs) zero z h k = and_from (ok z) (list_all ok xs) k (and_parts (ok x) (list_all ok xs)
      h).1
  set_ok (x ∷ xs) (suc i) z h k = let p = and_parts (ok x) (list_all ok xs) h in
      and_from (ok x) (list_all ok (set xs i z)) p.0 (set_ok xs i z p.1 k)

  get_ok : (l : List ℤ) (i : ℕ) (d : ℤ) → list_all ok l ≡ true → ok d ≡ true
      → ok (get_or l i d) ≡ true
  get_ok [] i d h k = k
  get_ok (x ∷ xs) zero d h k = (and_parts (ok x) (list_all ok xs) h).0
  get_ok (x ∷ xs) (suc i) d h k = get_ok xs i d (and_parts (ok x) (list_all ok xs) h).1 k

  -- one number taken out
  pull : (l : List ℤ) (i : ℕ) (d : ℤ) → i < length l → list_all ok l ≡ true → ok d ≡ true
      → msum l ≡ plus (get_or l i d) (msum (set l i (pos 0)))
  pull [] i d h a k = absurd (omega arith)
  pull (x ∷ xs) zero d h a k = ap (plus x)
      (sym (m.neutral (msum xs) (msum-ok xs (and_parts (ok x) (list_all ok xs) a).1)))
  pull (x ∷ xs) (suc i) d h a k =
      let p = and_parts (ok x) (list_all ok xs) a in
      ap (plus x) (pull xs i d (omega arith) p.1 k)
      ∙ exchange x (get_or xs i d) (msum (set xs i (pos 0))) p.0 (get_ok xs i d p.1 k)
      (msum-ok (set xs i (pos 0)) (set_ok xs i (pos 0) p.1 m.zero_ok))

  -- one number put in
  put : (l : List ℤ) (i : ℕ) (z : ℤ) → i < length l → list_all ok l ≡ true → ok z ≡ true
      → msum (set l i z) ≡ plus z (msum (set l i (pos 0)))
  put [] i z h a k = absurd (omega arith)
  put (x ∷ xs) zero z h a k = ap (plus z)
      (sym (m.neutral (msum xs) (msum-ok xs (and_parts (ok x) (list_all ok xs) a).1)))
  put (x ∷ xs) (suc i) z h a k =
      let p = and_parts (ok x) (list_all ok xs) a in
      ap (plus x) (put xs i z (omega arith) p.1 k)
      ∙ exchange x z (msum (set xs i (pos 0))) p.0 k (msum-ok (set xs i (pos 0))
      (set_ok xs i (pos 0) p.1 m.zero_ok))

  -- a number at the front and one in the rest
  front : (x : ℤ) (xs : List ℤ) (j : ℕ) (d : ℤ) → j < length xs → ok x ≡ true
      → list_all ok xs ≡ true → ok d ≡ true
      → plus (get_or xs j d) (msum (set xs j x)) ≡ plus x (msum xs)
  front x xs j d h hx hxs k =
      let y : ℤ = get_or xs j d in
      let rest : ℤ = msum (set xs j (pos 0)) in
      let rest_ok : ok rest ≡ true = msum-ok (set xs j (pos 0)) (set_ok xs j (pos 0) hxs m.zero_ok)
      in
      ap (plus y) (put xs j x h hxs hx) ∙ exchange y x rest (get_ok xs j d hxs k) hx rest_ok
      ∙ ap (plus x) (sym (pull xs j d h hxs k))

  swapped : (l : List ℤ) (i j : ℕ) (d : ℤ) → i < length l → j < length l → list_all ok l ≡ true
      → ok d ≡ true → msum (set (set l i (get_or l j d)) j (get_or l i d)) ≡ msum l
  swapped [] i j d p q a k = absurd (omega arith)
  swapped (x ∷ xs) zero zero d p q a k = refl
  swapped (x ∷ xs) zero (suc j) d p q a k = let w = and_parts (ok x) (list_all ok xs) a in
      front x xs j d (omega arith) w.0 w.1 k
  swapped (x ∷ xs) (suc i) zero d p q a k = let w = and_parts (ok x) (list_all ok xs) a in
      front x xs i d (omega arith) w.0 w.1 k
  swapped (x ∷ xs) (suc i) (suc j) d p q a k = ap (plus x) (swapped xs i j d (omega arith)
      (omega arith) (and_parts (ok x) (list_all ok xs) a).1 k)

  -- the order of the numbers doesn't matter
  msum-permutation : (xs ys : List ℤ) → IsPermutation xs ys → list_all ok xs ≡ true
      → msum ys ≡ msum xs
  msum-permutation xs ys s h =
      (IsPermutation-keeps xs (λ (l : List ℤ). (list_all ok l ≡ true) × (msum l ≡ msum xs))
      (h, refl)
      (λ l i j p q w.
      let is = swap_is l i j (pos 0) p q in (
        subst (λ (k : List ℤ). list_all ok k ≡ true) is (set_ok (set l i (get_or l j (pos 0))) j
            (get_or l i (pos 0)) (set_ok l i (get_or l j (pos 0)) w.0
            (get_ok l j (pos 0) w.0 m.zero_ok)) (get_ok l i (pos 0) w.0 m.zero_ok)),
        sym (ap msum is) ∙ swapped l i j (pos 0) p q w.0 m.zero_ok ∙ w.1,
      ))
      ys s).1

  abbrev all_ok : List (Value × ℤ) → Bool
  all_ok ws = list_all (λ w. ok w.1) ws

  module _ (e : Test) (a : Value) where
    abbrev part : Value × ℤ → ℤ
    part w = if e w.0 a then w.1 else pos 0

    part-ok : (w : Value × ℤ) → ok w.1 ≡ true → ok (part w) ≡ true
    part-ok w h = by (e w.0 a)
      where
        by : (b : Bool) → ok (if b then w.1 else pos 0) ≡ true
        by true = h
        by false = m.zero_ok

    parts-ok : (ws : List (Value × ℤ)) → all_ok ws ≡ true → list_all ok (map part ws) ≡ true
    parts-ok [] h = refl
    parts-ok (w ∷ ws) h = let p = and_parts (ok w.1) (all_ok ws) h in
        and_from (ok (part w)) (list_all ok (map part ws)) (part-ok w p.0) (parts-ok ws p.1)

    total-msum : (ws : List (Value × ℤ)) → total plus e ws a ≡ msum (map part ws)
    total-msum [] = refl
    total-msum (w ∷ ws) = ap (plus (part w)) (total-msum ws)

    total-ok : (ws : List (Value × ℤ)) → all_ok ws ≡ true → ok (total plus e ws a) ≡ true
    total-ok ws h = ap ok (total-msum ws) ∙ msum-ok (map part ws) (parts-ok ws h)

    -- the order of entries does not change the totals
    pub total-permutation : (us vs : List (Value × ℤ)) → IsPermutation us vs → all_ok us ≡ true
        → total plus e vs a ≡ total plus e us a
    total-permutation us vs s h = total-msum vs
        ∙ msum-permutation (map part us) (map part vs) (IsPermutation-map part us vs s)
        (parts-ok us h) ∙ sym (total-msum us)

    -- entries with the weight 0 don't count
    pub total-nonzero : (ws : List (Value × ℤ)) → all_ok ws ≡ true
        → total plus e (filter (λ w. not (int_eq w.1 (pos 0))) ws) a ≡ total plus e ws a
    total-nonzero [] h = refl
    total-nonzero (w ∷ ws) h = let p = and_parts (ok w.1) (all_ok ws) h in
        by (int_eq w.1 (pos 0)) refl (total-nonzero ws p.1) (total-ok ws p.1)
      where
        chosen : (b : Bool) → w.1 ≡ pos 0 → (if b then w.1 else pos 0) ≡ pos 0
        chosen true k = k
        chosen false k = refl

        by : (b : Bool) → int_eq w.1 (pos 0) ≡ b
            → total plus e (filter (λ w. not (int_eq w.1 (pos 0))) ws) a ≡ total plus e ws a
            → ok (total plus e ws a) ≡ true
            → total plus e (cond (not b) (w ∷ filter (λ w. not (int_eq w.1 (pos 0))) ws)
            (filter (λ w. not (int_eq w.1 (pos 0))) ws)) a ≡ plus (part w) (total plus e ws a)
        by true q k o = k ∙ sym (m.neutral (total plus e ws a) o)
            ∙ ap (λ n. plus n (total plus e ws a))
            (sym (chosen (e w.0 a) ((Decides-int_eq w.1 (pos 0)).0 q)))
        by false q k o = ap (plus (part w)) k

    -- joining entries that tie keeps each total
    module _ (c : Compare) (good : Value → Bool) (ties : TiesAreOne c good) where
      total-joined_from : (k : Value × ℤ) (ws : List (Value × ℤ)) → ok k.1 ≡ true → all_ok ws ≡ true
          → good k.0 ≡ true → list_all good (map (λ w. w.0) ws) ≡ true
          → total plus e (joined_from c plus k ws) a ≡ plus (part k) (total plus e ws a)
      total-joined_from k [] hk hws gk gws = refl
      total-joined_from k (w ∷ ws) hk hws gk gws =
          let p = and_parts (ok w.1) (all_ok ws) hws in
          let g = and_parts (good w.0) (list_all good (map (λ w. w.0) ws)) gws in
          by (eq_by_cmp c w.0 k.0)
          (λ h. ap (λ v. e v a) (ties.one w.0 k.0 g.0 gk (equal_is (c w.0 k.0) h))) p.0
          (total-joined_from (k.0, plus k.1 w.1) ws (m.keeps k.1 w.1 hk p.0) p.1 gk g.1)
          (total-joined_from w ws p.0 p.1 g.0 g.1)
          (total-ok ws p.1)
        where
          add : (b d : Bool) → b ≡ d → ok w.1 ≡ true → (t : ℤ) → ok t ≡ true
              → plus (if d then plus k.1 w.1 else pos 0) t ≡ plus (if d then k.1 else pos 0)
              (plus (if b then w.1 else pos 0) t)
          add true true q hw t o = m.assoc k.1 w.1 t hk hw o
          add false false q hw t o = ap (plus (pos 0)) (sym (m.neutral t o))
          add true false q hw t o = absurd (true≢false q)
          add false true q hw t o = absurd (true≢false (sym q))

          by : (b : Bool) → (b ≡ true → e w.0 a ≡ e k.0 a) → ok w.1 ≡ true
              → total plus e (joined_from c plus (k.0, plus k.1 w.1) ws) a
              ≡ plus (if e k.0 a then plus k.1 w.1 else pos 0) (total plus e ws a)
              → total plus e (joined_from c plus w ws) a ≡ plus (part w) (total plus e ws a)
              → ok (total plus e ws a) ≡ true
              → total plus e (cond b (joined_from c plus (k.0, plus k.1 w.1) ws)
              (k ∷ joined_from c plus w ws)) a ≡ plus (part k)
              (plus (part w) (total plus e ws a))
          by true same hw first second o = first
              ∙ add (e w.0 a) (e k.0 a) (same refl) hw (total plus e ws a) o
          by false same hw first second o = ap (plus (part k)) second

      -- joining entries keeps the totals
      pub total-joined : (ws : List (Value × ℤ)) → all_ok ws ≡ true
          → list_all good (map (λ w. w.0) ws) ≡ true
          → total plus e (joined c plus ws) a ≡ total plus e ws a
      total-joined [] h g = refl
      total-joined (w ∷ ws) h g =
          let p = and_parts (ok w.1) (all_ok ws) h in
          let q = and_parts (good w.0) (list_all good (map (λ w. w.0) ws)) g in
          total-joined_from w ws p.0 p.1 q.0 q.1
