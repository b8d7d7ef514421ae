-- Two lists of weights that have the same sum at each class have the same sum at each set of
-- classes.
use Rattle.std.specs.Prelude.{◌≡◌, ◌≢◌, ◌+◌, ◌*◌, ◌≤◌, ◌^◌, ℕ, zero, suc, ℤ, unsigned_abs, Bool, true, false, ◌||◌, ◌&&◌, ◌==◌, nat_lt, cond, List, [], ◌∷◌, map}
use Rattle.std.proofs.Common.{sym, ◌∙◌, ap, subst, refl, inl, inr, arith}
use Rattle.std.proofs.lemmas.Bool.Decides.{nat_tests, eqb_tells}
use Rattle.std.proofs.lemmas.Bool.{lt-ltb}
use Rattle.std.proofs.Math.Bool.{and-true}
use Rattle.weights.specs.Monoids.{MonoidLaws}
use Rattle.weights.specs.MonoidLaws.{associates_within}
use Rattle.weights.specs.Sums.{sum_if, size_of}

-- tests that say the same pick the same weights
pub sum_if-same :
    {E : Type 0} (none : E) (add : E → E → E) (p q : ℕ → Bool) → ((c : ℕ) → p c ≡ q c) →
    (xs : List E) (cs : List ℕ) → sum_if none add p xs cs ≡ sum_if none add q xs cs
sum_if-same none add p q same [] cs = refl
sum_if-same none add p q same (x ∷ xs) [] = refl
sum_if-same none add p q same (x ∷ xs) (c ∷ cs) =
    rw (same c, sum_if-same none add p q same xs cs) refl

-- a test that nothing passes picks none
pub sum_if-never :
    {E : Type 0} (none : E) (add : E → E → E) (xs : List E) (cs : List ℕ) →
    sum_if none add (λ _. false) xs cs ≡ none
sum_if-never none add [] cs = refl
sum_if-never none add (x ∷ xs) [] = refl
sum_if-never none add (x ∷ xs) (c ∷ cs) = sum_if-never none add xs cs

-- classes that a function renames
pub sum_if-map :
    {E : Type 0} (none : E) (add : E → E → E) (p : ℕ → Bool) (f : ℕ → ℕ)
    (xs : List E) (cs : List ℕ) →
    sum_if none add p xs (map f cs) ≡ sum_if none add (λ c. p (f c)) xs cs
sum_if-map none add p f [] cs = refl
sum_if-map none add p f (x ∷ xs) [] = refl
sum_if-map none add p f (x ∷ xs) (c ∷ cs) = rw (sum_if-map none add p f xs cs) refl

-- a number above each of a list
abbrev above : List ℕ → ℕ
above [] = 0
above (c ∷ cs) = suc (c + above cs)

-- a test of the classes below one that is above all of them picks the same
sum_if-below :
    {E : Type 0} (none : E) (add : E → E → E) (p : ℕ → Bool) (n : ℕ) (xs : List E) (cs : List ℕ) →
    above cs ≤ n → sum_if none add (λ c. p c && nat_lt c n) xs cs ≡ sum_if none add p xs cs
sum_if-below none add p n [] cs h = refl
sum_if-below none add p n (x ∷ xs) [] h = refl
sum_if-below none add p n (x ∷ xs) (c ∷ cs) h =
    rw (lt-ltb c n (omega arith), and-true (p c), sum_if-below none add p n xs cs (omega arith))
    refl

module _
    {E : Type 0} (number : E → ℤ) (none : E) (add : E → E → E)
    (laws : MonoidLaws number none add) where
  -- a sum is no larger than all weights together
  pub size-sum_if :
      (p : ℕ → Bool) (xs : List E) (cs : List ℕ) → size_of number xs ≤ 2 ^ 126 →
      unsigned_abs (number (sum_if none add p xs cs)) ≤ size_of number xs
  size-sum_if p [] cs h = rw laws.zero_is (omega arith)
  size-sum_if p (x ∷ xs) [] h = rw laws.zero_is (omega arith)
  size-sum_if p (x ∷ xs) (c ∷ cs) h =
      let rest : E = sum_if none add p xs cs in
      let tail : unsigned_abs (number rest) ≤ size_of number xs =
      size-sum_if p xs cs (omega arith) in
      let size : ℕ = unsigned_abs (number x) + size_of number xs in
      elim (p c) as (λ b. unsigned_abs (number (cond b (add x rest) rest)) ≤ size) [
        | true ↦ omega (arith, laws.bounded x rest (omega (arith, tail)), tail)
        | false ↦ omega (arith, tail)
      ]

  -- one more weight in a sum over two tests that never both pass
  joined :
      (s t : Bool) (x a b whole : E) → (s && t) ≡ false → whole ≡ add a b →
      unsigned_abs (number x) + unsigned_abs (number a) + unsigned_abs (number b) ≤ 2 ^ 126 →
      cond (s || t) (add x whole) whole ≡ add (cond s (add x a) a) (cond t (add x b) b)
  joined true true x a b whole never tail small = cc
  joined true false x a b whole never tail small =
      ap (add x) tail ∙ sym (associates_within number none add laws x a b small)
  joined false true x a b whole never tail small =
      ap (add x) tail
      ∙ sym (associates_within number none add laws x a b small)
      ∙ ap (λ y. add y b) (laws.commutes x a (omega (arith, small)))
      ∙ associates_within number none add laws a x b (omega (arith, small))
  joined false false x a b whole never tail small = tail

  -- a sum over two tests that never both pass
  pub sum_if-or :
      (p q : ℕ → Bool) → ((c : ℕ) → (p c && q c) ≡ false) →
      (xs : List E) (cs : List ℕ) → 3 * size_of number xs ≤ 2 ^ 126 →
      sum_if none add (λ c. p c || q c) xs cs
      ≡ add (sum_if none add p xs cs) (sum_if none add q xs cs)
  sum_if-or p q apart [] cs h = sym (laws.neutral none (rw laws.zero_is (omega arith)))
  sum_if-or p q apart (x ∷ xs) [] h = sym (laws.neutral none (rw laws.zero_is (omega arith)))
  sum_if-or p q apart (x ∷ xs) (c ∷ cs) h =
      let a : E = sum_if none add p xs cs in
      let b : E = sum_if none add q xs cs in
      let small_a : unsigned_abs (number a) ≤ size_of number xs =
      size-sum_if p xs cs (omega arith) in
      let small_b : unsigned_abs (number b) ≤ size_of number xs =
      size-sum_if q xs cs (omega arith) in
      joined (p c) (q c) x a b (sum_if none add (λ d. p d || q d) xs cs) (apart c)
      (sum_if-or p q apart xs cs (omega arith)) (omega (arith, small_a, small_b))

  -- the tests of the proof by induction: the classes below n, and n itself
  at_end : (s : Bool) (n : ℕ) → (s && nat_lt n (suc n)) ≡ ((s && nat_lt n n) || (s && (n == n)))
  at_end s n = grind (arith, nat_tests)

  -- a class that is not n is below n + 1 exactly where it is below n
  elsewhere :
      (s t : Bool) (c n : ℕ) → c ≢ n →
      (s && nat_lt c (suc n)) ≡ ((s && nat_lt c n) || (t && (c == n)))
  elsewhere s t c n other = grind (arith, nat_tests)

  -- the classes below n + 1 are those below n, and n
  one_more :
      (q : ℕ → Bool) (n c : ℕ) →
      (q c && nat_lt c (suc n)) ≡ ((q c && nat_lt c n) || (q n && (c == n)))
  one_more q n c =
      elim (eqb_tells c n) [
        | inl same ↦
            subst (λ k. (q k && nat_lt k (suc n)) ≡ ((q k && nat_lt k n) || (q n && (k == n))))
            (sym same.1) (at_end (q n) n)
        | inr other ↦ elsewhere (q c) (q n) c n other.1
      ]

  -- no class is below n and n
  never_both : (s t : Bool) (c n : ℕ) → ((s && nat_lt c n) && (t && (c == n))) ≡ false
  never_both s t c n = grind (arith, nat_tests)

  -- the sums at n alone are the same, whether the test picks n or not
  one_class :
      (xs ys : List E) (cs ds : List ℕ) (n : ℕ) →
      sum_if none add (λ c. c == n) xs cs ≡ sum_if none add (λ c. c == n) ys ds → (b : Bool) →
      sum_if none add (λ c. b && (c == n)) xs cs ≡ sum_if none add (λ c. b && (c == n)) ys ds
  one_class xs ys cs ds n same true = same
  one_class xs ys cs ds n same false =
      sum_if-never none add xs cs ∙ sym (sum_if-never none add ys ds)

  -- the classes below n, of those that the test picks
  class_sums :
      (xs ys : List E) (cs ds : List ℕ) →
      3 * size_of number xs ≤ 2 ^ 126 → 3 * size_of number ys ≤ 2 ^ 126 →
      ((k : ℕ) → sum_if none add (λ c. c == k) xs cs ≡ sum_if none add (λ c. c == k) ys ds) →
      (q : ℕ → Bool) (n : ℕ) →
      sum_if none add (λ c. q c && nat_lt c n) xs cs
      ≡ sum_if none add (λ c. q c && nat_lt c n) ys ds
  class_sums xs ys cs ds hx hy same q zero =
      let never : (c : ℕ) → (q c && nat_lt c 0) ≡ false = λ c. grind (arith, nat_tests) in
      sum_if-same none add (λ c. q c && nat_lt c 0) (λ _. false) never xs cs
      ∙ sum_if-never none add xs cs
      ∙ sym (sum_if-never none add ys ds)
      ∙ sym (sum_if-same none add (λ c. q c && nat_lt c 0) (λ _. false) never ys ds)
  class_sums xs ys cs ds hx hy same q (suc n) =
      let all : ℕ → Bool = λ c. q c && nat_lt c (suc n) in
      let low : ℕ → Bool = λ c. q c && nat_lt c n in
      let top : ℕ → Bool = λ c. q n && (c == n) in
      let either : ℕ → Bool = λ c. low c || top c in
      let apart : (c : ℕ) → (low c && top c) ≡ false = λ c. never_both (q c) (q n) c n in
      sum_if-same none add all either (one_more q n) xs cs
      ∙ sum_if-or low top apart xs cs hx
      ∙ rw (class_sums xs ys cs ds hx hy same q n, one_class xs ys cs ds n (same n) (q n)) refl
      ∙ sym (sum_if-or low top apart ys ds hy)
      ∙ sym (sum_if-same none add all either (one_more q n) ys ds)

  -- the same sum at each class gives the same sum at each set of classes
  pub sums_merge :
      (xs ys : List E) (cs ds : List ℕ) →
      3 * size_of number xs ≤ 2 ^ 126 → 3 * size_of number ys ≤ 2 ^ 126 →
      ((k : ℕ) → sum_if none add (λ c. c == k) xs cs ≡ sum_if none add (λ c. c == k) ys ds) →
      (q : ℕ → Bool) → sum_if none add q xs cs ≡ sum_if none add q ys ds
  sums_merge xs ys cs ds hx hy same q =
      let n : ℕ = above cs + above ds in
      sym (sum_if-below none add q n xs cs (omega arith))
      ∙ class_sums xs ys cs ds hx hy same q n
      ∙ sum_if-below none add q n ys ds (omega arith)
