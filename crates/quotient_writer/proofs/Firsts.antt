-- Numbered classes and what is picked, in words of first states.
use Rattle.std.proofs.Common.{◌≡◌, ℕ, zero, suc, ◌+◌, ◌<◌, ◌≤◌, Bool, true, false, ◌&&◌, List, [], ◌∷◌, length, slice_get, slice_index, refl, sym, ap, ◌∙◌, arith, true≢false, ◌⊎◌, inl, inr}
use Rattle.std.specs.Prelude.{◌==◌, nat_lt, if◌then◌else◌, not}
use Rattle.std.proofs.lemmas.Bool.{and_parts, and_from, eqb-true, lt-ltb, ltb-true, ne_eqb}
use Rattle.std.proofs.lemmas.Cmp.{nat_eq_equiv}
use Rattle.quotient_writer.specs.Quotient.{numbers_from, picked_from}
use Rattle.quotient_writer.specs.Blocks.{first_state}

-- a list that begins with the label, and one that does not
first-here : (k : ℕ) (b : List ℕ) → first_state (k ∷ b) k ≡ 0
first-here k b = ap (λ o. if not o then 1 + first_state b k else 0) (nat_eq_equiv.refl k)

first-later : (j k : ℕ) (b : List ℕ) → (j ≡ k → ⊥)
    → first_state (j ∷ b) k ≡ suc (first_state b k)
first-later j k b apart =
    ap (λ o. if not o then 1 + first_state b k else 0) (ne_eqb j k apart)
    ∙ (let e : 1 + first_state b k ≡ suc (first_state b k) = omega arith in e)

-- a label is that of a class that began before, or begins one
pub numbered-cases : (n k : ℕ) (b : List ℕ) → numbers_from n (k ∷ b) ≡ true
    → ((k ≡ n) × (numbers_from (suc n) b ≡ true)) ⊎ ((k < n) × (numbers_from n b ≡ true))
numbered-cases n k b h = by (k == n) refl h
  where
    by :
        (o : Bool) → (k == n) ≡ o →
        (if o then numbers_from (suc n) b else (nat_lt k n && numbers_from n b)) ≡ true →
        ((k ≡ n) × (numbers_from (suc n) b ≡ true)) ⊎ ((k < n) × (numbers_from n b ≡ true))
    by true e h = inl (eqb-true k n e, h)
    by false e h =
        let p = and_parts (nat_lt k n) (numbers_from n b) h in
        inr (ltb-true k n p.0, p.1)

-- what is picked
pick-new : {X : Type 0} (n : ℕ) (b : List ℕ) (x : X) (xs : List X)
    → picked_from n (n ∷ b) (x ∷ xs) ≡ x ∷ picked_from (suc n) b xs
pick-new n b x xs =
    ap (λ o. if o then x ∷ picked_from (suc n) b xs else picked_from n b xs)
    (nat_eq_equiv.refl n)

pick-old : {X : Type 0} (n k : ℕ) (b : List ℕ) (x : X) (xs : List X) → (k ≡ n → ⊥)
    → picked_from n (k ∷ b) (x ∷ xs) ≡ picked_from n b xs
pick-old n k b x xs apart =
    ap (λ o. if o then x ∷ picked_from (suc n) b xs else picked_from n b xs)
    (ne_eqb k n apart)

-- what stands at the k-th place is that of the first state of class n + k
pub pick-at : {X : Type 0} (n : ℕ) (b : List ℕ) (xs : List X) → length b ≡ length xs
    → numbers_from n b ≡ true → (k : ℕ)
    → slice_get (picked_from n b xs) k ≡ slice_get xs (first_state b (n + k))
pick-at n [] [] l h k = refl
pick-at n [] (x ∷ xs) l h k = absurd (omega arith)
pick-at n (j ∷ b) [] l h k = absurd (omega arith)
pick-at n (j ∷ b) (x ∷ xs) l h k =
    by (pick-at (suc n) b xs (omega (arith, l))) (pick-at n b xs (omega (arith, l)))
    (numbered-cases n j b h) k
  where
    by :
        (numbers_from (suc n) b ≡ true → (k : ℕ) →
        slice_get (picked_from (suc n) b xs) k ≡ slice_get xs (first_state b (suc n + k))) →
        (numbers_from n b ≡ true → (k : ℕ) →
        slice_get (picked_from n b xs) k ≡ slice_get xs (first_state b (n + k))) →
        ((j ≡ n) × (numbers_from (suc n) b ≡ true)) ⊎ ((j < n) × (numbers_from n b ≡ true)) →
        (k : ℕ) →
        slice_get (picked_from n (j ∷ b) (x ∷ xs)) k
        ≡ slice_get (x ∷ xs) (first_state (j ∷ b) (n + k))
    by new old (inl (e, rest)) zero =
        ap (λ i. slice_get (picked_from n (i ∷ b) (x ∷ xs)) 0) e
        ∙ ap (λ ys. slice_get ys 0) (pick-new n b x xs)
        ∙ sym (ap (slice_get (x ∷ xs))
        (ap (λ i. first_state (i ∷ b) (n + 0)) e
        ∙ ap (first_state (n ∷ b)) (let z : n + 0 ≡ n = omega arith in z)
        ∙ first-here n b))
    by new old (inl (e, rest)) (suc k) =
        ap (λ i. slice_get (picked_from n (i ∷ b) (x ∷ xs)) (suc k)) e
        ∙ ap (λ ys. slice_get ys (suc k)) (pick-new n b x xs)
        ∙ new rest k
        ∙ sym (ap (slice_get (x ∷ xs))
        (first-later j (n + suc k) b (λ same. omega (arith, same, e))
        ∙ ap (λ m. suc (first_state b m)) (let z : n + suc k ≡ suc n + k = omega arith in z)))
    by new old (inr (low, rest)) k =
        ap (λ ys. slice_get ys k) (pick-old n j b x xs (λ same. omega (arith, same, low)))
        ∙ old rest k
        ∙ sym (ap (slice_get (x ∷ xs))
        (first-later j (n + k) b (λ same. omega (arith, same, low))))

-- where classes are numbered from n on, each label from n on below another's began before it
pub began-before : (n : ℕ) (b : List ℕ) → numbers_from n b ≡ true → (i : ℕ) → i < length b
    → (k : ℕ) → n ≤ k → k < slice_index b i → first_state b k < i
began-before n [] h i hi k low high = absurd (omega (arith, hi))
began-before n (j ∷ b) h i hi k low high =
    by (λ rest i hi later high. began-before (suc n) b rest i hi k later high)
    (λ rest i hi high. began-before n b rest i hi k low high) (numbered-cases n j b h) i hi high
  where
    above : (n ≡ k → ⊥) → suc n ≤ k
    above apart = case_of (nat_lt n k) refl
      where
        case_of : (o : Bool) → nat_lt n k ≡ o → suc n ≤ k
        case_of true is = omega (arith, ltb-true n k is)
        case_of false is = absurd (apart (let z : n ≡ k = grind (arith, is, low) in z))

    by :
        (numbers_from (suc n) b ≡ true → (i : ℕ) → i < length b → suc n ≤ k →
        k < slice_index b i → first_state b k < i) →
        (numbers_from n b ≡ true → (i : ℕ) → i < length b →
        k < slice_index b i → first_state b k < i) →
        ((j ≡ n) × (numbers_from (suc n) b ≡ true)) ⊎ ((j < n) × (numbers_from n b ≡ true)) →
        (i : ℕ) → i < length (j ∷ b) → k < slice_index (j ∷ b) i → first_state (j ∷ b) k < i
    by new old (inl (e, rest)) zero hi high = absurd (omega (arith, e, low, high))
    by new old (inr (less, rest)) zero hi high = absurd (omega (arith, less, low, high))
    by new old (inl (e, rest)) (suc i) hi high = at (n == k) refl
      where
        at : (o : Bool) → (n == k) ≡ o → first_state (j ∷ b) k < suc i
        at true same =
            let z : first_state (j ∷ b) k ≡ 0 =
            ap (λ m. first_state (m ∷ b) k) (e ∙ eqb-true n k same) ∙ first-here k b in
            omega (arith, z)
        at false same =
            let apart : (n ≡ k → ⊥) =
            λ is. true≢false (sym (nat_eq_equiv.refl n) ∙ ap (λ m. n == m) is ∙ same) in
            let z : first_state (j ∷ b) k ≡ suc (first_state b k) =
            first-later j k b (λ is. apart (sym e ∙ is)) in
            omega (arith, z, new rest i (omega (arith, hi)) (above apart) high)
    by new old (inr (less, rest)) (suc i) hi high =
        let z : first_state (j ∷ b) k ≡ suc (first_state b k) =
        first-later j k b (λ is. omega (arith, is, less, low)) in
        omega (arith, z, old rest i (omega (arith, hi)) high)

-- and where each such label began before, they are numbered from n on
pub numbered-so : (n : ℕ) (b : List ℕ)
    → ((i : ℕ) → i < length b → (k : ℕ) → n ≤ k → k < slice_index b i → first_state b k < i)
    → numbers_from n b ≡ true
numbered-so n [] began = refl
numbered-so n (j ∷ b) began =
    by (numbered-so (suc n) b) (numbered-so n b) (j == n) refl
  where
    -- what began before in the whole list did so in the rest, unless it is the first
    rest :
        (m : ℕ) → n ≤ m → ((k : ℕ) → m ≤ k → j ≡ k → ⊥) →
        (i : ℕ) → i < length b → (k : ℕ) → m ≤ k → k < slice_index b i → first_state b k < i
    rest m more apart i hi k low high =
        omega (
          arith,
          began (suc i) (omega (arith, hi)) k (omega (arith, more, low)) high,
          first-later j k b (apart k low),
        )

    less : (j == n) ≡ false → j < n
    less apart = case_of (nat_lt j n) refl
      where
        case_of : (o : Bool) → nat_lt j n ≡ o → j < n
        case_of true is = ltb-true j n is
        case_of false is =
            let high : n < j = grind (arith, is, apart) in
            absurd (omega (arith, began 0 (omega arith) n (omega arith) high))

    by :
        (((i : ℕ) → i < length b → (k : ℕ) → suc n ≤ k → k < slice_index b i
        → first_state b k < i) → numbers_from (suc n) b ≡ true) →
        (((i : ℕ) → i < length b → (k : ℕ) → n ≤ k → k < slice_index b i
        → first_state b k < i) → numbers_from n b ≡ true) →
        (o : Bool) → (j == n) ≡ o →
        (if o then numbers_from (suc n) b else (nat_lt j n && numbers_from n b)) ≡ true
    by new old true is =
        let e : j ≡ n = eqb-true j n is in
        new (rest (suc n) (omega arith) (λ k low same. omega (arith, low, same, e)))
    by new old false is =
        let low : j < n = less is in
        and_from (nat_lt j n) (numbers_from n b) (lt-ltb j n low)
        (old (rest n (omega arith) (λ k high same. omega (arith, high, same, low))))
