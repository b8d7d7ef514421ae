-- What the words of `Fractions` mean: `gcd_of` is the greatest common divisor, `lcm_of` the least
-- common multiple, and `lowest_terms` the one fraction in lowest terms.
use Rattle.std.specs.Prelude.{◌≡◌, ◌≢◌, ℕ, zero, suc, ◌+◌, ◌*◌, ◌/◌, ◌%◌, ◌<◌, ◌≤◌, ℤ, pos, negsuc, neg_ℤ, ◌*ℤ◌, unsigned_abs}
use Rattle.std.specs.Int.{◌∣◌, IsGcd}
use Rattle.std.proofs.Common.{sym, ◌∙◌, ap, subst, refl, inl, inr, arith}
use Rattle.std.proofs.lemmas.Bool.Decides.{eqb_tells}
use Rattle.std.proofs.lemmas.Nat.{mod_below, le-div}
use Rattle.std.proofs.lemmas.Nat.Gcd.{dvd-zero, dvd_antisymm, le_of_dvd, IsGcd-from_zero, IsGcd-from_mod, IsGcd-swap, same_from_IsGcd}
use Rattle.std.proofs.Math.Nat.{add-mul, add-mul-mod_self_right, div-le_self, div-mul_cancel, dvd-mul_left, dvd-mul_right, dvd_of_mul-dvd-mul_left, eq_of_mul-eq-mul_right, mod-add-div', mod-eq_of_lt, mul-div_cancel', mul-dvd-mul_left, mul-lt-mul_of_pos_right, mul-one, mul-pos, mul_assoc, mul_comm, one-mul, pos_of_dvd_of_pos, zero-mul}
use Rattle.weights.specs.Fractions.{gcd_within, gcd_of, IsLcm, lcm_of, IsLowest, lowest_terms}
use Rattle.weights.specs.declared.ratio.Ratio.{Ratio}

-- ---- the greatest common divisor

-- a common factor is one of the remainder too
scaled_mod : (a b c : ℕ) → 0 < b → 0 < c → (a * c) % (b * c) ≡ (a % b) * c
scaled_mod a b c some more =
    let below : (a % b) * c < b * c = mul-lt-mul_of_pos_right (mod_below a b some) more in
    let parts : a * c ≡ (a % b) * c + (a / b) * (b * c) =
    ap (λ n. n * c) (sym (mod-add-div' a b))
    ∙ add-mul (a % b) (a / b * b) c
    ∙ ap (λ n. (a % b) * c + n) (mul_assoc (a / b) b c) in
    ap (λ n. n % (b * c)) parts
    ∙ add-mul-mod_self_right ((a % b) * c) (a / b) (b * c)
    ∙ mod-eq_of_lt below

-- Euclid's rule, for numbers with a common factor
gcd_within-scaled :
    (steps a b c : ℕ) → b ≤ steps → 0 < c →
    IsGcd (a * c) (b * c) (gcd_within steps a b * c)
gcd_within-scaled zero a b c few more =
    let none : b ≡ 0 = omega arith in
    IsGcd-from_zero (a * c) (b * c) (ap (λ n. n * c) none ∙ zero-mul c)
gcd_within-scaled (suc steps) a b c few more =
    elim (eqb_tells b 0) [
      | inl last ↦ rw last.0 (IsGcd-from_zero (a * c) (b * c) (ap (λ n. n * c) last.1 ∙ zero-mul c))
      | inr other ↦
          let some : 0 < b = let h : b ≢ 0 = other.1 in omega arith in
          let smaller : a % b ≤ steps = omega (arith, mod_below a b some) in
          rw other.0
          (IsGcd-from_mod (a * c) (b * c) (gcd_within steps b (a % b) * c)
          (rw (scaled_mod a b c some more) (gcd_within-scaled steps b (a % b) c smaller more)))
    ]

-- a common factor comes out
pub gcd_of-scaled : (a b c : ℕ) → 0 < c → IsGcd (a * c) (b * c) (gcd_of a b * c)
unfolding gcd_of
gcd_of-scaled a b c more = gcd_within-scaled b a b c (omega arith) more

-- what `gcd_of` computes is the greatest common divisor
pub gcd_of-IsGcd : (a b : ℕ) → IsGcd a b (gcd_of a b)
gcd_of-IsGcd a b =
    rw (mul-one a, mul-one b, mul-one (gcd_of a b)) at (gcd_of-scaled a b 1 (omega arith))

-- and there is no other
pub gcd_of_is : (a b g : ℕ) → IsGcd a b g → g ≡ gcd_of a b
gcd_of_is a b g h = same_from_IsGcd a b g (gcd_of a b) h (gcd_of-IsGcd a b)

-- it is above 0 where the second number is
pub gcd_of-positive : (a b : ℕ) → 0 < b → 0 < gcd_of a b
gcd_of-positive a b some = pos_of_dvd_of_pos (gcd_of-IsGcd a b).1 some

-- what divides a product, and has no factor in common with one part, divides the other
dvd_from_coprime : (a b c : ℕ) → IsGcd a b 1 → a ∣ b * c → a ∣ c
dvd_from_coprime a b zero apart h = dvd-zero a
dvd_from_coprime a b (suc c) apart h =
    let whole : a ∣ gcd_of a b * suc c =
    (gcd_of-scaled a b (suc c) (omega arith)).2 a (dvd-mul_right a (suc c)) h in
    subst (λ n. a ∣ n) (ap (λ g. g * suc c) (sym (gcd_of_is a b 1 apart)) ∙ one-mul (suc c)) whole

-- ---- the least common multiple

-- what `lcm_of` computes is the least common multiple
pub lcm_of-IsLcm : (a b : ℕ) → 1 ≤ a → 1 ≤ b → IsLcm a b (lcm_of a b)
unfolding lcm_of
lcm_of-IsLcm a b some_a some_b =
    let g : ℕ = gcd_of a b in
    let is : IsGcd a b g = gcd_of-IsGcd a b in
    let turned : a / g * b ≡ a * (b / g) =
    ap (λ n. a / g * n) (sym (mul-div_cancel' g is.1))
    ∙ sym (mul_assoc (a / g) g (b / g))
    ∙ ap (λ n. n * (b / g)) (div-mul_cancel g is.0) in (
      dvd-mul_right a (b / g),
      subst (λ n. b ∣ n) turned (dvd-mul_left b (a / g)),
      least a b g is some_b,
    )
  where
    least :
        (a b g : ℕ) → IsGcd a b g → 1 ≤ b →
        (m : ℕ) → a ∣ m → b ∣ m → a * (b / g) ∣ m
    least a b g is some zero ma mb = dvd-zero (a * (b / g))
    least a b g is some (suc m) ma mb =
        let product : a * b ≡ g * (a * (b / g)) =
        ap (λ n. a * n) (sym (mul-div_cancel' g is.1))
        ∙ sym (mul_assoc a g (b / g))
        ∙ ap (λ n. n * (b / g)) (mul_comm a g)
        ∙ mul_assoc g a (b / g) in
        let scaled : IsGcd (a * suc m) (b * suc m) (gcd_of a b * suc m) =
        gcd_of-scaled a b (suc m) (omega arith) in
        let both : a * b ∣ g * suc m =
        subst (λ n. a * b ∣ n * suc m) (sym (gcd_of_is a b g is))
        (scaled.2 (a * b) (mul-dvd-mul_left b a mb)
        (subst (λ n. n ∣ b * suc m) (mul_comm b a) (mul-dvd-mul_left a b ma))) in
        dvd_of_mul-dvd-mul_left (a * (b / g)) (pos_of_dvd_of_pos is.1 some)
        (subst (λ n. n ∣ g * suc m) product both)

-- one number by the quotient of the other is the least common multiple
pub multiple_is : (a b g : ℕ) → g ≡ gcd_of a b → a * (b / g) ≡ lcm_of a b
unfolding lcm_of
multiple_is a b g e = ap (λ x. a * (b / x)) e

-- ---- lowest terms

-- the quotients by the greatest common divisor have no factor in common
quotients_coprime : (n d : ℕ) → 1 ≤ d → IsGcd (n / gcd_of n d) (d / gcd_of n d) 1
quotients_coprime n d some =
    let g : ℕ = gcd_of n d in
    let is : IsGcd n d g = gcd_of-IsGcd n d in
    let whole : IsGcd (n / g * g) (d / g * g) (gcd_of (n / g) (d / g) * g) =
    gcd_of-scaled (n / g) (d / g) g (gcd_of-positive n d some) in
    let again : IsGcd n d (gcd_of (n / g) (d / g) * g) =
    subst (λ x. IsGcd x d (gcd_of (n / g) (d / g) * g)) (div-mul_cancel g is.0)
    (subst (λ y. IsGcd (n / g * g) y (gcd_of (n / g) (d / g) * g)) (div-mul_cancel g is.1) whole) in
    let one : gcd_of (n / g) (d / g) ≡ 1 =
    eq_of_mul-eq-mul_right g (gcd_of-positive n d some) (gcd_of (n / g) (d / g)) 1
    (gcd_of_is n d (gcd_of (n / g) (d / g) * g) again ∙ sym (one-mul g)) in
    subst (λ x. IsGcd (n / g) (d / g) x) one (gcd_of-IsGcd (n / g) (d / g))

-- numerator and denominator are divided alike
cross : (n d : ℕ) → n / gcd_of n d * d ≡ n * (d / gcd_of n d)
cross n d =
    let g : ℕ = gcd_of n d in
    ap (λ x. n / g * x) (sym (mul-div_cancel' g (gcd_of-IsGcd n d).1))
    ∙ sym (mul_assoc (n / g) g (d / g))
    ∙ ap (λ x. x * (d / g)) (div-mul_cancel g (gcd_of-IsGcd n d).0)

-- a denominator above 0 stays above 0
quotient-positive : (n d : ℕ) → 1 ≤ d → 1 ≤ d / gcd_of n d
quotient-positive n d some =
    let within : gcd_of n d ≤ d = le_of_dvd some (gcd_of-IsGcd n d).1 in
    le-div 1 d (gcd_of n d) (gcd_of-positive n d some) (rw (one-mul (gcd_of n d)) within)

-- a number from 0 on and its negative have one absolute value
pub abs-neg : (x : ℕ) → unsigned_abs (neg_ℤ (pos x)) ≡ x
abs-neg zero = refl
abs-neg (suc x) = refl

-- a factor of a negative number
neg-times : (x d : ℕ) → neg_ℤ (pos x) *ℤ pos d ≡ neg_ℤ (pos (x * d))
neg-times zero d = rw (zero-mul d) refl
neg-times (suc x) d = refl

-- what `lowest_terms` computes is in lowest terms, and the same fraction
pub lowest_terms-IsLowest :
    (n : ℤ) (d : ℕ) → 1 ≤ d → IsLowest n d (lowest_terms n d).p (lowest_terms n d).q
unfolding lowest_terms
lowest_terms-IsLowest (pos n) d some =
    record {
      same = ap pos (cross n d);
      coprime = quotients_coprime n d some;
      positive = quotient-positive n d some;
    }
lowest_terms-IsLowest (negsuc n) d some =
    record {
      same =
          neg-times (suc n / gcd_of (suc n) d) d ∙ ap (λ x. neg_ℤ (pos x)) (cross (suc n) d);
      coprime = rw (abs-neg (suc n / gcd_of (suc n) d)) (quotients_coprime (suc n) d some);
      positive = quotient-positive (suc n) d some;
    }

-- the absolute value of a product
abs-times : (m : ℤ) (d : ℕ) → unsigned_abs (m *ℤ pos d) ≡ unsigned_abs m * d
abs-times (pos m) d = refl
abs-times (negsuc m) d = abs-neg (suc m * d)

-- no number from 0 on is the negative of one above 0
pub never_negative : (x y : ℕ) → 0 < y → pos x ≡ neg_ℤ (pos y) → ⊥
never_negative x zero some e = omega arith
never_negative x (suc y) some e = cc

-- a factor above 0 is left out of both sides
pub cancel_factor : (m n : ℤ) (d : ℕ) → 1 ≤ d → m *ℤ pos d ≡ n *ℤ pos d → m ≡ n
cancel_factor (pos m) (pos n) d some e =
    ap pos (eq_of_mul-eq-mul_right d some m n (ap unsigned_abs e))
cancel_factor (negsuc m) (negsuc n) d some e =
    let h : suc m ≡ suc n =
    eq_of_mul-eq-mul_right d some (suc m) (suc n)
    (sym (abs-neg (suc m * d)) ∙ ap unsigned_abs e ∙ abs-neg (suc n * d)) in
    cc
cancel_factor (pos m) (negsuc n) d some e =
    absurd (never_negative (m * d) (suc n * d) (mul-pos (omega arith) some) e)
cancel_factor (negsuc m) (pos n) d some e =
    absurd (never_negative (n * d) (suc m * d) (mul-pos (omega arith) some) (sym e))

-- sums over one denominator are the same where their fractions are
pub same_from_lowest_terms :
    (m n : ℤ) (d : ℕ) → 1 ≤ d → lowest_terms m d ≡ lowest_terms n d → m ≡ n
same_from_lowest_terms m n d some e =
    let one : IsLowest m d (lowest_terms m d).p (lowest_terms m d).q =
    lowest_terms-IsLowest m d some in
    let two : IsLowest n d (lowest_terms m d).p (lowest_terms m d).q =
    subst (λ (r : Ratio). IsLowest n d r.p r.q) (sym e) (lowest_terms-IsLowest n d some) in
    cancel_factor m n (lowest_terms m d).q one.positive (sym one.same ∙ two.same)

-- the denominator in lowest terms divides each denominator of the same fraction
dvd_of_same :
    (n : ℤ) (d : ℕ) (p r : ℤ) (q s : ℕ) → 1 ≤ d →
    IsLowest n d p q → IsLowest n d r s → q ∣ s
dvd_of_same n d p r q s some one two =
    let left : unsigned_abs p * d ≡ unsigned_abs n * q =
    sym (abs-times p d) ∙ ap unsigned_abs one.same ∙ abs-times n q in
    let right : unsigned_abs r * d ≡ unsigned_abs n * s =
    sym (abs-times r d) ∙ ap unsigned_abs two.same ∙ abs-times n s in
    let product : unsigned_abs p * s ≡ unsigned_abs r * q =
    eq_of_mul-eq-mul_right d some (unsigned_abs p * s) (unsigned_abs r * q)
    (swapped (unsigned_abs p) (unsigned_abs r) (unsigned_abs n) d q s left right) in
    dvd_from_coprime q (unsigned_abs p) s (IsGcd-swap (unsigned_abs p) q 1 one.coprime)
    (subst (λ x. q ∣ x) (sym product) (dvd-mul_left q (unsigned_abs r)))
  where
    swapped :
        (p r n d q s : ℕ) → p * d ≡ n * q → r * d ≡ n * s → p * s * d ≡ r * q * d
    swapped p r n d q s left right =
        mul_assoc p s d ∙ ap (λ x. p * x) (mul_comm s d) ∙ sym (mul_assoc p d s)
        ∙ ap (λ x. x * s) left
        ∙ mul_assoc n q s ∙ ap (λ x. n * x) (mul_comm q s) ∙ sym (mul_assoc n s q)
        ∙ ap (λ x. x * q) (sym right)
        ∙ mul_assoc r d q ∙ ap (λ x. r * x) (mul_comm d q) ∙ sym (mul_assoc r q d)

-- a fraction has one form in lowest terms
pub one_lowest :
    (n : ℤ) (d : ℕ) (p r : ℤ) (q s : ℕ) → 1 ≤ d →
    IsLowest n d p q → IsLowest n d r s → (p ≡ r) × (q ≡ s)
one_lowest n d p r q s some one two =
    let below : q ≡ s =
    dvd_antisymm (dvd_of_same n d p r q s some one two) (dvd_of_same n d r p s q some two one) in
    (cancel_factor p r d some (one.same ∙ ap (λ x. n *ℤ pos x) below ∙ sym two.same), below)

-- lowest terms are no larger than what they were made of
pub lowest_terms-smaller :
    (n : ℤ) (d : ℕ) →
    (unsigned_abs (lowest_terms n d).p ≤ unsigned_abs n) × ((lowest_terms n d).q ≤ d)
unfolding lowest_terms
lowest_terms-smaller (pos n) d = (div-le_self n (gcd_of n d), div-le_self d (gcd_of n d))
lowest_terms-smaller (negsuc n) d = (
  rw (abs-neg (suc n / gcd_of (suc n) d)) (div-le_self (suc n) (gcd_of (suc n) d)),
  div-le_self d (gcd_of (suc n) d),
)

-- the `Ratio` of p and q
abbrev pub ratio : ℤ → ℕ → Ratio
ratio p q = record { p = p; q = q }

-- what is in lowest terms is the fraction in lowest terms
pub lowest_terms_is :
    (n : ℤ) (d : ℕ) (p : ℤ) (q : ℕ) → 1 ≤ d → IsLowest n d p q →
    ((lowest_terms n d).p ≡ p) × ((lowest_terms n d).q ≡ q)
lowest_terms_is n d p q some is =
    one_lowest n d (lowest_terms n d).p p (lowest_terms n d).q q some
    (lowest_terms-IsLowest n d some) is

-- a whole number is over 1 in lowest terms
pub whole_lowest : (n : ℤ) → IsLowest n 1 n 1
unfolding gcd_of
whole_lowest n = record {
  same = refl;
  coprime = gcd_of-IsGcd (unsigned_abs n) 1;
  positive = omega arith;
}

pub lowest_terms-whole : (n : ℤ) → lowest_terms n 1 ≡ ratio n 1
lowest_terms-whole n =
    let is = lowest_terms_is n 1 n 1 (omega arith) (whole_lowest n) in
    ap (λ p. ratio p (lowest_terms n 1).q) is.0 ∙ ap (ratio n) is.1

-- nothing is 0 over 1, whatever it was over
pub none_lowest : (d : ℕ) → IsLowest (pos 0) d (pos 0) 1
unfolding gcd_of
none_lowest d = record {
  same = ap pos (zero-mul d);
  coprime = gcd_of-IsGcd 0 1;
  positive = omega arith;
}

pub lowest_terms-none : (d : ℕ) → 1 ≤ d → lowest_terms (pos 0) d ≡ ratio (pos 0) 1
lowest_terms-none d some =
    let is = lowest_terms_is (pos 0) d (pos 0) 1 some (none_lowest d) in
    ap (λ p. ratio p (lowest_terms (pos 0) d).q) is.0 ∙ ap (ratio (pos 0)) is.1

-- two factors in a row are one
times-times : (m : ℤ) (a b : ℕ) → m *ℤ pos a *ℤ pos b ≡ m *ℤ pos (a * b)
times-times (pos m) a b = ap pos (mul_assoc m a b)
times-times (negsuc m) a b =
    neg-times (suc m * a) b ∙ ap (λ x. neg_ℤ (pos x)) (mul_assoc (suc m) a b)

-- a common factor of numerator and denominator changes no fraction
pub lowest_terms-scaled :
    (n : ℤ) (d k : ℕ) → 1 ≤ d → 1 ≤ k → lowest_terms (n *ℤ pos k) (d * k) ≡ lowest_terms n d
lowest_terms-scaled n d k some more =
    let small : IsLowest n d (lowest_terms n d).p (lowest_terms n d).q =
    lowest_terms-IsLowest n d some in
    let scaled : IsLowest (n *ℤ pos k) (d * k) (lowest_terms n d).p (lowest_terms n d).q =
    record {
      same =
          sym (times-times (lowest_terms n d).p d k)
          ∙ ap (λ m. m *ℤ pos k) small.same
          ∙ times-times n (lowest_terms n d).q k
          ∙ ap (λ m. n *ℤ pos m) (mul_comm (lowest_terms n d).q k)
          ∙ sym (times-times n k (lowest_terms n d).q);
      coprime = small.coprime;
      positive = small.positive;
    } in
    let is =
    lowest_terms_is (n *ℤ pos k) (d * k) (lowest_terms n d).p (lowest_terms n d).q
    (mul-pos some more) scaled in
    ap (λ p. ratio p (lowest_terms (n *ℤ pos k) (d * k)).q) is.0
    ∙ ap (λ q. ratio (lowest_terms n d).p q) is.1
