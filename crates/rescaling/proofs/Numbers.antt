-- Weights that are multiplied by one number above 0 keep their order, equality and sums.
use Rattle.std.proofs.Common.{◌≡◌, ℕ, zero, suc, ◌*◌, ◌<◌, ◌≤◌, Bool, true, false, cond, refl, sym, ap, ◌∙◌, arith}
use Rattle.std.specs.Prelude.{ℤ, pos, negsuc, neg_ℤ, ◌+ℤ◌, ◌*ℤ◌, int_lt, if◌then◌else◌}
use Rattle.std.specs.declared.cmp.Ordering.TheVariants.{Less, Equal, Greater}
use Rattle.std.specs.Ordering.{int_cmp, int_eq}
use Rattle.std.proofs.Math.Dec.{ltb}
use Rattle.std.proofs.Math.IntN.{+ℤ_assoc, +ℤ_comm, *ℤ_comm, *ℤ-zero, suc_ℤ-*ℤ}
use Rattle.std.proofs.Math.Nat.{lt_of_mul-lt-mul_right, mul-lt-mul_of_pos_right, mul-pos, zero-mul}
use Rattle.std.proofs.lemmas.Bool.Decides.{same_from_decides, Decides-ltb, Decides-int_eq}
use Rattle.functor_terms.specs.declared.node.Node.{Node}
use Rattle.fitting.specs.Fitting.{has_fractions}
use Rattle.weights.specs.FractionLaws.{cancel_factor}
use Rattle.rescaling.specs.Rescaled.{rescaled_weight}

-- numbers that keep 0, sums, equality and order
pub record KeepsNumbers (f : ℤ → ℤ) : Type 0 where
  pub none : f (pos 0) ≡ pos 0
  pub sums : (a b : ℤ) → f (a +ℤ b) ≡ f a +ℤ f b
  pub equal : (a b : ℤ) → int_eq (f a) (f b) ≡ int_eq a b
  pub below : (a b : ℤ) → int_lt (f a) (f b) ≡ int_lt a b
  pub order : (a b : ℤ) → int_cmp (f a) (f b) ≡ int_cmp a b
  pub tells : (a b : ℤ) → f a ≡ f b → a ≡ b

same-keeps : KeepsNumbers (λ w. w)
same-keeps = record {
  none = refl;
  sums = λ a b. refl;
  equal = λ a b. refl;
  below = λ a b. refl;
  order = λ a b. refl;
  tells = λ a b e. e;
}

-- one more time is one more summand
times-suc : (z : ℤ) (k : ℕ) → z *ℤ pos (suc k) ≡ z *ℤ pos k +ℤ z
times-suc z k =
    *ℤ_comm z (pos (suc k)) ∙ suc_ℤ-*ℤ (pos k) z ∙ ap (λ x. x +ℤ z) (*ℤ_comm (pos k) z)

-- the inner two of four summands change places
swapped : (a b c d : ℤ) → (a +ℤ b) +ℤ (c +ℤ d) ≡ (a +ℤ c) +ℤ (b +ℤ d)
swapped a b c d =
    +ℤ_assoc a b (c +ℤ d)
    ∙ ap (λ x. a +ℤ x) (sym (+ℤ_assoc b c d) ∙ ap (λ x. x +ℤ d) (+ℤ_comm b c) ∙ +ℤ_assoc c b d)
    ∙ sym (+ℤ_assoc a c (b +ℤ d))

times-sum : (a b : ℤ) (k : ℕ) → (a +ℤ b) *ℤ pos k ≡ a *ℤ pos k +ℤ b *ℤ pos k
times-sum a b zero = *ℤ-zero (a +ℤ b) ∙ sym (λ i. *ℤ-zero a i +ℤ *ℤ-zero b i)
times-sum a b (suc k) =
    times-suc (a +ℤ b) k ∙ ap (λ x. x +ℤ (a +ℤ b)) (times-sum a b k)
    ∙ swapped (a *ℤ pos k) (b *ℤ pos k) a b
    ∙ sym (λ i. times-suc a k i +ℤ times-suc b k i)

times-below : (a b k : ℕ) → 1 ≤ k → ltb (a * k) (b * k) ≡ ltb a b
times-below a b k some =
    same_from_decides (ltb (a * k) (b * k)) (ltb a b) (Decides-ltb (a * k) (b * k)) (
      λ h. mul-lt-mul_of_pos_right ((Decides-ltb a b).0 h) some,
      λ h. (Decides-ltb a b).1 (lt_of_mul-lt-mul_right k h),
    )

below-suc : (a b : ℕ) → ltb (suc a) (suc b) ≡ ltb a b
below-suc a b =
    same_from_decides (ltb (suc a) (suc b)) (ltb a b) (Decides-ltb (suc a) (suc b)) (
      λ h. let e = (Decides-ltb a b).0 h in omega (arith, e),
      λ h. (Decides-ltb a b).1 (omega (arith, h)),
    )

-- the product of a negative number is one less than the negative of something
negative : (a k : ℕ) → 1 ≤ k → (n : ℕ) × (negsuc a *ℤ pos k ≡ negsuc n) × (suc a * k ≡ suc n)
negative a k some = by (suc a * k) refl (mul-pos (omega arith) some)
  where
    by :
        (n : ℕ) → suc a * k ≡ n → 0 < n →
        (n : ℕ) × (negsuc a *ℤ pos k ≡ negsuc n) × (suc a * k ≡ suc n)
    by zero e h = absurd (omega arith)
    by (suc n) e h = (n, ap (λ x. neg_ℤ (pos x)) e, e)

times-order : (a b : ℤ) (k : ℕ) → 1 ≤ k → int_lt (a *ℤ pos k) (b *ℤ pos k) ≡ int_lt a b
times-order (pos a) (pos b) k some = times-below a b k some
times-order (pos a) (negsuc b) k some =
    let (n, is, e) = negative b k some in ap (λ x. int_lt (pos (a * k)) x) is
times-order (negsuc a) (pos b) k some =
    let (n, is, e) = negative a k some in ap (λ x. int_lt x (pos (b * k))) is
times-order (negsuc a) (negsuc b) k some =
    let (n, is, e) = negative a k some in
    let (m, are, f) = negative b k some in
    (λ i. int_lt (is i) (are i)) ∙ sym (below-suc m n) ∙ sym (λ i. ltb (f i) (e i))
    ∙ times-below (suc b) (suc a) k some ∙ below-suc b a

times-keeps : (k : ℕ) → 1 ≤ k → KeepsNumbers (λ w. w *ℤ pos k)
times-keeps k some = record {
  none = ap pos (zero-mul k);
  sums = λ a b. times-sum a b k;
  equal = λ a b.
      same_from_decides (int_eq (a *ℤ pos k) (b *ℤ pos k)) (int_eq a b)
      (Decides-int_eq (a *ℤ pos k) (b *ℤ pos k)) (
        λ h. ap (λ x. x *ℤ pos k) ((Decides-int_eq a b).0 h),
        λ h. (Decides-int_eq a b).1 (cancel_factor a b k some h),
      );
  below = λ a b. times-order a b k some;
  order = λ a b. λ i.
      cond (times-order a b k some i) Less (cond (times-order b a k some i) Greater Equal);
  tells = λ a b e. cancel_factor a b k some e;
}

-- a node keeps its weights, or multiplies them
pub weight-keeps : (k : ℕ) (m : Node) → 1 ≤ k → KeepsNumbers (rescaled_weight k m)
weight-keeps k m some = by (has_fractions m)
  where
    by : (b : Bool) → KeepsNumbers (λ w. if b then w *ℤ pos k else w)
    by true = times-keeps k some
    by false = same-keeps
