-- The joint weight of the entries with a trit, from the last entry to the first.
--
-- triangle        == the size of a sum
-- joint_end       == no entries are left
-- joint_step      == one more entry
-- joint_more      == what holds when one more entry is looked at
-- element_at      == each place of a list has an element
use Rattle.std.proofs.Common.{◌≡◌, ◌+◌, ◌<◌, ◌≤◌, ℕ, List, [], ◌∷◌, length, get_or, drop, refl, sym, ◌∙◌, ap, inl, inr, arith, zero, suc, ◌⊎◌, FitsSigned, ◌^◌}
use Rattle.std.specs.Prelude.{ℤ, pos, ◌+ℤ◌, ◌==◌, if◌then◌else◌, unsigned_abs}
use Rattle.std.proofs.Math.Seq.{drop-cons}
use Rattle.std.proofs.lemmas.List.{drop_all}
use Rattle.std.proofs.lemmas.Bool.{eq-eqb, ne_eqb}
use Rattle.std.proofs.lemmas.Int.{fits_signed_from_abs}
use Rattle.std.specs.Int.{w128}
use Rattle.std.proofs.lemmas.List.Sums.{sum_by-cons}
use Rattle.std.proofs.lemmas.Int.{ints}
use Rattle.typing.specs.declared.value.Value.{Value}
use Rattle.typing.specs.Bounds.{absolute_sum}
use Rattle.typing.specs.Equality.{the_sum}
use Rattle.formula_checker.specs.LayerValues.{joint_with}
use Rattle.typing.proofs.WeightSums.{triangle}

module _ (plus : ℤ → ℤ → ℤ) (k : ℕ) where
  no_trits : (es : List (Value × ℤ)) → joint_with plus es [] k ≡ pos 0
  no_trits [] = refl
  no_trits (e ∷ es) = refl

  -- no entries are left, or no trits
  pub joint_end :
      (es : List (Value × ℤ)) (trits : List ℕ) (n : ℕ) →
      (length es ≤ n) ⊎ (length trits ≤ n) →
      joint_with plus (drop n es) (drop n trits) k ≡ pos 0
  joint_end es trits n (inl h) =
      ap (λ l. joint_with plus l (drop n trits) k) (drop_all n es h)
  joint_end es trits n (inr h) =
      ap (λ l. joint_with plus (drop n es) l k) (drop_all n trits h) ∙ no_trits (drop n es)

  -- one more entry
  pub joint_step :
      (es : List (Value × ℤ)) (trits : List ℕ) (i : ℕ) (e : Value × ℤ) →
      i < length es → i < length trits → e ≡ get_or es i e →
      joint_with plus (drop i es) (drop i trits) k
      ≡ plus (if get_or trits i 0 == k then e.1 else pos 0)
      (joint_with plus (drop (i + 1) es) (drop (i + 1) trits) k)
  joint_step es trits i e he ht re =
      let next : suc i ≡ i + 1 = omega arith in
      let left : drop i es ≡ e ∷ drop (i + 1) es =
      drop-cons es i e he ∙ (λ j. sym re j ∷ drop (next j) es) in
      let right : drop i trits ≡ get_or trits i 0 ∷ drop (i + 1) trits =
      drop-cons trits i 0 ht ∙ (λ j. get_or trits i 0 ∷ drop (next j) trits) in
      (λ j. joint_with plus (left j) (right j) k)

-- the sizes of the weight of an entry and of the rest
size_step :
    (es : List (Value × ℤ)) (i : ℕ) (e : Value × ℤ) → i < length es → e ≡ get_or es i e →
    absolute_sum (drop i es) ≡ unsigned_abs e.1 + absolute_sum (drop (i + 1) es)
size_step es i e he re =
    let next : suc i ≡ i + 1 = omega arith in
    let left : drop i es ≡ e ∷ drop (i + 1) es =
    drop-cons es i e he ∙ (λ j. sym re j ∷ drop (next j) es) in
    ap absolute_sum left ∙ sum_by-cons (λ (w : Value × ℤ). unsigned_abs w.1) e (drop (i + 1) es)

-- the entries from one on have no larger size
size_drop : (i : ℕ) (es : List (Value × ℤ)) → absolute_sum (drop i es) ≤ absolute_sum es
size_drop zero es = omega arith
size_drop (suc i) [] = omega arith
size_drop (suc i) (e ∷ es) =
    omega (arith, size_drop i es, sum_by-cons (λ (w : Value × ℤ). unsigned_abs w.1) e es)

small_fits : (z : ℤ) → unsigned_abs z ≤ 2 ^ 106 → FitsSigned w128 z
small_fits z h = fits_signed_from_abs w128 z (omega (arith, h))

-- what holds when one more entry is looked at, where S is the joint weight of those behind it
pub record IsJointAt
    (es : List (Value × ℤ)) (trits : List ℕ) (k i : ℕ) (e : Value × ℤ) (S : ℤ) : Type 0 where
  pub weight_fits : FitsSigned w128 e.1
  pub sum_fits : FitsSigned w128 (e.1 +ℤ S)
  pub taken :
      get_or trits i 0 ≡ k → e.1 +ℤ S ≡ joint_with the_sum (drop i es) (drop i trits) k
  pub passed :
      ¬ (get_or trits i 0 ≡ k) → S ≡ joint_with the_sum (drop i es) (drop i trits) k
  pub small_taken : unsigned_abs (e.1 +ℤ S) ≤ absolute_sum (drop i es)
  pub small_passed : unsigned_abs S ≤ absolute_sum (drop i es)

pub joint_more :
    (es : List (Value × ℤ)) (trits : List ℕ) (k i : ℕ) (e : Value × ℤ) (S : ℤ) →
    i < length es → i < length trits → e ≡ get_or es i e → absolute_sum es ≤ 2 ^ 106 →
    S ≡ joint_with the_sum (drop (i + 1) es) (drop (i + 1) trits) k →
    unsigned_abs S ≤ absolute_sum (drop (i + 1) es) → IsJointAt es trits k i e S
joint_more es trits k i e S he ht re bound is small = record {
  weight_fits = small_fits e.1 (omega (arith, size, whole, bound));
  sum_fits = small_fits (e.1 +ℤ S) (omega (arith, size, whole, bound, triangle e.1 S, small));
  taken = λ same. (
      let t = eq-eqb (get_or trits i 0) k same in
      ap (λ z. e.1 +ℤ z) is
      ∙ sym (joint_step the_sum k es trits i e he ht re
      ∙ ap (λ b. (if b then e.1 else pos 0) +ℤ rest) t));
  passed = λ other. (
      let t = ne_eqb (get_or trits i 0) k other in
      is ∙ sym (joint_step the_sum k es trits i e he ht re
      ∙ ap (λ b. (if b then e.1 else pos 0) +ℤ rest) t ∙ zero_first rest));
  small_taken = omega (arith, size, triangle e.1 S, small);
  small_passed = omega (arith, size, small);
}
  where
    rest : ℤ
    rest = joint_with the_sum (drop (i + 1) es) (drop (i + 1) trits) k

    size : absolute_sum (drop i es) ≡ unsigned_abs e.1 + absolute_sum (drop (i + 1) es)
    size = size_step es i e he re

    whole : absolute_sum (drop i es) ≤ absolute_sum es
    whole = size_drop i es

    zero_first : (z : ℤ) → pos 0 +ℤ z ≡ z
    zero_first z = omega (arith, ints)

-- each place of a list has an element
pub element_at :
    (es : List (Value × ℤ)) (i : ℕ) → i < length es → (e : Value × ℤ) × (e ≡ get_or es i e)
element_at [] i h = absurd (omega arith)
element_at (e ∷ es) zero h = (e, refl)
element_at (e ∷ es) (suc i) h = element_at es i (omega arith)
