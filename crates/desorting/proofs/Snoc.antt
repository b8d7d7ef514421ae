-- Lists of numbers that grow at the end.
use Rattle.std.proofs.Common.{◌≡◌, ℕ, zero, suc, ◌+◌, List, [], ◌∷◌, ◌++◌, refl, sym, ap, ◌∙◌, arith, append_assoc}
use Rattle.polynomial_iface.specs.Polys.{numbers_from}
use Rattle.structures.specs.Structures.{repeated}

pub repeated-snoc : (k n : ℕ) → repeated k (n + 1) ≡ repeated k n ++ k ∷ []
repeated-snoc k zero = refl
repeated-snoc k (suc n) = let next : suc n + 1 ≡ suc (n + 1) = omega arith in
    ap (repeated k) next ∙ ap (λ l. k ∷ l) (repeated-snoc k n)

numbers-snoc :
    (first n : ℕ) → numbers_from first (n + 1) ≡ numbers_from first n ++ (first + n) ∷ []
numbers-snoc first zero = let zeroth : first ≡ first + 0 = omega arith in ap (λ k. k ∷ []) zeroth
numbers-snoc first (suc n) =
    let next : suc n + 1 ≡ suc (n + 1) = omega arith in
    let number : first + 1 + n ≡ first + suc n = omega arith in
    ap (numbers_from first) next ∙ ap (λ l. first ∷ l) (numbers-snoc (first + 1) n)
    ∙ ap (λ k. first ∷ numbers_from (first + 1) n ++ k ∷ []) number

-- one more element behind the elements that were added
module _ {X : Type 0} (old new more : List X) (x : X) (added all : List X) where
  -- a list that grew by one part and one element
  pub push_more :
      more ≡ new ++ x ∷ [] → new ≡ old ++ added → all ≡ added ++ x ∷ [] → more ≡ old ++ all
  push_more pushed before after =
      pushed ∙ ap (λ l. l ++ x ∷ []) before ∙ append_assoc old added (x ∷ [])
      ∙ ap (λ l. old ++ l) (sym after)

-- a list that grew by zeros grows by another
pub push_zero :
    (old new more : List ℕ) (n : ℕ) → more ≡ new ++ 0 ∷ [] → new ≡ old ++ repeated 0 n →
    more ≡ old ++ repeated 0 (n + 1)
push_zero old new more n pushed before =
    push_more old new more 0 (repeated 0 n) (repeated 0 (n + 1)) pushed before (repeated-snoc 0 n)

-- a list that grew by numbers in order grows by the next
pub push_number :
    (old new more : List ℕ) (n : ℕ) → more ≡ new ++ n ∷ [] → new ≡ old ++ numbers_from 0 n →
    more ≡ old ++ numbers_from 0 (n + 1)
push_number old new more n pushed before =
    let zeroth : 0 + n ≡ n = omega arith in
    push_more old new more n (numbers_from 0 n) (numbers_from 0 (n + 1)) pushed before
    (numbers-snoc 0 n ∙ ap (λ k. numbers_from 0 n ++ k ∷ []) zeroth)
