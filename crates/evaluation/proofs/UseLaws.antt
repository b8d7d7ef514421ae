-- Uses of rows, when one more formula is looked at.
--
-- push_more, push_last, push_within    == a list with one more number
-- used_more                            == larger numbers say the same of uses
-- uses_step                            == the uses of one more formula
use Rattle.std.proofs.Common.{◌≡◌, ◌+◌, ◌<◌, ◌≤◌, ℕ, zero, suc, List, [], ◌∷◌, ◌++◌, length, Some, slice_get, refl, sym, ◌∙◌, subst, inl, inr, arith, length-append}
use Rattle.std.specs.Prelude.{slice_index}
use Rattle.std.proofs.lemmas.Bool.{cases_lt}
use Rattle.std.proofs.lemmas.Option.{same_Some}
use Rattle.formulas.specs.declared.formula.Formula.{Formula}
use Rattle.formulas.specs.declared.formula.Formula.TheVariants.{True, Not, And, At}
use Rattle.evaluation.specs.Uses.{IsUsedAt, AreLastUses}

pub push_more : (xs : List ℕ) (v i : ℕ) → slice_index xs i ≤ slice_index (xs ++ v ∷ []) i
push_more [] v i = omega arith
push_more (x ∷ xs) v zero = omega arith
push_more (x ∷ xs) v (suc i) = push_more xs v i

pub push_last : (xs : List ℕ) (v : ℕ) → slice_index (xs ++ v ∷ []) (length xs) ≡ v
push_last [] v = refl
push_last (x ∷ xs) v = push_last xs v

pub push_within :
    (xs : List ℕ) (v b : ℕ) → ((i : ℕ) → slice_index xs i ≤ b) → v ≤ b → (i : ℕ) →
    slice_index (xs ++ v ∷ []) i ≤ b
push_within [] v b h w zero = w
push_within [] v b h w (suc i) = omega arith
push_within (x ∷ xs) v b h w zero = h 0
push_within (x ∷ xs) v b h w (suc i) = push_within xs v b (λ j. h (suc j)) w i

-- larger numbers say the same of uses
pub used_more :
    (xs ys : List ℕ) (k : ℕ) (f : Formula) → ((i : ℕ) → slice_index xs i ≤ slice_index ys i) →
    IsUsedAt xs k f → IsUsedAt ys k f
used_more xs ys k True h u = tt
used_more xs ys k (Not i) h u = omega (arith, h i)
used_more xs ys k (And i j) h u = (omega (arith, h i, u.0), omega (arith, h j, u.1))
used_more xs ys k (At node value i j) h u = (omega (arith, h i, u.0), omega (arith, h j, u.1))

-- the uses of one more formula
pub uses_step :
    (dag : List Formula) (k : ℕ) (old mid : List ℕ) (f : Formula) → AreLastUses dag k old →
    slice_get dag k ≡ Some f → length mid ≡ length old → IsUsedAt mid k f →
    ((i : ℕ) → slice_index old i ≤ slice_index mid i) →
    AreLastUses dag (k + 1) (mid ++ (k + 1) ∷ [])
uses_step dag k old mid f uses at len used more = record {
  one_each = length-append mid ((k + 1) ∷ []) ∙ omega (arith, len, uses.one_each);
  newest = newest_now;
  cited = cited_now;
}
  where
    new : List ℕ
    new = mid ++ (k + 1) ∷ []

    grows : (i : ℕ) → slice_index old i ≤ slice_index new i
    grows i = omega (arith, more i, push_more mid (k + 1) i)

    count : length mid ≡ k
    count = omega (arith, len, uses.one_each)

    newest_now : (j : ℕ) → j < k + 1 → j + 1 ≤ slice_index new j
    newest_now j h = elim (cases_lt j k) [
      | inl less ↦ omega (arith, uses.newest j less, grows j)
      | inr not_less ↦ (
          let same : length mid ≡ j = omega (arith, count, not_less, h) in
          let last : slice_index new j ≡ k + 1 =
          subst (λ m. slice_index new m ≡ k + 1) same (push_last mid (k + 1)) in
          omega (arith, last, same, count))
    ]

    cited_now :
        (n : ℕ) (g : Formula) → n < k + 1 → slice_get dag n ≡ Some g → IsUsedAt new n g
    cited_now n g h e = elim (cases_lt n k) [
      | inl less ↦ used_more old new n g grows (uses.cited n g less e)
      | inr not_less ↦ (
          let same : k ≡ n = omega (arith, not_less, h) in
          let is : f ≡ g =
          same_Some f g (sym at ∙ (λ i. slice_get dag (same i)) ∙ e) in
          subst (λ m. IsUsedAt new m g) same (subst (IsUsedAt new k) is
          (used_more mid new k f (push_more mid (k + 1)) used)))
    ]
