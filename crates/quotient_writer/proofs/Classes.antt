-- First states of numbered classes, found by a pass over the labels.
use Rattle.std.proofs.Common.{◌≡◌, ℕ, suc, ◌+◌, ◌<◌, ◌≤◌, true, ◌&&◌, List, [], ◌∷◌, ◌++◌, drop, length, Some, slice_get, sym, ap, ◌∙◌, subst, arith, ⊎_elim, ◌⊎◌, inl, inr}
use Rattle.std.specs.Prelude.{◌==◌, nat_lt, slice_index, if◌then◌else◌}
use Rattle.std.proofs.lemmas.Bool.{and_parts, ltb-true, cases_lt, ne_eqb}
use Rattle.std.proofs.lemmas.Cmp.{nat_eq_equiv}
use Rattle.std.proofs.lemmas.List.{get_or_append_left, get_or-append-add}
use Rattle.std.proofs.lemmas.List.Sums.{position_or_len_is}
use Rattle.quotient_writer.specs.Quotient.{numbers_from, is_numbered}
use Rattle.quotient_writer.specs.Blocks.{first_state}
use Rattle.quotient_writer.proofs.Picks.{drop_at, length-push}

-- a label that begins a class, and one that does not
numbers_new : (n k : ℕ) (b : List ℕ) → k ≡ n → numbers_from n (k ∷ b) ≡ true
    → numbers_from (suc n) b ≡ true
numbers_new n k b e h =
    sym (ap (λ o. if o then numbers_from (suc n) b else (nat_lt k n && numbers_from n b))
    (ap (λ m. k == m) (sym e) ∙ nat_eq_equiv.refl k)) ∙ h

numbers_old : (n k : ℕ) (b : List ℕ) → (k ≡ n → ⊥) → numbers_from n (k ∷ b) ≡ true
    → (k < n) × (numbers_from n b ≡ true)
numbers_old n k b e h =
    let p = and_parts (nat_lt k n) (numbers_from n b)
    (sym (ap (λ o. if o then numbers_from (suc n) b else (nat_lt k n && numbers_from n b))
    (ne_eqb k n e)) ∙ h) in
    (ltb-true k n p.0, p.1)

-- a place before the next is before this one or is it
pub last_case : (j n : ℕ) → j < n + 1 → (j < n) ⊎ (j ≡ n)
last_case j n h = ⊎_elim (λ less. inl less) (λ more. inr (let e : j ≡ n = omega arith in e))
    (cases_lt j n)

module _ (labels : List ℕ) where
  -- where the pass stands, before place i
  pub record IsPassing (i : ℕ) (firsts : List ℕ) : Type 0 where
    pub few : length firsts ≤ i
    pub rest : numbers_from (length firsts) (drop i labels) ≡ true
    pub classes : (j : ℕ) → j < i → slice_index labels j < length firsts
    pub first : (k : ℕ) → k < length firsts → slice_index firsts k ≡ first_state labels k
    pub states : (k : ℕ) → k < length firsts → slice_index firsts k < i

  -- before the first state nothing is passed
  pub passing_none : is_numbered labels ≡ true → IsPassing 0 []
  passing_none h = record {
    few = omega arith;
    rest = h;
    classes = λ j k. absurd (omega arith);
    first = λ j k. absurd (omega arith);
    states = λ j k. absurd (omega arith);
  }

  module _ (i k : ℕ) (firsts : List ℕ) (label_at : slice_get labels i ≡ Some k)
      (label_is : slice_index labels i ≡ k) (inside : i < length labels) (is : IsPassing i firsts)
    where
      here : numbers_from (length firsts) (k ∷ drop (i + 1) labels) ≡ true
      here = ap (numbers_from (length firsts)) (sym (drop_at labels i k label_at)) ∙ is.rest

      -- another state of a known class is passed
      pub passing_old : (k ≡ length firsts → ⊥) → IsPassing (i + 1) firsts
      passing_old h =
          let p = numbers_old (length firsts) k (drop (i + 1) labels) h here in
          record {
            few = omega (arith, is.few);
            rest = p.1;
            classes = λ j below. by j (last_case j i below) p.0;
            first = is.first;
            states = λ j below. omega (arith, is.states j below);
          }
        where
          by : (j : ℕ) → (j < i) ⊎ (j ≡ i) → k < length firsts → slice_index labels j < length firsts
          by j (inl less) below = is.classes j less
          by j (inr same) below = subst (λ n. n < length firsts) (sym (ap (slice_index labels) same
              ∙ label_is)) below

      -- the first state that has the label is this one
      new_first : k ≡ length firsts → first_state labels k ≡ i
      new_first e =
          position_or_len_is (λ j. j == k) labels i 0 (omega arith)
          (λ j below. ne_eqb (slice_index labels j) k
          (λ same. absurd (omega (arith, is.classes j below, same, e))))
          (λ below. ap (λ n. n == k) label_is ∙ nat_eq_equiv.refl k)

      -- the first state of a class is passed
      pub passing_new : k ≡ length firsts → IsPassing (i + 1) (firsts ++ i ∷ [])
      passing_new e = record {
        few = omega (arith, is.few, length-push firsts i);
        rest = ap (λ n. numbers_from n (drop (i + 1) labels)) (length-push firsts i)
            ∙ numbers_new (length firsts) k (drop (i + 1) labels) e here;
        classes = λ j below. by j (last_case j i below);
        first = λ j below. at j (last_case j (length firsts)
            (omega (arith, below, length-push firsts i)));
        states = λ j below. last j (last_case j (length firsts)
            (omega (arith, below, length-push firsts i)));
      }
        where
          by : (j : ℕ) → (j < i) ⊎ (j ≡ i) → slice_index labels j < length (firsts ++ i ∷ [])
          by j (inl less) = omega (arith, is.classes j less, length-push firsts i)
          by j (inr same) = omega (
            arith,
            e,
            ap (slice_index labels) same
                ∙ label_is,
            length-push firsts i,
          )

          seam : slice_index (firsts ++ i ∷ []) (length firsts) ≡ i
          seam = ap (slice_index (firsts ++ i ∷ [])) (let w : length firsts ≡ length firsts + 0 =
              omega arith in w) ∙ get_or-append-add firsts (i ∷ []) 0 0

          at : (j : ℕ) → (j < length firsts) ⊎ (j ≡ length firsts)
              → slice_index (firsts ++ i ∷ []) j ≡ first_state labels j
          at j (inl less) = get_or_append_left firsts (i ∷ []) 0 j less ∙ is.first j less
          at j (inr same) = ap (slice_index (firsts ++ i ∷ [])) same ∙ seam ∙ sym (new_first e)
              ∙ ap (first_state labels) (e ∙ sym same)

          last : (j : ℕ) → (j < length firsts) ⊎ (j ≡ length firsts)
              → slice_index (firsts ++ i ∷ []) j < i + 1
          last j (inl less) = omega (
            arith,
            get_or_append_left firsts (i ∷ []) 0 j less,
            is.states j
                less,
          )
          last j (inr same) = omega (arith, ap (slice_index (firsts ++ i ∷ [])) same ∙ seam)
