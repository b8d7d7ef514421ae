-- First places are found label by label.
use Rattle.std.proofs.Common.{◌≡◌, ℕ, zero, suc, ◌+◌, ◌<◌, ◌≤◌, min, List, [], ◌∷◌, ◌++◌, length, set, replicate, refl, sym, ap, ◌∙◌, subst, ⊎_elim, arith}
use Rattle.std.specs.Prelude.{◌⊎◌, slice_index}
use Rattle.std.proofs.lemmas.Bool.{cases_lt, cases_eq}
use Rattle.classes.specs.Firsts.{IsFirstPlace, AreFirstPlaces}

-- what is known of each label when i places were looked at: its first place, or n if it has none
pub record AreMarked (labels : List ℕ) (blocks n i : ℕ) (known firsts : List ℕ) : Type 0 where
  pub rooms : length known ≡ blocks
  pub there :
      (k : ℕ) → k < blocks → slice_index known k < n →
      (slice_index labels (slice_index known k) ≡ k) × (slice_index known k < i)
  pub least :
      (k : ℕ) → k < blocks → slice_index known k < n →
      (m : ℕ) → slice_index labels m ≡ k → slice_index known k ≤ m
  pub absent :
      (k : ℕ) → k < blocks → n ≤ slice_index known k →
      (m : ℕ) → slice_index labels m ≡ k → i ≤ m
  pub count : length firsts ≡ i
  pub each : (j : ℕ) → j < i → IsFirstPlace labels j (slice_index firsts j)

filled : (n k d : ℕ) → slice_index (replicate k n) d ≡ n → n ≤ slice_index (replicate k n) d
filled n k d e = omega (arith, e)

pub marked_none :
    (labels : List ℕ) (blocks n : ℕ) (known : List ℕ) → length known ≡ blocks →
    ((k : ℕ) → k < blocks → slice_index known k ≡ n) → AreMarked labels blocks n 0 known []
marked_none labels blocks n known rooms all = record {
  rooms = rooms;
  there = λ k h low. absurd (omega (arith, all k h, low));
  least = λ k h low m e. absurd (omega (arith, all k h, low));
  absent = λ k h none m e. omega arith;
  count = refl;
  each = λ j h. absurd (omega (arith, h));
}

at_last : (xs : List ℕ) (x : ℕ) → slice_index (xs ++ x ∷ []) (length xs) ≡ x
at_last [] x = refl
at_last (y ∷ ys) x = at_last ys x

at_earlier :
    (xs : List ℕ) (x j : ℕ) → j < length xs → slice_index (xs ++ x ∷ []) j ≡ slice_index xs j
at_earlier [] x j h = absurd (omega arith)
at_earlier (y ∷ ys) x zero h = refl
at_earlier (y ∷ ys) x (suc j) h = at_earlier ys x j (omega arith)

one_more : (xs : List ℕ) (x : ℕ) → length (xs ++ x ∷ []) ≡ length xs + 1
one_more [] x = omega arith
one_more (y ∷ ys) x = omega (arith, one_more ys x)

set_same : (xs : List ℕ) (k x : ℕ) → k < length xs → slice_index (set xs k x) k ≡ x
set_same [] k x h = absurd (omega arith)
set_same (y ∷ ys) zero x h = refl
set_same (y ∷ ys) (suc k) x h = set_same ys k x (omega arith)

set_other : (xs : List ℕ) (k j x : ℕ) → (j ≡ k → ⊥) → slice_index (set xs k x) j ≡ slice_index xs j
set_other [] k j x h = refl
set_other (y ∷ ys) zero zero x h = absurd (h refl)
set_other (y ∷ ys) zero (suc j) x h = refl
set_other (y ∷ ys) (suc k) zero x h = refl
set_other (y ∷ ys) (suc k) (suc j) x h = set_other ys k j x (λ e. h (ap suc e))

set_length : (xs : List ℕ) (k x : ℕ) → length (set xs k x) ≡ length xs
set_length [] k x = refl
set_length (y ∷ ys) zero x = refl
set_length (y ∷ ys) (suc k) x = ap suc (set_length ys k x)

module _
    (labels : List ℕ) (blocks n i : ℕ) (known firsts : List ℕ)
    (marked : AreMarked labels blocks n i known firsts) (low : i < n) (k : ℕ)
    (label : slice_index labels i ≡ k) (inside : k < blocks) where
  abbrev first : ℕ
  first = min (slice_index known k) i

  pub is_first : IsFirstPlace labels i first
  is_first = ⊎_elim seen unseen (cases_lt (slice_index known k) n)
    where
      seen : slice_index known k < n → IsFirstPlace labels i first
      seen h =
          let there = marked.there k inside h in
          let same : first ≡ slice_index known k = omega (arith, there.1) in
          record {
            before = omega arith;
            same = ap (slice_index labels) same ∙ there.0 ∙ sym label;
            least = λ j e. let w = marked.least k inside h j (e ∙ label) in omega (arith, w);
          }

      unseen : n ≤ slice_index known k → IsFirstPlace labels i first
      unseen h =
          let same : first ≡ i = omega (arith, h, low) in
          record {
            before = omega arith;
            same = ap (slice_index labels) same;
            least = λ j e. let w = marked.absent k inside h j (e ∙ label) in omega (arith, w, same);
          }

  abbrev after : List ℕ
  after = set known k first

  kept : (j : ℕ) → (j ≡ k → ⊥) → slice_index after j ≡ slice_index known j
  kept j h = set_other known k j first h

  put : slice_index after k ≡ first
  put = set_same known k first (omega (arith, marked.rooms, inside))

  -- one more entry is marked with the first of its block
  pub marked_more : AreMarked labels blocks n (i + 1) after (firsts ++ first ∷ [])
  marked_more = record {
    rooms = set_length known k first ∙ marked.rooms;
    there = λ j h w. ⊎_elim
        (λ same. there_same j same)
        (λ other. let old = marked.there j h (omega (arith, w, kept j other)) in
        (ap (slice_index labels) (kept j other) ∙ old.0, omega (arith, old.1, kept j other)))
        (cases_eq j k);
    least = λ j h w m e. ⊎_elim
        (λ (same : j ≡ k).
        let here : slice_index after j ≡ first = ap (slice_index after) same ∙ put in
        omega (arith, here, is_first.least m (e ∙ same ∙ sym label)))
        (λ other.
        let before = marked.least j h (omega (arith, w, kept j other)) m e in
        omega (arith, kept j other, before))
        (cases_eq j k);
    absent = λ j h w m e. ⊎_elim
        (λ (same : j ≡ k).
        let here : slice_index after j ≡ first = ap (slice_index after) same ∙ put in
        absurd (omega (arith, w, here, is_first.before, low)))
        (λ other.
        let before = marked.absent j h (omega (arith, w, kept j other)) m e in
        ⊎_elim
        (λ (same : m ≡ i). absurd (other (sym e ∙ ap (slice_index labels) same ∙ label)))
        (λ (differ : m ≡ i → ⊥). apart m before differ)
        (cases_eq m i))
        (cases_eq j k);
    count = (
        let w : length firsts + 1 ≡ i + 1 = omega (arith, marked.count) in
        one_more firsts first ∙ w);
    each = λ j h.
        ⊎_elim (λ earlier. each_old j earlier) (λ now. each_new j (omega (arith, h, now)))
        (cases_lt j i);
  }
    where
      apart : (m : ℕ) → i ≤ m → (m ≡ i → ⊥) → i + 1 ≤ m
      apart m h differ =
          ⊎_elim (λ (w : i + 1 ≤ m). w) (λ (w : m ≡ i). absurd (differ w)) (cases m h)
        where
          cases : (m : ℕ) → i ≤ m → (i + 1 ≤ m) ⊎ (m ≡ i)
          cases m h = grind arith

      there_same :
          (j : ℕ) → j ≡ k →
          (slice_index labels (slice_index after j) ≡ j) × (slice_index after j < i + 1)
      there_same j same =
          let here : slice_index after j ≡ first = ap (slice_index after) same ∙ put in (
            ap (slice_index labels) here ∙ is_first.same ∙ label ∙ sym same,
            omega (arith, here, is_first.before),
          )

      each_old : (j : ℕ) → j < i → IsFirstPlace labels j (slice_index (firsts ++ first ∷ []) j)
      each_old j h =
          subst (IsFirstPlace labels j)
          (sym (at_earlier firsts first j (omega (arith, marked.count)))) (marked.each j h)

      each_new : (j : ℕ) → j ≡ i → IsFirstPlace labels j (slice_index (firsts ++ first ∷ []) j)
      each_new j same =
          let here : slice_index (firsts ++ first ∷ []) j ≡ first =
          ap (slice_index (firsts ++ first ∷ [])) (same ∙ sym marked.count)
          ∙ at_last firsts first in
          subst (λ f. IsFirstPlace labels j f) (sym here)
          (subst (λ m. IsFirstPlace labels m first) (sym same) is_first)

pub marked_all :
    (labels : List ℕ) (blocks n : ℕ) (known firsts : List ℕ) →
    AreMarked labels blocks n n known firsts → AreFirstPlaces labels n firsts
marked_all labels blocks n known firsts marked = record { count = marked.count; each = marked.each }
