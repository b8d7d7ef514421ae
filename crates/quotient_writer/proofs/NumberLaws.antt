-- Numbers for classes that are given by their first states.
use Rattle.std.proofs.Common.{◌≡◌, ℕ, suc, ◌+◌, ◌<◌, ◌≤◌, true, ◌&&◌, List, [], ◌∷◌, ◌++◌, length, append-nil, append_assoc, refl, sym, ap, ◌∙◌, arith, ◌⊎◌, inl, inr}
use Rattle.std.specs.Prelude.{◌==◌, nat_lt, slice_index, if◌then◌else◌}
use Rattle.std.proofs.lemmas.Bool.{and_from, lt-ltb, ne_eqb}
use Rattle.std.proofs.lemmas.Cmp.{nat_eq_equiv}
use Rattle.std.proofs.lemmas.List.{length-map, get_or-map, get_or_append_left, get_or-append-add}
use Rattle.std.proofs.lemmas.List.Sums.{position_or_len_is}
use Rattle.quotient_writer.specs.Quotient.{numbers_from, is_numbered}
use Rattle.quotient_writer.specs.Blocks.{AreFirsts, first_state, first_states}
use Rattle.quotient_writer.proofs.Picks.{length-push}
use Rattle.quotient_writer.proofs.Classes.{last_case}

same_lists : (xs ys : List ℕ) → length xs ≡ length ys
    → ((k : ℕ) → k < length ys → slice_index xs k ≡ slice_index ys k) → xs ≡ ys
same_lists [] [] l h = refl
same_lists [] (y ∷ ys) l h = absurd (omega arith)
same_lists (x ∷ xs) [] l h = absurd (omega arith)
same_lists (x ∷ xs) (y ∷ ys) l h = λ i. h 0 (omega arith) i ∷ same_lists xs ys (omega arith)
    (λ k b. h (suc k) (omega arith)) i

number_new : (n : ℕ) (more : List ℕ) → numbers_from (n + 1) more ≡ true
    → numbers_from n (n ∷ more) ≡ true
number_new n more h =
    ap (λ o. if o then numbers_from (suc n) more else (nat_lt n n && numbers_from n more))
    (nat_eq_equiv.refl n)
    ∙ ap (λ k. numbers_from k more) (let e : suc n ≡ n + 1 = omega arith in e) ∙ h

number_old : (n k : ℕ) (more : List ℕ) → k < n → numbers_from n more ≡ true
    → numbers_from n (k ∷ more) ≡ true
number_old n k more low h =
    ap (λ o. if o then numbers_from (suc n) more else (nat_lt k n && numbers_from n more))
    (ne_eqb k n (λ e. absurd (omega (arith, low, e))))
    ∙ and_from (nat_lt k n) (numbers_from n more) (lt-ltb k n low) h

module _ (firsts : List ℕ) where
  -- where the pass stands, before place i
  pub record IsNumbering (i : ℕ) (labels : List ℕ) (classes : ℕ) : Type 0 where
    pub count : length labels ≡ i
    pub few : classes ≤ i
    pub numbered : (more : List ℕ) → numbers_from classes more ≡ true
        → numbers_from 0 (labels ++ more) ≡ true
    pub below : (j : ℕ) → j < i → slice_index labels j < classes
    pub each : (j : ℕ) → j < i → slice_index labels (slice_index firsts j) ≡ slice_index labels j
    pub apart : (j k : ℕ) → j < i → k < i → slice_index firsts j ≡ j → slice_index firsts k ≡ k
        → slice_index labels j ≡ slice_index labels k → j ≡ k

  -- before the first state nothing is numbered
  pub numbering_none : IsNumbering 0 [] 0
  numbering_none = record {
    count = refl;
    few = omega arith;
    numbered = λ more h. h;
    below = λ j h. absurd (omega arith);
    each = λ j h. absurd (omega arith);
    apart = λ j k h. absurd (omega arith);
  }

module _ (firsts : List ℕ) (are : AreFirsts firsts) where
  module _ (i classes : ℕ) (labels : List ℕ) (inside : i < length firsts)
      (is : IsNumbering firsts i labels classes) where
    kept_at : (k j : ℕ) → j < i → slice_index (labels ++ k ∷ []) j ≡ slice_index labels j
    kept_at k j h = get_or_append_left labels (k ∷ []) 0 j (omega (arith, h, is.count))

    new_at : (k : ℕ) → slice_index (labels ++ k ∷ []) i ≡ k
    new_at k = ap (slice_index (labels ++ k ∷ [])) (let e : i ≡ length labels + 0 =
        omega (arith, is.count) in e) ∙ get_or-append-add labels (k ∷ []) 0 0

    at_kept : (k j : ℕ) → j < i → slice_index (labels ++ k ∷ []) (slice_index firsts j)
        ≡ slice_index (labels ++ k ∷ []) j
    at_kept k j h =
        let w = (are j (omega (arith, h, inside))).0 in
        kept_at k (slice_index firsts j) (omega (arith, h, w)) ∙ is.each j h ∙ sym (kept_at k j h)

    -- a first state gets the next number
    pub numbering_new : slice_index firsts i ≡ i
        → IsNumbering firsts (i + 1) (labels ++ classes ∷ []) (classes + 1)
    numbering_new own = record {
      count = omega (arith, length-push labels classes, is.count);
      few = omega (arith, is.few);
      numbered = λ more h. ap (numbers_from 0) (append_assoc labels (classes ∷ []) more)
          ∙ is.numbered (classes ∷ more) (number_new classes more h);
      below = λ j h. low j (last_case j i h);
      each = λ j h. at j (last_case j i h);
      apart = λ j k hj hk. differ j k (last_case j i hj) (last_case k i hk);
    }
      where
        low : (j : ℕ) → (j < i) ⊎ (j ≡ i) → slice_index (labels ++ classes ∷ []) j < classes + 1
        low j (inl less) = omega (arith, kept_at classes j less, is.below j less)
        low j (inr same) = omega (
          arith,
          ap (slice_index (labels ++ classes ∷ [])) same
              ∙ new_at classes,
        )

        at : (j : ℕ) → (j < i) ⊎ (j ≡ i)
            → slice_index (labels ++ classes ∷ []) (slice_index firsts j) ≡ slice_index
            (labels ++ classes ∷ []) j
        at j (inl less) = at_kept classes j less
        at j (inr same) = ap (slice_index (labels ++ classes ∷ [])) (ap (slice_index firsts) same
            ∙ own ∙ sym same)

        differ : (j k : ℕ) → (j < i) ⊎ (j ≡ i) → (k < i) ⊎ (k ≡ i) → slice_index firsts j ≡ j
            → slice_index firsts k ≡ k
            → slice_index (labels ++ classes ∷ []) j ≡ slice_index (labels ++ classes ∷ []) k
            → j ≡ k
        differ j k (inl lj) (inl lk) oj ok e = is.apart j k lj lk oj ok (sym (kept_at classes j lj)
            ∙ e ∙ kept_at classes k lk)
        differ j k (inl lj) (inr sk) oj ok e =
            absurd (omega (
              arith,
              kept_at classes j lj,
              is.below j lj,
              e,
              ap
                  (slice_index (labels ++ classes ∷ [])) sk ∙ new_at classes,
            ))
        differ j k (inr sj) (inl lk) oj ok e =
            absurd (omega (
              arith,
              kept_at classes k lk,
              is.below k lk,
              e,
              ap
                  (slice_index (labels ++ classes ∷ [])) sj ∙ new_at classes,
            ))
        differ j k (inr sj) (inr sk) oj ok e = sj ∙ sym sk

    -- another state gets the number of its first
    pub numbering_old : (slice_index firsts i ≡ i → ⊥)
        → IsNumbering firsts (i + 1) (labels ++ slice_index labels (slice_index firsts i) ∷ [])
        classes
    numbering_old other =
        let f : ℕ = slice_index firsts i in
        let before : f < i = earlier (last_case f i (omega (arith, (are i inside).0))) in
        record {
          count = omega (arith, length-push labels (slice_index labels f), is.count);
          few = omega (arith, is.few);
          numbered = λ more h. ap (numbers_from 0) (append_assoc labels (slice_index labels f ∷ [])
              more) ∙ is.numbered (slice_index labels f ∷ more)
              (number_old classes (slice_index labels f) more (is.below f before) h);
          below = λ j h. low before j (last_case j i h);
          each = λ j h. at before j (last_case j i h);
          apart = λ j k hj hk. differ j k (last_case j i hj) (last_case k i hk);
        }
      where
        earlier : (slice_index firsts i < i) ⊎ (slice_index firsts i ≡ i) → slice_index firsts i < i
        earlier (inl less) = less
        earlier (inr same) = absurd (other same)

        low : slice_index firsts i < i → (j : ℕ) → (j < i) ⊎ (j ≡ i)
            → slice_index (labels ++ slice_index labels (slice_index firsts i) ∷ []) j < classes
        low before j (inl less) = omega (
          arith,
          kept_at (slice_index labels (slice_index firsts i))
              j less,
          is.below j less,
        )
        low before j (inr same) =
            omega (
              arith,
              ap (slice_index (labels ++ slice_index labels (slice_index firsts i)
                  ∷ [])) same ∙ new_at (slice_index labels (slice_index firsts i)),
              is.below
                  (slice_index firsts i) before,
            )

        at : slice_index firsts i < i → (j : ℕ) → (j < i) ⊎ (j ≡ i)
            → slice_index (labels ++ slice_index labels (slice_index firsts i) ∷ [])
            (slice_index firsts j) ≡ slice_index (labels ++ slice_index labels
            (slice_index firsts i) ∷ []) j
        at before j (inl less) = at_kept (slice_index labels (slice_index firsts i)) j less
        at before j (inr same) =
            ap (λ m. slice_index (labels ++ slice_index labels (slice_index firsts i) ∷ [])
            (slice_index firsts m)) same
            ∙ kept_at (slice_index labels (slice_index firsts i)) (slice_index firsts i) before
            ∙ sym (ap (slice_index (labels ++ slice_index labels (slice_index firsts i) ∷ [])) same
            ∙ new_at (slice_index labels (slice_index firsts i)))

        differ : (j k : ℕ) → (j < i) ⊎ (j ≡ i) → (k < i) ⊎ (k ≡ i) → slice_index firsts j ≡ j
            → slice_index firsts k ≡ k
            → slice_index (labels ++ slice_index labels (slice_index firsts i) ∷ []) j ≡ slice_index
            (labels ++ slice_index labels (slice_index firsts i) ∷ []) k → j ≡ k
        differ j k (inl lj) (inl lk) oj ok e =
            is.apart j k lj lk oj ok (sym (kept_at (slice_index labels (slice_index firsts i)) j lj)
            ∙ e ∙ kept_at (slice_index labels (slice_index firsts i)) k lk)
        differ j k lj (inr sk) oj ok e = absurd (other (ap (slice_index firsts) (sym sk) ∙ ok ∙ sk))
        differ j k (inr sj) (inl lk) oj ok e = absurd (other (ap (slice_index firsts) (sym sj) ∙ oj
            ∙ sj))

  -- at the end
  module _ (labels : List ℕ) (classes : ℕ) (is : IsNumbering firsts (length firsts) labels classes)
    where
      -- the labels are numbered by first states
      pub all_numbered : is_numbered labels ≡ true
      all_numbered = sym (ap (numbers_from 0) (append-nil labels)) ∙ is.numbered [] refl

      first_is : (j : ℕ) → j < length firsts → first_state labels (slice_index labels j) ≡ slice_index
          firsts j
      first_is j h =
          let f : ℕ = slice_index firsts j in
          let w = are j h in
          position_or_len_is (λ l. l == slice_index labels j) labels f 0
          (omega (arith, w.0, h, is.count))
          (λ k low. ne_eqb (slice_index labels k) (slice_index labels j) (λ e.
          let inside_k : k < length firsts = omega (arith, low, w.0, h) in
          let v = are k inside_k in
          let g : ℕ = slice_index firsts k in
          let same : g ≡ f = is.apart g f (omega (arith, v.0, inside_k)) (omega (arith, w.0, h)) v.1
          w.1 (is.each k inside_k ∙ e ∙ sym (is.each j h)) in
          absurd (omega (arith, low, v.0, same))))
          (λ low. ap (λ n. n == slice_index labels j) (is.each j h)
          ∙ nat_eq_equiv.refl (slice_index labels j))

      -- the first states are the given ones
      pub all_same : first_states labels ≡ firsts
      all_same =
          let long : length (first_states labels) ≡ length labels = rw length-map refl in
          same_lists (first_states labels) firsts (long
          ∙ is.count) (λ j h. get_or-map (first_state labels) labels j 0 0
          (omega (arith, h, is.count)) ∙ first_is j h)
