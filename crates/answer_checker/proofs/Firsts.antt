-- The first states with numbers, and the table in which they are noted.
use Rattle.std.proofs.Common.{◌≡◌, ℕ, zero, suc, ◌+◌, ◌<◌, ◌≤◌, ◌==◌, Bool, true, false, List, [], ◌∷◌, ◌++◌, length, get_or, set, Some, None, refl, sym, ap, ◌∙◌, subst, arith, inl, inr}
use Rattle.std.specs.Prelude.{Option, slice_index, if◌then◌else◌, unwrap_or}
use Rattle.std.proofs.lemmas.Bool.{eqb-true, eq-eqb, cases_eq}
use Rattle.std.proofs.lemmas.List.{length-append, length-set, get_or-set_same, get_or-set_other, get_or_append_left, get_or_at}
use Rattle.answer_checker.specs.Rules.{first_with, first_beside}
use Rattle.answer_checker.specs.Steps.{AreFirstsOf}

-- no state with a number comes before the first
pub first_with-least :
    (numbers : List ℕ) (i c : ℕ) → i < length numbers → slice_index numbers i ≡ c →
    first_with numbers c ≤ i
first_with-least [] i c h e = absurd (omega arith)
first_with-least (x ∷ numbers) zero c h e =
    subst (λ (o : Bool). (if o then 0 else suc (first_with numbers c)) ≤ 0) (sym (eq-eqb x c e))
    (omega arith)
first_with-least (x ∷ numbers) (suc i) c h e =
    by (x == c) (first_with-least numbers i c (omega arith) e)
  where
    by : (o : Bool) → first_with numbers c ≤ i →
        (if o then 0 else suc (first_with numbers c)) ≤ suc i
    by true later = omega arith
    by false later = omega arith

-- the first state with a number has it, if there is one
pub first_with-has :
    (numbers : List ℕ) (c : ℕ) → first_with numbers c < length numbers →
    slice_index numbers (first_with numbers c) ≡ c
first_with-has [] c h = absurd (omega arith)
first_with-has (x ∷ numbers) c h = by (x == c) refl h (first_with-has numbers c)
  where
    by : (o : Bool) → (x == c) ≡ o →
        (if o then 0 else suc (first_with numbers c)) < suc (length numbers) →
        (first_with numbers c < length numbers → slice_index numbers (first_with numbers c) ≡ c) →
        slice_index (x ∷ numbers) (if o then 0 else suc (first_with numbers c)) ≡ c
    by true is h later = eqb-true x c is
    by false is h later = later (omega arith)

-- the first state with number k, as far as the states before y tell
abbrev pub IsSeen : List ℕ → ℕ → ℕ → Option ℕ → Type 0
IsSeen numbers y k None = y ≤ first_with numbers k
IsSeen numbers y k (Some x) = (x < y) × (first_with numbers k ≡ x)

-- the firsts of the states before y, and the table of the first states with numbers
pub record IsNoting (numbers : List ℕ) (y : ℕ) (seen : List (Option ℕ)) (firsts : List ℕ) : Type 0
  where
    pub known : (k : ℕ) → k < length seen → IsSeen numbers y k (get_or seen k None)
    pub count : length firsts ≡ y
    pub first : (i : ℕ) → i < y → get_or firsts i 0 ≡ first_beside numbers i
    pub no_later : (i : ℕ) → i < y → get_or firsts i 0 ≤ i

-- nothing is noted at first
pub noting-none :
    (numbers : List ℕ) (seen : List (Option ℕ)) (firsts : List ℕ) → firsts ≡ [] →
    ((k : ℕ) → k < length seen → get_or seen k None ≡ None) → IsNoting numbers 0 seen firsts
noting-none numbers seen firsts none all =
    record {
      known = λ k h. subst (IsSeen numbers 0 k) (sym (all k h)) (omega arith);
      count = ap length none;
      first = λ i h. absurd (omega arith);
      no_later = λ i h. absurd (omega arith);
    }

-- the first state with the number of state y
noted :
    (numbers : List ℕ) (y k : ℕ) (o : Option ℕ) → y < length numbers → slice_index numbers y ≡ k →
    IsSeen numbers y k o → (first_with numbers k ≡ unwrap_or o y) × (unwrap_or o y ≤ y)
noted numbers y k None h e seen =
    let least = first_with-least numbers y k h e in (omega arith, omega arith)
noted numbers y k (Some x) h e seen = (seen.1, omega (arith, seen.0))

-- what is known of another number stays known
still :
    (numbers : List ℕ) (y k j : ℕ) (o : Option ℕ) → y < length numbers → slice_index numbers y ≡ k →
    (j ≡ k → ⊥) → IsSeen numbers y j o → IsSeen numbers (y + 1) j o
still numbers y k j None h e other seen =
    let not_here : first_with numbers j ≡ y → ⊥ =
    λ here. other (sym (first_with-has numbers j (subst (λ x. x < length numbers) (sym here) h))
    ∙ ap (slice_index numbers) here ∙ e) in
    elim (cases_eq (first_with numbers j) y) [
      | inl here ↦ absurd (not_here here)
      | inr later ↦ omega (arith, later)
    ]
still numbers y k j (Some x) h e other seen = (omega (arith, seen.0), seen.1)

-- one state more
pub noting-more :
    (numbers : List ℕ) (y k f : ℕ) (seen : List (Option ℕ)) (firsts : List ℕ) →
    y < length numbers → slice_index numbers y ≡ k → k < length seen →
    f ≡ unwrap_or (get_or seen k None) y → IsNoting numbers y seen firsts →
    IsNoting numbers (y + 1) (set seen k (Some f)) (firsts ++ f ∷ [])
noting-more numbers y k f seen firsts h e inside is so_far =
    let here = noted numbers y k (get_or seen k None) h e (so_far.known k inside) in
    let mine : first_with numbers k ≡ f = here.0 ∙ sym is in
    let low : f ≤ y = subst (λ x. x ≤ y) (sym is) here.1 in
    let at_y : get_or (firsts ++ f ∷ []) y 0 ≡ f = get_or_at firsts f [] 0 y so_far.count in
    let before : (i : ℕ) → i < y → get_or (firsts ++ f ∷ []) i 0 ≡ get_or firsts i 0 =
    λ i l. get_or_append_left firsts (f ∷ []) 0 i (omega (arith, so_far.count)) in
    record {
      known = λ j l. (elim (cases_eq j k) [
        | inl same ↦
            subst (IsSeen numbers (y + 1) j)
            (sym (ap (λ i. get_or (set seen k (Some f)) i None) same
            ∙ get_or-set_same seen k (Some f) None inside))
            (omega arith, ap (first_with numbers) same ∙ mine)
        | inr other ↦
            subst (IsSeen numbers (y + 1) j)
            (sym (get_or-set_other seen k j (Some f) None other))
            (still numbers y k j (get_or seen j None) h e other
            (so_far.known j (omega (arith, length-set seen k (Some f)))))
      ]);
      count = length-append firsts (f ∷ []) ∙ omega (arith, so_far.count);
      first = λ i l. (elim (cases_eq i y) [
        | inl same ↦
            ap (λ j. get_or (firsts ++ f ∷ []) j 0) same ∙ at_y ∙ sym mine
            ∙ ap (first_with numbers) (sym e ∙ ap (slice_index numbers) (sym same))
        | inr other ↦
            let below : i < y = omega (arith, other) in before i below ∙ so_far.first i below
      ]);
      no_later = λ i l. (elim (cases_eq i y) [
        | inl same ↦
            subst (λ x. x ≤ i)
            (sym (ap (λ j. get_or (firsts ++ f ∷ []) j 0) same ∙ at_y))
            (subst (λ x. f ≤ x) (sym same) low)
        | inr other ↦
            let below : i < y = omega (arith, other) in
            subst (λ x. x ≤ i) (sym (before i below)) (so_far.no_later i below)
      ]);
    }

-- all states are noted
pub noting-all :
    (numbers : List ℕ) (y : ℕ) (seen : List (Option ℕ)) (firsts : List ℕ) → y ≡ length numbers →
    IsNoting numbers y seen firsts → AreFirstsOf numbers firsts
noting-all numbers y seen firsts past so_far =
    record {
      count = so_far.count ∙ past;
      first = λ i h. so_far.first i (omega (arith, past));
      no_later = λ i h. so_far.no_later i (omega (arith, past));
    }
