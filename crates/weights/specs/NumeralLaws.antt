-- What is read of a word, by its grammar: `reading_of` is the reading of the one numeral that the
-- word spells, and the fault `NotANumber` where it spells none.
use Rattle.std.specs.Prelude.{◌≡◌, ◌↔◌, ◌⊎◌, ℕ, ◌^◌, ◌≤◌, nat_lt, nat_le, ◌==◌, ◌&&◌, Bool, true, false, if◌then◌else◌, ℤ, pos, unsigned_abs, List, [], ◌∷◌, ◌++◌, length, take, drop, Option, Some, None, Ok, Err, IsOk, IfOk}
use Rattle.std.specs.List.{list_all, prefix_len, take_while}
use Rattle.std.specs.Char.{is_ascii_digit}
use Rattle.std.proofs.Common.{sym, ◌∙◌, ap, subst, refl, inl, inr, arith}
use Rattle.std.proofs.lemmas.Bool.Decides.{nat_tests, eqb_tells}
use Rattle.std.proofs.lemmas.List.{append-nil, take-append-drop, take_at, drop_at, take_all, drop_all}
use Rattle.std.proofs.lemmas.Bool.{cases_lt, and_parts}
use Rattle.std.proofs.lemmas.Nat.Gcd.{dvd_refl}
use Rattle.std.proofs.Math.Nat.{one-dvd, one-le-pow, pow-le-pow_right}
use Rattle.std.specs.Int.{IsGcd}
use Rattle.weights.specs.Fractions.{IsLowest, lowest_terms}
use Rattle.weights.specs.FractionLaws.{lowest_terms-IsLowest, lowest_terms-smaller, lowest_terms_is, one_lowest, abs-neg}
use Rattle.weights.specs.Numerals.{minus, point, slash, Form, Whole, Over, Decimal, text_of_form, is_digits, number_of, is_form, signed_text, Spells, IsNumeral, without_end_zeros, places_of, numerator_of, denominator_of, signed, is_below_zero, is_within, IsWithinBounds, IsOverBound, Denotes, IsValueOf, numeral, fraction_of, form_by_rest, form_of, has_sign, reading_of}
use Rattle.weights.specs.declared.numeral.Numeral.{Numeral}
use Rattle.weights.specs.declared.fault.NumeralFault.TheVariants.{NotANumber, OverBound}

-- ---- tests

-- each byte of digits is a digit
pub in_digits : (ds : List ℕ) → is_digits ds ≡ true → list_all is_ascii_digit ds ≡ true
in_digits ds h = (and_parts (nat_lt 0 (length ds)) (list_all is_ascii_digit ds) h).1

-- no digit is a sign
digit_is_no_minus : (d : ℕ) → is_ascii_digit d ≡ true → (d == minus) ≡ false
digit_is_no_minus d h =
    let parts = and_parts (nat_le 48 d) (nat_le d 57) h in
    let low : nat_le 48 d ≡ true = parts.0 in
    grind (arith, nat_tests)

-- ---- a text and its form

-- the longest front of digits: all of a text of digits
digits_alone :
    (ds : List ℕ) → list_all is_ascii_digit ds ≡ true → prefix_len is_ascii_digit ds ≡ length ds
digits_alone [] h = refl
digits_alone (d ∷ ds) h =
    let parts = and_parts (is_ascii_digit d) (list_all is_ascii_digit ds) h in
    rw (parts.0, digits_alone ds parts.1) (omega arith)

-- and what stands before the first byte that is none
digits_then :
    (ds : List ℕ) (c : ℕ) (rest : List ℕ) →
    list_all is_ascii_digit ds ≡ true → is_ascii_digit c ≡ false →
    prefix_len is_ascii_digit (ds ++ c ∷ rest) ≡ length ds
digits_then [] c rest h stop = rw stop refl
digits_then (d ∷ ds) c rest h stop =
    let parts = and_parts (is_ascii_digit d) (list_all is_ascii_digit ds) h in
    rw (parts.0, digits_then ds c rest parts.1 stop) (omega arith)

-- the form of a text with digits in front of a byte that is none
form_by_front :
    (ds : List ℕ) (c : ℕ) (rest : List ℕ) →
    list_all is_ascii_digit ds ≡ true → is_ascii_digit c ≡ false →
    form_of (ds ++ c ∷ rest) ≡ form_by_rest ds (c ∷ rest)
form_by_front ds c rest h stop =
    let front = digits_then ds c rest h stop in
    ap (λ n. form_by_rest (take n (ds ++ c ∷ rest)) (drop n (ds ++ c ∷ rest))) front
    ∙ ap (λ xs. form_by_rest xs (drop (length ds) (ds ++ c ∷ rest)))
    (take_at ds (c ∷ rest) (length ds) refl)
    ∙ ap (λ xs. form_by_rest ds xs) (drop_at ds (c ∷ rest) (length ds) refl)

-- the text of a form has that form
pub form_of-text : (form : Form) → is_form form ≡ true → form_of (text_of_form form) ≡ Some form
form_of-text (Whole ds) h =
    let front = digits_alone ds (in_digits ds h) in
    ap (λ n. form_by_rest (take n ds) (drop n ds)) front
    ∙ ap (λ xs. form_by_rest xs (drop (length ds) ds)) (take_all (length ds) ds (omega arith))
    ∙ ap (λ xs. form_by_rest ds xs) (drop_all (length ds) ds (omega arith))
form_of-text (Over ns ds) h =
    form_by_front ns slash ds
    (in_digits ns (and_parts (is_digits ns) (is_digits ds && nat_lt 0 (number_of ds)) h).0) refl
form_of-text (Decimal ws fs) h =
    form_by_front ws point fs (in_digits ws (and_parts (is_digits ws) (is_digits fs) h).0) refl

-- a form that a front and a rest give has their text
rest_tells :
    (front rest : List ℕ) (form : Form) →
    form_by_rest front rest ≡ Some form → front ++ rest ≡ text_of_form form
rest_tells front [] form h =
    let is : Whole front ≡ form = cc in
    append-nil front ∙ ap text_of_form is
rest_tells front (c ∷ rest) form h =
    elim (eqb_tells c slash) [
      | inl a ↦
          let is : Over front rest ≡ form = let h' = rw a.0 at h in cc in
          ap (λ x. front ++ x ∷ rest) a.1 ∙ ap text_of_form is
      | inr a ↦ elim (eqb_tells c point) [
        | inl b ↦
            let is : Decimal front rest ≡ form = let h' = rw (a.0, b.0) at h in cc in
            ap (λ x. front ++ x ∷ rest) b.1 ∙ ap text_of_form is
        | inr b ↦ let h' = rw (a.0, b.0) at h in cc
      ]
    ]

-- a text is the text of its form
pub text_of-form_of :
    (text : List ℕ) (form : Form) → form_of text ≡ Some form → text ≡ text_of_form form
text_of-form_of text form h =
    sym (take-append-drop (prefix_len is_ascii_digit text) text)
    ∙ rest_tells
    (take_while is_ascii_digit text) (drop (prefix_len is_ascii_digit text) text) form h

-- ---- a word and its sign

-- a text with digits in front has no sign
first_of_digits : (ds rest : List ℕ) → is_digits ds ≡ true → has_sign (ds ++ rest) ≡ false
first_of_digits [] rest h = cc
first_of_digits (d ∷ ds) rest h =
    digit_is_no_minus d
    (and_parts (is_ascii_digit d) (list_all is_ascii_digit ds) (in_digits (d ∷ ds) h)).0

-- nor has the text of a form
first_of_text : (form : Form) → is_form form ≡ true → has_sign (text_of_form form) ≡ false
first_of_text (Whole ds) h =
    subst (λ xs. has_sign xs ≡ false) (append-nil ds) (first_of_digits ds [] h)
first_of_text (Over ns ds) h =
    first_of_digits ns (slash ∷ ds)
    (and_parts (is_digits ns) (is_digits ds && nat_lt 0 (number_of ds)) h).0
first_of_text (Decimal ws fs) h =
    first_of_digits ws (point ∷ fs) (and_parts (is_digits ws) (is_digits fs) h).0

-- the sign of a numeral, and the text behind it
pub record IsCut (word : List ℕ) (negative : Bool) (form : Form) : Type 0 where
  pub sign : has_sign word ≡ negative
  pub rest : form_of (if has_sign word then drop 1 word else word) ≡ Some form
  pub formed : is_form form ≡ true

-- a numeral is cut into its sign and the text of its form
pub cut_from_Spells :
    (word : List ℕ) (negative : Bool) (form : Form) →
    Spells word negative form → IsCut word negative form
cut_from_Spells word negative form s =
    let sign : has_sign (signed_text negative (text_of_form form)) ≡ negative =
    signs negative form s.formed in
    let found = rests negative form s.formed in
    record {
      sign = ap has_sign s.text ∙ sign;
      rest = ap (λ w. form_of (if has_sign w then drop 1 w else w)) s.text ∙ found;
      formed = s.formed;
    }
  where
    signs :
        (negative : Bool) (form : Form) → is_form form ≡ true →
        has_sign (signed_text negative (text_of_form form)) ≡ negative
    signs true form h = refl
    signs false form h = first_of_text form h

    rests :
        (negative : Bool) (form : Form) → is_form form ≡ true →
        form_of (if has_sign (signed_text negative (text_of_form form))
        then drop 1 (signed_text negative (text_of_form form))
        else signed_text negative (text_of_form form)) ≡ Some form
    rests true form h = form_of-text form h
    rests false form h = rw (first_of_text form h) (form_of-text form h)

-- a word with a form behind its sign spells a numeral
Spells_from_cut :
    (word : List ℕ) (form : Form) →
    form_of (if has_sign word then drop 1 word else word) ≡ Some form → is_form form ≡ true →
    Spells word (has_sign word) form
Spells_from_cut word form h formed =
    record { text = text word form (text_of-form_of _ form h); formed = formed }
  where
    text :
        (word : List ℕ) (form : Form) →
        (if has_sign word then drop 1 word else word) ≡ text_of_form form →
        word ≡ signed_text (has_sign word) (text_of_form form)
    text [] form h = h
    text (c ∷ cs) form h =
        elim (eqb_tells c minus) [
          | inl here ↦
              let rest : cs ≡ text_of_form form = rw here.0 at h in
              rw here.0 (ap (λ x. x ∷ cs) here.1 ∙ ap (λ xs. minus ∷ xs) rest)
          | inr other ↦
              let rest : c ∷ cs ≡ text_of_form form = rw other.0 at h in
              rw other.0 rest
        ]

-- ---- what is read

-- the reading of a numeral is that of its form
pub reading_of-Spells :
    (word : List ℕ) (negative : Bool) (form : Form) → Spells word negative form →
    reading_of word
    ≡ (if is_within form
    then Ok (fraction_of negative form)
    else Err (OverBound (is_below_zero negative form)))
unfolding reading_of
reading_of-Spells word negative form s =
    let cut = cut_from_Spells word negative form s in
    rw (cut.rest, cut.formed, cut.sign) refl

-- the answer for a text whose form was found, or was not
numeral_or_none :
    (word : List ℕ) (form : Form) (formed : Bool) →
    form_of (if has_sign word then drop 1 word else word) ≡ Some form → is_form form ≡ formed →
    (IsNumeral word) ⊎ ((¬ IsNumeral word) × (reading_of word ≡ Err NotANumber))
unfolding reading_of
numeral_or_none word form true e is = inl (has_sign word, form, Spells_from_cut word form e is)
numeral_or_none word form false e is =
    inr (
      λ n.
          let cut = cut_from_Spells word n.0 n.1 n.2 in
          let same : form ≡ n.1 = let two = sym e ∙ cut.rest in cc in
          let never : true ≡ false = sym cut.formed ∙ ap is_form (sym same) ∙ is in
          cc,
      rw (e, is) refl,
    )

-- a word is a numeral, or `NotANumber` is read of it
pub reading_cases :
    (word : List ℕ) → (IsNumeral word) ⊎ ((¬ IsNumeral word) × (reading_of word ≡ Err NotANumber))
unfolding reading_of
reading_cases word = by_form word (form_of (if has_sign word then drop 1 word else word)) refl
  where
    by_form :
        (word : List ℕ) (found : Option Form) →
        form_of (if has_sign word then drop 1 word else word) ≡ found →
        (IsNumeral word) ⊎ ((¬ IsNumeral word) × (reading_of word ≡ Err NotANumber))
    by_form word None e =
        inr (
          λ n. let cut = cut_from_Spells word n.0 n.1 n.2 in let two = sym e ∙ cut.rest in cc,
          rw e refl,
        )
    by_form word (Some form) e = numeral_or_none word form (is_form form) e refl

-- a word spells one numeral
pub one_spelling :
    (word : List ℕ) (a b : Bool) (f g : Form) →
    Spells word a f → Spells word b g → (a ≡ b) × (f ≡ g)
one_spelling word a b f g one two =
    let cut = cut_from_Spells word a f one in
    let cut' = cut_from_Spells word b g two in
    let forms = sym cut.rest ∙ cut'.rest in
    (sym cut.sign ∙ cut'.sign, cc)

-- the denominator of a numeral is at least 1
pub denominator-positive : (form : Form) → is_form form ≡ true → 1 ≤ denominator_of form
denominator-positive (Whole ds) h = omega arith
denominator-positive (Over ns ds) h =
    let parts = and_parts (is_digits ns) (is_digits ds && nat_lt 0 (number_of ds)) h in
    let some : nat_lt 0 (number_of ds) ≡ true =
    (and_parts (is_digits ds) (nat_lt 0 (number_of ds)) parts.1).1 in
    grind (arith, nat_tests)
denominator-positive (Decimal ws fs) h = one-le-pow (length (without_end_zeros fs)) 10 (omega arith)

-- a word has one value
pub one_value :
    (word : List ℕ) (p r : ℤ) (q s : ℕ) → Denotes word p q → Denotes word r s → (p ≡ r) × (q ≡ s)
one_value word p r q s one two =
    let same =
    one_spelling word one.negative two.negative one.form two.form one.spelled two.spelled in
    let n : ℤ = signed one.negative (numerator_of one.form) in
    let value : IsLowest n (denominator_of one.form) r s =
    subst (λ f. IsLowest (signed one.negative (numerator_of f)) (denominator_of f) r s) (sym same.1)
    (subst (λ b. IsLowest (signed b (numerator_of two.form)) (denominator_of two.form) r s)
    (sym same.0) two.value) in
    one_lowest n (denominator_of one.form) p r q s
    (denominator-positive one.form one.spelled.formed) one.value value

-- a sign leaves the absolute value
pub abs-signed : (negative : Bool) (n : ℕ) → unsigned_abs (signed negative n) ≡ n
abs-signed true n = abs-neg n
abs-signed false n = refl

-- ---- the clauses of `read_numeral`

-- the fraction of a form within the bounds
pub fraction_of-value :
    (word : List ℕ) (negative : Bool) (form : Form) → Spells word negative form →
    Denotes word (fraction_of negative form).p (fraction_of negative form).q
fraction_of-value word negative form s =
    record {
      negative = negative;
      form = form;
      spelled = s;
      value =
          lowest_terms-IsLowest (signed negative (numerator_of form)) (denominator_of form)
          (denominator-positive form s.formed);
    }

-- what the test of the bound says
within_tells : (n : ℕ) → nat_le n (2 ^ 40) ≡ true → n ≤ 2 ^ 40
within_tells n h = grind (arith, nat_tests)

-- the fraction of a form within the bounds is within them too
fraction_of-small :
    (negative : Bool) (form : Form) → is_within form ≡ true →
    (unsigned_abs (fraction_of negative form).p ≤ 2 ^ 40) × ((fraction_of negative form).q ≤ 2 ^ 40)
fraction_of-small negative form h =
    let n : ℕ = numerator_of form in
    let d : ℕ = denominator_of form in
    let smaller = lowest_terms-smaller (signed negative n) d in
    let size : unsigned_abs (signed negative n) ≡ n = abs-signed negative n in
    let tests =
    (and_parts (nat_le (places_of form) 12) (nat_le n (2 ^ 40) && nat_le d (2 ^ 40)) h).1 in
    let two = and_parts (nat_le n (2 ^ 40)) (nat_le d (2 ^ 40)) tests in
    let above : n ≤ 2 ^ 40 = within_tells n two.0 in
    let below : d ≤ 2 ^ 40 = within_tells d two.1 in
    (omega (arith, smaller.0, size), omega (arith, smaller.1))

-- the reading of a numeral within the bounds, and of one over a bound
reading_within :
    (word : List ℕ) (negative : Bool) (form : Form) → Spells word negative form →
    is_within form ≡ true → reading_of word ≡ Ok (fraction_of negative form)
reading_within word negative form s h = rw (reading_of-Spells word negative form s, h) refl

-- the reading of a numeral over a bound
reading_over :
    (word : List ℕ) (negative : Bool) (form : Form) → Spells word negative form →
    is_within form ≡ false → reading_of word ≡ Err (OverBound (is_below_zero negative form))
reading_over word negative form s h = rw (reading_of-Spells word negative form s, h) refl

-- a word is a numeral within the bounds, one over a bound, or none
pub three_cases :
    (word : List ℕ) →
    (IsWithinBounds word)
    ⊎ (((below_zero : Bool) × IsOverBound word below_zero)
    ⊎ ((¬ IsNumeral word) × (reading_of word ≡ Err NotANumber)))
three_cases word =
    elim (reading_cases word) [
      | inl n ↦ by_test word n.0 n.1 n.2 (is_within n.1) refl
      | inr none ↦ inr (inr none)
    ]
  where
    by_test :
        (word : List ℕ) (negative : Bool) (form : Form) → Spells word negative form →
        (b : Bool) → is_within form ≡ b →
        (IsWithinBounds word)
        ⊎ (((below_zero : Bool) × IsOverBound word below_zero)
        ⊎ ((¬ IsNumeral word) × (reading_of word ≡ Err NotANumber)))
    by_test word negative form s true h = inl (negative, form, s, h)
    by_test word negative form s false h =
        inr (inl (is_below_zero negative form, (negative, form, s, h, refl)))

-- a fraction that is read is the value of the word
pub reading_value : (word : List ℕ) → IfOk (reading_of word) (λ n. IsValueOf word n.p n.q)
reading_value word =
    elim (three_cases word) [
      | inl w ↦
          let small = fraction_of-small w.0 w.1 w.3 in
          let value = fraction_of-value word w.0 w.1 w.2 in
          rw (reading_within word w.0 w.1 w.2 w.3)
          (record { denoted = value; above = small.0; below = small.1 })
      | inr other ↦ elim other [
        | inl o ↦ rw (reading_over word o.1.0 o.1.1 o.1.2 o.1.3) tt
        | inr none ↦ rw none.1 tt
      ]
    ]

-- a fraction is read exactly where the word is a numeral within the bounds
pub reading_is_ok : (word : List ℕ) → IsOk (reading_of word) ↔ IsWithinBounds word
reading_is_ok word = (to word, λ w. rw (reading_within word w.0 w.1 w.2 w.3) refl)
  where
    to : (word : List ℕ) → IsOk (reading_of word) → IsWithinBounds word
    to word ok =
        elim (three_cases word) [
          | inl w ↦ w
          | inr other ↦ elim other [
            | inl o ↦ let never = rw (reading_over word o.1.0 o.1.1 o.1.2 o.1.3) at ok in cc
            | inr none ↦ let never = rw none.1 at ok in cc
          ]
        ]

-- `NotANumber` is read exactly where the word is no numeral
pub reading_is_none : (word : List ℕ) → (reading_of word ≡ Err NotANumber) ↔ (¬ IsNumeral word)
reading_is_none word = (to word, from word)
  where
    never :
        (b : Bool) (x : Numeral) (y : Bool) →
        (if b then Ok x else Err (OverBound y)) ≡ Err NotANumber → ⊥
    never true x y e = cc
    never false x y e = cc

    to : (word : List ℕ) → reading_of word ≡ Err NotANumber → ¬ IsNumeral word
    to word e n =
        never (is_within n.1) (fraction_of n.0 n.1) (is_below_zero n.0 n.1)
        (sym (reading_of-Spells word n.0 n.1 n.2) ∙ e)

    from : (word : List ℕ) → ¬ IsNumeral word → reading_of word ≡ Err NotANumber
    from word none = elim (reading_cases word) [ inl n ↦ absurd (none n) | inr h ↦ h.1 ]

-- `OverBound` is read exactly where the word is a numeral over a bound
pub reading_is_over :
    (word : List ℕ) (below_zero : Bool) →
    (reading_of word ≡ Err (OverBound below_zero)) ↔ IsOverBound word below_zero
reading_is_over word below_zero = (to word below_zero, from word below_zero)
  where
    to :
        (word : List ℕ) (below_zero : Bool) →
        reading_of word ≡ Err (OverBound below_zero) → IsOverBound word below_zero
    to word below_zero e =
        elim (three_cases word) [
          | inl w ↦ let never = sym (reading_within word w.0 w.1 w.2 w.3) ∙ e in cc
          | inr other ↦ elim other [
            | inl o ↦
                let same : OverBound (is_below_zero o.1.0 o.1.1) ≡ OverBound below_zero =
                let two = sym (reading_over word o.1.0 o.1.1 o.1.2 o.1.3) ∙ e in cc in
                (o.1.0, o.1.1, o.1.2, o.1.3, cc)
            | inr none ↦ let never = sym none.1 ∙ e in cc
          ]
        ]

    from :
        (word : List ℕ) (below_zero : Bool) →
        IsOverBound word below_zero → reading_of word ≡ Err (OverBound below_zero)
    from word below_zero o =
        reading_over word o.0 o.1 o.2 o.3 ∙ ap (λ b. Err (OverBound b)) (sym o.4)

-- ---- numerals whose fraction is known

-- 13 places are over the bound of a denominator
pub few_places : (k : ℕ) → 10 ^ k ≤ 2 ^ 40 → k ≤ 12
few_places k h =
    elim (cases_lt 12 k) [
      | inl many ↦
          let more : 10 ^ 13 ≤ 10 ^ k = pow-le-pow_right (omega arith) many in
          absurd (omega arith)
      | inr few ↦ few
    ]

-- a denominator within its bound leaves at most 12 places
places-few : (form : Form) → denominator_of form ≤ 2 ^ 40 → places_of form ≤ 12
places-few (Whole ds) h = omega arith
places-few (Over ns ds) h = omega arith
places-few (Decimal ws fs) h = few_places (length (without_end_zeros fs)) h

-- the bound on the places follows from that on the denominator
pub within_by :
    (form : Form) → numerator_of form ≤ 2 ^ 40 → denominator_of form ≤ 2 ^ 40 →
    is_within form ≡ true
within_by form above below =
    let few : places_of form ≤ 12 = places-few form below in
    let places : nat_le (places_of form) 12 ≡ true = grind (arith, nat_tests) in
    let left : nat_le (numerator_of form) (2 ^ 40) ≡ true = grind (arith, nat_tests) in
    let right : nat_le (denominator_of form) (2 ^ 40) ≡ true = grind (arith, nat_tests) in
    rw (places, left, right) refl

-- a numeral that spells a fraction in lowest terms, within the bounds, is read as that fraction
pub reading_of-lowest :
    (word : List ℕ) (negative : Bool) (form : Form) → Spells word negative form →
    unsigned_abs (signed negative (numerator_of form)) ≤ 2 ^ 40 → denominator_of form ≤ 2 ^ 40 →
    IsGcd (unsigned_abs (signed negative (numerator_of form))) (denominator_of form) 1 →
    reading_of word ≡ Ok (numeral (signed negative (numerator_of form)) (denominator_of form))
reading_of-lowest word negative form s above below apart =
    let n : ℤ = signed negative (numerator_of form) in
    let d : ℕ = denominator_of form in
    let size : unsigned_abs n ≡ numerator_of form = abs-signed negative (numerator_of form) in
    let some : 1 ≤ d = denominator-positive form s.formed in
    let lowest : IsLowest n d n d = record { same = refl; coprime = apart; positive = some } in
    let is = lowest_terms_is n d n d some lowest in
    reading_within word negative form s (within_by form (omega (arith, size)) below)
    ∙ ap (λ p. Ok (numeral p (lowest_terms n d).q)) is.0
    ∙ ap (λ q. Ok (numeral n q)) is.1

-- a word of digits alone is read as its number
pub reading_of-digits :
    (ds : List ℕ) → is_digits ds ≡ true → number_of ds ≤ 2 ^ 40 →
    reading_of ds ≡ Ok (numeral (pos (number_of ds)) 1)
reading_of-digits ds h small =
    reading_of-lowest ds false (Whole ds) (record { text = refl; formed = h }) small (omega arith)
    (one-dvd (number_of ds), dvd_refl 1, λ d a b. b)
