-- Decimal texts are read as their numbers, and are free of the bytes that divide lines and parts.
use Rattle.std.proofs.Common.{◌≡◌, ℕ, suc, ◌^◌, ◌<◌, ◌≤◌, Bool, true, false, not, ◌&&◌, List, [], ◌∷◌, ◌++◌, length, append-nil, inl, inr, Some, None, refl, ap, sym, ◌∙◌, arith, rules}
use Rattle.std.specs.Prelude.{◌==◌, nat_le, if◌then◌else◌, ℤ, pos, negsuc, unsigned_abs, option_and_then}
use Rattle.std.specs.List.{list_all, slice_split}
use Rattle.std.specs.Char.{is_ascii_digit}
use Rattle.std.specs.Fmt.{decimal, signed_decimal}
use Rattle.std.specs.Int.{IsGcd}
use Rattle.std.specs.Cmp.Lexicographic.{lists_equiv}
use Rattle.std.proofs.lemmas.Bool.{and_parts, and_from, lt-ltb}
use Rattle.std.proofs.lemmas.Bool.Decides.{nat_tests, eqb_tells}
use Rattle.std.proofs.lemmas.Cmp.{nat_eq_equiv}
use Rattle.std.proofs.lemmas.Fmt.{decimal_is_IsNumeral_wide}
use Rattle.std.proofs.lemmas.Str.Parse.{IsNumeralModel, numerals_by_fold}
use Rattle.std.proofs.lemmas.List.Splits.{slice_split-cons_yes, slice_split-cons_no}
use Rattle.weights.specs.declared.ratio.Ratio.{Ratio}
use Rattle.weights.specs.Fractions.{gcd_of}
use Rattle.weights.specs.FractionLaws.{gcd_of_is}
use Rattle.weights.specs.FractionText.{text_of_fraction}
use Rattle.weights.specs.Numerals.{minus, slash, number_after, number_of}
use Rattle.formulas.specs.Ranges.{IsWritableFraction}
use Rattle.formula_text.specs.Numbers.{is_same, number_below, number_if, numerator_bound, label_bound, fraction, lowest_over, fraction_of_pieces, fraction_behind, fraction_in}
use Rattle.weights.specs.FractionTextLaws.{number_of-decimal}

-- digits and their number as std has them
own : IsNumeralModel (λ ds. list_all is_ascii_digit ds ≡ true) number_of
own =
    numerals_by_fold (λ ds. list_all is_ascii_digit ds ≡ true) (search rules)
    number_after (search rules)

-- a part is the same as itself
pub same_itself : (part : List ℕ) → is_same part part ≡ true
same_itself part = (lists_equiv nat_eq_equiv).refl part

-- the text of a number has digits alone
pub decimal_digits : (n : ℕ) → n < 10 ^ 64 → list_all is_ascii_digit (decimal n) ≡ true
decimal_digits n small = own.from (decimal n) (decimal_is_IsNumeral_wide n small).0.1

-- and one or more
pub decimal_some : (n : ℕ) → n < 10 ^ 64 → 0 < length (decimal n)
decimal_some n small = (decimal_is_IsNumeral_wide n small).0.0

-- a decimal text is read as its number
pub number_below-decimal :
    (bound n : ℕ) → n < bound → n < 10 ^ 64 → number_below bound (decimal n) ≡ Some n
number_below-decimal bound n below small =
    ap (number_if bound (decimal n)) (number_of-decimal n small)
    ∙ (λ i. if same_itself (decimal n) i && lt-ltb n bound below i then Some n else None)

-- ---- pieces

module _ (p : ℕ → Bool) where
  -- what has none of the dividing bytes is one piece
  pub one_piece : (xs : List ℕ) → list_all (λ x. not (p x)) xs ≡ true → slice_split p xs ≡ xs ∷ []
  one_piece [] h = refl
  one_piece (x ∷ xs) h =
      let both = and_parts (not (p x)) (list_all (λ x. not (p x)) xs) h in
      slice_split-cons_no p x xs (by (p x) both.0)
      ∙ rw (one_piece xs both.1) refl
    where
      by : (b : Bool) → not b ≡ true → b ≡ false
      by true e = cc
      by false e = refl

  -- the piece before a dividing byte, and the others
  pub first_piece :
      (xs : List ℕ) (y : ℕ) (ys : List ℕ) → list_all (λ x. not (p x)) xs ≡ true → p y ≡ true →
      slice_split p (xs ++ y ∷ ys) ≡ xs ∷ slice_split p ys
  first_piece [] y ys h e = slice_split-cons_yes p y ys e
  first_piece (x ∷ xs) y ys h e =
      let both = and_parts (not (p x)) (list_all (λ x. not (p x)) xs) h in
      slice_split-cons_no p x (xs ++ y ∷ ys) (by (p x) both.0)
      ∙ rw (first_piece xs y ys both.1 e) refl
    where
      by : (b : Bool) → not b ≡ true → b ≡ false
      by true e = cc
      by false e = refl

-- a test that passes wherever another does
pub list_all-weaker :
    (p q : ℕ → Bool) → ((x : ℕ) → p x ≡ true → q x ≡ true) → (xs : List ℕ) →
    list_all p xs ≡ true → list_all q xs ≡ true
list_all-weaker p q h [] all = refl
list_all-weaker p q h (x ∷ xs) all =
    let both = and_parts (p x) (list_all p xs) all in
    and_from (q x) (list_all q xs) (h x both.0) (list_all-weaker p q h xs both.1)

-- digits are no slash
no_slash : (x : ℕ) → is_ascii_digit x ≡ true → not (x == slash) ≡ true
no_slash x e = grind (arith, nat_tests)

-- a digit is no minus
no_minus : (x : ℕ) → is_ascii_digit x ≡ true → (x == minus) ≡ false
no_minus x e = grind (arith, nat_tests)

-- ---- fractions

-- the fraction behind its sign
pub behind-whole :
    (negative : Bool) (n : ℕ) → n ≤ 2 ^ 106 →
    fraction_behind negative (decimal n) ≡ fraction negative n 1
behind-whole negative n small =
    let low : n < 10 ^ 64 = omega arith in
    let bound : n < numerator_bound = omega arith in
    ap (fraction_of_pieces negative)
    (one_piece (λ b. b == slash) (decimal n)
    (list_all-weaker is_ascii_digit (λ x. not (x == slash)) no_slash (decimal n)
    (decimal_digits n low)))
    ∙ ap (option_and_then (λ a. fraction negative a 1))
    (number_below-decimal numerator_bound n bound low)

pub behind-over :
    (negative : Bool) (n d : ℕ) → n ≤ 2 ^ 106 → d ≤ 2 ^ 40 → 2 ≤ d → IsGcd n d 1 →
    fraction_behind negative (decimal n ++ slash ∷ decimal d) ≡ fraction negative n d
behind-over negative n d small few two apart =
    let low : n < 10 ^ 64 = omega arith in
    let bound : n < numerator_bound = omega arith in
    let under : d < 10 ^ 64 = omega arith in
    let within : d < label_bound = omega arith in
    let digits = list_all-weaker is_ascii_digit (λ x. not (x == slash)) no_slash in
    let pieces : slice_split (λ b. b == slash) (decimal n ++ slash ∷ decimal d)
    ≡ decimal n ∷ decimal d ∷ [] =
    first_piece (λ b. b == slash) (decimal n) slash (decimal d)
    (digits (decimal n) (decimal_digits n low)) refl
    ∙ ap (λ ps. decimal n ∷ ps)
    (one_piece (λ b. b == slash) (decimal d) (digits (decimal d) (decimal_digits d under))) in
    let is_two : nat_le 2 d ≡ true = grind (arith, nat_tests) in
    let lone : (gcd_of n d == 1) ≡ true = ap (λ g. g == 1) (sym (gcd_of_is n d 1 apart)) in
    ap (fraction_of_pieces negative) pieces
    ∙ ap (option_and_then
    (λ a. option_and_then (lowest_over negative a) (number_below label_bound (decimal d))))
    (number_below-decimal numerator_bound n bound low)
    ∙ ap (option_and_then (lowest_over negative n))
    (number_below-decimal label_bound d within under)
    ∙ (λ i. if is_two i && lone i then fraction negative n d else None)

-- what begins with a digit has no sign
pub unsigned_in :
    (n : ℕ) (rest : List ℕ) → n < 10 ^ 64 →
    fraction_in (decimal n ++ rest) ≡ fraction_behind false (decimal n ++ rest)
unsigned_in n rest small = by (decimal n) (decimal_some n small) (decimal_digits n small)
  where
    by :
        (ds : List ℕ) → 0 < length ds → list_all is_ascii_digit ds ≡ true →
        fraction_in (ds ++ rest) ≡ fraction_behind false (ds ++ rest)
    by [] some all = absurd (omega arith)
    by (d ∷ ds) some all =
        let both = and_parts (is_ascii_digit d) (list_all is_ascii_digit ds) all in
        ap (λ b. if b then fraction_behind true (ds ++ rest)
        else fraction_behind false (d ∷ (ds ++ rest))) (no_minus d both.0)

-- a fraction below zero
below_zero : (n q : ℕ) → fraction true (suc n) q ≡ Some (record { p = negsuc n; q = q })
below_zero n q =
    let some : (suc n == 0) ≡ false = grind (arith, nat_tests) in
    ap (λ b. if b then None else Some (record { p = negsuc n; q = q })) some

-- a whole number is read as it is written
whole_in :
    (p : ℤ) → unsigned_abs p ≤ 2 ^ 106 →
    fraction_in (signed_decimal p) ≡ Some (record { p = p; q = 1 })
whole_in (pos n) small =
    ap fraction_in (sym (append-nil (decimal n)))
    ∙ unsigned_in n [] (omega arith)
    ∙ ap (fraction_behind false) (append-nil (decimal n))
    ∙ behind-whole false n small
whole_in (negsuc n) small = behind-whole true (suc n) small ∙ below_zero n 1

over_in :
    (p : ℤ) (q : ℕ) → unsigned_abs p ≤ 2 ^ 106 → q ≤ 2 ^ 40 → 2 ≤ q →
    IsGcd (unsigned_abs p) q 1 →
    fraction_in (signed_decimal p ++ slash ∷ decimal q) ≡ Some (record { p = p; q = q })
over_in (pos n) q small few two apart =
    unsigned_in n (slash ∷ decimal q) (omega arith)
    ∙ behind-over false n q small few two apart
over_in (negsuc n) q small few two apart =
    behind-over true (suc n) q small few two apart ∙ below_zero n q

-- a fraction within the ranges is read as it is written
pub fraction_in-text :
    (r : Ratio) → IsWritableFraction r → fraction_in (text_of_fraction r.p r.q) ≡ Some r
fraction_in-text r h =
    elim (eqb_tells r.q 1) [
      | inl whole ↦
          (λ i. fraction_in (if whole.0 i then signed_decimal r.p
          else signed_decimal r.p ++ slash ∷ decimal r.q))
          ∙ whole_in r.p h.numerator
          ∙ (λ i. Some (record { p = r.p; q = sym whole.1 i }))
      | inr over ↦
          let two : 2 ≤ r.q = let a = h.positive in let b = over.1 in omega arith in
          (λ i. fraction_in (if over.0 i then signed_decimal r.p
          else signed_decimal r.p ++ slash ∷ decimal r.q))
          ∙ over_in r.p r.q h.numerator h.denominator two h.lowest
    ]
