-- The text of a fraction is a numeral that spells its numerator and its denominator.
use Rattle.std.specs.Prelude.{◌≡◌, ℕ, suc, ◌^◌, ◌<◌, ◌≤◌, nat_lt, Bool, true, false, ℤ, pos, negsuc, unsigned_abs, List, ◌∷◌, ◌++◌, length, Ok}
use Rattle.std.specs.Int.{IsGcd}
use Rattle.std.specs.List.{list_all}
use Rattle.std.specs.Char.{is_ascii_digit}
use Rattle.std.specs.Fmt.{decimal, signed_decimal}
use Rattle.std.proofs.Common.{sym, ◌∙◌, ap, subst, refl, inl, inr, arith, rules}
use Rattle.std.proofs.lemmas.Bool.Decides.{nat_tests, eqb_tells}
use Rattle.std.proofs.lemmas.Fmt.{decimal_is_IsNumeral_wide}
use Rattle.std.proofs.lemmas.Str.Parse.{IsNumeralModel, numerals_by_fold}
use Rattle.weights.specs.Numerals.{slash, Whole, Over, is_digits, number_after, number_of, signed_text, signed, numerator_of, denominator_of, numeral, reading_of}
use Rattle.weights.specs.NumeralLaws.{reading_of-lowest}
use Rattle.weights.specs.FractionText.{text_of_fraction, SpellsFraction, IsReadable, ReadsBack}

-- digits and their number as std has them
own : IsNumeralModel (λ ds. list_all is_ascii_digit ds ≡ true) number_of
own =
    numerals_by_fold (λ ds. list_all is_ascii_digit ds ≡ true) (search rules)
    number_after (search rules)

-- a decimal text is digits
pub decimal_is_digits : (n : ℕ) → n < 10 ^ 64 → is_digits (decimal n) ≡ true
decimal_is_digits n small =
    let is = (decimal_is_IsNumeral_wide n small).0 in
    let some : nat_lt 0 (length (decimal n)) ≡ true =
    let h : 0 < length (decimal n) = omega (arith, is.0) in grind (arith, nat_tests) in
    let each : list_all is_ascii_digit (decimal n) ≡ true = own.from (decimal n) is.1 in
    rw (some, each) refl

-- and they spell the number
pub number_of-decimal : (n : ℕ) → n < 10 ^ 64 → number_of (decimal n) ≡ n
number_of-decimal n small =
    let is = decimal_is_IsNumeral_wide n small in
    own.same (decimal n) is.0.1 ∙ is.1

-- the text of a whole number, with its sign
whole_text :
    (n : ℕ) (p : ℤ) (negative : Bool) → n < 10 ^ 64 → signed negative n ≡ p →
    SpellsFraction (signed_text negative (decimal n)) p 1
whole_text n p negative small e =
    record {
      negative = negative;
      form = Whole (decimal n);
      spelled = record { text = refl; formed = decimal_is_digits n small };
      above = ap (signed negative) (number_of-decimal n small) ∙ e;
      below = refl;
    }

-- the text of a numerator over a denominator, with its sign
over_text :
    (n q : ℕ) (p : ℤ) (negative : Bool) →
    n < 10 ^ 64 → 1 ≤ q → q < 10 ^ 64 → signed negative n ≡ p →
    SpellsFraction (signed_text negative (decimal n ++ slash ∷ decimal q)) p q
over_text n q p negative small some below e =
    let not_zero : nat_lt 0 (number_of (decimal q)) ≡ true =
    let is = number_of-decimal q below in grind (arith, nat_tests) in
    record {
      negative = negative;
      form = Over (decimal n) (decimal q);
      spelled =
          record {
            text = refl;
            formed = rw (decimal_is_digits n small, decimal_is_digits q below, not_zero) refl;
          };
      above = ap (signed negative) (number_of-decimal n small) ∙ e;
      below = number_of-decimal q below;
    }

-- a fraction's text spells it
pub text_of_fraction-spells :
    (p : ℤ) (q : ℕ) → unsigned_abs p < 10 ^ 64 → 1 ≤ q → q < 10 ^ 64 →
    SpellsFraction (text_of_fraction p q) p q
text_of_fraction-spells p q small some below =
    elim (eqb_tells q 1) [
      | inl whole ↦
          rw whole.0 (subst (SpellsFraction (signed_decimal p) p) (sym whole.1) (by_sign p small))
      | inr over ↦ rw over.0 (over_by_sign p q small some below)
    ]
  where
    by_sign : (p : ℤ) → unsigned_abs p < 10 ^ 64 → SpellsFraction (signed_decimal p) p 1
    by_sign (pos n) small = whole_text n (pos n) false small refl
    by_sign (negsuc n) small = whole_text (suc n) (negsuc n) true small refl

    over_by_sign :
        (p : ℤ) (q : ℕ) → unsigned_abs p < 10 ^ 64 → 1 ≤ q → q < 10 ^ 64 →
        SpellsFraction (signed_decimal p ++ slash ∷ decimal q) p q
    over_by_sign (pos n) q small some below = over_text n q (pos n) false small some below refl
    over_by_sign (negsuc n) q small some below =
        over_text (suc n) q (negsuc n) true small some below refl

-- a numeral that spells a readable fraction is read as that fraction
reading_of-fraction :
    (word : List ℕ) (p : ℤ) (q : ℕ) → SpellsFraction word p q → IsReadable p q →
    reading_of word ≡ Ok (numeral p q)
reading_of-fraction word p q s r =
    let n : ℤ = signed s.negative (numerator_of s.form) in
    reading_of-lowest word s.negative s.form s.spelled
    (subst (λ m. unsigned_abs m ≤ 2 ^ 40) (sym s.above) r.above)
    (subst (λ d. d ≤ 2 ^ 40) (sym s.below) r.below)
    (subst (λ m. IsGcd (unsigned_abs m) (denominator_of s.form) 1) (sym s.above)
    (subst (λ d. IsGcd (unsigned_abs p) d 1) (sym s.below) r.coprime))
    ∙ ap (λ m. Ok (numeral m (denominator_of s.form))) s.above
    ∙ ap (λ d. Ok (numeral p d)) s.below

-- the text of a readable fraction is read as that fraction
pub reading_of-text : (p : ℤ) (q : ℕ) → IsReadable p q → ReadsBack p q
reading_of-text p q r =
    let small : unsigned_abs p < 10 ^ 64 = let h = r.above in omega arith in
    let below : q < 10 ^ 64 = let h = r.below in omega arith in
    reading_of-fraction (text_of_fraction p q) p q
    (text_of_fraction-spells p q small r.positive below) r
