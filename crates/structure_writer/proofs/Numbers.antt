-- What the texts of numbers and of weights spell.
use Rattle.std.proofs.Common.{rules, ◌≡◌, ℕ, ◌/◌, ◌^◌, ◌<◌, ◌≤◌, Bool, true, false, not, ◌&&◌, ◌||◌, List, [], ◌∷◌, ◌++◌, length, Some, Ok, None, append-nil, refl, sym, ap, ◌∙◌, subst, arith, true≢false}
use Rattle.std.specs.Prelude.{◌==◌, decimal, nat_lt, if◌then◌else◌, ℤ, pos, negsuc, int_lt, unsigned_abs, option_and_then, ◌*ℤ◌}
use Rattle.std.specs.Int.{◌∣◌}
use Rattle.std.specs.Char.{is_ascii_digit}
use Rattle.std.specs.List.{list_all}
use Rattle.std.specs.Str.Parse.{digits_value}
use Rattle.std.proofs.lemmas.Bool.{and_parts, and_from, lt-ltb}
use Rattle.std.proofs.lemmas.Bool.Decides.{nat_tests}
use Rattle.std.proofs.lemmas.Fmt.{decimal_is_IsNumeral_wide}
use Rattle.std.proofs.lemmas.Str.Parse.{IsNumeralModel, numerals_by_fold}
use Rattle.std.proofs.lemmas.List.Folds.{list_all-append}
use Rattle.std.proofs.Math.Nat.{div-mul_cancel, dvd-mul_right, one-dvd}
use Rattle.file_cut.specs.Bytes.{IsName, is_word_byte, inj_word}
use Rattle.functor_terms.specs.Terms.{is_number_below, number_below}
use Rattle.functor_terms.specs.declared.node.Node.{Node}
use Rattle.weights.specs.Fractions.{gcd_of, lowest_terms, IsLowest}
use Rattle.weights.specs.FractionLaws.{ratio, gcd_of-IsGcd, lowest_terms-IsLowest, lowest_terms-smaller, lowest_terms_is, lowest_terms-whole, cancel_factor}
use Rattle.weights.specs.FractionText.{SpellsFraction}
use Rattle.weights.specs.FractionTextLaws.{text_of_fraction-spells, decimal_is_digits}
use Rattle.weights.specs.NumeralLaws.{cut_from_Spells, in_digits}
use Rattle.weights.specs.Numerals.{Form, Whole, Over, Decimal, minus, point, slash, text_of_form, is_form, is_digits, number_after, number_of, signed_text, numeral, fraction_of, has_sign}
use Rattle.weights.specs.Numerals as numerals
use Rattle.weights.specs.declared.numeral.Numeral.{Numeral}
use Rattle.weights.specs.declared.ratio.Ratio.{Ratio}
use Rattle.typing.specs.declared.kind.TypeKind.TheVariants.{NotANumber, Negative}
use Rattle.fitting.specs.declared.fitted.Weight.TheVariants as weight
use Rattle.fitting.specs.declared.fitted.Weight.{Weight}
use Rattle.fitting.specs.Fitting.{demands, is_from_zero, has_fractions, weighed}
use Rattle.fitting.specs.Scaling.{scaled_weight}
use Rattle.fitting.proofs.ScaledFractions.{weights-keep}
use Rattle.structure_writer.specs.Text.{denominator_at, ratio_text, weight_text}
use Rattle.structure_writer.specs.Spelled.{fraction_if, fraction_spelled}

-- ---- decimals

-- digits and their number as std has them
own : IsNumeralModel (λ ds. list_all is_ascii_digit ds ≡ true) number_of
own =
    numerals_by_fold (λ ds. list_all is_ascii_digit ds ≡ true) (search rules)
    number_after (search rules)

-- what a decimal text is
pub record IsDecimal (n : ℕ) : Type 0 where
  pub some : 0 < length (decimal n)
  pub digits : list_all is_ascii_digit (decimal n) ≡ true
  pub value : digits_value 10 (decimal n) ≡ n
  pub number : number_of (decimal n) ≡ n

-- a number's decimal text is digits alone
pub decimal-is : (n : ℕ) → n < 10 ^ 64 → IsDecimal n
decimal-is n small =
    let is = decimal_is_IsNumeral_wide n small in
    record {
      some = omega (arith, is.0.0);
      digits = own.from (decimal n) is.0.1;
      value = is.1;
      number = own.same (decimal n) is.0.1 ∙ is.1;
    }

some_true : (n : ℕ) → 0 < n → nat_lt 0 n ≡ true
some_true n h = grind (arith, nat_tests)

-- it is read as the number, where the number is below a bound
pub decimal-below : (m n : ℕ) → n < 10 ^ 64 → n < m → number_below m (decimal n) ≡ Some n
decimal-below m n small below =
    let is = decimal-is n small in
    let low : nat_lt (digits_value 10 (decimal n)) m ≡ true =
    ap (λ k. nat_lt k m) is.value ∙ lt-ltb n m below in
    let tests : is_number_below m (decimal n) ≡ true =
    and_from (nat_lt 0 (length (decimal n)) && list_all is_ascii_digit (decimal n))
    (nat_lt (digits_value 10 (decimal n)) m) (decimal_is_digits n small) low in
    (λ i. if tests i then Some (is.value i) else None)

-- ---- words of digits and signs

digit_byte : (b : ℕ) → is_ascii_digit b ≡ true → is_word_byte b ≡ true
digit_byte b h = grind (arith, nat_tests)

-- digits are word bytes
pub digit-bytes : (ds : List ℕ) → list_all is_ascii_digit ds ≡ true
    → list_all is_word_byte ds ≡ true
digit-bytes [] h = refl
digit-bytes (d ∷ ds) h =
    let p = and_parts (is_ascii_digit d) (list_all is_ascii_digit ds) h in
    and_from (is_word_byte d) (list_all is_word_byte ds) (digit_byte d p.0) (digit-bytes ds p.1)

not_inj_digit : (d : ℕ) (ds : List ℕ) → is_ascii_digit d ≡ true → d ∷ ds ≡ inj_word → ⊥
not_inj_digit d ds h e =
    let first : d ≡ 105 = cc in
    let digit : is_ascii_digit 105 ≡ true = sym (ap is_ascii_digit first) ∙ h in
    absurd (true≢false (sym digit))

-- digits with word bytes behind them are a name
digits_name : (ds rest : List ℕ) → 0 < length ds → list_all is_ascii_digit ds ≡ true
    → list_all is_word_byte rest ≡ true → IsName (ds ++ rest)
digits_name [] rest some digits h = absurd (omega (arith, some))
digits_name (d ∷ ds) rest some digits h =
    let p = and_parts (is_ascii_digit d) (list_all is_ascii_digit ds) digits in
    let bytes : list_all is_word_byte ((d ∷ ds) ++ rest) ≡ true =
    list_all-append is_word_byte (d ∷ ds) rest
    ∙ and_from (list_all is_word_byte (d ∷ ds)) (list_all is_word_byte rest)
    (digit-bytes (d ∷ ds) digits) h in
    ((omega arith, bytes), not_inj_digit d (ds ++ rest) p.0)

-- a decimal is a name
pub decimal-name : (n : ℕ) → n < 10 ^ 64 → IsName (decimal n)
decimal-name n small =
    let is = decimal-is n small in
    subst IsName (append-nil (decimal n)) (digits_name (decimal n) [] is.some is.digits refl)

lengths : (ds : List ℕ) → is_digits ds ≡ true → 0 < length ds
lengths [] h = cc
lengths (d ∷ ds) h = omega arith

-- the text of a form is a name
form-name : (form : Form) → is_form form ≡ true → IsName (text_of_form form)
form-name (Whole ds) h =
    subst IsName (append-nil ds) (digits_name ds [] (lengths ds h) (in_digits ds h) refl)
form-name (Over ns ds) h =
    let p = and_parts (is_digits ns) (is_digits ds && nat_lt 0 (number_of ds)) h in
    let q = and_parts (is_digits ds) (nat_lt 0 (number_of ds)) p.1 in
    digits_name ns (slash ∷ ds) (lengths ns p.0) (in_digits ns p.0)
    (digit-bytes ds (in_digits ds q.0))
form-name (Decimal ws fs) h =
    let p = and_parts (is_digits ws) (is_digits fs) h in
    digits_name ws (point ∷ fs) (lengths ws p.0) (in_digits ws p.0)
    (digit-bytes fs (in_digits fs p.1))

-- so is a numeral
numeral-name : (word : List ℕ) (negative : Bool) (form : Form)
    → numerals.Spells word negative form → IsName word
numeral-name word negative form s =
    subst IsName (sym s.text) (by negative (form-name form s.formed))
  where
    by : (negative : Bool) → IsName (text_of_form form)
        → IsName (signed_text negative (text_of_form form))
    by false is = is
    by true is = ((omega arith, is.0.1), λ e. minus_first (text_of_form form) e)
      where
        minus_first : (ds : List ℕ) → minus ∷ ds ≡ inj_word → ⊥
        minus_first ds e = let first : minus ≡ 105 = cc in cc

-- ---- weights

-- a numeral is read without bounds as the fraction that it spells
spelled-free : (word : List ℕ) (p : ℤ) (q : ℕ) → SpellsFraction word p q → IsLowest p q p q
    → 1 ≤ q → fraction_spelled word ≡ Some (numeral p q)
spelled-free word p q s lowest some =
    let cut = cut_from_Spells word s.negative s.form s.spelled in
    let is = lowest_terms_is p q p q some lowest in
    ap (option_and_then (fraction_if (has_sign word))) cut.rest
    ∙ ap (λ b. fraction_if b s.form) cut.sign
    ∙ ap (λ (b : Bool). if b then Some (fraction_of s.negative s.form) else None) cut.formed
    ∙ (λ i. Some (reduced_is (s.above i) (s.below i)))
    ∙ (λ i. Some (numeral (is.0 i) (is.1 i)))
  where
    reduced_is : ℤ → ℕ → Numeral
    reduced_is n d = numeral (lowest_terms n d).p (lowest_terms n d).q

-- a weight above 0 has a numerator from 0 on
nonnegative : (w : ℤ) (d : ℕ) → int_lt (pos 0) w ≡ true
    → int_lt (lowest_terms w d).p (pos 0) ≡ false
unfolding lowest_terms
nonnegative (pos n) d h = never (n / gcd_of n d)
  where
    never : (k : ℕ) → nat_lt k 0 ≡ false
    never k = grind (arith, nat_tests)
nonnegative (negsuc n) d h = absurd (true≢false (sym h))

-- the denominator in lowest terms divides the denominator
lowest-divides : (w : ℤ) (d : ℕ) → (lowest_terms w d).q ∣ d
unfolding lowest_terms
lowest-divides w d =
    let g : ℕ = gcd_of (unsigned_abs w) d in
    subst (λ n. d / g ∣ n) (div-mul_cancel g (gcd_of-IsGcd (unsigned_abs w) d).1)
    (dvd-mul_right (d / g) g)

-- the tests of a weight, where they hold
tested : (m : Node) (n : Numeral) → not (is_from_zero m && int_lt n.p (pos 0)) ≡ true
    → (has_fractions m || (n.q == 1)) ≡ true → weighed m (Ok n) ≡ Ok (weight.Fraction n)
tested m n first second =
    (λ i. demands (first i) Negative
    (demands (has_fractions m || (n.q == 1)) NotANumber (Ok (weight.Fraction n))))
    ∙ (λ i. demands {B = Weight} (second i) NotANumber (Ok (weight.Fraction n)))

-- The text of a weight spells the fraction that it is, which passes the tests at its node, and
-- which
-- is the weight again over the common denominator.
pub record IsWeightText (l : ℕ) (m : Node) (w : ℤ) : Type 0 where
  pub fraction : Numeral
  pub name : IsName (weight_text l m w)
  pub spelled : fraction_spelled (weight_text l m w) ≡ Some fraction
  pub passes : weighed m (Ok fraction) ≡ Ok (weight.Fraction fraction)
  pub divides : fraction.q ∣ l
  pub back : scaled_weight l m (weight.Fraction fraction) ≡ w

-- l is the denominator
module _ (l : ℕ) (some : 1 ≤ l) (small : l ≤ 2 ^ 40) (m : Node) (w : ℤ)
    (few : unsigned_abs w ≤ 2 ^ 106)
    (natural : is_from_zero m ≡ true → int_lt (pos 0) w ≡ true) where
  abbrev d : ℕ
  d = denominator_at l m

  abbrev r : Ratio
  r = lowest_terms w d

  d_some : (1 ≤ d) × (d ≤ 2 ^ 40)
  d_some = by (has_fractions m)
    where
      by : (b : Bool) → (1 ≤ (if b then l else 1)) × ((if b then l else 1) ≤ 2 ^ 40)
      by true = (some, small)
      by false = (omega arith, omega arith)

  lowest : IsLowest w d r.p r.q
  lowest = lowest_terms-IsLowest w d d_some.0

  lowest_own : IsLowest r.p r.q r.p r.q
  lowest_own = record { same = refl; coprime = lowest.coprime; positive = lowest.positive }

  spells : SpellsFraction (ratio_text r) r.p r.q
  spells =
      let bounds = lowest_terms-smaller w d in
      text_of_fraction-spells r.p r.q (omega (arith, bounds.0, few)) lowest.positive
      (omega (arith, bounds.1, d_some.1))

  not_negative : not (is_from_zero m && int_lt r.p (pos 0)) ≡ true
  not_negative = by (is_from_zero m) natural
    where
      by : (b : Bool) → (b ≡ true → int_lt (pos 0) w ≡ true)
          → not (b && int_lt r.p (pos 0)) ≡ true
      by true h = ap not (nonnegative w d (h refl))
      by false h = refl

  -- where weights are fractions
  with_fractions : has_fractions m ≡ true → IsWeightText l m w
  with_fractions h =
      let same : d ≡ l = ap (λ b. if b then l else 1) h in
      let divides : r.q ∣ l = subst (λ n. r.q ∣ n) same (lowest-divides w d) in
      let kept = weights-keep l m (numeral r.p r.q) h divides in
      record {
        fraction = numeral r.p r.q;
        name = numeral-name (ratio_text r) spells.negative spells.form spells.spelled;
        spelled = spelled-free (ratio_text r) r.p r.q spells lowest_own lowest.positive;
        passes = tested m (numeral r.p r.q) not_negative (ap (λ b. b || (r.q == 1)) h);
        divides = divides;
        back =
            cancel_factor (scaled_weight l m (weight.Fraction (numeral r.p r.q))) w r.q
            lowest.positive
            (kept ∙ ap (λ n. r.p *ℤ pos n) (sym same) ∙ lowest.same);
      }

  -- where they are whole
  without : has_fractions m ≡ false → IsWeightText l m w
  without h =
      let same : d ≡ 1 = ap (λ b. if b then l else 1) h in
      let whole : r ≡ lowest_terms w 1 = ap (lowest_terms w) same in
      let is : r ≡ ratio w 1 = whole ∙ lowest_terms-whole w in
      let below : r.q ≡ 1 = ap (λ (s : Ratio). s.q) is in
      record {
        fraction = numeral r.p r.q;
        name = numeral-name (ratio_text r) spells.negative spells.form spells.spelled;
        spelled = spelled-free (ratio_text r) r.p r.q spells lowest_own lowest.positive;
        passes =
            tested m (numeral r.p r.q) not_negative
            ((λ i. h i || (below i == 1)));
        divides = subst (λ n. n ∣ l) (sym below) (one-dvd l);
        back =
            ap (λ b. if b then r.p *ℤ pos (l / r.q) else r.p) h ∙ ap (λ (s : Ratio). s.p) is;
      }

  -- a weight's text is a numeral of it
  pub weight-is : IsWeightText l m w
  weight-is = by (has_fractions m) refl
    where
      by : (b : Bool) → has_fractions m ≡ b → IsWeightText l m w
      by true h = with_fractions h
      by false h = without h
