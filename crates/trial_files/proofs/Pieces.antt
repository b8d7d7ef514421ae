-- The words of trial inputs: labels, marks, eighths and weights.
use Rattle.std.proofs.Common.{◌≡◌, ℕ, zero, suc, ◌+◌, ◌-◌, ◌*◌, ◌<◌, ◌≤◌, false, List, [], ◌∷◌, ◌++◌, length, Some, refl, sym, ap, ◌∙◌, arith, true≢false}
use Rattle.std.specs.Prelude.{◌==◌, codes, decimal, Ok, pos, negsuc}
use Rattle.std.specs.Fmt.{digits}
use Rattle.std.specs.Int.{◌∣◌}
use Rattle.std.specs.List.{AllByRecursion, flat_map}
use Rattle.std.proofs.lemmas.List.{length-append}
use Rattle.std.proofs.lemmas.Fmt.{length-decimal-le_wide}
use Rattle.std.proofs.Math.Nat.{dvd-mul_left}
use Rattle.file_cut.specs.Bytes.{IsName, inj_word}
use Rattle.functor_terms.specs.declared.node.LabelSet.TheVariants.{Below}
use Rattle.functor_terms.specs.declared.node.Node.TheVariants.{Distribution, Integers}
use Rattle.functor_terms.specs.Terms.{label_number}
use Rattle.weights.specs.Fractions.{gcd_of, lowest_terms}
use Rattle.weights.specs.Numerals.{numeral, reading_of}
use Rattle.weights.specs.declared.numeral.Numeral.{Numeral}
use Rattle.fitting.specs.declared.fitted.Weight.TheVariants as weight
use Rattle.fitting.specs.Fitting.{weighed}
use Rattle.structure_writer.specs.Text.{listed}
use Rattle.structure_writer.proofs.Numbers.{decimal-name, decimal-below}
use Rattle.trial_texts.specs.Text.{letter_text, eighths_text, weight_text}
use Rattle.trial_files.proofs.Terms.{three_letters, two_letters}

-- ---- labels

-- the text of a label is a name, and it is read as the label
pub letter-is : (l : ℕ) → l < 3
    → IsName (letter_text l) × (label_number three_letters (letter_text l) ≡ Some l)
letter-is zero h = (((omega arith, refl), λ e. cc), refl)
letter-is (suc zero) h = (((omega arith, refl), λ e. cc), refl)
letter-is (suc (suc zero)) h = (((omega arith, refl), λ e. cc), refl)
letter-is (suc (suc (suc l))) h = absurd (omega (arith, h))

-- a letter is a name, and one of two labels
pub end-is : (l : ℕ) → l < 2
    → IsName (letter_text l) × (label_number two_letters (letter_text l) ≡ Some l)
end-is zero h = (((omega arith, refl), λ e. cc), refl)
end-is (suc zero) h = (((omega arith, refl), λ e. cc), refl)
end-is (suc (suc l)) h = absurd (omega (arith, h))

-- a mark is a digit, and it is read as itself
pub record IsMark (m : ℕ) : Type 0 where
  pub name : IsName (decimal m)
  pub short : length (decimal m) ≤ 1
  pub read : label_number (Below 2) (decimal m) ≡ Some m

-- a mark is one of two labels
pub mark-is : (m : ℕ) → m < 2 → IsMark m
mark-is m h = record {
  name = decimal-name m (omega (arith, h));
  short = length-decimal-le_wide 1 m (omega arith) (omega (arith, h)) (omega (arith, h));
  read = decimal-below 2 m (omega (arith, h)) h;
}

-- ---- weights

-- the text of a weight is a name, and it is read as a whole number
pub record IsWeightWord (w : ℕ) : Type 0 where
  pub name : IsName (weight_text w)
  pub short : length (weight_text w) ≤ 2
  pub fraction : Numeral
  pub read : weighed Integers (reading_of (weight_text w)) ≡ Ok (weight.Fraction fraction)
  pub divides : fraction.q ∣ 8

-- a small weight is read as such
pub weight-is : (w : ℕ) → w < 7 → IsWeightWord w
unfolding reading_of lowest_terms gcd_of digits
weight-is zero h = record {
  name = ((omega arith, refl), λ e. cc);
  short = omega arith;
  fraction = numeral (negsuc 2) 1;
  read = refl;
  divides = dvd-mul_left 1 8;
}
weight-is (suc zero) h = record {
  name = ((omega arith, refl), λ e. cc);
  short = omega arith;
  fraction = numeral (negsuc 1) 1;
  read = refl;
  divides = dvd-mul_left 1 8;
}
weight-is (suc (suc zero)) h = record {
  name = ((omega arith, refl), λ e. cc);
  short = omega arith;
  fraction = numeral (negsuc 0) 1;
  read = refl;
  divides = dvd-mul_left 1 8;
}
weight-is (suc (suc (suc zero))) h = record {
  name = ((omega arith, refl), λ e. cc);
  short = omega arith;
  fraction = numeral (pos 0) 1;
  read = refl;
  divides = dvd-mul_left 1 8;
}
weight-is (suc (suc (suc (suc zero)))) h = record {
  name = ((omega arith, refl), λ e. cc);
  short = omega arith;
  fraction = numeral (pos 1) 1;
  read = refl;
  divides = dvd-mul_left 1 8;
}
weight-is (suc (suc (suc (suc (suc zero))))) h = record {
  name = ((omega arith, refl), λ e. cc);
  short = omega arith;
  fraction = numeral (pos 2) 1;
  read = refl;
  divides = dvd-mul_left 1 8;
}
weight-is (suc (suc (suc (suc (suc (suc zero)))))) h = record {
  name = ((omega arith, refl), λ e. cc);
  short = omega arith;
  fraction = numeral (pos 3) 1;
  read = refl;
  divides = dvd-mul_left 1 8;
}
weight-is (suc (suc (suc (suc (suc (suc (suc w))))))) h = absurd (omega (arith, h))

-- ---- eighths

-- k eighths and the others: names that are read as fractions over one denominator, and together 1
pub record AreEighths (k : ℕ) : Type 0 where
  pub first_name : IsName (eighths_text k)
  pub second_name : IsName (eighths_text (8 - k))
  pub first_short : length (eighths_text k) ≤ 3
  pub second_short : length (eighths_text (8 - k)) ≤ 3
  pub above : ℕ
  pub other : ℕ
  pub below : ℕ
  pub first_read :
      weighed Distribution (reading_of (eighths_text k))
      ≡ Ok (weight.Fraction (numeral (pos above) below))
  pub second_read :
      weighed Distribution (reading_of (eighths_text (8 - k)))
      ≡ Ok (weight.Fraction (numeral (pos other) below))
  pub one : above + other ≡ below
  pub divides : below ∣ 8

-- a word that begins with another byte is not `inj`
no_inj : (b : ℕ) (bs : List ℕ) → (b == 105) ≡ false → b ∷ bs ≡ inj_word → ⊥
no_inj b bs other e =
    let first : b ≡ 105 = cc in
    let same : (105 == 105) ≡ false = sym (ap (λ n. n == 105) first) ∙ other in
    true≢false same

-- eighths are read as such
pub eighths-are : (j : ℕ) → j < 7 → AreEighths (1 + j)
unfolding reading_of lowest_terms gcd_of digits
eighths-are zero h = record {
  first_name = ((omega arith, refl), no_inj 49 (47 ∷ 56 ∷ []) refl);
  second_name = ((omega arith, refl), no_inj 55 (47 ∷ 56 ∷ []) refl);
  first_short = omega arith;
  second_short = omega arith;
  above = 1;
  other = 7;
  below = 8;
  first_read = refl;
  second_read = refl;
  one = refl;
  divides = dvd-mul_left 8 1;
}
eighths-are (suc zero) h = record {
  first_name = ((omega arith, refl), no_inj 50 (47 ∷ 56 ∷ []) refl);
  second_name = ((omega arith, refl), no_inj 54 (47 ∷ 56 ∷ []) refl);
  first_short = omega arith;
  second_short = omega arith;
  above = 1;
  other = 3;
  below = 4;
  first_read = refl;
  second_read = refl;
  one = refl;
  divides = dvd-mul_left 4 2;
}
eighths-are (suc (suc zero)) h = record {
  first_name = ((omega arith, refl), no_inj 51 (47 ∷ 56 ∷ []) refl);
  second_name = ((omega arith, refl), no_inj 53 (47 ∷ 56 ∷ []) refl);
  first_short = omega arith;
  second_short = omega arith;
  above = 3;
  other = 5;
  below = 8;
  first_read = refl;
  second_read = refl;
  one = refl;
  divides = dvd-mul_left 8 1;
}
eighths-are (suc (suc (suc zero))) h = record {
  first_name = ((omega arith, refl), no_inj 52 (47 ∷ 56 ∷ []) refl);
  second_name = ((omega arith, refl), no_inj 52 (47 ∷ 56 ∷ []) refl);
  first_short = omega arith;
  second_short = omega arith;
  above = 1;
  other = 1;
  below = 2;
  first_read = refl;
  second_read = refl;
  one = refl;
  divides = dvd-mul_left 2 4;
}
eighths-are (suc (suc (suc (suc zero)))) h = record {
  first_name = ((omega arith, refl), no_inj 53 (47 ∷ 56 ∷ []) refl);
  second_name = ((omega arith, refl), no_inj 51 (47 ∷ 56 ∷ []) refl);
  first_short = omega arith;
  second_short = omega arith;
  above = 5;
  other = 3;
  below = 8;
  first_read = refl;
  second_read = refl;
  one = refl;
  divides = dvd-mul_left 8 1;
}
eighths-are (suc (suc (suc (suc (suc zero))))) h = record {
  first_name = ((omega arith, refl), no_inj 54 (47 ∷ 56 ∷ []) refl);
  second_name = ((omega arith, refl), no_inj 50 (47 ∷ 56 ∷ []) refl);
  first_short = omega arith;
  second_short = omega arith;
  above = 3;
  other = 1;
  below = 4;
  first_read = refl;
  second_read = refl;
  one = refl;
  divides = dvd-mul_left 4 2;
}
eighths-are (suc (suc (suc (suc (suc (suc zero)))))) h = record {
  first_name = ((omega arith, refl), no_inj 55 (47 ∷ 56 ∷ []) refl);
  second_name = ((omega arith, refl), no_inj 49 (47 ∷ 56 ∷ []) refl);
  first_short = omega arith;
  second_short = omega arith;
  above = 7;
  other = 1;
  below = 8;
  first_read = refl;
  second_read = refl;
  one = refl;
  divides = dvd-mul_left 8 1;
}
eighths-are (suc (suc (suc (suc (suc (suc (suc j))))))) h = absurd (omega (arith, h))

-- ---- lengths

-- texts of at most twelve bytes, with a comma and a space between each two
abbrev pub AreShort : List (List ℕ) → Type 0
AreShort texts = AllByRecursion (λ text. length text ≤ 12) texts

more_short : (texts : List (List ℕ)) → AreShort texts
    → length (flat_map (λ text. codes ", " ++ text) texts) ≤ 14 * length texts
more_short [] all = omega arith
more_short (t ∷ texts) all =
    let rest = more_short texts all.1 in
    let others : List ℕ = flat_map (λ text. codes ", " ++ text) texts in
    omega (arith, rest, all.0, length-append (codes ", " ++ t) others)

-- a list of short texts is short
pub listed-short : (texts : List (List ℕ)) → AreShort texts
    → length (listed texts) ≤ 14 * length texts
listed-short [] all = omega arith
listed-short (t ∷ texts) all =
    let others : List ℕ = flat_map (λ text. codes ", " ++ text) texts in
    omega (arith, more_short texts all.1, all.0, length-append t others)
