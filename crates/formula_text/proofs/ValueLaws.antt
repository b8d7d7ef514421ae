-- The texts of values are read as the values, and have graphic bytes alone.
use Rattle.std.proofs.Common.{◌≡◌, ℕ, zero, suc, ◌+◌, ◌^◌, ◌<◌, Bool, true, false, not, ◌&&◌, List, [], ◌∷◌, ◌++◌, map, length, append-nil, append_assoc, Some, None, refl, ap, sym, ◌∙◌, arith}
use Rattle.std.proofs.lemmas.List.Elements.{All-head, All-tail}
use Rattle.std.specs.Prelude.{◌==◌, nat_le, if◌then◌else◌, ℤ, pos, negsuc, unsigned_abs, option_and_then, option_map, Option}
use Rattle.std.specs.List.{list_all, slice_split, All}
use Rattle.std.specs.Char.{is_ascii_digit}
use Rattle.std.specs.Fmt.{decimal, signed_decimal}
use Rattle.std.proofs.lemmas.Bool.{and_parts, and_from}
use Rattle.std.proofs.lemmas.Bool.Decides.{nat_tests}
use Rattle.std.proofs.lemmas.Fmt.{decimal_digit}
use Rattle.weights.specs.declared.ratio.Ratio.{Ratio}
use Rattle.weights.specs.FractionText.{text_of_fraction}
use Rattle.modalities.specs.declared.sums.Sums.{Sums}
use Rattle.modalities.specs.declared.three.Three.{Three}
use Rattle.modalities.specs.declared.three.Three.TheVariants.{Label, Trit, Trits, Tagged, Members, Triple}
use Rattle.modalities.specs.Values.{triple}
use Rattle.formulas.specs.Ranges.{IsTrit, IsWritableFraction, AreWritableSums, IsWritableValue}
use Rattle.formula_text.specs.Numbers.{label_bound, fraction_in}
use Rattle.formula_text.specs.Values.{value_text, value_in, later_trits, text_at, set_texts, fraction_text, sums_text, both, trit_of, trit_in, trits_in, before_end, pieces_of, triple_in, tagged_in, comma}
use Rattle.formula_text.proofs.NumberLaws.{decimal_digits, decimal_some, number_below-decimal, one_piece, first_piece, list_all-weaker, fraction_in-text}

-- ---- bytes

-- a byte that is seen: no blank, and no end of a line
abbrev pub is_graphic : ℕ → Bool
is_graphic b = nat_le 33 b && nat_le b 126

-- a byte of a fraction: `-`, `/` or a digit
abbrev is_of_fraction : ℕ → Bool
is_of_fraction b = nat_le 45 b && nat_le b 57

digit_graphic : (b : ℕ) → is_ascii_digit b ≡ true → is_graphic b ≡ true
digit_graphic b e = grind (arith, nat_tests)

digit_of_fraction : (b : ℕ) → is_ascii_digit b ≡ true → is_of_fraction b ≡ true
digit_of_fraction b e = grind (arith, nat_tests)

fraction_graphic : (b : ℕ) → is_of_fraction b ≡ true → is_graphic b ≡ true
fraction_graphic b e = grind (arith, nat_tests)

no_comma : (b : ℕ) → is_of_fraction b ≡ true → not (b == comma) ≡ true
no_comma b e = grind (arith, nat_tests)

no_colon : (b : ℕ) → is_ascii_digit b ≡ true → not (b == 58) ≡ true
no_colon b e = grind (arith, nat_tests)

-- a test that holds of both parts of a text
pub all_joined :
    (p : ℕ → Bool) (xs ys : List ℕ) → list_all p xs ≡ true → list_all p ys ≡ true →
    list_all p (xs ++ ys) ≡ true
all_joined p [] ys a b = b
all_joined p (x ∷ xs) ys a b =
    let parts = and_parts (p x) (list_all p xs) a in
    and_from (p x) (list_all p (xs ++ ys)) parts.0 (all_joined p xs ys parts.1 b)

-- decimal texts are graphic
pub decimal_graphic : (n : ℕ) → n < 10 ^ 64 → list_all is_graphic (decimal n) ≡ true
decimal_graphic n small =
    list_all-weaker is_ascii_digit is_graphic digit_graphic (decimal n) (decimal_digits n small)

-- a fraction has bytes of fractions
fraction_bytes :
    (p : ℤ) (q : ℕ) → unsigned_abs p < 10 ^ 64 → q < 10 ^ 64 →
    list_all is_of_fraction (text_of_fraction p q) ≡ true
fraction_bytes p q small few = by (q == 1)
  where
    digits : (n : ℕ) → n < 10 ^ 64 → list_all is_of_fraction (decimal n) ≡ true
    digits n low =
        list_all-weaker is_ascii_digit is_of_fraction digit_of_fraction (decimal n)
        (decimal_digits n low)

    signed : (p : ℤ) → unsigned_abs p < 10 ^ 64 → list_all is_of_fraction (signed_decimal p) ≡ true
    signed (pos n) low = digits n low
    signed (negsuc n) low = digits (suc n) low

    by :
        (whole : Bool) →
        list_all is_of_fraction
        (if whole then signed_decimal p else signed_decimal p ++ 47 ∷ decimal q) ≡ true
    by true = signed p small
    by false =
        all_joined is_of_fraction (signed_decimal p) (47 ∷ decimal q) (signed p small)
        (digits q few)

-- ---- trits

-- the text of a trit is one byte
trit_one : (t : ℕ) → IsTrit t → decimal t ≡ (48 + t) ∷ []
trit_one t h = decimal_digit t (omega arith)

-- a trit is read as it is written
trit_in-text : (t : ℕ) → IsTrit t → trit_in (decimal t) ≡ Some t
trit_in-text t h = ap trit_in (trit_one t h) ∙ by t h
  where
    by : (t : ℕ) → IsTrit t → trit_of (48 + t) ≡ Some t
    by zero h = refl
    by (suc zero) h = refl
    by (suc (suc zero)) h = refl
    by (suc (suc (suc t))) h = absurd (omega arith)

trit_bytes : (t : ℕ) → IsTrit t → list_all is_of_fraction (decimal t) ≡ true
trit_bytes t h =
    list_all-weaker is_ascii_digit is_of_fraction digit_of_fraction (decimal t)
    (decimal_digits t (omega arith))

-- trits with commas before them
abbrev later : List ℕ → List ℕ
later [] = []
later (t ∷ ts) = comma ∷ decimal t ++ later ts

later_is : (ts : List ℕ) → later_trits ts ≡ later ts ++ 41 ∷ []
later_is [] = refl
later_is (t ∷ ts) =
    ap (λ rest. comma ∷ decimal t ++ rest) (later_is ts)
    ∙ ap (λ rest. comma ∷ rest) (sym (append_assoc (decimal t) (later ts) (41 ∷ [])))

-- the bytes before the last
pub before_end-last :
    (xs : List ℕ) (b : ℕ) → (b == b) ≡ true → before_end b (xs ++ b ∷ []) ≡ Some xs
before_end-last [] b e = ap (λ x. if x then Some [] else None) e
before_end-last (x ∷ []) b e = ap (option_map (λ rest. x ∷ rest)) (before_end-last [] b e)
before_end-last (x ∷ y ∷ xs) b e =
    ap (option_map (λ rest. x ∷ rest)) (before_end-last (y ∷ xs) b e)

-- each trit is a piece
trit_pieces :
    (t : ℕ) (ts : List ℕ) → All IsTrit (t ∷ ts) →
    pieces_of (decimal t ++ later ts) ≡ decimal t ∷ map decimal ts
trit_pieces t [] all =
    let h : IsTrit t = All-head IsTrit t [] all in
    ap pieces_of (append-nil (decimal t))
    ∙ one_piece (λ b. b == comma) (decimal t)
    (list_all-weaker is_of_fraction (λ b. not (b == comma)) no_comma (decimal t) (trit_bytes t h))
trit_pieces t (u ∷ ts) all =
    let h : IsTrit t = All-head IsTrit t (u ∷ ts) all in
    first_piece (λ b. b == comma) (decimal t) comma (decimal u ++ later ts)
    (list_all-weaker is_of_fraction (λ b. not (b == comma)) no_comma (decimal t) (trit_bytes t h))
    refl
    ∙ ap (λ ps. decimal t ∷ ps) (trit_pieces u ts (All-tail IsTrit t (u ∷ ts) all))

trits_in-texts : (ts : List ℕ) → All IsTrit ts → trits_in (map decimal ts) ≡ Some ts
trits_in-texts [] all = refl
trits_in-texts (t ∷ ts) all =
    (λ i. both (λ t ts. t ∷ ts) (trit_in-text t (All-head IsTrit t ts all) i)
    (trits_in-texts ts (All-tail IsTrit t ts all) i))

trits_read :
    (t : ℕ) (ts : List ℕ) → All IsTrit (t ∷ ts) →
    value_in (40 ∷ decimal t ++ later_trits ts) ≡ Some (Trits (t ∷ ts))
trits_read t ts all =
    let text : List ℕ = decimal t ++ later ts in
    let read : List ℕ → Option Three = λ text. option_map Trits (trits_in (pieces_of text)) in
    let is : decimal t ++ later_trits ts ≡ text ++ 41 ∷ [] =
    ap (λ rest. decimal t ++ rest) (later_is ts)
    ∙ sym (append_assoc (decimal t) (later ts) (41 ∷ [])) in
    ap (λ rest. option_and_then read (before_end 41 rest)) is
    ∙ ap (option_and_then read) (before_end-last text 41 refl)
    ∙ ap (λ ps. option_map Trits (trits_in ps)) (trit_pieces t ts all)
    ∙ ap (option_map Trits) (trits_in-texts (t ∷ ts) all)

-- ---- sums

-- the three fractions of a value, which are read as they are written
sums_read : (s : Sums) → AreWritableSums s → value_in (91 ∷ sums_text s) ≡ Some (Triple s)
sums_read s h =
    let a : List ℕ = fraction_text s.at_zero in
    let b : List ℕ = fraction_text s.at_one in
    let c : List ℕ = fraction_text s.at_two in
    let text : List ℕ = a ++ comma ∷ b ++ comma ∷ c in
    let read : List ℕ → Option Three = λ text. triple_in (pieces_of text) in
    let pieces : pieces_of text ≡ a ∷ b ∷ c ∷ [] =
    ap pieces_of (append_assoc a (comma ∷ b) (comma ∷ c))
    ∙ first_piece (λ b. b == comma) a comma (b ++ comma ∷ c) (whole s.at_zero h.at_zero) refl
    ∙ ap (λ ps. a ∷ ps)
    (first_piece (λ b. b == comma) b comma c (whole s.at_one h.at_one) refl
    ∙ ap (λ ps. b ∷ ps) (one_piece (λ b. b == comma) c (whole s.at_two h.at_two))) in
    ap (option_and_then read) (before_end-last text 93 refl)
    ∙ ap triple_in pieces
    ∙ ap (option_and_then (λ x. both (triple x) (fraction_in b) (fraction_in c)))
    (fraction_in-text s.at_zero h.at_zero)
    ∙ (λ i. both (triple s.at_zero) (fraction_in-text s.at_one h.at_one i)
    (fraction_in-text s.at_two h.at_two i))
  where
    whole :
        (r : Ratio) → IsWritableFraction r →
        list_all (λ b. not (b == comma)) (fraction_text r) ≡ true
    whole r w =
        let p = w.numerator in
        let q = w.denominator in
        list_all-weaker is_of_fraction (λ b. not (b == comma)) no_comma (fraction_text r)
        (fraction_bytes r.p r.q (omega arith) (omega arith))

-- ---- what begins with a digit

tagged_first :
    (n : ℕ) (rest : List ℕ) → n < 10 ^ 64 →
    value_in (decimal n ++ rest) ≡ tagged_in (slice_split (λ c. c == 58) (decimal n ++ rest))
tagged_first n rest small = by (decimal n) (decimal_some n small) (decimal_digits n small)
  where
    other : (d b : ℕ) → is_ascii_digit d ≡ true → is_ascii_digit b ≡ false → (d == b) ≡ false
    other d b is apart = grind (arith, nat_tests)

    by :
        (ds : List ℕ) → 0 < length ds → list_all is_ascii_digit ds ≡ true →
        value_in (ds ++ rest) ≡ tagged_in (slice_split (λ c. c == 58) (ds ++ rest))
    by [] some all = absurd (omega arith)
    by (d ∷ ds) some all =
        let digit : is_ascii_digit d ≡ true =
        (and_parts (is_ascii_digit d) (list_all is_ascii_digit ds) all).0 in
        rw (
          other d 61 digit refl,
          other d 40 digit refl,
          other d 91 digit refl,
          other d 123 digit refl,
        ) refl

tagged_read :
    (n t : ℕ) → n < 256 → IsTrit t → value_in (decimal n ++ 58 ∷ decimal t) ≡ Some (Tagged n t)
tagged_read n t few h =
    let low : n < 10 ^ 64 = omega arith in
    let none : list_all (λ c. not (c == 58)) (decimal n) ≡ true =
    list_all-weaker is_ascii_digit (λ c. not (c == 58)) no_colon (decimal n)
    (decimal_digits n low) in
    let last : list_all (λ c. not (c == 58)) (decimal t) ≡ true =
    list_all-weaker is_ascii_digit (λ c. not (c == 58)) no_colon (decimal t)
    (decimal_digits t (omega arith)) in
    tagged_first n (58 ∷ decimal t) low
    ∙ ap tagged_in (first_piece (λ c. c == 58) (decimal n) 58 (decimal t) none refl
    ∙ ap (λ ps. decimal n ∷ ps) (one_piece (λ c. c == 58) (decimal t) last))
    ∙ (λ i. both Tagged (number_below-decimal 256 n few low i) (trit_in-text t h i))

trit_read : (t : ℕ) → IsTrit t → value_in (decimal t) ≡ Some (Trit t)
trit_read t h = ap value_in (trit_one t h) ∙ by t h
  where
    by : (t : ℕ) → IsTrit t → value_in ((48 + t) ∷ []) ≡ Some (Trit t)
    by zero h = refl
    by (suc zero) h = refl
    by (suc (suc zero)) h = refl
    by (suc (suc (suc t))) h = absurd (omega arith)

-- ---- values

members_read : (bits : ℕ) → bits < 8 → value_in (text_at set_texts bits) ≡ Some (Members bits)
members_read zero h = refl
members_read (suc zero) h = refl
members_read (suc (suc zero)) h = refl
members_read (suc (suc (suc zero))) h = refl
members_read (suc (suc (suc (suc zero)))) h = refl
members_read (suc (suc (suc (suc (suc zero))))) h = refl
members_read (suc (suc (suc (suc (suc (suc zero)))))) h = refl
members_read (suc (suc (suc (suc (suc (suc (suc zero))))))) h = refl
members_read (suc (suc (suc (suc (suc (suc (suc (suc n)))))))) h = absurd (omega arith)

-- a value within the ranges is read as it is written
pub value_in-text : (v : Three) → IsWritableValue v → value_in (value_text v) ≡ Some v
value_in-text (Label n) h =
    let below : n < label_bound = omega arith in
    ap (option_map Label) (number_below-decimal label_bound n below (omega arith))
value_in-text (Trit t) h = trit_read t h
value_in-text (Trits []) h = absurd (let some = h.some in omega arith)
value_in-text (Trits (t ∷ ts)) h = trits_read t ts h.each
value_in-text (Tagged n t) h = tagged_read n t h.0 h.1
value_in-text (Members bits) h = members_read bits h
value_in-text (Triple s) h = sums_read s h

-- ---- the bytes of a value

later_graphic : (ts : List ℕ) → All IsTrit ts → list_all is_graphic (later_trits ts) ≡ true
later_graphic [] all = refl
later_graphic (t ∷ ts) all =
    let h : IsTrit t = All-head IsTrit t ts all in
    all_joined is_graphic (comma ∷ decimal t) (later_trits ts) (decimal_graphic t (omega arith))
    (later_graphic ts (All-tail IsTrit t ts all))

members_graphic : (bits : ℕ) → bits < 8 → list_all is_graphic (text_at set_texts bits) ≡ true
members_graphic zero h = refl
members_graphic (suc zero) h = refl
members_graphic (suc (suc zero)) h = refl
members_graphic (suc (suc (suc zero))) h = refl
members_graphic (suc (suc (suc (suc zero)))) h = refl
members_graphic (suc (suc (suc (suc (suc zero))))) h = refl
members_graphic (suc (suc (suc (suc (suc (suc zero)))))) h = refl
members_graphic (suc (suc (suc (suc (suc (suc (suc zero))))))) h = refl
members_graphic (suc (suc (suc (suc (suc (suc (suc (suc n)))))))) h = absurd (omega arith)

sums_graphic : (s : Sums) → AreWritableSums s → list_all is_graphic (sums_text s) ≡ true
sums_graphic s h =
    let a : List ℕ = fraction_text s.at_zero in
    let b : List ℕ = fraction_text s.at_one in
    let c : List ℕ = fraction_text s.at_two in
    all_joined is_graphic ((a ++ comma ∷ b) ++ comma ∷ c) (93 ∷ [])
    (all_joined is_graphic (a ++ comma ∷ b) (comma ∷ c)
    (all_joined is_graphic a (comma ∷ b) (whole s.at_zero h.at_zero) (whole s.at_one h.at_one))
    (whole s.at_two h.at_two))
    refl
  where
    whole : (r : Ratio) → IsWritableFraction r → list_all is_graphic (fraction_text r) ≡ true
    whole r w =
        let p = w.numerator in
        let q = w.denominator in
        list_all-weaker is_of_fraction is_graphic fraction_graphic (fraction_text r)
        (fraction_bytes r.p r.q (omega arith) (omega arith))

-- the text of a value is graphic
pub value_graphic : (v : Three) → IsWritableValue v → list_all is_graphic (value_text v) ≡ true
value_graphic (Label n) h = decimal_graphic n (omega arith)
value_graphic (Trit t) h = decimal_graphic t (omega arith)
value_graphic (Trits []) h = absurd (let some = h.some in omega arith)
value_graphic (Trits (t ∷ ts)) h =
    let trit : IsTrit t = All-head IsTrit t ts h.each in
    all_joined is_graphic (40 ∷ decimal t) (later_trits ts) (decimal_graphic t (omega arith))
    (later_graphic ts (All-tail IsTrit t ts h.each))
value_graphic (Tagged n t) h =
    let few = h.0 in
    let trit = h.1 in
    all_joined is_graphic (decimal n) (58 ∷ decimal t) (decimal_graphic n (omega arith))
    (decimal_graphic t (omega arith))
value_graphic (Members bits) h = members_graphic bits h
value_graphic (Triple s) h = sums_graphic s h

-- the text of a value has a byte
pub value_some : (v : Three) → IsWritableValue v → 0 < length (value_text v)
value_some v h = by (value_text v) (value_in-text v h)
  where
    by : (text : List ℕ) → value_in text ≡ Some v → 0 < length text
    by [] e = cc
    by (b ∷ text) e = omega arith
