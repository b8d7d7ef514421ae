-- The names of the states of a trial input: distinct words, each at the place of its number.
use Rattle.std.proofs.Common.{◌≡◌, ℕ, zero, suc, ◌+◌, ◌<◌, ◌≤◌, ◌^◌, Bool, true, false, List, [], ◌∷◌, length, Some, refl, sym, ap, ◌∙◌, subst, arith}
use Rattle.std.specs.Prelude.{decimal}
use Rattle.std.specs.List.{list_all, AllByRecursion, IsDistinct}
use Rattle.std.proofs.lemmas.Slice.Eq.{bytes_eq-Decides}
use Rattle.std.proofs.lemmas.Fmt.{length-decimal-le_wide}
use Rattle.file_cut.specs.Bytes.{IsName, is_word_byte, inj_word}
use Rattle.functor_terms.specs.Words.{is_same_word, place_of, AreNames}
use Rattle.weights.specs.Numerals.{number_of}
use Rattle.structure_writer.specs.Text.{word_at}
use Rattle.structure_writer.proofs.Numbers.{decimal-is, digit-bytes}
use Rattle.structure_writer.proofs.Labels.{word-is}
use Rattle.trial_texts.specs.Text.{name_text}

-- the names of n states, of which the first has the number i
abbrev pub names_from : ℕ → ℕ → List (List ℕ)
names_from i zero = []
names_from i (suc n) = name_text i ∷ names_from (i + 1) n

wide : (i : ℕ) → i ≤ 200000 → i < 10 ^ 64
wide i h = omega (arith, h)

never : ◌≡◌ {A = ℕ} 115 105 → ⊥
never e = omega (arith, e)

-- a name is a word other than `inj`
pub name-is : (i : ℕ) → i ≤ 200000 → IsName (name_text i)
name-is i small =
    let is = decimal-is i (wide i small) in
    let some : 0 < length (115 ∷ decimal i) = omega arith in
    let bytes : list_all is_word_byte (115 ∷ decimal i) ≡ true = digit-bytes (decimal i)
    is.digits in
    ((some, bytes), λ e. first (decimal i) e)
  where
    first : (ds : List ℕ) → 115 ∷ ds ≡ inj_word → ⊥
    first ds e = let same : ◌≡◌ {A = ℕ} 115 105 = cc in never same

-- it has at most seven bytes
pub name-short : (i : ℕ) → i < 200000 → length (name_text i) ≤ 7
name-short i small =
    let few : length (decimal i) ≤ 6 =
    length-decimal-le_wide 6 i (omega arith) (omega (arith, small)) (omega (arith, small)) in
    omega (arith, few)

rest_same : (x : ℕ) (xs ys : List ℕ) → ◌≡◌ {A = List ℕ} (x ∷ xs) (x ∷ ys) → xs ≡ ys
rest_same x xs ys e = cc

-- equal names have one number
one_number : (i j : ℕ) → i ≤ 200000 → j ≤ 200000 → is_same_word (name_text i) (name_text j) ≡ true
    → i ≡ j
one_number i j hi hj e =
    let same : decimal i ≡ decimal j =
    rest_same 115 (decimal i) (decimal j) ((bytes_eq-Decides (name_text i) (name_text j)).0 e) in
    sym ((decimal-is i (wide i hi)).number) ∙ ap number_of same ∙ (decimal-is j (wide j hj)).number

other_names : (i j : ℕ) → i < j → j ≤ 200000 → is_same_word (name_text i) (name_text j) ≡ false
other_names i j less hj = by (is_same_word (name_text i) (name_text j)) refl
  where
    by : (b : Bool) → is_same_word (name_text i) (name_text j) ≡ b → b ≡ false
    by true e =
        let same : i ≡ j = one_number i j (omega (arith, less, hj)) hj e in
        absurd (omega (arith, less, same))
    by false e = refl

all_other : (i k n : ℕ) → i < k → k + n ≤ 200000
    → AllByRecursion (λ y. is_same_word (name_text i) y ≡ false) (names_from k n)
all_other i k zero less h = tt
all_other i k (suc n) less h = (
  other_names i k less (omega (arith, h)),
  all_other i (k + 1) n (omega (arith, less))
      (omega (arith, h)),
)

distinct_from : (i n : ℕ) → i + n ≤ 200000 → IsDistinct is_same_word (names_from i n)
unfolding IsDistinct
distinct_from i zero h = tt
distinct_from i (suc n) h = (
  all_other i (i + 1) n (omega arith) (omega (arith, h)),
  distinct_from (i + 1) n
      (omega (arith, h)),
)

each_name : (i n : ℕ) → i + n ≤ 200000 → AllByRecursion IsName (names_from i n)
each_name i zero h = tt
each_name i (suc n) h = (name-is i (omega (arith, h)), each_name (i + 1) n (omega (arith, h)))

-- as many names as asked for
pub names-count : (i n : ℕ) → length (names_from i n) ≡ n
names-count i zero = refl
names-count i (suc n) = ap suc (names-count (i + 1) n)

-- the names of the states are names
pub names-are : (n : ℕ) → n ≤ 200000 → AreNames (names_from 0 n)
names-are n h = record {
  distinct = distinct_from 0 n (omega (arith, h));
  each = each_name 0 n (omega (arith, h));
  few = omega (arith, names-count 0 n, h);
}

-- ---- places

name_at : (k n i : ℕ) → i < n → word_at (names_from k n) i ≡ name_text (k + i)
name_at k zero i h = absurd (omega (arith, h))
name_at k (suc n) zero h = ap name_text (plus_none k)
  where
    plus_none : (k : ℕ) → k ≡ k + 0
    plus_none k = omega arith
name_at k (suc n) (suc i) h = name_at (k + 1) n i (omega (arith, h)) ∙ ap name_text (moved k i)
  where
    moved : (k i : ℕ) → k + 1 + i ≡ k + suc i
    moved k i = omega arith

-- the place of a name is its number
pub name-placed : (n i : ℕ) → n ≤ 200000 → i < n
    → place_of (name_text i) (names_from 0 n) ≡ Some i
name-placed n i few h =
    let count : length (names_from 0 n) ≡ n = names-count 0 n in
    let named = word-is (names_from 0 n) (names-are n few) i (omega (arith, count, h)) in
    let same : word_at (names_from 0 n) i ≡ name_text i = name_at 0 n i h
    ∙ ap name_text (none_plus i) in
    subst (λ (w : List ℕ). place_of w (names_from 0 n) ≡ Some i) same named.1
  where
    none_plus : (i : ℕ) → 0 + i ≡ i
    none_plus i = omega arith
