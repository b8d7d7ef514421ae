-- Labels are read exactly where they are spelled.
use Rattle.std.proofs.Common.{◌≡◌, ℕ, ◌<◌, ◌≤◌, List, [], ◌∷◌, ◌++◌, length, Option, Some, None, Bool, true, false, not, ◌&&◌, ◌||◌, cond, refl, sym, ap, ◌∙◌, subst, append_assoc, arith, true≢false}
use Rattle.std.specs.Prelude.{is_some, is_none, nat_lt, nat_le, option_and_then}
use Rattle.std.specs.List.{AllByRecursion, IsDistinct, list_any, list_all}
use Rattle.std.specs.Str.Parse.{digits_value}
use Rattle.std.proofs.lemmas.Bool.Decides.{nat_tests}
use Rattle.std.proofs.lemmas.Slice.Eq.{bytes_eq-Decides}
use Rattle.std.proofs.lemmas.Bool.{and_parts, and_from}
use Rattle.std.proofs.lemmas.Option.{some_pair_parts}
use Rattle.file_cut.specs.Bytes.{IsName, is_word_byte, inj_word}
use Rattle.file_cut.specs.Tokens.{is_inj}
use Rattle.functor_terms.specs.declared.node.LabelSet.{LabelSet}
use Rattle.functor_terms.specs.declared.node.LabelSet.TheVariants.{Listed, Below}
use Rattle.functor_terms.specs.declared.sign.Sign.{Sign}
use Rattle.functor_terms.specs.declared.sign.Sign.TheVariants.{Comma, OpenBrace, CloseBrace, Digits, Word}
use Rattle.functor_terms.specs.Words.{is_same_word, place_of}
use Rattle.functor_terms.specs.Terms.{AreLabels, label_limit}
use Rattle.functor_terms.specs.Signs.{is_comma, is_brace_end}
use Rattle.functor_terms.specs.Grammar.{SpellsEach, SpellsWord, SpellsLabels}
use Rattle.functor_terms.specs.Grammar.SpellsLabels.{below, listed}
use Rattle.functor_terms.specs.Reading.{word_at, words_at, is_name, is_new_name, ended, braces_at, below_at, labels_at}
use Rattle.functor_terms.proofs.NamesLemmas.{all-push, apart}
use Rattle.functor_terms.proofs.WordLemmas.{place-any}
use Rattle.functor_terms.proofs.SignTests.{comma_test, brace_end_test}
use Rattle.functor_terms.proofs.ItemLaws.{Found, IsSound, IsComplete, and_then_of, ended_of, ended_at, items-sound, Join, items-complete}

-- the test of names is right
is_name-name : (word : List ℕ) → is_name word ≡ true → IsName word
is_name-name word e =
    let (word_is, other) = and_parts (nat_lt 0 (length word) && list_all is_word_byte word)
    (not (is_inj word)) e in
    let (some, bytes) = and_parts (nat_lt 0 (length word)) (list_all is_word_byte word) word_is in (
      ((grind (arith, nat_tests)), bytes),
      (λ is. true≢false
          (sym other ∙ ap not ((bytes_eq-Decides word inj_word).1 is))),
    )

name-is_name : (word : List ℕ) → IsName word → is_name word ≡ true
name-is_name word ((some, bytes), other) =
    and_from (nat_lt 0 (length word) && list_all is_word_byte word) (not (is_inj word))
    (and_from (nat_lt 0 (length word)) (list_all is_word_byte word)
    (grind (arith, nat_tests)) bytes) (by (is_inj word) refl)
  where
    by : (b : Bool) → is_inj word ≡ b → not b ≡ true
    by true e = absurd (other ((bytes_eq-Decides word inj_word).0 e))
    by false e = refl

none-not_some : {X : Type 0} (o : Option X) → is_none o ≡ not (is_some o)
none-not_some None = refl
none-not_some (Some x) = refl

-- a word is new where it is none of those before
new-apart : (words : List (List ℕ)) (word : List ℕ) → is_none (place_of word words) ≡ not
    (list_any (is_same_word word) words)
new-apart words word = none-not_some (place_of word words)
    ∙ ap not (place-any (is_same_word word) words)

not_any : (words : List (List ℕ)) (word : List ℕ) → not (list_any (is_same_word word) words) ≡ true
    → AllByRecursion (λ y. is_same_word y word ≡ false) words
not_any [] word e = tt
not_any (x ∷ xs) word e = by (not_any xs word) (is_same_word word x) refl e
  where
    by : (not (list_any (is_same_word word) xs) ≡ true → AllByRecursion
        (λ y. is_same_word y word ≡ false) xs) → (b : Bool) → is_same_word word x ≡ b
        → not (b || list_any (is_same_word word) xs) ≡ true
        → (is_same_word x word ≡ false) × AllByRecursion
        (λ y. is_same_word y word ≡ false) xs
    by others true is e = absurd (true≢false (sym e))
    by others false is e = (apart word x is, others e)

distinct-push : (words : List (List ℕ)) (word : List ℕ) → IsDistinct is_same_word words
    → AllByRecursion (λ y. is_same_word y word ≡ false) words
    → IsDistinct is_same_word (words ++ word ∷ [])
unfolding IsDistinct
distinct-push [] word d all = (tt, tt)
distinct-push (x ∷ xs) word d all = (
  all-push (λ y. is_same_word x y ≡ false) xs word d.0 all.0,
  distinct-push xs word d.1 all.1,
)

all_first : {X : Type 0} (Q : X → Type 0) (xs ys : List X) (y : X)
    → AllByRecursion Q (xs ++ y ∷ ys) → Q y
all_first Q [] ys y all = all.0
all_first Q (x ∷ xs) ys y all = all_first Q xs ys y all.1

-- a word among distinct ones is none of those before it
distinct-new : (words others : List (List ℕ)) (word : List ℕ)
    → IsDistinct is_same_word (words ++ word ∷ others) → list_any (is_same_word word) words ≡ false
unfolding IsDistinct
distinct-new [] others word d = refl
distinct-new (x ∷ xs) others word d =
    (λ i. apart x word (all_first (λ y. is_same_word x y ≡ false) xs others word d.0) i || list_any
    (is_same_word word) xs) ∙ distinct-new xs others word d.1

-- distinct names, however many
abbrev AreDistinctNames : List (List ℕ) → Type 0
AreDistinctNames words = IsDistinct is_same_word words × AllByRecursion IsName words

names-push : (words : List (List ℕ)) (word : List ℕ) (ts : List Sign) → AreDistinctNames words
    → is_new_name words word ≡ true → SpellsWord ts word → AreDistinctNames (words ++ word ∷ [])
names-push words word ts (distinct, each) e spelled =
    let (name, new) = and_parts (is_name word) (is_none (place_of word words)) e in (
      distinct-push words word distinct (not_any words word (sym (new-apart words word) ∙ new)),
      all-push IsName words word each (is_name-name word name),
    )

names-join : (words more : List (List ℕ)) → IsDistinct is_same_word (words ++ more)
    → AllByRecursion IsName (words ++ more)
    → Join word_at is_comma Comma comma_test is_new_name words more
names-join words [] distinct each = tt
names-join words (x ∷ xs) distinct each =
    let regrouped : words ++ x ∷ xs ≡ (words ++ x ∷ []) ++ xs =
    sym (append_assoc words (x ∷ []) xs) in (
      and_from (is_name x) (is_none (place_of x words))
          (name-is_name x (all_first IsName words xs x each))
          (new-apart words x ∙ ap not (distinct-new words xs x distinct)),
      names-join (words ++ x ∷ []) xs
          (subst (λ (l : List (List ℕ)). IsDistinct is_same_word l) regrouped distinct)
          (subst (λ (l : List (List ℕ)). AllByRecursion IsName l) regrouped each),
    )

word-sound : IsSound word_at SpellsWord
word-sound [] x rest e = cc
word-sound (Word word ∷ ts) x rest e = let (here, there) = some_pair_parts word x ts rest e in
    record {
      front = Word word ∷ [];
      split = ap (λ l. Word word ∷ l) there;
      spelled =
          ap (λ w. Word w ∷ []) here;
    }
word-sound (_ ∷ ts) x rest e = cc

word-complete : IsComplete word_at SpellsWord (λ _. Unit {0})
word-complete front x rest spelled follows = ap (λ l. word_at (l ++ rest)) spelled

-- words of braces, some and not too many
abbrev SpellsWords : List Sign → List (List ℕ) → Type 0
SpellsWords ts words = SpellsEach Comma SpellsWord ts words × AreLabels (Listed words)

pub each_some : {A : Type 0} (between : Sign) (Spells : List Sign → A → Type 0) (ts : List Sign)
    (xs : List A) → SpellsEach between Spells ts xs → 0 < length xs
each_some between Spells ts [] each = absurd each
each_some between Spells ts (x ∷ xs) each = omega arith

words-sound : IsSound words_at SpellsWords
unfolding words_at IsDistinct
words-sound ts words rest e =
    let found = items-sound word_at is_comma Comma comma_test is_new_name SpellsWord word-sound
    AreDistinctNames names-push label_limit [] ts words rest (tt, tt) e in
    let few : length found.more ≤ 65536 = found.count in
    let same : length words ≡ length found.more = ap length found.items_are in
    let some : 0 < length found.more =
    each_some Comma SpellsWord found.front found.more found.each in
    record {
      front = found.front;
      split = found.split;
      spelled = (
        subst (λ (l : List (List ℕ)). SpellsEach Comma SpellsWord found.front l)
            (sym found.items_are) found.each,
        (
          record { distinct = found.kept.0; each = found.kept.1; few = omega (arith, few, same) },
          omega (arith, some, same),
          let fits : length words ≤ 65536 = omega (arith, few, same) in
              fits,
        ),
      );
    }

words-complete : (front : List Sign) (words : List (List ℕ)) (rest : List Sign)
    → SpellsEach Comma SpellsWord front words → AreLabels (Listed words)
    → words_at (front ++ CloseBrace ∷ rest) ≡ Some (words, CloseBrace ∷ rest)
unfolding words_at
words-complete front words rest each (names, some, few) =
    items-complete word_at is_comma Comma comma_test is_new_name SpellsWord
    (λ _. Unit {0}) word-complete (λ _. tt) label_limit [] front words (CloseBrace ∷ rest) each
    (names-join [] words names.distinct names.each) tt refl few

braces-sound : (ts : List Sign) (labels : LabelSet) (rest : List Sign)
    → braces_at ts ≡ Some (labels, rest) → Found SpellsLabels (OpenBrace ∷ ts) labels rest
braces-sound ts labels rest e =
    let (words, behind, read, closed) = and_then_of (λ words. ended is_brace_end (Listed words))
    (words_at ts) labels rest e in
    let (made, ends) = ended_of is_brace_end CloseBrace brace_end_test
    (Listed words) labels behind rest closed in
    let found = words-sound ts words behind read in
    record {
      front = OpenBrace ∷ found.front ++ CloseBrace ∷ [];
      split = ap (λ l. OpenBrace ∷ l) (found.split ∙ ap (λ l. found.front ++ l) ends
          ∙ sym (append_assoc found.front (CloseBrace ∷ []) rest));
      spelled = listed found.front words refl found.spelled.0 (sym made)
          (subst AreLabels made found.spelled.1);
    }

below-sound : (digits : List ℕ) (ts : List Sign) (labels : LabelSet) (rest : List Sign)
    → below_at (digits_value 10 digits) ts ≡ Some (labels, rest)
    → Found SpellsLabels (Digits digits ∷ ts) labels rest
below-sound digits ts labels rest e = by (nat_lt 0 (digits_value 10 digits) && nat_le
    (digits_value 10 digits) label_limit) refl e
  where
    bounds : (n : ℕ) → (nat_lt 0 n && nat_le n label_limit) ≡ true → (0 < n) × (n ≤ label_limit)
    bounds n e = let (low, high) = and_parts (nat_lt 0 n) (nat_le n label_limit) e in
        (grind (arith, nat_tests), grind (arith, nat_tests))

    by : (b : Bool) → (nat_lt 0 (digits_value 10 digits) && nat_le
        (digits_value 10 digits) label_limit) ≡ b → cond {A = Option (LabelSet × List Sign)} b
        (Some (Below (digits_value 10 digits), ts)) None ≡ Some (labels, rest)
        → Found SpellsLabels (Digits digits ∷ ts) labels rest
    by true is e =
        let (made, there) = some_pair_parts (Below (digits_value 10 digits)) labels ts rest e in
        record {
          front = Digits digits ∷ [];
          split = ap (λ l. Digits digits ∷ l) there;
          spelled = below digits refl (sym made) (subst AreLabels made
              (bounds (digits_value 10 digits) is));
        }
    by false is e = cc

-- labels that are read are spelled
pub labels-sound : IsSound labels_at SpellsLabels
labels-sound [] labels rest e = cc
labels-sound (Digits digits ∷ ts) labels rest e = below-sound digits ts labels rest e
labels-sound (OpenBrace ∷ ts) labels rest e = braces-sound ts labels rest e
labels-sound (_ ∷ ts) labels rest e = cc

below-complete : (n : ℕ) (rest : List Sign) → AreLabels (Below n)
    → below_at n rest ≡ Some (Below n, rest)
below-complete n rest (low, high) = ap (λ b. cond {A = Option (LabelSet × List Sign)} b
    (Some (Below n, rest)) None) (and_from (nat_lt 0 n) (nat_le n label_limit)
    (grind (arith, nat_tests)) (grind (arith, nat_tests)))

-- labels that are spelled are read
pub labels-complete : IsComplete labels_at SpellsLabels (λ _. Unit {0})
labels-complete front labels rest (below digits is made are) follows =
    ap (λ l. labels_at (l ++ rest)) is ∙ below-complete (digits_value 10 digits) rest
    (subst AreLabels made are) ∙ ap (λ (l : LabelSet). Some (l, rest)) (sym made)
labels-complete front labels rest (listed inner words is each made are) follows =
    ap (λ l. labels_at (l ++ rest)) is
    ∙ ap braces_at (append_assoc inner (CloseBrace ∷ []) rest)
    ∙ ap (option_and_then (λ p. ended is_brace_end (Listed p.0) p.1))
    (words-complete inner words rest each (subst AreLabels made are))
    ∙ ended_at is_brace_end CloseBrace brace_end_test (Listed words) rest
    ∙ ap (λ (l : LabelSet). Some (l, rest)) (sym made)
