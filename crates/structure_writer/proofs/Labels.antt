-- What the texts of states and labels spell.
use Rattle.std.proofs.Common.{◌≡◌, ℕ, zero, suc, ◌+◌, ◌<◌, ◌≤◌, ◌^◌, true, false, not, cond, List, [], ◌∷◌, length, Some, None, slice_get, refl, ap, ◌∙◌, arith}
use Rattle.std.specs.Prelude.{nat_lt}
use Rattle.std.specs.List.{IsDistinct, position_or_len}
use Rattle.std.specs.Cmp.Lexicographic.{lists_equiv}
use Rattle.std.proofs.lemmas.Bool.{lt-ltb}
use Rattle.std.proofs.lemmas.Cmp.{nat_eq_equiv}
use Rattle.std.proofs.lemmas.Option.{none-some, same_Some, slice_get_within}
use Rattle.file_cut.specs.Bytes.{IsName}
use Rattle.functor_terms.specs.Words.{is_same_word, place_of, AreNames}
use Rattle.functor_terms.specs.declared.node.LabelSet.{LabelSet}
use Rattle.functor_terms.specs.declared.node.LabelSet.TheVariants.{Listed, Below}
use Rattle.functor_terms.specs.Terms.{AreLabels, label_count, label_number}
use Rattle.functor_terms.proofs.NamesLemmas.{word_is_name, all_at}
use Rattle.structure_writer.specs.Text.{word_at, label_word}
use Rattle.structure_writer.proofs.Numbers.{decimal-name, decimal-below}

-- the place of a word is its number
first_place : (words : List (List ℕ)) (i : ℕ) (w : List ℕ) → IsDistinct is_same_word words
    → slice_get words i ≡ Some w → position_or_len (is_same_word w) words ≡ i
unfolding IsDistinct
first_place [] i w d e = absurd (none-some w e)
first_place (x ∷ xs) zero w d e =
    let same : is_same_word w x ≡ true =
    ap (is_same_word w) (same_Some x w e) ∙ (lists_equiv nat_eq_equiv).refl w in
    ap (λ b. cond (not b) (1 + position_or_len (is_same_word w) xs) 0) same
first_place (x ∷ xs) (suc i) w d e =
    let other : is_same_word w x ≡ false =
    (lists_equiv nat_eq_equiv).symm w x
    ∙ all_at (λ y. is_same_word x y ≡ false) xs d.0 i w e in
    let rest : 1 + position_or_len (is_same_word w) xs ≡ suc i =
    omega (arith, first_place xs i w d.1 e) in
    ap (λ b. cond (not b) (1 + position_or_len (is_same_word w) xs) 0) other ∙ rest

place-at : (words : List (List ℕ)) (i : ℕ) (w : List ℕ) → IsDistinct is_same_word words
    → slice_get words i ≡ Some w → place_of w words ≡ Some i
place-at words i w d e =
    let first = first_place words i w d e in
    (λ k. cond (nat_lt (first k) (length words)) (Some (first k)) None)
    ∙ ap (λ b. cond b (Some i) None) (lt-ltb i (length words) (slice_get_within words i w e))

-- there is a word at each place below the length
word-there : (words : List (List ℕ)) (i : ℕ) → i < length words
    → slice_get words i ≡ Some (word_at words i)
word-there [] i h = absurd (omega (arith, h))
word-there (w ∷ words) zero h = refl
word-there (w ∷ words) (suc i) h = word-there words i (omega (arith, h))

-- the word with a number is a name, and its place is the number
pub word-is : (words : List (List ℕ)) → AreNames words → (i : ℕ) → i < length words
    → IsName (word_at words i) × (place_of (word_at words i) words ≡ Some i)
word-is words are i h =
    let at = word-there words i h in (
      word_is_name words are i (word_at words i) at,
      place-at words i (word_at words i) are.distinct at,
    )

-- the text of a label is a name, and it is read as the label
pub label-is : (labels : LabelSet) → AreLabels labels → (k : ℕ) → k < label_count labels
    → IsName (label_word labels k) × (label_number labels (label_word labels k) ≡ Some k)
label-is (Listed words) are k h = word-is words are.0 k h
label-is (Below n) are k h =
    let few : n ≤ 65536 = are.1 in
    let small : k < 10 ^ 64 = omega (arith, h, few) in
    (decimal-name k small, decimal-below n k small h)
