-- What functions that read answer, and names that were read.
use Rattle.std.proofs.Common.{◌≡◌, ℕ, List, length, Option, Some, None, Bool, true, false, not, refl, sym, ◌∙◌, true≢false, arith}
use Rattle.std.specs.Prelude.{Err, is_none, nat_lt, ◌&&◌}
use Rattle.std.specs.List.{list_all}
use Rattle.std.proofs.lemmas.Bool.Decides.{nat_tests}
use Rattle.std.proofs.lemmas.Slice.Eq.{bytes_eq-Decides}
use Rattle.file_cut.specs.Bytes.{IsName, IsWord, is_word_byte, inj_word}
use Rattle.file_cut.specs.Tokens.{is_inj}
use Rattle.functor_terms.specs.declared.fault.TermFault.{TermFault}
use Rattle.functor_terms.specs.declared.fault.TermFault.TheVariants.{Grammar, NoMemory}
use Rattle.functor_terms.specs.declared.sign.Sign.{Sign}
use Rattle.functor_terms.specs.Words.{place_of}
use Rattle.functor_terms.specs.Reading.{Gives, is_name, is_new_name}

-- what failed inside fails outside, for the same reason
pub gives-err : {A B : Type 0} (e : TermFault) (r : Option (A × List Sign))
    (q : Option (B × List Sign)) → (r ≡ None → q ≡ None) → Gives {A = A} (Err e) r
    → Gives {A = B} (Err e) q
gives-err Grammar r q fails given = fails given
gives-err NoMemory r q fails given = tt

-- a word other than `inj` is a name
pub word-name : (word : List ℕ) → IsWord word → is_inj word ≡ false → IsName word
word-name word is other = (is, λ e. true≢false (sym ((bytes_eq-Decides word inj_word).1 e) ∙ other))

name-test : (word : List ℕ) → IsWord word → is_inj word ≡ false → is_name word ≡ true
name-test word (some, letters) other =
    let first : nat_lt 0 (length word) ≡ true = grind (arith, nat_tests) in
    λ i. (first i && letters i) && not (other i)

-- a word that is none of those before it may come
pub joins-new : (words : List (List ℕ)) (word : List ℕ) → IsWord word → is_inj word ≡ false
    → place_of word words ≡ None → is_new_name words word ≡ true
joins-new words word is other new = λ i. name-test word is other i && is_none (new i)

-- one that is among them may not
pub joins-old : (words : List (List ℕ)) (word : List ℕ) → IsWord word → is_inj word ≡ false
    → (place_of word words ≡ None → ⊥) → is_new_name words word ≡ false
joins-old words word is other old =
    (λ i. name-test word is other i && is_none (place_of word words)) ∙ by (place_of word words) old
  where
    by : (o : Option ℕ) → (o ≡ None → ⊥) → is_none o ≡ false
    by None h = absurd (h refl)
    by (Some n) h = refl

-- nor may `inj`
pub joins-inj : (words : List (List ℕ)) (word : List ℕ) → is_inj word ≡ true
    → is_new_name words word ≡ false
joins-inj words word e = by (nat_lt 0 (length word) && list_all is_word_byte word) (is_inj word) e
  where
    by : (a b : Bool) → b ≡ true → ((a && not b) && is_none (place_of word words)) ≡ false
    by true b e = λ i. not (e i) && is_none (place_of word words)
    by false b e = refl
