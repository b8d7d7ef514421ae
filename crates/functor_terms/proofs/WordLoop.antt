-- One turn of the loop that reads the words of braces.
use Rattle.std.proofs.Common.{◌≡◌, ℕ, suc, ◌+◌, ◌-◌, ◌<◌, ◌≤◌, ◌∷◌, [], ◌++◌, List, length, Some, None, true, false, sym, ap, ◌∙◌, arith, length-append}
use Rattle.file_cut.specs.Bytes.{IsWord}
use Rattle.file_cut.specs.Tokens.{is_inj}
use Rattle.functor_terms.specs.declared.sign.Sign.{Sign}
use Rattle.functor_terms.specs.Terms.{label_limit}
use Rattle.functor_terms.specs.Words.{place_of}
use Rattle.functor_terms.specs.Signs.{is_comma}
use Rattle.functor_terms.specs.Reading.{behind_sign, word_at, is_new_name, items_from, words_at}
use Rattle.functor_terms.proofs.GiveLaws.{joins-new, joins-old, joins-inj}
use Rattle.functor_terms.proofs.LoopLaws.{loop-out, loop-fails, loop-refuses, loop-ends, loop-goes}

-- no words yet
pub words-none : (ts : List Sign) (words : List (List ℕ)) → words ≡ []
    → items_from word_at is_comma is_new_name (label_limit - length words) words ts ≡ words_at ts
unfolding words_at
words-none ts words e =
    ap (λ (l : List (List ℕ)). items_from word_at is_comma is_new_name (label_limit - length l) l
    ts) e

module _ (ts : List Sign) (words : List (List ℕ)) (left : List Sign)
    (kept : items_from word_at is_comma is_new_name (label_limit - length words) words left
    ≡ words_at ts) where
  -- past the limit there are no more words
  pub words-out : label_limit ≤ length words → words_at ts ≡ None
  words-out full = loop-out word_at is_comma is_new_name (words_at ts) (label_limit - length words)
      words left kept (let full' : 65536 ≤ length words = full in omega (arith, full'))

  module _ (room : length words < label_limit) where
    next : label_limit - length words ≡ suc (label_limit - (length words + 1))
    next = let room' : length words < 65536 = room in omega (arith, room')

    -- where a word is not read there are no words
    pub words-fails : word_at left ≡ None → words_at ts ≡ None
    words-fails e = loop-fails word_at is_comma is_new_name (words_at ts)
        (label_limit - length words) words left kept (label_limit - (length words + 1)) next e

    module _ (word : List ℕ) (rest : List Sign) (read : word_at left ≡ Some (word, rest)) where
      -- inj is no label
      pub words-inj : is_inj word ≡ true → words_at ts ≡ None
      words-inj e = loop-refuses word_at is_comma is_new_name (words_at ts)
          (label_limit - length words) words left kept (label_limit - (length words + 1)) next word
          rest read (joins-inj words word e)

      module _ (is : IsWord word) (other : is_inj word ≡ false) where
        -- a word that was read before is no new label
        pub words-old : (place_of word words ≡ None → ⊥) → words_at ts ≡ None
        words-old old =
            loop-refuses word_at is_comma is_new_name (words_at ts) (label_limit - length words)
            words left kept (label_limit - (length words + 1)) next word rest read
            (joins-old words word is other old)

        module _ (new : place_of word words ≡ None) (more : List (List ℕ))
            (pushed : more ≡ words ++ word ∷ []) where
          -- where no comma follows, the words are those that were read
          pub words-ends : behind_sign is_comma rest ≡ None → (same : List Sign) → same ≡ rest
              → words_at ts ≡ Some (more, same)
          words-ends ends same e =
              loop-ends word_at is_comma is_new_name (words_at ts) (label_limit - length words)
              words left kept (label_limit - (length words + 1)) next word rest read
              (joins-new words word is other new) ends
              ∙ (λ i. Some (sym pushed i, sym e i))

          -- where a comma follows, the words go on
          pub words-goes : (others : List Sign) → behind_sign is_comma rest ≡ Some others
              → items_from word_at is_comma is_new_name (label_limit - length more) more others
              ≡ words_at ts
          words-goes others follows =
              let count : label_limit - length more ≡ label_limit - (length words + 1) =
              omega (arith, ap length pushed, length-append words (word ∷ [])) in
              (λ i. items_from word_at is_comma is_new_name (count i) (pushed i) others)
              ∙ loop-goes word_at is_comma is_new_name (words_at ts) (label_limit - length words)
              words left kept (label_limit - (length words + 1)) next word rest read
              (joins-new words word is other new) others follows
