-- The first token of a text.
use Rattle.std.proofs.Common.{◌≡◌, ℕ, suc, ◌+◌, ◌<◌, List, [], ◌∷◌, length, take, drop, Bool, true, false, cond, refl, sym, ap, ◌∙◌, subst, arith}
use Rattle.std.specs.Prelude.{◌&&◌, ◌==◌}
use Rattle.std.specs.Char.{is_ascii_digit}
use Rattle.std.specs.List.{prefix_len, list_all}
use Rattle.std.proofs.lemmas.Bool.{and_from}
use Rattle.std.proofs.lemmas.Bool.Decides.{nat_tests}
use Rattle.file_cut.specs.Bytes.{is_blank, is_word_byte}
use Rattle.functor_terms.specs.Signs.{outside, inside, signs_at, place_in, begins, digit_before, letter_before, cross_first, cross_second, brace, brace_end, comma, sign_of}
use Rattle.functor_terms.specs.declared.sign.Sign.TheVariants.{Times, OpenBrace, CloseBrace, Comma, Digits, Word, Stray}

-- a blank at the front is left out
pub skip : (braces : Bool) (b : ℕ) (bytes : List ℕ) → is_blank b ≡ true
    → signs_at (place_in braces) (b ∷ bytes) ≡ signs_at (place_in braces) bytes
unfolding signs_at
skip true b bytes e = rw e refl
skip false b bytes e = rw e refl

-- blanks at the front are left out
pub signs-blanks : (braces : Bool) (text : List ℕ)
    → signs_at (place_in braces) text ≡ signs_at (place_in braces)
    (drop (prefix_len is_blank text) text)
signs-blanks braces [] = refl
signs-blanks braces (b ∷ bytes) = by (is_blank b) refl (signs-blanks braces bytes)
  where
    by : (x : Bool) → is_blank b ≡ x → signs_at (place_in braces) bytes
        ≡ signs_at (place_in braces) (drop (prefix_len is_blank bytes) bytes)
        → signs_at (place_in braces) (b ∷ bytes)
        ≡ signs_at (place_in braces) (drop (cond x (1 + prefix_len is_blank bytes) 0)
        (b ∷ bytes))
    by true is rest =
        let one : suc (prefix_len is_blank bytes) ≡ 1 + prefix_len is_blank bytes = omega arith in
        skip braces b bytes is ∙ rest ∙ ap (λ m. signs_at (place_in braces) (drop m (b ∷ bytes)))
        one
    by false is rest = refl

-- blanks alone have no tokens
pub signs-none : (braces : Bool) (text behind : List ℕ)
    → behind ≡ drop (prefix_len is_blank text) text → length behind ≡ 0
    → signs_at (place_in braces) text ≡ []
unfolding signs_at
signs-none braces text behind is empty = signs-blanks braces text
    ∙ ap (signs_at (place_in braces)) (sym is) ∙ none behind empty
  where
    none : (l : List ℕ) → length l ≡ 0 → signs_at (place_in braces) l ≡ []
    none [] e = refl
    none (b ∷ bytes) e = absurd (omega (arith, e))

-- behind the blanks at the front stands no blank
pub blanks-end : (text : List ℕ) (b : ℕ) (bytes : List ℕ)
    → drop (prefix_len is_blank text) text ≡ b ∷ bytes → is_blank b ≡ false
blanks-end [] b bytes e = cc
blanks-end (c ∷ text) b bytes e = by (is_blank c) refl (blanks-end text b bytes) e
  where
    by : (x : Bool) → is_blank c ≡ x → (drop (prefix_len is_blank text) text ≡ b ∷ bytes
        → is_blank b ≡ false)
        → drop (cond x (1 + prefix_len is_blank text) 0) (c ∷ text) ≡ b ∷ bytes → is_blank b ≡ false
    by true is rest e =
        let one : suc (prefix_len is_blank text) ≡ 1 + prefix_len is_blank text = omega arith in
        rest (ap (λ m. drop m (c ∷ text)) one ∙ e)
    by false is rest e = let same : c ≡ b = cc in subst (λ d. is_blank d ≡ false) same is

-- a digit is no blank
pub digit-no-blank : (b : ℕ) → is_ascii_digit b ≡ true → is_blank b ≡ false
digit-no-blank b e = grind (arith, nat_tests)

letter-no-blank : (b : ℕ) → is_word_byte b ≡ true → is_blank b ≡ false
letter-no-blank b e = grind (arith, nat_tests)

-- digits take all digits that follow
pub signs-digits : (b : ℕ) (bytes : List ℕ) → is_ascii_digit b ≡ true
    → signs_at outside (b ∷ bytes) ≡ Digits (b ∷ take (prefix_len is_ascii_digit bytes) bytes) ∷
    signs_at outside (drop (prefix_len is_ascii_digit bytes) bytes)
unfolding signs_at
signs-digits b [] e = rw (digit-no-blank b e, e) refl
signs-digits b (c ∷ bytes) e = rw (digit-no-blank b e, e)
    (by (is_ascii_digit c) refl (signs-digits c bytes))
  where
    by : (x : Bool) → is_ascii_digit c ≡ x
        → (is_ascii_digit c ≡ true → signs_at outside (c ∷ bytes)
        ≡ Digits (c ∷ take (prefix_len is_ascii_digit bytes) bytes) ∷ signs_at outside
        (drop (prefix_len is_ascii_digit bytes) bytes))
        → cond x (digit_before b (signs_at outside (c ∷ bytes)))
        (Digits (b ∷ []) ∷ signs_at outside (c ∷ bytes))
        ≡ Digits (b ∷ take (cond x (1 + prefix_len is_ascii_digit bytes) 0) (c ∷ bytes)) ∷ signs_at
        outside (drop (cond x (1 + prefix_len is_ascii_digit bytes) 0) (c ∷ bytes))
    by true is rest =
        let one : suc (prefix_len is_ascii_digit bytes) ≡ 1 + prefix_len is_ascii_digit bytes =
        omega arith in
        ap (digit_before b) (rest is)
        ∙ ap (λ m. Digits (b ∷ take m (c ∷ bytes)) ∷ signs_at outside (drop m (c ∷ bytes))) one
    by false is rest = refl

-- a word takes all bytes of words that follow
pub signs-word : (b : ℕ) (bytes : List ℕ) → is_word_byte b ≡ true
    → signs_at inside (b ∷ bytes) ≡ Word (b ∷ take (prefix_len is_word_byte bytes) bytes) ∷ signs_at
    inside (drop (prefix_len is_word_byte bytes) bytes)
unfolding signs_at
signs-word b [] e = rw (letter-no-blank b e, e) refl
signs-word b (c ∷ bytes) e = rw (letter-no-blank b e, e)
    (by (is_word_byte c) refl (signs-word c bytes))
  where
    by : (x : Bool) → is_word_byte c ≡ x
        → (is_word_byte c ≡ true → signs_at inside (c ∷ bytes)
        ≡ Word (c ∷ take (prefix_len is_word_byte bytes) bytes) ∷ signs_at inside
        (drop (prefix_len is_word_byte bytes) bytes))
        → cond x (letter_before b (signs_at inside (c ∷ bytes)))
        (Word (b ∷ []) ∷ signs_at inside (c ∷ bytes))
        ≡ Word (b ∷ take (cond x (1 + prefix_len is_word_byte bytes) 0) (c ∷ bytes)) ∷ signs_at
        inside (drop (cond x (1 + prefix_len is_word_byte bytes) 0) (c ∷ bytes))
    by true is rest =
        let one : suc (prefix_len is_word_byte bytes) ≡ 1 + prefix_len is_word_byte bytes =
        omega arith in
        ap (letter_before b) (rest is)
        ∙ ap (λ m. Word (b ∷ take m (c ∷ bytes)) ∷ signs_at inside (drop m (c ∷ bytes))) one
    by false is rest = refl

-- the same, where the text is given whole
pub front-digits : (text others : List ℕ) (b : ℕ) → text ≡ b ∷ others → is_ascii_digit b ≡ true
    → signs_at outside text ≡ Digits (take (prefix_len is_ascii_digit text) text) ∷ signs_at outside
    (drop (prefix_len is_ascii_digit text) text)
front-digits text others b is e =
    subst (λ (l : List ℕ). signs_at outside l
    ≡ Digits (take (prefix_len is_ascii_digit l) l) ∷ signs_at outside
    (drop (prefix_len is_ascii_digit l) l)) (sym is)
    (signs-digits b others e
    ∙ ap (λ m. Digits (take m (b ∷ others)) ∷ signs_at outside (drop m (b ∷ others)))
    (one (is_ascii_digit b) e))
  where
    one : (x : Bool) → x ≡ true → suc (prefix_len is_ascii_digit others)
        ≡ cond x (1 + prefix_len is_ascii_digit others) 0
    one true e = omega arith
    one false e = cc

pub front-word : (text others : List ℕ) (b : ℕ) → text ≡ b ∷ others → is_word_byte b ≡ true
    → signs_at inside text ≡ Word (take (prefix_len is_word_byte text) text) ∷ signs_at inside
    (drop (prefix_len is_word_byte text) text)
front-word text others b is e =
    subst (λ (l : List ℕ). signs_at inside l ≡ Word (take (prefix_len is_word_byte l) l) ∷ signs_at
    inside (drop (prefix_len is_word_byte l) l)) (sym is)
    (signs-word b others e
    ∙ ap (λ m. Word (take m (b ∷ others)) ∷ signs_at inside (drop m (b ∷ others)))
    (one (is_word_byte b) e))
  where
    one : (x : Bool) → x ≡ true → suc (prefix_len is_word_byte others)
        ≡ cond x (1 + prefix_len is_word_byte others) 0
    one true e = omega arith
    one false e = cc

-- the bytes that pass at the front of a text that begins with one: some, and each passes
pub front-passes : (p : ℕ → Bool) (text others : List ℕ) (b : ℕ) → text ≡ b ∷ others → p b ≡ true
    → (0 < length (take (prefix_len p text) text))
    × (list_all p (take (prefix_len p text) text) ≡ true)
front-passes p text others b is e = subst (λ (l : List ℕ). (0 < length (take (prefix_len p l) l))
    × (list_all p (take (prefix_len p l) l) ≡ true)) (sym is) (some (p b) e, all (b ∷ others))
  where
    some : (x : Bool) → x ≡ true → 0 < length
        (take (cond x (1 + prefix_len p others) 0) (b ∷ others))
    some true e = let one : suc (prefix_len p others) ≡ 1 + prefix_len p others = omega arith in
        subst (λ m. 0 < length (take m (b ∷ others))) one (omega arith)
    some false e = cc

    all : (l : List ℕ) → list_all p (take (prefix_len p l) l) ≡ true
    all [] = refl
    all (c ∷ l) = by (p c) refl (all l)
      where
        by : (x : Bool) → p c ≡ x → list_all p (take (prefix_len p l) l) ≡ true
            → list_all p (take (cond x (1 + prefix_len p l) 0) (c ∷ l)) ≡ true
        by true here rest = let one : suc (prefix_len p l) ≡ 1 + prefix_len p l = omega arith in
            subst (λ m. list_all p (take m (c ∷ l)) ≡ true) one
            (and_from (p c) (list_all p (take (prefix_len p l) l)) here rest)
        by false here rest = refl

-- the sign of two bytes
pub front-cross : (text others rest : List ℕ) (b : ℕ) → text ≡ b ∷ others → b ≡ cross_first
    → others ≡ cross_second ∷ rest → signs_at outside text ≡ Times ∷ signs_at outside rest
unfolding signs_at
front-cross text others rest b is first second =
    let all : text ≡ cross_first ∷ cross_second ∷ rest = is ∙ (λ i. first i ∷ second i) in
    subst (λ (l : List ℕ). signs_at outside l ≡ Times ∷ signs_at outside rest) (sym all) refl

-- what opens braces
pub front-brace : (text others : List ℕ) (b : ℕ) → text ≡ b ∷ others → b ≡ brace
    → signs_at outside text ≡ OpenBrace ∷ signs_at inside others
unfolding signs_at
front-brace text others b is e =
    let all : text ≡ brace ∷ others = is ∙ ap (λ c. c ∷ others) e in
    subst (λ (l : List ℕ). signs_at outside l ≡ OpenBrace ∷ signs_at inside others) (sym all) refl

-- any other byte is a token by itself
pub front-sign : (text others : List ℕ) (b : ℕ) → text ≡ b ∷ others → is_blank b ≡ false
    → is_ascii_digit b ≡ false
    → ((b == cross_first) && begins (λ c. c == cross_second) others) ≡ false → (b == brace) ≡ false
    → signs_at outside text ≡ sign_of b ∷ signs_at outside others
unfolding signs_at
front-sign text others b is blank digit cross no_brace =
    subst (λ (l : List ℕ). signs_at outside l ≡ sign_of b ∷ signs_at outside others) (sym is)
    (rw (blank, digit, cross, no_brace) refl)

-- what ends braces, and what else stands in them
pub front-comma : (text others : List ℕ) (b : ℕ) → text ≡ b ∷ others → b ≡ comma
    → signs_at inside text ≡ Comma ∷ signs_at inside others
unfolding signs_at
front-comma text others b is e =
    let all : text ≡ comma ∷ others = is ∙ ap (λ c. c ∷ others) e in
    subst (λ (l : List ℕ). signs_at inside l ≡ Comma ∷ signs_at inside others) (sym all) refl

-- the end of braces is one token, and braces are left
pub front-end : (text others : List ℕ) (b : ℕ) → text ≡ b ∷ others → b ≡ brace_end
    → signs_at inside text ≡ CloseBrace ∷ signs_at outside others
unfolding signs_at
front-end text others b is e =
    let all : text ≡ brace_end ∷ others = is ∙ ap (λ c. c ∷ others) e in
    subst (λ (l : List ℕ). signs_at inside l ≡ CloseBrace ∷ signs_at outside others) (sym all) refl

-- a byte of no token is a stray one
pub front-stray : (text others : List ℕ) (b : ℕ) → text ≡ b ∷ others → is_blank b ≡ false
    → is_word_byte b ≡ false
    → (b == comma) ≡ false → (b == brace_end) ≡ false
    → signs_at inside text ≡ Stray ∷ signs_at inside others
unfolding signs_at
front-stray text others b is blank letter no_comma end =
    subst (λ (l : List ℕ). signs_at inside l ≡ Stray ∷ signs_at inside others) (sym is)
    (rw (blank, letter, no_comma, end) refl)

module _ (text others : List ℕ) (b : ℕ) (is : text ≡ b ∷ others) (n : ℕ) (front rest word : List ℕ)
    (front_is : front ≡ take n text) (rest_is : rest ≡ drop n text) (word_is : word ≡ front) where
  -- digits that are cut from the front
  pub cut-digits : is_ascii_digit b ≡ true → n ≡ prefix_len is_ascii_digit text
      → signs_at outside text ≡ Digits word ∷ signs_at outside rest
  cut-digits digit len =
      front-digits text others b is digit
      ∙ (λ i. Digits (take (sym len i) text) ∷ signs_at outside (drop (sym len i) text))
      ∙ (λ i. Digits (sym (word_is ∙ front_is) i) ∷ signs_at outside (sym rest_is i))

  -- a word that is cut from the front
  pub cut-word : is_word_byte b ≡ true → n ≡ prefix_len is_word_byte text
      → signs_at inside text ≡ Word word ∷ signs_at inside rest
  cut-word letter len =
      front-word text others b is letter
      ∙ (λ i. Word (take (sym len i) text) ∷ signs_at inside (drop (sym len i) text))
      ∙ (λ i. Word (sym (word_is ∙ front_is) i) ∷ signs_at inside (sym rest_is i))

  -- each of its bytes passes
  pub cut-passes : (p : ℕ → Bool) → p b ≡ true → n ≡ prefix_len p text
      → (0 < length word) × (list_all p word ≡ true)
  cut-passes p passes len =
      subst (λ (l : List ℕ). (0 < length l) × (list_all p l ≡ true))
      (sym (word_is ∙ front_is ∙ ap (λ m. take m text) len))
      (front-passes p text others b is passes)
