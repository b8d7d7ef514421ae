-- The first token of a text.
use Rattle.std.proofs.Common.{◌≡◌, ℕ, suc, ◌+◌, ◌<◌, ◌≤◌, List, [], ◌∷◌, length, take, drop, map, Bool, true, false, cond, refl, sym, ap, ◌∙◌, subst, arith, length-drop, length-take-le}
use Rattle.std.specs.Prelude.{◌&&◌}
use Rattle.std.specs.List.{prefix_len}
use Rattle.std.proofs.lemmas.List.Sums.{prefix_len-le-length}
use Rattle.std.proofs.lemmas.Bool.Decides.{nat_tests}
use Rattle.file_cut.specs.Bytes.{is_blank, is_word_byte}
use Rattle.file_cut.specs.Tokens.{Piece, piece, joined, put, begins_with_word, tokens_from, token_len, mark_of, marks, IsFirstToken}
use Rattle.file_cut.specs.declared.mark.Mark.{Mark}

-- no blank is in a word
pub blank_ends : (b : ℕ) → is_word_byte b ≡ true → is_blank b ≡ false
blank_ends b word = grind (arith, nat_tests)

-- blanks at the front are left out
tokens-blanks : (at : ℕ) (line : List ℕ)
    → tokens_from at line ≡ tokens_from (at + prefix_len is_blank line)
    (drop (prefix_len is_blank line) line)
tokens-blanks at [] = refl
tokens-blanks at (b ∷ bytes) = by (is_blank b) refl (tokens-blanks (at + 1) bytes)
  where
    by : (x : Bool) → is_blank b ≡ x
        → tokens_from (at + 1) bytes ≡ tokens_from (at + 1 + prefix_len is_blank bytes)
        (drop (prefix_len is_blank bytes) bytes)
        → put x (is_word_byte b && begins_with_word bytes) b at (tokens_from (at + 1) bytes)
        ≡ tokens_from (at + cond x (1 + prefix_len is_blank bytes) 0)
        (drop (cond x (1 + prefix_len is_blank bytes) 0) (b ∷ bytes))
    by true is rest =
        let one : suc (prefix_len is_blank bytes) ≡ 1 + prefix_len is_blank bytes = omega arith in
        let moved : at + 1 + prefix_len is_blank bytes
        ≡ at + suc (prefix_len is_blank bytes) = omega arith in
        rest ∙ ap (λ n. tokens_from n (drop (prefix_len is_blank bytes) bytes)) moved
        ∙ ap (λ m. tokens_from (at + m) (drop m (b ∷ bytes))) one
    by false is rest =
        let same : at ≡ at + 0 = omega arith in
        ap (λ y. put y (is_word_byte b && begins_with_word bytes) b at
        (tokens_from (at + 1) bytes)) (sym is) ∙ ap (λ n. tokens_from n (b ∷ bytes)) same

-- a word takes all bytes of words that follow
tokens-word : (at b : ℕ) (bytes : List ℕ) → is_word_byte b ≡ true
    → tokens_from at (b ∷ bytes) ≡ piece (b ∷ take (prefix_len is_word_byte bytes) bytes) at
    ∷ tokens_from (at + suc (prefix_len is_word_byte bytes))
    (drop (prefix_len is_word_byte bytes) bytes)
tokens-word at b [] word = λ i. put (blank_ends b word i) (word i && false) b at []
tokens-word at b (c ∷ bytes) word =
    (λ i. put (blank_ends b word i) (word i && is_word_byte c) b at
    (tokens_from (at + 1) (c ∷ bytes))) ∙ by (is_word_byte c) refl (tokens-word (at + 1) c bytes)
  where
    by : (x : Bool) → is_word_byte c ≡ x
        → (is_word_byte c ≡ true → tokens_from (at + 1) (c ∷ bytes)
        ≡ piece (c ∷ take (prefix_len is_word_byte bytes) bytes) (at + 1)
        ∷ tokens_from (at + 1 + suc (prefix_len is_word_byte bytes))
        (drop (prefix_len is_word_byte bytes) bytes))
        → put false x b at (tokens_from (at + 1) (c ∷ bytes))
        ≡ piece (b ∷ take (cond x (1 + prefix_len is_word_byte bytes) 0) (c ∷ bytes)) at
        ∷ tokens_from (at + suc (cond x (1 + prefix_len is_word_byte bytes) 0))
        (drop (cond x (1 + prefix_len is_word_byte bytes) 0) (c ∷ bytes))
    by true is rest =
        let one : suc (prefix_len is_word_byte bytes)
        ≡ 1 + prefix_len is_word_byte bytes = omega arith in
        let moved : at + 1 + suc (prefix_len is_word_byte bytes)
        ≡ at + suc (suc (prefix_len is_word_byte bytes)) = omega arith in
        ap (joined b at) (rest is)
        ∙ ap (λ n. piece (b ∷ c ∷ take (prefix_len is_word_byte bytes) bytes) at
        ∷ tokens_from n (drop (prefix_len is_word_byte bytes) bytes)) moved
        ∙ ap (λ m. piece (b ∷ take m (c ∷ bytes)) at
        ∷ tokens_from (at + suc m) (drop m (c ∷ bytes))) one
    by false is rest = refl

-- the token at the front, where no blank stands there
tokens-front : (at b : ℕ) (bytes : List ℕ) → is_blank b ≡ false
    → tokens_from at (b ∷ bytes) ≡ piece (take (token_len (b ∷ bytes)) (b ∷ bytes)) at
    ∷ tokens_from (at + token_len (b ∷ bytes)) (drop (token_len (b ∷ bytes)) (b ∷ bytes))
tokens-front at b bytes front = by (is_word_byte b) refl
  where
    by : (x : Bool) → is_word_byte b ≡ x
        → tokens_from at (b ∷ bytes) ≡ piece
        (take (cond x (prefix_len is_word_byte bytes + 1) 1) (b ∷ bytes)) at
        ∷ tokens_from (at + cond x (prefix_len is_word_byte bytes + 1) 1)
        (drop (cond x (prefix_len is_word_byte bytes + 1) 1) (b ∷ bytes))
    by true is =
        let one : suc (prefix_len is_word_byte bytes)
        ≡ prefix_len is_word_byte bytes + 1 = omega arith in
        tokens-word at b bytes is ∙ ap
        (λ m. piece (take m (b ∷ bytes)) at ∷ tokens_from (at + m) (drop m (b ∷ bytes))) one
    by false is = λ i. put (front i) (is i && begins_with_word bytes) b at
        (tokens_from (at + 1) bytes)

-- it has a byte, and ends in the text
pub token_len-within : (b : ℕ) (bytes : List ℕ)
    → (0 < token_len (b ∷ bytes)) × (token_len (b ∷ bytes) ≤ length (b ∷ bytes))
token_len-within b bytes = by (is_word_byte b)
  where
    by : (x : Bool) → (0 < cond x (prefix_len is_word_byte bytes + 1) 1)
        × (cond x (prefix_len is_word_byte bytes + 1) 1 ≤ suc (length bytes))
    by true = (omega arith, omega (arith, prefix_len-le-length is_word_byte bytes))
    by false = (omega arith, omega arith)

-- behind the blanks at the front stands no blank
blanks-end : (line : List ℕ) (b : ℕ) (bytes : List ℕ)
    → drop (prefix_len is_blank line) line ≡ b ∷ bytes → is_blank b ≡ false
blanks-end [] b bytes e = cc
blanks-end (c ∷ line) b bytes e = by (is_blank c) refl (blanks-end line b bytes) e
  where
    by : (x : Bool) → is_blank c ≡ x
        → (drop (prefix_len is_blank line) line ≡ b ∷ bytes → is_blank b ≡ false)
        → drop (cond x (1 + prefix_len is_blank line) 0) (c ∷ line) ≡ b ∷ bytes → is_blank b ≡ false
    by true is rest e =
        let one : suc (prefix_len is_blank line) ≡ 1 + prefix_len is_blank line = omega arith in
        rest (ap (λ m. drop m (c ∷ line)) one ∙ e)
    by false is rest e = let same : c ≡ b = cc in subst (λ d. is_blank d ≡ false) same is

first_behind : (line after : List ℕ) (skipped : ℕ)
    → ((at : ℕ) → tokens_from at line ≡ tokens_from (at + skipped) after)
    → skipped + length after ≡ length line → 0 < length after
    → ((b : ℕ) (bytes : List ℕ) → after ≡ b ∷ bytes → is_blank b ≡ false)
    → IsFirstToken line skipped (take (token_len after) after) (drop (token_len after) after)
first_behind line [] skipped moved lengths some front = absurd (omega arith)
first_behind line (b ∷ bytes) skipped moved lengths some front =
    let (positive, within) = token_len-within b bytes in
    let taken : length (take (token_len (b ∷ bytes)) (b ∷ bytes))
    ≡ token_len (b ∷ bytes) = length-take-le (token_len (b ∷ bytes)) (b ∷ bytes) within in
    record {
      tokens = λ at. moved at ∙ tokens-front (at + skipped) b bytes (front b bytes refl)
          ∙ ap (λ n. piece (take (token_len (b ∷ bytes)) (b ∷ bytes)) (at + skipped)
          ∷ tokens_from (at + skipped + n) (drop (token_len (b ∷ bytes)) (b ∷ bytes)))
          (sym taken);
      lengths = omega (arith, taken, length-drop (token_len (b ∷ bytes)) (b ∷ bytes));
      some = omega arith;
    }

-- the token behind the blanks is the first
pub first_laws : (line : List ℕ) → 0 < length (drop (prefix_len is_blank line) line)
    → IsFirstToken line (prefix_len is_blank line)
    (take (token_len (drop (prefix_len is_blank line) line))
    (drop (prefix_len is_blank line) line))
    (drop (token_len (drop (prefix_len is_blank line) line)) (drop (prefix_len is_blank line) line))
first_laws line some =
    first_behind line (drop (prefix_len is_blank line) line) (prefix_len is_blank line)
    (λ at. tokens-blanks at line)
    (omega (
      arith,
      length-drop (prefix_len is_blank line) line,
      prefix_len-le-length is_blank
          line,
    )) some (blanks-end line)

-- blanks alone have no token
pub no_tokens : (line : List ℕ) → length (drop (prefix_len is_blank line) line) ≡ 0 → (at : ℕ)
    → tokens_from at line ≡ []
no_tokens line none at = tokens-blanks at line ∙ by (drop (prefix_len is_blank line) line) none
  where
    by : (after : List ℕ) → length after ≡ 0
        → tokens_from (at + prefix_len is_blank line) after ≡ []
    by [] none = refl
    by (b ∷ after) none = absurd (omega arith)

joined-few : (b at : ℕ) (pieces : List Piece) → length (joined b at pieces) ≤ suc (length pieces)
joined-few b at [] = omega arith
joined-few b at (p ∷ pieces) = omega arith

put-few : (blank goes_on : Bool) (b at : ℕ) (pieces : List Piece)
    → length (put blank goes_on b at pieces) ≤ suc (length pieces)
put-few true goes_on b at pieces = omega arith
put-few false true b at pieces = joined-few b at pieces
put-few false false b at pieces = omega arith

-- no line has more tokens than bytes
pub tokens_few : (at : ℕ) (line : List ℕ) → length (tokens_from at line) ≤ length line
tokens_few at [] = omega arith
tokens_few at (b ∷ bytes) = omega (
  arith,
  put-few (is_blank b) (is_word_byte b && begins_with_word bytes) b at
      (tokens_from (at + 1) bytes),
  tokens_few (at + 1) bytes,
)

-- what the tokens are doesn't depend on where they stand
abbrev marks_from : ℕ → List ℕ → List Mark
marks_from at line = map (λ p. mark_of p.text) (tokens_from at line)

texts-joined : (b n m : ℕ) (xs ys : List Piece) → map (λ p. p.text) xs ≡ map (λ p. p.text) ys
    → map (λ p. p.text) (joined b n xs) ≡ map (λ p. p.text) (joined b m ys)
texts-joined b n m [] [] e = refl
texts-joined b n m [] (y ∷ ys) e = cc
texts-joined b n m (x ∷ xs) [] e = cc
texts-joined b n m (x ∷ xs) (y ∷ ys) e =
    let first : x.text ≡ y.text = cc in
    let others : map (λ p. p.text) xs ≡ map (λ p. p.text) ys = cc in
    λ i. (b ∷ first i) ∷ others i

texts-put : (blank begins : Bool) (b n m : ℕ) (xs ys : List Piece)
    → map (λ p. p.text) xs ≡ map (λ p. p.text) ys
    → map (λ p. p.text) (put blank begins b n xs) ≡ map (λ p. p.text) (put blank begins b m ys)
texts-put true begins b n m xs ys e = e
texts-put false true b n m xs ys e = texts-joined b n m xs ys e
texts-put false false b n m xs ys e = ap (λ ts. (b ∷ []) ∷ ts) e

texts-moved : (n m : ℕ) (line : List ℕ)
    → map (λ p. p.text) (tokens_from n line) ≡ map (λ p. p.text) (tokens_from m line)
texts-moved n m [] = refl
texts-moved n m (b ∷ bytes) =
    texts-put (is_blank b) (is_word_byte b && begins_with_word bytes) b n m
    (tokens_from (n + 1) bytes) (tokens_from (m + 1) bytes) (texts-moved (n + 1) (m + 1) bytes)

marks-of_texts : (xs : List Piece)
    → map (λ p. mark_of p.text) xs ≡ map mark_of (map (λ p. p.text) xs)
marks-of_texts [] = refl
marks-of_texts (x ∷ xs) = ap (λ ts. mark_of x.text ∷ ts) (marks-of_texts xs)

marks-moved : (n m : ℕ) (line : List ℕ) → marks_from n line ≡ marks_from m line
marks-moved n m line = marks-of_texts (tokens_from n line)
    ∙ ap (map mark_of) (texts-moved n m line) ∙ sym (marks-of_texts (tokens_from m line))

-- the first mark, and those behind it
pub marks-first : (line : List ℕ) (skipped : ℕ) (token rest : List ℕ)
    → IsFirstToken line skipped token rest → marks line ≡ mark_of token ∷ marks rest
marks-first line skipped token rest first = ap (map (λ p. mark_of p.text)) (first.tokens 0)
    ∙ ap (λ ts. mark_of token ∷ ts) (marks-moved (0 + skipped + length token) 0 rest)

pub no_marks : (line : List ℕ) → ((at : ℕ) → tokens_from at line ≡ []) → marks line ≡ []
no_marks line none = ap (map (λ p. mark_of p.text)) (none 0)
