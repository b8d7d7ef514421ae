-- The tokens of a line are its longest words, and single bytes, with blanks around them.
use Rattle.std.proofs.Common.{◌≡◌, ℕ, ◌+◌, List, [], ◌∷◌, ◌++◌, length, Bool, true, false, refl, sym, ap, ◌∙◌, subst, arith, inl, inr}
use Rattle.std.specs.Prelude.{◌&&◌, ◌==◌, if◌then◌else◌, map}
use Rattle.std.specs.List.{list_all}
use Rattle.std.proofs.lemmas.Bool.{and_parts, and_from}
use Rattle.file_cut.specs.Bytes.{is_blank, is_word_byte, inj_word, IsName}
use Rattle.file_cut.specs.declared.mark.Mark.{Mark}
use Rattle.file_cut.specs.declared.mark.Mark.TheVariants.{Word, Inj, Open, Close, OpenBrace, CloseBrace, Comma, Colon, Stray}
use Rattle.file_cut.specs.Tokens.{Piece, piece, joined, put, begins_with_word, tokens_from, tokens_of, IsToken, AreTokensOf, is_inj, parenthesis, parenthesis_end, brace, brace_end, comma, colon, sign_of, mark_of, marks}
use Rattle.file_cut.proofs.TokenLaws.{blank_ends}

true_false : true ≡ false → ⊥
true_false e = cc

apart : (b : ℕ) → is_word_byte b ≡ true → is_blank b ≡ true → ⊥
apart b word blank = true_false (sym blank ∙ blank_ends b word)

-- a byte of no word is no word in the grammar
sign_of-word : (b : ℕ) (head : List ℕ) → sign_of b ≡ Word head → ⊥
sign_of-word b head is = by (b == parenthesis) (b == parenthesis_end) (b == brace) (b == brace_end)
    (b == comma) (b == colon) is
  where
    by : (o c ob cb m d : Bool) →
        (if o then Open else (if c then Close else
        (if ob then OpenBrace else (if cb then CloseBrace else
        (if m then Comma else (if d then Colon else Stray)))))) ≡ Word head → ⊥
    by true c ob cb m d is = cc
    by false true ob cb m d is = cc
    by false false true cb m d is = cc
    by false false false true m d is = cc
    by false false false false true d is = cc
    by false false false false false true is = cc
    by false false false false false false is = cc

-- a byte of a word joins the word behind it
join-cut : (b at : ℕ) (bytes : List ℕ) (pieces : List Piece) → is_word_byte b ≡ true
    → begins_with_word bytes ≡ true → AreTokensOf (at + 1) bytes pieces
    → AreTokensOf at (b ∷ bytes) (joined b at pieces)
join-cut b at [] [] word begins cut = cc
join-cut b at (c ∷ bytes) [] word begins cut =
    absurd (apart c begins (and_parts (is_blank c) (list_all is_blank bytes) cut).0)
join-cut b at bytes (p ∷ pieces) word begins
    ([], rest, is, blanks, place, inl ((some, letters), ends), others) =
    let moved : p.at + length p.text ≡ at + length (b ∷ p.text) = omega arith in (
      [],
      rest,
      ap (λ l. b ∷ l) is,
      refl,
      omega arith,
      inl (
        (omega arith, and_from (is_word_byte b) (list_all is_word_byte p.text) word letters),
        ends,
      ),
      subst (λ n. AreTokensOf n rest pieces) moved others,
    )
join-cut b at bytes (p ∷ pieces) word begins
    ([], rest, is, blanks, place, inr (c, single, letter, blank), others) =
    let front : bytes ≡ c ∷ rest = is ∙ ap (λ l. l ++ rest) single in
    absurd (true_false (sym begins ∙ ap begins_with_word front ∙ letter))
join-cut b at bytes (p ∷ pieces) word begins (g ∷ gap, rest, is, blanks, place, token, others) =
    absurd (apart g (sym (ap begins_with_word is) ∙ begins)
    (and_parts (is_blank g) (list_all is_blank gap) blanks).0)

-- a blank joins the blanks behind it
blank-cut : (b at : ℕ) (bytes : List ℕ) (pieces : List Piece) → is_blank b ≡ true
    → AreTokensOf (at + 1) bytes pieces → AreTokensOf at (b ∷ bytes) pieces
blank-cut b at bytes [] blank cut = and_from (is_blank b) (list_all is_blank bytes) blank cut
blank-cut b at bytes (p ∷ pieces) blank (gap, rest, is, blanks, place, token, others) = (
  b ∷ gap,
  rest,
  ap (λ l. b ∷ l) is,
  and_from (is_blank b)
      (list_all is_blank gap) blank blanks,
  omega arith,
  token,
  others,
)

-- any other byte stands by itself
single-cut : (b at : ℕ) (bytes : List ℕ) (pieces : List Piece) → IsToken (b ∷ []) bytes
    → AreTokensOf (at + 1) bytes pieces → AreTokensOf at (b ∷ bytes) (piece (b ∷ []) at ∷ pieces)
single-cut b at bytes pieces token cut = ([], bytes, refl, refl, omega arith, token, cut)

put-cut : (blank word begins : Bool) (b at : ℕ) (bytes : List ℕ) (pieces : List Piece)
    → is_blank b ≡ blank → is_word_byte b ≡ word → begins_with_word bytes ≡ begins
    → AreTokensOf (at + 1) bytes pieces
    → AreTokensOf at (b ∷ bytes) (put blank (word && begins) b at pieces)
put-cut true word begins b at bytes pieces is letter next cut = blank-cut b at bytes pieces is cut
put-cut false true true b at bytes pieces is letter next cut =
    join-cut b at bytes pieces letter next cut
put-cut false true false b at bytes pieces is letter next cut =
    single-cut b at bytes pieces (inl
    ((omega arith, and_from (is_word_byte b) true letter refl), next)) cut
put-cut false false begins b at bytes pieces is letter next cut =
    single-cut b at bytes pieces (inr (b, refl, letter, is)) cut

-- the tokens that are cut are those of the line
pub tokens-cut : (at : ℕ) (line : List ℕ) → AreTokensOf at line (tokens_from at line)
tokens-cut at [] = refl
tokens-cut at (b ∷ bytes) = put-cut (is_blank b) (is_word_byte b)
    (begins_with_word bytes) b at bytes (tokens_from (at + 1) bytes) refl refl refl
    (tokens-cut (at + 1) bytes)

inj_is : (word : List ℕ) → word ≡ inj_word → is_inj word ≡ true
inj_is word is = ap is_inj is

-- a token that is a word in the grammar is a name
token-name : (text rest head : List ℕ) → IsToken text rest → mark_of text ≡ Word head → IsName head
token-name [] rest head token is = cc
token-name (b ∷ bytes) rest head token is =
    by (is_word_byte b) (is_inj (b ∷ bytes)) refl refl token is
  where
    by : (letter inj : Bool) → is_word_byte b ≡ letter → is_inj (b ∷ bytes) ≡ inj
        → IsToken (b ∷ bytes) rest → (if letter then
        (if inj then Inj else Word (b ∷ bytes)) else sign_of b) ≡ Word head → IsName head
    by false inj letter other token is = absurd (sign_of-word b head is)
    by true true letter other token is = cc
    by true false letter other (inl (word, ends)) is =
        let same : b ∷ bytes ≡ head = cc in
        subst IsName same (word, λ e. true_false (sym (inj_is (b ∷ bytes) e) ∙ other))
    by true false letter other (inr (c, single, no_letter, blank)) is =
        let first : b ≡ c = cc in
        absurd (true_false (sym letter ∙ ap is_word_byte first ∙ no_letter))

-- so a line begins with a word only by a name
pub name-first : (line head : List ℕ) (others : List Mark) → marks line ≡ Word head ∷ others
    → IsName head
name-first line head others is = by (tokens_of line) (tokens-cut 0 line) is
  where
    by : (pieces : List Piece) → AreTokensOf 0 line pieces
        → map (λ p. mark_of p.text) pieces ≡ Word head ∷ others → IsName head
    by [] cut is = cc
    by (p ∷ pieces) (gap, rest, split, blanks, place, token, more) is =
        let first : mark_of p.text ≡ Word head = cc in
        token-name p.text rest head token first
