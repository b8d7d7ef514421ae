-- The tokens of a functor line. Outside braces letters and signs are tokens by themselves, and so
-- is each longest run of digits; inside braces each longest word is one. Blanks stand anywhere.
--
-- Place       == where a byte stands: outside braces, inside, or second of a sign of two bytes
-- signs_at    == the tokens of bytes that stand at such a place
-- signs       == the tokens of a functor line
-- is_plus ..  == whether a token is this sign
use Rattle.std.specs.Prelude.{ℕ, List, [], ◌∷◌, Bool, true, false, ◌&&◌, ◌==◌, if◌then◌else◌}
use Rattle.std.specs.Char.{is_ascii_digit}
use Rattle.file_cut.specs.Bytes.{is_blank, is_word_byte}
use Rattle.functor_terms.specs.declared.sign.Sign.{Sign}
use Rattle.functor_terms.specs.declared.sign.Sign.TheVariants.{X, P, B, D, N, Z, Q, Plus, Times, Caret, Open, Close, OpenBrace, CloseBrace, Comma, Digits, Word, Stray}

-- where a byte stands: outside braces, inside braces, or second of the two bytes of `×`
pub data Place : Type 0 where
  outside : Place
  inside : Place
  second : Place

-- the bytes begin with one that passes
abbrev pub begins : (ℕ → Bool) → List ℕ → Bool
begins passes [] = false
begins passes (b ∷ bytes) = passes b

-- the tokens with a digit more at the front of the first
abbrev pub digit_before : ℕ → List Sign → List Sign
digit_before b (Digits digits ∷ signs) = Digits (b ∷ digits) ∷ signs
digit_before b signs = Digits (b ∷ []) ∷ signs

-- the tokens with a byte more at the front of the first word
abbrev pub letter_before : ℕ → List Sign → List Sign
letter_before b (Word word ∷ signs) = Word (b ∷ word) ∷ signs
letter_before b signs = Word (b ∷ []) ∷ signs

-- what a byte outside braces is by itself
abbrev pub sign_of : ℕ → Sign
sign_of b =
    if b == 88 then X
    else (if b == 80 then P
    else (if b == 66 then B
    else (if b == 68 then D
    else (if b == 78 then N
    else (if b == 90 then Z
    else (if b == 81 then Q
    else (if b == 120 then Times
    else (if b == 42 then Times
    else (if b == 43 then Plus
    else (if b == 94 then Caret
    else (if b == 40 then Open
    else (if b == 41 then Close
    else Stray))))))))))))

-- the first byte of the sign `×`
abbrev pub cross_first : ℕ
cross_first = 195

-- the second byte of the sign `×`
abbrev pub cross_second : ℕ
cross_second = 151

-- the byte `{`
abbrev pub brace : ℕ
brace = 123

-- the byte `}`
abbrev pub brace_end : ℕ
brace_end = 125

-- the byte `,`
abbrev pub comma : ℕ
comma = 44

-- a byte outside braces and the tokens behind it
abbrev pub sign_outside : ℕ → List ℕ → (Place → List Sign) → List Sign
sign_outside b bytes behind =
    if is_blank b then behind outside
    else (if is_ascii_digit b then
    (if begins is_ascii_digit bytes then digit_before b (behind outside)
    else Digits (b ∷ []) ∷ behind outside)
    else (if (b == cross_first) && begins (λ c. c == cross_second) bytes then Times ∷ behind second
    else (if b == brace then OpenBrace ∷ behind inside
    else sign_of b ∷ behind outside)))

-- a byte inside braces and the tokens behind it
abbrev pub sign_inside : ℕ → List ℕ → (Place → List Sign) → List Sign
sign_inside b bytes behind =
    if is_blank b then behind inside
    else (if is_word_byte b then
    (if begins is_word_byte bytes then letter_before b (behind inside)
    else Word (b ∷ []) ∷ behind inside)
    else (if b == comma then Comma ∷ behind inside
    else (if b == brace_end then CloseBrace ∷ behind outside
    else Stray ∷ behind inside)))

-- the tokens of bytes of which the first stands at such a place
unfoldable pub signs_at : Place → List ℕ → List Sign
signs_at place [] = []
signs_at outside (b ∷ bytes) = sign_outside b bytes (λ place. signs_at place bytes)
signs_at inside (b ∷ bytes) = sign_inside b bytes (λ place. signs_at place bytes)
signs_at second (b ∷ bytes) = signs_at outside bytes

-- the place of a byte behind which braces are open, or are not
abbrev pub place_in : (braces : Bool) → Place
place_in true = inside
place_in false = outside

-- the tokens of a functor line
abbrev pub signs : List ℕ → List Sign
signs text = signs_at outside text

-- the token is `+`
abbrev pub is_plus : Sign → Bool
is_plus Plus = true
is_plus _ = false

-- the token is `x`, `×` or `*`
abbrev pub is_times : Sign → Bool
is_times Times = true
is_times _ = false

-- the token is `^`
abbrev pub is_caret : Sign → Bool
is_caret Caret = true
is_caret _ = false

-- the token is `(`
abbrev pub is_open : Sign → Bool
is_open Open = true
is_open _ = false

-- the token is `)`
abbrev pub is_close : Sign → Bool
is_close Close = true
is_close _ = false

-- the token is `,`
abbrev pub is_comma : Sign → Bool
is_comma Comma = true
is_comma _ = false

-- the token is `}`
abbrev pub is_brace_end : Sign → Bool
is_brace_end CloseBrace = true
is_brace_end _ = false
