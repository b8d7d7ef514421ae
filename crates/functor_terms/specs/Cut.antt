-- What a functor line is cut into, as a relation between the whole text and all of its tokens. Each
-- token has bytes of its own, blanks alone stand between two of them, and digits and words are as
-- long as can be.
--
-- sign_bytes          == the bytes that are a token by themselves outside of braces
-- IsTokenOf           == the bytes spell the token, and those that follow are not part of it
-- within              == whether braces are open behind a token
-- IsCutInto           == the text is these tokens, with blanks before, between and behind them
-- TextsAreCut, OneCut == each functor line is cut into its tokens, and into no others
use Rattle.std.specs.Prelude.{◌≡◌, ◌<◌, ◌⊎◌, ◌==◌, ◌&&◌, ℕ, List, [], ◌∷◌, ◌++◌, length, codes, Bool, true, false}
use Rattle.std.specs.Char.{is_ascii_digit}
use Rattle.std.specs.List.{list_all, list_any}
use Rattle.file_cut.specs.Bytes.{is_blank, is_word_byte, IsWord}
use Rattle.functor_terms.specs.Signs.{begins, cross_first, cross_second, signs}
use Rattle.functor_terms.specs.declared.sign.Sign.{Sign}
use Rattle.functor_terms.specs.declared.sign.Sign.TheVariants.{X, P, B, D, N, Z, Q, Plus, Times, Caret, Open, Close, OpenBrace, CloseBrace, Comma, Digits, Word, Stray}

-- the bytes that are a token by themselves outside of braces
abbrev pub sign_bytes : List ℕ
sign_bytes = codes "XPBDNZQx*+^(){"

-- the byte begins no token outside of braces: it is no blank, no digit, none of the signs, and not
-- the first of the two bytes of `×`
pub record IsStrayOutside (b : ℕ) (rest : List ℕ) : Type 0 where
  pub no_blank : is_blank b ≡ false
  pub no_digit : is_ascii_digit b ≡ false
  pub no_sign : list_any (λ s. b == s) sign_bytes ≡ false
  pub no_cross : (b == cross_first) && begins (λ c. c == cross_second) rest ≡ false

-- the byte begins no token in braces: it is no blank, no byte of words, no comma and no brace
pub record IsStrayInside (b : ℕ) : Type 0 where
  pub no_blank : is_blank b ≡ false
  pub no_letter : is_word_byte b ≡ false
  pub no_sign : list_any (λ s. b == s) (codes ",}") ≡ false

-- the bytes spell the token, where braces are open or are not, and those that follow are not part
-- of it
abbrev pub IsTokenOf : (braces : Bool) → Sign → (bytes rest : List ℕ) → Type 0
IsTokenOf false X bytes rest = bytes ≡ codes "X"
IsTokenOf false P bytes rest = bytes ≡ codes "P"
IsTokenOf false B bytes rest = bytes ≡ codes "B"
IsTokenOf false D bytes rest = bytes ≡ codes "D"
IsTokenOf false N bytes rest = bytes ≡ codes "N"
IsTokenOf false Z bytes rest = bytes ≡ codes "Z"
IsTokenOf false Q bytes rest = bytes ≡ codes "Q"
IsTokenOf false Plus bytes rest = bytes ≡ codes "+"
IsTokenOf false Times bytes rest =
    (bytes ≡ codes "x") ⊎ ((bytes ≡ codes "*") ⊎ (bytes ≡ cross_first ∷ cross_second ∷ []))
IsTokenOf false Caret bytes rest = bytes ≡ codes "^"
IsTokenOf false Open bytes rest = bytes ≡ codes "("
IsTokenOf false Close bytes rest = bytes ≡ codes ")"
IsTokenOf false OpenBrace bytes rest = bytes ≡ codes "{"
IsTokenOf false (Digits digits) bytes rest =
    (bytes ≡ digits) × (0 < length digits) × (list_all is_ascii_digit digits ≡ true)
    × (begins is_ascii_digit rest ≡ false)
IsTokenOf false Stray bytes rest = (b : ℕ) × (bytes ≡ b ∷ []) × IsStrayOutside b rest
IsTokenOf true (Word word) bytes rest =
    (bytes ≡ word) × IsWord word × (begins is_word_byte rest ≡ false)
IsTokenOf true Comma bytes rest = bytes ≡ codes ","
IsTokenOf true CloseBrace bytes rest = bytes ≡ codes "}"
IsTokenOf true Stray bytes rest = (b : ℕ) × (bytes ≡ b ∷ []) × IsStrayInside b
IsTokenOf braces sign bytes rest = ⊥

-- whether braces are open behind a token
abbrev pub within : (braces : Bool) → Sign → Bool
within braces OpenBrace = true
within braces CloseBrace = false
within braces sign = braces

-- the text is these tokens, with blanks before, between and behind them
abbrev pub IsCutInto : (braces : Bool) → List ℕ → List Sign → Type 0
IsCutInto braces text [] = list_all is_blank text ≡ true
IsCutInto braces text (sign ∷ tokens) =
    (blanks : List ℕ) × (bytes : List ℕ) × (rest : List ℕ) × (text ≡ blanks ++ (bytes ++ rest))
    × (list_all is_blank blanks ≡ true) × IsTokenOf braces sign bytes rest
    × IsCutInto (within braces sign) rest tokens

-- each functor line is cut into its tokens
abbrev pub TextsAreCut : Type 0
TextsAreCut = (text : List ℕ) → IsCutInto false text (signs text)

-- no line is cut into others
abbrev pub OneCut : Type 0
OneCut = (text : List ℕ) (tokens : List Sign) → IsCutInto false text tokens → tokens ≡ signs text
