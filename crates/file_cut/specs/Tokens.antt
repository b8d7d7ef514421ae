-- The tokens of a structure line, and what each is in the grammar.
use Rattle.std.specs.Prelude.{◌≡◌, ◌<◌, ◌+◌, ◌==◌, ◌++◌, ◌∷◌, ◌⊎◌, ◌&&◌, ℕ, List, []}
use Rattle.std.specs.Prelude.{Bool, true, false, length, map, refl, nat_eq, if◌then◌else◌}
use Rattle.std.specs.Coded.{Coded, code_by, coded×, coded_list, coded_ℕ}
use Rattle.std.specs.List.{prefix_len, list_all}
use Rattle.std.specs.Cmp.Lexicographic.{pointwise}
use Rattle.file_cut.specs.Bytes.{is_blank, is_word_byte, IsWord, inj_word}
use Rattle.file_cut.specs.declared.mark.Mark.{Mark}
use Rattle.file_cut.specs.declared.mark.Mark.TheVariants.{Word, Inj, Open, Close, OpenBrace}
use Rattle.file_cut.specs.declared.mark.Mark.TheVariants.{CloseBrace, Comma, Colon, Stray}

-- a piece of a line: its bytes, and the place of the first in the line, counted from 0
pub record Piece : Type 0 where
  pub text : List ℕ
  pub at : ℕ

-- the piece of these bytes at this place
abbrev pub piece : List ℕ → ℕ → Piece
piece text at = record { text = text; at = at }

-- how clauses store it: as the pair of its fields
abbrev pub piece_code : Coded Piece
piece_code =
    code_by (List ℕ × ℕ) (coded× (coded_list coded_ℕ) coded_ℕ)
    (λ p. (p.text, p.at)) (λ pair. piece pair.0 pair.1) (λ _. refl)

-- the pieces with a byte more at the front of the first, which then begins at this place
abbrev pub joined : ℕ → ℕ → List Piece → List Piece
joined b at [] = piece (b ∷ []) at ∷ []
joined b at (p ∷ pieces) = piece (b ∷ p.text) at ∷ pieces

-- a blank is left out, a byte that a word goes on from joins it, and another stands by itself
abbrev pub put : (blank : Bool) → (goes_on : Bool) → ℕ → ℕ → List Piece → List Piece
put true goes_on b at pieces = pieces
put false true b at pieces = joined b at pieces
put false false b at pieces = piece (b ∷ []) at ∷ pieces

-- the bytes begin with a byte of a word
abbrev pub begins_with_word : List ℕ → Bool
begins_with_word [] = false
begins_with_word (b ∷ bytes) = is_word_byte b

-- the tokens of bytes of which the first stands at this place
abbrev pub tokens_from : ℕ → List ℕ → List Piece
tokens_from at [] = []
tokens_from at (b ∷ bytes) =
    put (is_blank b) (is_word_byte b && begins_with_word bytes) b at (tokens_from (at + 1) bytes)

-- the tokens of a line, in order
abbrev pub tokens_of : List ℕ → List Piece
tokens_of line = tokens_from 0 line

-- before these bytes: a word that cannot be longer, or one byte that is of no word and no blank
abbrev pub IsToken : List ℕ → List ℕ → Type 0
IsToken text behind =
    (IsWord text × (begins_with_word behind ≡ false))
    ⊎ ((b : ℕ) × (text ≡ b ∷ []) × (is_word_byte b ≡ false) × (is_blank b ≡ false))

-- the pieces are tokens of bytes from this place on; before, between and after stand blanks alone
abbrev pub AreTokensOf : ℕ → List ℕ → List Piece → Type 0
AreTokensOf at bytes [] = list_all is_blank bytes ≡ true
AreTokensOf at bytes (p ∷ pieces) =
    (gap : List ℕ) × (rest : List ℕ) × (bytes ≡ gap ++ (p.text ++ rest))
    × (list_all is_blank gap ≡ true) × (p.at ≡ at + length gap) × IsToken p.text rest
    × AreTokensOf (p.at + length p.text) rest pieces

-- the tokens of each line are at their places, with blanks alone around them
abbrev pub TokensCover : Type 0
TokensCover = (line : List ℕ) → AreTokensOf 0 line (tokens_of line)

-- the word is `inj`
abbrev pub is_inj : List ℕ → Bool
is_inj word = pointwise nat_eq word inj_word

-- the byte `(`
abbrev pub parenthesis : ℕ
parenthesis = 40

-- the byte `)`
abbrev pub parenthesis_end : ℕ
parenthesis_end = 41

-- the byte `{`
abbrev pub brace : ℕ
brace = 123

-- the byte `}`
abbrev pub brace_end : ℕ
brace_end = 125

-- the byte `,`
abbrev pub comma : ℕ
comma = 44

-- the byte `:`
abbrev pub colon : ℕ
colon = 58

-- what a byte of no word is in the grammar
abbrev pub sign_of : ℕ → Mark
sign_of b =
    if b == parenthesis then Open
    else (if b == parenthesis_end then Close
    else (if b == brace then OpenBrace
    else (if b == brace_end then CloseBrace
    else (if b == comma then Comma
    else (if b == colon then Colon
    else Stray)))))

-- what a token is in the grammar
abbrev pub mark_of : List ℕ → Mark
mark_of [] = Stray
mark_of (b ∷ bytes) =
    if is_word_byte b
    then (if is_inj (b ∷ bytes) then Inj else Word (b ∷ bytes))
    else sign_of b

-- what the tokens of a line are, in order
abbrev pub marks : List ℕ → List Mark
marks line = map (λ p. mark_of p.text) (tokens_of line)

-- how many bytes the token at the front has
abbrev pub token_len : List ℕ → ℕ
token_len [] = 0
token_len (b ∷ bytes) = if is_word_byte b then prefix_len is_word_byte bytes + 1 else 1

-- the first token of a line, behind how many blanks it stands, and the bytes behind it
pub record IsFirstToken (line : List ℕ) (skipped : ℕ) (token rest : List ℕ) : Type 0 where
  pub tokens :
      (at : ℕ) → tokens_from at line
      ≡ piece token (at + skipped) ∷ tokens_from (at + skipped + length token) rest
  pub lengths : skipped + length token + length rest ≡ length line
  pub some : 0 < length token
