-- Blanks, word bytes and words. Bytes are numbers below 256.
use Rattle.std.specs.Prelude.{◌≡◌, ◌≢◌, ◌<◌, ◌==◌, ◌||◌, ℕ, List, Bool, true, length, codes, nat_le}
use Rattle.std.specs.Char.{is_ascii_alphanumeric, is_ascii_digit}
use Rattle.std.specs.List.{list_all, list_any}

-- the byte that ends a line
abbrev pub line_feed : ℕ
line_feed = 10

-- the byte that belongs to the end of a line where it stands directly before it
abbrev pub carriage_return : ℕ
carriage_return = 13

-- the byte `#`, with which a line of notes begins
abbrev pub number_sign : ℕ
number_sign = 35

-- the byte of a space
abbrev pub space : ℕ
space = 32

-- the byte of a tab
abbrev pub tab : ℕ
tab = 9

-- the byte is a space or a tab
abbrev pub is_blank : ℕ → Bool
is_blank b = (b == space) || (b == tab)

-- the byte is one of nine signs that words may have
abbrev pub is_word_sign : ℕ → Bool
is_word_sign b = list_any (λ sign. b == sign) (codes "_'.-/@$!?")

-- the byte may stand in a word: an ASCII letter or digit, one of the nine signs, or past ASCII
abbrev pub is_word_byte : ℕ → Bool
is_word_byte b = is_ascii_alphanumeric b || is_word_sign b || nat_le 128 b

-- the bytes are one or more, and each may stand in a word
abbrev pub IsWord : List ℕ → Type 0
IsWord word = (0 < length word) × (list_all is_word_byte word ≡ true)

-- the word `inj`, which opens a part of a sum
abbrev pub inj_word : List ℕ
inj_word = codes "inj"

-- a word that may stand as a head or as a tree: any but `inj`
abbrev pub IsName : List ℕ → Type 0
IsName word = IsWord word × (word ≢ inj_word)

-- the bytes are ASCII digits alone
abbrev pub are_digits : List ℕ → Bool
are_digits = list_all is_ascii_digit
