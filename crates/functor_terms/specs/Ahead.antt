-- The tokens that are left of a functor line, as the reader moves them on. Only private clauses
-- cite these words.
--
-- IsToken sign        == digits are decimal digits, and words have the bytes of words
-- IsFirst first       == the token that is cut already is such a token
-- left_behind         == the token that is cut already, before those behind it
-- others              == the tokens behind the first
-- is_bound n          == a constant or an exponent may have n labels
-- passes wanted sign  == the token is the wanted one
use Rattle.std.specs.Prelude.{ℕ, ◌<◌, ◌&&◌, nat_lt, nat_le, List, [], ◌∷◌, length, Option, Some, None, Bool, IsTrue}
use Rattle.std.specs.Char.{is_ascii_digit}
use Rattle.std.specs.List.{list_all}
use Rattle.file_cut.specs.Bytes.{IsWord}
use Rattle.functor_terms.specs.Terms.{label_limit}
use Rattle.functor_terms.specs.Signs.{is_plus, is_times, is_caret, is_open, is_close, is_comma, is_brace_end}
use Rattle.functor_terms.specs.declared.sign.Sign.{Sign}
use Rattle.functor_terms.specs.declared.sign.Sign.TheVariants.{Digits, Word}
use Rattle.functor_terms.specs.declared.ahead.Wanted.{Wanted}
use Rattle.functor_terms.specs.declared.ahead.Wanted.TheVariants as wanted

-- digits are decimal digits, and words have the bytes of words
abbrev pub IsToken : Sign → Type 0
IsToken (Digits digits) = (0 < length digits) × IsTrue (list_all is_ascii_digit digits)
IsToken (Word word) = IsWord word
IsToken _ = Unit {0}

-- the token that is cut already, if there is one, is such a token
abbrev pub IsFirst : Option Sign → Type 0
IsFirst None = Unit {0}
IsFirst (Some sign) = IsToken sign

-- the token that is cut already, before those behind it
abbrev pub left_behind : Option Sign → List Sign → List Sign
left_behind None signs = []
left_behind (Some sign) signs = sign ∷ signs

-- the tokens behind the first
abbrev pub others : List Sign → List Sign
others [] = []
others (sign ∷ signs) = signs

-- a constant or an exponent may have so many labels
abbrev pub is_bound : ℕ → Bool
is_bound n = nat_lt 0 n && nat_le n label_limit

-- the token is the wanted one
abbrev pub passes : Wanted → Sign → Bool
passes wanted.Plus = is_plus
passes wanted.Times = is_times
passes wanted.Caret = is_caret
passes wanted.Open = is_open
passes wanted.Close = is_close
passes wanted.Comma = is_comma
passes wanted.BraceEnd = is_brace_end
