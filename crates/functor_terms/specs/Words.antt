-- Tables that number words.
--
-- is_same_word   == the same bytes
-- place_of       == the place of a word in a table, from 0
-- AreNames       == distinct names, few enough to be numbered
use Rattle.std.specs.Prelude.{ℕ, ◌<◌, ◌^◌, List, Option, Bool, nat_eq, length, position}
use Rattle.std.specs.Cmp.Lexicographic.{pointwise}
use Rattle.std.specs.List.{IsDistinct, AllByRecursion}
use Rattle.file_cut.specs.Bytes.{IsName}

-- the same bytes
abbrev pub is_same_word : List ℕ → List ℕ → Bool
is_same_word = pointwise nat_eq

-- the place of a word, from 0
abbrev pub place_of : List ℕ → List (List ℕ) → Option ℕ
place_of word words = position (is_same_word word) words

-- distinct names, few enough to be numbered
pub record AreNames (words : List (List ℕ)) : Type 0 where
  pub distinct : IsDistinct is_same_word words
  pub each : AllByRecursion IsName words
  pub few : length words < 2 ^ 32
