-- Words that name states.
--
-- AreNumbers names words numbers   == the numbers of the states that the words name
-- IsStranger names words k         == word k is the first of the words that is none of the names
-- AreNamed names words             == each of the words is one of the names
use Rattle.std.specs.Prelude.{◌≡◌, ◌<◌, ℕ, List, slice_get, Some, None, IsSome}
use Rattle.std.specs.List.{AllZip}
use Rattle.functor_terms.specs.Words.{place_of}

-- the numbers of the states that the words name
abbrev pub AreNumbers : List (List ℕ) → List (List ℕ) → List ℕ → Type 0
AreNumbers names words numbers = AllZip (λ word i. place_of word names ≡ Some i) words numbers

-- the word at place k is the first of the words that is none of the names
pub record IsStranger (names words : List (List ℕ)) (k : ℕ) : Type 0 where
  pub word : List ℕ
  pub there : slice_get words k ≡ Some word
  pub strange : place_of word names ≡ None
  pub first :
      (j : ℕ) (other : List ℕ) → j < k → slice_get words j ≡ Some other →
      IsSome (place_of other names)

-- each of the words is one of the names
abbrev pub AreNamed : List (List ℕ) → List (List ℕ) → Type 0
AreNamed names words =
    (j : ℕ) (word : List ℕ) → slice_get words j ≡ Some word → IsSome (place_of word names)
