-- The raw lines of bytes, with their line feeds, are the bytes.
use Rattle.std.proofs.Common.{◌≡◌, ℕ, List, [], ◌∷◌, Bool, true, false, refl, ap, ◌∙◌, arith, inl, inr}
use Rattle.std.specs.Prelude.{◌==◌, ◌&&◌, not}
use Rattle.std.specs.List.{list_all}
use Rattle.std.proofs.lemmas.Bool.Decides.{nat_tests}
use Rattle.file_cut.specs.Bytes.{line_feed}
use Rattle.file_cut.specs.Lines.{is_no_feed, before_first, begun, raw_lines, EndsFirst, AreRawLines}

is_feed : (b : ℕ) → (b == line_feed) ≡ true → b ≡ line_feed
is_feed b is = grind (arith, nat_tests)

-- a byte more before the first line and its end
ends-behind : (b : ℕ) (bytes line rest : List ℕ) → EndsFirst bytes line rest
    → EndsFirst (b ∷ bytes) (b ∷ line) rest
ends-behind b bytes line rest (inl is) = inl (ap (λ l. b ∷ l) is)
ends-behind b bytes line rest (inr (is, some, none)) = inr (ap (λ l. b ∷ l) is, omega arith, none)

no_feed-behind : (b : ℕ) (line : List ℕ) → (b == line_feed) ≡ false
    → list_all is_no_feed line ≡ true → list_all is_no_feed (b ∷ line) ≡ true
no_feed-behind b line other none = (λ i. not (other i) && list_all is_no_feed line) ∙ none

before-cover : (b : ℕ) (bytes : List ℕ) (lines : List (List ℕ)) → (b == line_feed) ≡ false
    → AreRawLines bytes lines → AreRawLines (b ∷ bytes) (before_first b lines)
before-cover b bytes [] other is =
    ([], no_feed-behind b [] other refl, inr (ap (λ l. b ∷ l) is, omega arith, refl), refl)
before-cover b bytes (line ∷ lines) other (rest, none, ends, cover) =
    (rest, no_feed-behind b line other none, ends-behind b bytes line rest ends, cover)

-- a byte more before bytes that the lines cover
begun-cover : (b : ℕ) (bytes : List ℕ) (lines : List (List ℕ)) (feed : Bool)
    → (b == line_feed) ≡ feed → AreRawLines bytes lines
    → AreRawLines (b ∷ bytes) (begun feed b lines)
begun-cover b bytes lines true is cover =
    (bytes, refl, inl (ap (λ c. c ∷ bytes) (is_feed b is)), cover)
begun-cover b bytes lines false is cover = before-cover b bytes lines is cover

-- raw lines cover the bytes
pub raw-cover : (bytes : List ℕ) → AreRawLines bytes (raw_lines bytes)
raw-cover [] = refl
raw-cover (b ∷ bytes) = begun-cover b bytes (raw_lines bytes) (b == line_feed) refl
    (raw-cover bytes)
