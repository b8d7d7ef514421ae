-- First words of lines, and the names that they make.
use Rattle.std.proofs.Common.{◌≡◌, ℕ, suc, ◌+◌, ◌≤◌, Bool, true, false, not, ◌||◌, List, [], ◌∷◌, ◌++◌, length, Option, Some, None, refl, sym, ap, ◌∙◌, arith, length-append}
use Rattle.std.specs.Prelude.{is_some, if◌then◌else◌}
use Rattle.file_cut.specs.Bytes.{IsName}
use Rattle.file_cut.specs.Lines.{Numbered}
use Rattle.file_cut.specs.Tokens.{marks}
use Rattle.file_cut.specs.declared.mark.Mark.{Mark}
use Rattle.file_cut.specs.declared.mark.Mark.TheVariants.{Word}
use Rattle.file_cut.proofs.CutLaws.{name-first}
use Rattle.functor_terms.specs.Words.{place_of}
use Rattle.structure_parser.specs.Reading.{word_in, word_first, first_word, with_word, is_old, fresh_in}

word_is : (m : Mark) (w : List ℕ) → word_in m ≡ Some w → m ≡ Word w
word_is (Word v) w e = let same : v ≡ w = cc in ap Word same
word_is _ w e = let none : ⊥ = cc in absurd none

-- the first word of a line is a name
pub first-named : (line w : List ℕ) → first_word line ≡ Some w → IsName w
first-named line w e = by (marks line) refl e
  where
    by : (ms : List Mark) → marks line ≡ ms → word_first ms ≡ Some w → IsName w
    by [] is e = let none : ⊥ = cc in absurd none
    by (m ∷ ms) is e = name-first line w ms (is ∙ ap (λ x. x ∷ ms) (word_is m w e))

-- there is one name more at most
pub with-length : (names : List (List ℕ)) (word : Option (List ℕ)) →
    length (with_word names word) ≤ length names + 1
with-length names None = omega arith
with-length names (Some w) = by (is_some (place_of w names))
  where
    by : (b : Bool) → length (if b then names else names ++ w ∷ []) ≤ length names + 1
    by true = omega arith
    by false = omega (arith, length-append names (w ∷ []))

-- what the lines behind one are counted as
pub counted-step : (names new : List (List ℕ)) (line : Numbered) (lines : List Numbered)
    (repeated is_new : Bool) (fresh next total : ℕ) →
    is_new ≡ not (is_old names (first_word line.text)) →
    new ≡ with_word names (first_word line.text) →
    next ≡ (if repeated || not is_new then fresh else fresh + 1) →
    (if repeated then fresh else fresh + fresh_in names (line ∷ lines)) ≡ total →
    (if repeated || not is_new then next else next + fresh_in new lines) ≡ total
counted-step names new line lines true is_new fresh next total tells made goes so_far =
    goes ∙ so_far
counted-step names new line lines false is_new fresh next total tells made goes so_far =
    by (is_old names (first_word line.text)) refl is_new refl
  where
    later : ℕ
    later = fresh_in (with_word names (first_word line.text)) lines

    by : (old : Bool) → is_old names (first_word line.text) ≡ old → (b : Bool) → is_new ≡ b →
        (if not is_new then next else next + fresh_in new lines) ≡ total
    by true e b q =
        let no : is_new ≡ false = tells ∙ ap not e in
        let none : fresh_in names (line ∷ lines) ≡ 0 =
        ap (λ (c : Bool). if c then 0 else suc later) e in
        let same : next ≡ fresh = goes ∙ ap (λ c. if not c then fresh else fresh + 1) no in
        ap (λ c. if not c then next else next + fresh_in new lines) no
        ∙ omega (arith, same, none, so_far)
    by false e b q =
        let yes : is_new ≡ true = tells ∙ ap not e in
        let more : fresh_in names (line ∷ lines) ≡ suc (fresh_in new lines) =
        ap (λ (c : Bool). if c then 0 else suc later) e
        ∙ ap (λ (l : List (List ℕ)). suc (fresh_in l lines)) (sym made) in
        let same : next ≡ fresh + 1 = goes ∙ ap (λ c. if not c then fresh else fresh + 1) yes in
        ap (λ c. if not c then next else next + fresh_in new lines) yes
        ∙ omega (arith, same, more, so_far)

-- a count goes up by one at most
pub counted-less : (again : Bool) (fresh next : ℕ) →
    next ≡ (if again then fresh else fresh + 1) → next ≤ fresh + 1
counted-less true fresh next e = omega (arith, e)
counted-less false fresh next e = omega (arith, e)
