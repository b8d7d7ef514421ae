-- Texts of states that grow by the line of one formula.
--
-- bytes_of         == the bytes of a word
-- texts_between    == texts of which the first ones have the line of one formula more
-- texts_none       == without a formula the texts are empty
-- length-texts     == there is a text for each state
-- line_more        == one state more has the line
-- texts_all        == all states have the line
use Rattle.std.proofs.Common.{◌≡◌, ℕ, Bor, zero, suc, ◌+◌, Bool, List, [], ◌∷◌, ◌++◌, length, replicate, set, get_or, slice_get, Some, refl, ap, sym, ◌∙◌, add-one, arith}
use Rattle.std.proofs.lemmas.Option.{none-some, same_Some}
use Rattle.truth_writer.specs.Truths.{truth_line, lines_at, texts_at}

-- the bytes of a word
abbrev pub bytes_of : Bor (List ℕ) → List ℕ
bytes_of w = w.now

-- texts of which the first j have the line of formula k, and the others those before it alone
abbrev pub texts_between :
    (ℕ → ℕ → Bool) → ℕ → ℕ → List (List ℕ) → List ℕ → List (List ℕ)
texts_between told k zero words numbers = texts_at told k words numbers
texts_between told k (suc j) [] numbers = []
texts_between told k (suc j) (word ∷ words) [] = []
texts_between told k (suc j) (word ∷ words) (i ∷ numbers) =
    lines_at told word i (suc k) ∷ texts_between told k j words numbers

-- without a formula the texts are empty
pub texts_none :
    (told : ℕ → ℕ → Bool) (words : List (List ℕ)) (numbers : List ℕ) →
    length words ≡ length numbers → replicate (length words) [] ≡ texts_at told 0 words numbers
texts_none told [] numbers e = refl
texts_none told (word ∷ words) [] e = absurd (omega (arith, e))
texts_none told (word ∷ words) (i ∷ numbers) e =
    ap (λ texts. [] ∷ texts) (texts_none told words numbers (omega (arith, e)))

-- there is a text for each state
pub length-texts :
    (told : ℕ → ℕ → Bool) (n : ℕ) (words : List (List ℕ)) (numbers : List ℕ) →
    length words ≡ length numbers → length (texts_at told n words numbers) ≡ length words
length-texts told n [] numbers e = refl
length-texts told n (word ∷ words) [] e = absurd (omega (arith, e))
length-texts told n (word ∷ words) (i ∷ numbers) e =
    ap suc (length-texts told n words numbers (omega (arith, e)))

-- one state more has the line
texts_more :
    (told : ℕ → ℕ → Bool) (k j : ℕ) (words : List (List ℕ)) (numbers : List ℕ)
    (word : List ℕ) (i : ℕ) (d : List ℕ) → slice_get words j ≡ Some word →
    slice_get numbers j ≡ Some i →
    set (texts_between told k j words numbers) j
    (get_or (texts_between told k j words numbers) j d ++ truth_line word k (told k i))
    ≡ texts_between told k (suc j) words numbers
texts_more told k j [] numbers word i d named is = absurd (none-some word named)
texts_more told k j (w ∷ words) [] word i d named is = absurd (none-some i is)
texts_more told k zero (w ∷ words) (n ∷ numbers) word i d named is =
    let word_is = sym (same_Some w word named) in
    let state_is = sym (same_Some n i is) in
    λ x. (lines_at told w n k ++ truth_line (word_is x) k (told k (state_is x)))
    ∷ texts_at told k words numbers
texts_more told k (suc j) (w ∷ words) (n ∷ numbers) word i d named is =
    ap (λ texts. lines_at told w n (suc k) ∷ texts)
    (texts_more told k j words numbers word i d named is)

-- the same of a text that got its line
pub line_more :
    (told : ℕ → ℕ → Bool) (k j : ℕ) (words : List (List ℕ)) (numbers : List ℕ)
    (word : List ℕ) (i : ℕ) (truth : Bool) (d new : List ℕ) (texts : List (List ℕ)) →
    slice_get words j ≡ Some word → slice_get numbers j ≡ Some i →
    texts ≡ texts_between told k j words numbers → truth ≡ told k i →
    new ≡ get_or texts j d ++ truth_line word k truth →
    set texts j new ≡ texts_between told k (j + 1) words numbers
line_more told k j words numbers word i truth d new texts named is before same line =
    ap (set texts j) line
    ∙ (λ x. set (before x) j (get_or (before x) j d ++ truth_line word k (same x)))
    ∙ texts_more told k j words numbers word i d named is
    ∙ ap (λ n. texts_between told k n words numbers) (sym (add-one j))

-- all states have the line
pub texts_all :
    (told : ℕ → ℕ → Bool) (k : ℕ) (words : List (List ℕ)) (numbers : List ℕ) →
    length words ≡ length numbers →
    texts_between told k (length words) words numbers ≡ texts_at told (suc k) words numbers
texts_all told k [] numbers e = refl
texts_all told k (word ∷ words) [] e = absurd (omega (arith, e))
texts_all told k (word ∷ words) (i ∷ numbers) e =
    ap (λ texts. lines_at told word i (suc k) ∷ texts)
    (texts_all told k words numbers (omega (arith, e)))
