-- The text that tells the truths of formulas at states.
--
-- truth_word truth                  == the word of a truth
-- truth_line word k truth           == the line that tells a truth of formula k
-- lines_at told word i n            == the lines of the first n formulas at state i
-- texts_at told n words numbers     == such lines for each state in order, apart
-- truths_text told n words numbers  == the same as one text
use Rattle.std.specs.Prelude.{ℕ, zero, suc, Bool, true, false, List, [], ◌∷◌, ◌++◌, codes}
use Rattle.std.specs.List.{concat}
use Rattle.file_cut.specs.Bytes.{space, line_feed}
use Rattle.formula_text.specs.Answers.{formula_name}

-- the word of a truth
abbrev pub truth_word : Bool → List ℕ
truth_word true = codes "true"
truth_word false = codes "false"

-- the line of formula k at a state: the word that names the state, the formula's name, its truth
abbrev pub truth_line : List ℕ → ℕ → Bool → List ℕ
truth_line word k truth =
    word ++ space ∷ formula_name k ++ space ∷ truth_word truth ++ line_feed ∷ []

-- such lines of the first n formulas at state i, which the word names
abbrev pub lines_at : (ℕ → ℕ → Bool) → List ℕ → ℕ → ℕ → List ℕ
lines_at told word i zero = []
lines_at told word i (suc n) = lines_at told word i n ++ truth_line word n (told n i)

-- such lines for each state in order, up to where one list ends
abbrev pub texts_at : (ℕ → ℕ → Bool) → ℕ → List (List ℕ) → List ℕ → List (List ℕ)
texts_at told n [] numbers = []
texts_at told n (word ∷ words) [] = []
texts_at told n (word ∷ words) (i ∷ numbers) =
    lines_at told word i n ∷ texts_at told n words numbers

-- the same as one text
abbrev pub truths_text : (ℕ → ℕ → Bool) → ℕ → List (List ℕ) → List ℕ → List ℕ
truths_text told n words numbers = concat (texts_at told n words numbers)
