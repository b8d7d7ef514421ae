-- Lines of an answer that are at odds with the grammar or with a coalgebra.
--
-- least_line p answers         == the least line of an answer that passes the test, if one does
-- bad_line p read              == the first bad line that was told, and else the least line that
--                                 passes the test
-- bad_formula_line t bytes     == the bad line of a file whose formulas are to be evaluated: by the
--                                 grammar, and else by a modality that does not fit the term
-- bad_answer_line c bytes      == the bad line of a certificate: by the grammar, and else by a
--                                 modality that does not fit or by a name that is no state
use Rattle.std.specs.Prelude.{◌≡◌, ℕ, min, Bool, false, not, if◌then◌else◌, is_some, List, [], ◌∷◌, Option, Some, None, Result, Ok, Err}
use Rattle.std.specs.List.{list_all}
use Rattle.functor_terms.specs.Terms.{Nodes}
use Rattle.functor_terms.specs.Words.{place_of}
use Rattle.typing.specs.Contents.{Content}
use Rattle.satisfaction.specs.Modalities.{fits_term}
use Rattle.formula_text.specs.Answers.{Answer, Defines, Block, Separates, Equivalent, answers_of, certificate_of}

-- the lesser of two numbers that may not be there
abbrev pub lesser : Option ℕ → Option ℕ → Option ℕ
lesser None b = b
lesser (Some m) None = Some m
lesser (Some m) (Some n) = Some (min m n)

-- the number, if the test was passed
abbrev pub if_passed : Bool → ℕ → Option ℕ
if_passed passed n = if passed then Some n else None

-- the least line of an answer that passes the test
abbrev pub least_line : (Answer → Bool) → List (ℕ × Answer) → Option ℕ
least_line p [] = None
least_line p (a ∷ answers) = lesser (if_passed (p a.1) a.0) (least_line p answers)

-- the first bad line that was told, and else the least line of an answer that passes the test
abbrev pub bad_line : (Answer → Bool) → Result (List (ℕ × Answer)) ℕ → Option ℕ
bad_line p (Ok answers) = least_line p answers
bad_line p (Err line) = Some line

-- the answer defines a modality that does not fit the term
abbrev pub is_misfit : Nodes → Answer → Bool
is_misfit t (Defines f) = not (fits_term t f)
is_misfit t (Block f names) = false
is_misfit t (Separates x y f) = false
is_misfit t (Equivalent x y) = false

-- the word is the name of a state
abbrev pub is_state : List (List ℕ) → List ℕ → Bool
is_state names word = is_some (place_of word names)

-- it defines a modality that does not fit, or gives a formula to a block with a name of no state
abbrev pub is_unfit : Content → Answer → Bool
is_unfit c (Defines f) = not (fits_term c.term f)
is_unfit c (Block f words) = not (list_all (is_state c.names) words)
is_unfit c (Separates x y f) = false
is_unfit c (Equivalent x y) = false

-- the bad line of a file whose formulas are to be evaluated
abbrev pub bad_formula_line : Nodes → List ℕ → Option ℕ
bad_formula_line t bytes = bad_line (is_misfit t) (answers_of bytes)

-- the bad line of a certificate
abbrev pub bad_answer_line : Content → List ℕ → Option ℕ
bad_answer_line c bytes = bad_line (is_unfit c) (certificate_of bytes)

-- this line is told
abbrev pub IsBadFormulaLine : Nodes → List ℕ → ℕ → Type 0
IsBadFormulaLine t bytes line = bad_formula_line t bytes ≡ Some line

-- this line is told
abbrev pub IsBadAnswerLine : Content → List ℕ → ℕ → Type 0
IsBadAnswerLine c bytes line = bad_answer_line c bytes ≡ Some line
