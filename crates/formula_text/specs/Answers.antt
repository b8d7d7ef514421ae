-- Answers: lines that define formulas, give formulas to blocks, and tell of pairs.
--
-- parts_of line          == the longest runs of bytes that are no blanks
-- answer_of k parts      == what a line of these parts says, behind k formulas
-- answers_of bytes       == what the lines say, with their numbers, or the number of the first bad
--                           line
-- certificate_of bytes   == the same, where a line of a pair is a bad line
-- dag_of bytes           == the formulas of the lines, or the number of the first bad line
use Rattle.std.specs.Prelude.{ℕ, ◌+◌, ◌&&◌, ◌||◌, ◌==◌, Bool, true, false, if◌then◌else◌, nat_lt, List, [], ◌∷◌, codes, length, filter, Option, Some, None, option_map, option_and_then, Result, Ok, Err}
use Rattle.std.specs.List.{slice_split, list_all}
use Rattle.std.specs.Fmt.{decimal}
use Rattle.file_cut.specs.Bytes.{is_blank, is_word_byte}
use Rattle.file_cut.specs.Lines.{Numbered, lines_of}
use Rattle.formulas.specs.declared.formula.Formula.{Formula}
use Rattle.formulas.specs.declared.formula.Formula.TheVariants.{True, Not, And, At}
use Rattle.formula_text.specs.Numbers.{is_same, number_below}
use Rattle.formula_text.specs.Values.{both, value_in}

-- What a line says: the next formula; formula f holds in the block of these states and in no other;
-- formula f holds at x and not at y; x and y are equivalent.
pub data Answer : Type 0 where
  Defines : Formula → Answer
  Block : ℕ → List (List ℕ) → Answer
  Separates : List ℕ → List ℕ → ℕ → Answer
  Equivalent : List ℕ → List ℕ → Answer

-- the part has a byte
abbrev pub is_some_part : List ℕ → Bool
is_some_part part = nat_lt 0 (length part)

-- the parts of a line: what stands between blanks
abbrev pub parts_of : List ℕ → List (List ℕ)
parts_of line = filter is_some_part (slice_split is_blank line)

-- the letter before the number of a formula
abbrev pub letter_f : ℕ
letter_f = 102

-- the name of formula k
abbrev pub formula_name : ℕ → List ℕ
formula_name k = letter_f ∷ decimal k

-- the number of the formula, one of the first k, that a part names
abbrev pub cited : ℕ → List ℕ → Option ℕ
cited k [] = None
cited k (b ∷ digits) = if b == letter_f then number_below k digits else None

-- one or more bytes of words
abbrev pub is_word : List ℕ → Bool
is_word word = nat_lt 0 (length word) && list_all is_word_byte word

-- a modality at a node, which has a value by its cited formulas
abbrev pub modality_of : ℕ → List ℕ → List ℕ → List ℕ → List ℕ → Option Formula
modality_of k node value splitter coarse =
    option_and_then
    (λ n. option_and_then
    (λ v. both (At n v) (cited k splitter) (cited k coarse))
    (value_in value))
    (number_below 256 node)

-- the formula that the parts behind `=` define, where the first k can be cited
abbrev pub body_of : ℕ → List (List ℕ) → Option Formula
body_of k (w ∷ []) = if is_same w (codes "true") then Some True else None
body_of k (w ∷ i ∷ []) = if is_same w (codes "not") then option_map Not (cited k i) else None
body_of k (w ∷ i ∷ j ∷ []) =
    if is_same w (codes "and") then both And (cited k i) (cited k j) else None
body_of k (w ∷ node ∷ value ∷ splitter ∷ coarse ∷ []) =
    if is_same w (codes "at") then modality_of k node value splitter coarse else None
body_of k _ = None

-- formula k is defined by the parts of its line: its name, `=` and a body
abbrev pub defined_by : ℕ → List ℕ → List (List ℕ) → Option Answer
defined_by k name [] = None
defined_by k name (sign ∷ body) =
    if is_same name (formula_name k) && is_same sign (codes "=")
    then option_map Defines (body_of k body) else None

-- a block: the formula of the block and the names of its states, one or more
abbrev pub block_of : ℕ → List (List ℕ) → Option Answer
block_of k (f ∷ name ∷ names) =
    if list_all is_word (name ∷ names)
    then option_map (λ i. Block i (name ∷ names)) (cited k f) else None
block_of k _ = None

-- two states and a formula that holds at the first of them alone
abbrev pub separates_of : ℕ → List (List ℕ) → Option Answer
separates_of k (x ∷ y ∷ f ∷ []) =
    if is_word x && is_word y then option_map (Separates x y) (cited k f) else None
separates_of k _ = None

-- two states that are equivalent
abbrev pub equivalent_of : List (List ℕ) → Option Answer
equivalent_of (x ∷ y ∷ []) = if is_word x && is_word y then Some (Equivalent x y) else None
equivalent_of _ = None

-- what a line of these parts says, behind k formulas
abbrev pub answer_of : ℕ → List (List ℕ) → Option Answer
answer_of k [] = None
answer_of k (w ∷ rest) =
    if is_same w (codes "block") then block_of k rest
    else if is_same w (codes "separates") then separates_of k rest
    else if is_same w (codes "equivalent") then equivalent_of rest
    else defined_by k w rest

-- how many formulas there are behind a line
abbrev pub count_with : ℕ → Answer → ℕ
count_with k (Defines f) = k + 1
count_with k (Block f names) = k
count_with k (Separates x y f) = k
count_with k (Equivalent x y) = k

-- an answer before those of later lines
abbrev pub with_answer :
    ℕ → Answer → Result (List (ℕ × Answer)) ℕ → Result (List (ℕ × Answer)) ℕ
with_answer line a (Ok answers) = Ok ((line, a) ∷ answers)
with_answer line a (Err bad) = Err bad

-- an answer of the line of this number before those of later lines, or its number if it has none
abbrev pub answered :
    ℕ → (Answer → Result (List (ℕ × Answer)) ℕ) → Option Answer → Result (List (ℕ × Answer)) ℕ
answered line later None = Err line
answered line later (Some a) = with_answer line a (later a)

-- the answer tells of no pair: it defines a formula or gives one to a block
abbrev pub tells_no_pair : Answer → Bool
tells_no_pair (Defines f) = true
tells_no_pair (Block f names) = true
tells_no_pair (Separates x y f) = false
tells_no_pair (Equivalent x y) = false

-- what a line says, where lines of pairs are taken or say nothing
abbrev pub taken : (pairs : Bool) → Option Answer → Option Answer
taken pairs None = None
taken pairs (Some a) = if pairs || tells_no_pair a then Some a else None

-- What lines say behind k formulas, with their numbers, or the number of the first bad line. Lines
-- of pairs are taken or bad.
abbrev pub taken_from : (pairs : Bool) → ℕ → List Numbered → Result (List (ℕ × Answer)) ℕ
taken_from pairs k [] = Ok []
taken_from pairs k (line ∷ lines) =
    answered line.number (λ a. taken_from pairs (count_with k a) lines)
    (taken pairs (answer_of k (parts_of line.text)))

-- what the lines of a file say, with their numbers, or the number of the first bad line
abbrev pub answers_of : List ℕ → Result (List (ℕ × Answer)) ℕ
answers_of bytes = taken_from true 0 (lines_of bytes)

-- the same of formula and block lines alone: a line of a pair is a bad line
abbrev pub certificate_of : List ℕ → Result (List (ℕ × Answer)) ℕ
certificate_of bytes = taken_from false 0 (lines_of bytes)

-- the formula of an answer before others, if it defines one
abbrev pub with_formula : Answer → List Formula → List Formula
with_formula (Defines f) fs = f ∷ fs
with_formula (Block i names) fs = fs
with_formula (Separates x y i) fs = fs
with_formula (Equivalent x y) fs = fs

-- the formulas that answers define, in order
abbrev pub formulas_of : List (ℕ × Answer) → List Formula
formulas_of [] = []
formulas_of (a ∷ answers) = with_formula a.1 (formulas_of answers)

-- the formulas of answers, where all lines are good
abbrev pub dag_of_answers : Result (List (ℕ × Answer)) ℕ → Result (List Formula) ℕ
dag_of_answers (Ok answers) = Ok (formulas_of answers)
dag_of_answers (Err bad) = Err bad

-- the formulas of a file, or the number of its first bad line
abbrev pub dag_of : List ℕ → Result (List Formula) ℕ
dag_of bytes = dag_of_answers (answers_of bytes)
