-- The texts of trial inputs.
--
--     lts     P({a,b,c} x X)    si: {(l, st), (l, st)}         up to three moves, or `si: {}`
--     chain   2 x D X           si: (m, {st: k/8, su: j/8})    k and j are 8 together
--     sums    2 x Z^(X)         si: (m, {st: w, st: w})        up to three weights from -3 to 3
--     dfa     2 x X^{a,b}       si: (m, {a: st, b: su})
--
-- The functor's line stands first, and then a line for each state in order; each ends by a line
-- feed. State i is named `s` and its number. Entries stand in the order of their draws, also where
-- they repeat, and fractions as they are drawn.
--
-- IsSized size               == there are from 1 to 200,000 states
-- structure_text s           == the text of what is drawn for a state
-- line_text i s              == the line of state i, with its end
-- text_of_trial kind seed size == the whole text
use Rattle.std.specs.Prelude.{ℕ, ◌+◌, ◌-◌, ◌≤◌, List, [], ◌∷◌, ◌++◌, map, codes, decimal, nat_lt, if◌then◌else◌}
use Rattle.std.specs.List.{join_by}
use Rattle.trial_texts.specs.declared.kind.TrialKind.{TrialKind}
use Rattle.trial_texts.specs.declared.kind.TrialKind.TheVariants.{Lts, Chain, Sums, Dfa}
use Rattle.trial_texts.specs.Structures.{Structure, structures}
use Rattle.trial_texts.specs.Structures.Structure.{moves, chances, sums, ends}

-- there are from 1 to 200,000 states
abbrev pub IsSized : ℕ → Type 0
IsSized size = (1 ≤ size) × (size ≤ 200000)

-- the functor's line, without its end
abbrev pub functor_text : TrialKind → List ℕ
functor_text Lts = codes "P({a,b,c} x X)"
functor_text Chain = codes "2 x D X"
functor_text Sums = codes "2 x Z^(X)"
functor_text Dfa = codes "2 x X^{a,b}"

-- ---- words

-- the name of a state: `s` and its number
abbrev pub name_text : ℕ → List ℕ
name_text i = codes "s" ++ decimal i

-- the byte `a`
abbrev pub first_letter : ℕ
first_letter = 97

-- the letter of a label: `a`, `b` and `c` for 0, 1 and 2
abbrev pub letter_text : ℕ → List ℕ
letter_text l = (first_letter + l) ∷ []

-- eighths, as a fraction that is not reduced
abbrev pub eighths_text : ℕ → List ℕ
eighths_text k = decimal k ++ codes "/8"

-- the weight w less 3
abbrev pub weight_text : ℕ → List ℕ
weight_text w = if nat_lt w 3 then codes "-" ++ decimal (3 - w) else decimal (w - 3)

-- ---- structures

-- texts with a comma and a space between each two
abbrev pub listed : List (List ℕ) → List ℕ
listed texts = join_by (λ text. text) (codes ", ") texts

-- two texts with a colon and a space between them
abbrev pub paired : List ℕ → List ℕ → List ℕ
paired first second = first ++ (codes ": " ++ second)

-- the text in parentheses
abbrev pub in_parentheses : List ℕ → List ℕ
in_parentheses text = codes "(" ++ (text ++ codes ")")

-- the text in braces
abbrev pub in_braces : List ℕ → List ℕ
in_braces text = codes "{" ++ (text ++ codes "}")

-- a mark and a text behind it, in parentheses
abbrev pub marked : ℕ → List ℕ → List ℕ
marked mark text = in_parentheses (listed (decimal mark ∷ text ∷ []))

-- a label and a target
abbrev pub move_text : ℕ × ℕ → List ℕ
move_text move = in_parentheses (listed (letter_text move.0 ∷ name_text move.1 ∷ []))

-- a target and its eighths
abbrev pub chance_text : ℕ → ℕ → List ℕ
chance_text target k = paired (name_text target) (eighths_text k)

-- a target and its weight
abbrev pub sum_text : ℕ × ℕ → List ℕ
sum_text entry = paired (name_text entry.0) (weight_text entry.1)

-- a label and the target by it
abbrev pub end_text : ℕ → ℕ → List ℕ
end_text label target = paired (letter_text label) (name_text target)

-- what is drawn for a state
abbrev pub structure_text : Structure → List ℕ
structure_text (moves ps) = in_braces (listed (map move_text ps))
structure_text (chances mark first second k) =
    marked mark
    (in_braces (listed (chance_text first k ∷ chance_text second (8 - k) ∷ [])))
structure_text (sums mark ps) = marked mark (in_braces (listed (map sum_text ps)))
structure_text (ends mark first second) =
    marked mark (in_braces (listed (end_text 0 first ∷ end_text 1 second ∷ [])))

-- ---- lines

-- the line of state i, with its end
abbrev pub line_text : ℕ → Structure → List ℕ
line_text i s = paired (name_text i) (structure_text s) ++ codes "\n"

-- the lines of states, of which the first has the number i
abbrev pub lines_text : ℕ → List Structure → List ℕ
lines_text i [] = []
lines_text i (s ∷ ss) = line_text i s ++ lines_text (i + 1) ss

-- the whole text
abbrev pub text_of_trial : TrialKind → ℕ → ℕ → List ℕ
text_of_trial kind seed size =
    (functor_text kind ++ codes "\n") ++ lines_text 0 (structures kind size size seed)
