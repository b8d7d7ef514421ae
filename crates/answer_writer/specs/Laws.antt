-- Laws of these texts, as statements. Each is a clause of a function that does nothing.
--
-- PairLinesCanBeSaid     == lines of pairs are lines of answers
-- ExplanationsAreRead    == an explanation is read as its formulas and its pairs
-- ExplainedFormulasAreRead, CertifiedFormulasAreRead
--                        == the formulas that are read of the text are its formulas
-- BlockLinesCanBeSaid    == lines of blocks are lines of answers
-- BlockLinesTellNoPair   == and none of them tells of a pair
-- CertificatesAreRead    == a certificate is read as its formulas and its blocks
-- BlocksAreKept          == the blocks that are read have the formulas and names that were given
-- StatsAreComments       == the line of statistics is a comment
use Rattle.std.specs.Prelude.{◌≡◌, ◌<◌, ◌+◌, ◌^◌, ℕ, true, List, [], ◌∷◌, ◌++◌, map, length, IfSome, Option, Ok}
use Rattle.std.specs.List.{All, list_all}
use Rattle.functor_terms.specs.Words.{AreNames}
use Rattle.formulas.specs.declared.formula.Formula.{Formula}
use Rattle.formulas.specs.Formulas.{IsDag}
use Rattle.formula_text.specs.Answers.{tells_no_pair, answers_of, certificate_of, dag_of}
use Rattle.formula_text.specs.Reading.{blocks_of}
use Rattle.formula_text.specs.Texts.{AreSayable, IsComment, text_of_answers}
use Rattle.formula_text.specs.Laws.{AreWritable, all_answers}
use Rattle.answer_writer.specs.Lines.{name_of, IsPairOf, AreStatesOf, pair_lines, block_lines}
use Rattle.answer_writer.specs.Stats.{stats_text}

-- ---- explanations

-- a formula that is told is one of the first n
abbrev pub IsVerdict : ℕ → Option ℕ → Type 0
IsVerdict n verdict = IfSome verdict (λ f. f < n)

-- lines of pairs can be said behind n formulas, if the verdicts cite these
abbrev pub PairLinesCanBeSaid : Type 0
PairLinesCanBeSaid =
    (n : ℕ) (names : List (List ℕ)) (pairs : List (ℕ × ℕ)) (verdicts : List (Option ℕ)) →
    AreNames names → All (IsPairOf names) pairs → All (IsVerdict n) verdicts →
    AreSayable n (pair_lines names pairs verdicts)

-- such an explanation is read as its formulas and its pairs, with a comment behind it or none
abbrev pub ExplanationsAreRead : Type 0
ExplanationsAreRead =
    (dag : List Formula) (names : List (List ℕ)) (pairs : List (ℕ × ℕ))
    (verdicts : List (Option ℕ)) (comment : List ℕ) →
    IsDag dag → AreWritable dag → length dag < 2 ^ 32 →
    AreNames names → All (IsPairOf names) pairs → All (IsVerdict (length dag)) verdicts →
    IsComment comment →
    answers_of (text_of_answers dag (pair_lines names pairs verdicts) ++ comment)
    ≡ Ok (all_answers dag (pair_lines names pairs verdicts))

-- the formulas that are read of such a text are its formulas
abbrev pub ExplainedFormulasAreRead : Type 0
ExplainedFormulasAreRead =
    (dag : List Formula) (names : List (List ℕ)) (pairs : List (ℕ × ℕ))
    (verdicts : List (Option ℕ)) (comment : List ℕ) →
    IsDag dag → AreWritable dag → length dag < 2 ^ 32 →
    AreNames names → All (IsPairOf names) pairs → All (IsVerdict (length dag)) verdicts →
    IsComment comment →
    dag_of (text_of_answers dag (pair_lines names pairs verdicts) ++ comment) ≡ Ok dag

-- ---- certificates

-- the states have names, and there are some
abbrev pub IsBlockOf : List (List ℕ) → List ℕ → Type 0
IsBlockOf names states = (0 < length states) × AreStatesOf names states

-- lines of blocks can be said behind n formulas, if they cite these
abbrev pub BlockLinesCanBeSaid : Type 0
BlockLinesCanBeSaid =
    (n : ℕ) (names : List (List ℕ)) (formulas : List ℕ) (blocks : List (List ℕ)) →
    AreNames names → All (λ f. f < n) formulas → All (IsBlockOf names) blocks →
    AreSayable n (block_lines names formulas blocks)

-- no line of a block tells of a pair
abbrev pub BlockLinesTellNoPair : Type 0
BlockLinesTellNoPair =
    (names : List (List ℕ)) (formulas : List ℕ) (blocks : List (List ℕ)) →
    list_all tells_no_pair (block_lines names formulas blocks) ≡ true

-- such a certificate is read as its formulas and its blocks, with a comment behind it or none
abbrev pub CertificatesAreRead : Type 0
CertificatesAreRead =
    (dag : List Formula) (names : List (List ℕ)) (formulas : List ℕ) (blocks : List (List ℕ))
    (comment : List ℕ) →
    IsDag dag → AreWritable dag → length dag < 2 ^ 32 →
    AreNames names → All (λ f. f < length dag) formulas → All (IsBlockOf names) blocks →
    IsComment comment →
    certificate_of (text_of_answers dag (block_lines names formulas blocks) ++ comment)
    ≡ Ok (all_answers dag (block_lines names formulas blocks))

-- the formulas that are read of such a text are its formulas
abbrev pub CertifiedFormulasAreRead : Type 0
CertifiedFormulasAreRead =
    (dag : List Formula) (names : List (List ℕ)) (formulas : List ℕ) (blocks : List (List ℕ))
    (comment : List ℕ) →
    IsDag dag → AreWritable dag → length dag < 2 ^ 32 →
    AreNames names → All (λ f. f < length dag) formulas → All (IsBlockOf names) blocks →
    IsComment comment →
    dag_of (text_of_answers dag (block_lines names formulas blocks) ++ comment) ≡ Ok dag

-- blocks with their formulas and the names of their states, on lines from number n on
abbrev pub numbered_blocks :
    ℕ → List (List ℕ) → List ℕ → List (List ℕ) → List (ℕ × ℕ × List (List ℕ))
numbered_blocks n names [] blocks = []
numbered_blocks n names (f ∷ formulas) [] = []
numbered_blocks n names (f ∷ formulas) (states ∷ blocks) =
    (n, f, map (name_of names) states) ∷ numbered_blocks (n + 1) names formulas blocks

-- the blocks that are read of a certificate are these, behind the lines of the formulas
abbrev pub BlocksAreKept : Type 0
BlocksAreKept =
    (dag : List Formula) (names : List (List ℕ)) (formulas : List ℕ) (blocks : List (List ℕ)) →
    blocks_of (all_answers dag (block_lines names formulas blocks))
    ≡ numbered_blocks (1 + length dag) names formulas blocks

-- ---- statistics

-- the line of statistics is a comment
abbrev pub StatsAreComments : Type 0
StatsAreComments =
    (sorted edges labels : ℕ) → sorted < 2 ^ 32 → edges < 2 ^ 32 → labels < 2 ^ 64 →
    IsComment (stats_text sorted edges labels)
