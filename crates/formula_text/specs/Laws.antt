-- What is written is read.
--
-- AreWritable dag             == each formula can be said by a line
-- DagTextsAreRead             == the text of formulas is read as these formulas
-- AnswerTextsAreRead          == the text of formulas and of lines behind them is read as these
-- CertificateTextsAreRead     == the same of certificates, where no line tells of a pair
-- AnswerFormulasAreRead       == its formulas are these
-- FormulasStandInFront .. PairsAreNone
--                             == what the answers of such a text have
use Rattle.std.specs.Prelude.{◌≡◌, ◌<◌, ◌+◌, ◌^◌, ℕ, true, List, ◌++◌, length, map, None, Ok}
use Rattle.std.specs.List.{All, list_all}
use Rattle.formulas.specs.declared.formula.Formula.{Formula}
use Rattle.formulas.specs.Formulas.{IsDag}
use Rattle.formulas.specs.Ranges.{IsWritable}
use Rattle.formula_text.specs.Answers.{Answer, Defines, tells_no_pair, answers_of, certificate_of, formulas_of, dag_of}
use Rattle.formula_text.specs.Reading.{blocks_of, pair_of}
use Rattle.formula_text.specs.Texts.{text_of_dag, text_of_answers, AreSayable, IsComment, numbered_answers}

-- each formula can be said by a line
abbrev pub AreWritable : List Formula → Type 0
AreWritable dag = All IsWritable dag

-- the text of formulas that can be said by lines is read as these formulas
abbrev pub DagTextsAreRead : Type 0
DagTextsAreRead =
    (dag : List Formula) → IsDag dag → AreWritable dag → length dag < 2 ^ 32 →
    dag_of (text_of_dag dag) ≡ Ok dag

-- the answers of formulas and of lines behind them, numbered from 1
abbrev pub all_answers : List Formula → List Answer → List (ℕ × Answer)
all_answers dag lines = numbered_answers 1 (map Defines dag ++ lines)

-- the text of formulas, of lines that can be said behind them, and of a comment is read as these
abbrev pub AnswerTextsAreRead : Type 0
AnswerTextsAreRead =
    (dag : List Formula) (lines : List Answer) (comment : List ℕ) →
    IsDag dag → AreWritable dag → length dag < 2 ^ 32 →
    AreSayable (length dag) lines → IsComment comment →
    answers_of (text_of_answers dag lines ++ comment) ≡ Ok (all_answers dag lines)

-- the same of a certificate, where no line tells of a pair
abbrev pub CertificateTextsAreRead : Type 0
CertificateTextsAreRead =
    (dag : List Formula) (lines : List Answer) (comment : List ℕ) →
    IsDag dag → AreWritable dag → length dag < 2 ^ 32 →
    AreSayable (length dag) lines → list_all tells_no_pair lines ≡ true → IsComment comment →
    certificate_of (text_of_answers dag lines ++ comment) ≡ Ok (all_answers dag lines)

-- the formulas of such a text are these
abbrev pub AnswerFormulasAreRead : Type 0
AnswerFormulasAreRead =
    (dag : List Formula) (lines : List Answer) (comment : List ℕ) →
    IsDag dag → AreWritable dag → length dag < 2 ^ 32 →
    AreSayable (length dag) lines → IsComment comment →
    dag_of (text_of_answers dag lines ++ comment) ≡ Ok dag

-- ---- what the answers have

-- their formulas are those in front
abbrev pub FormulasStandInFront : Type 0
FormulasStandInFront =
    (dag : List Formula) (lines : List Answer) → AreSayable (length dag) lines →
    formulas_of (all_answers dag lines) ≡ dag

-- their blocks are those of the lines, which are numbered behind the formulas
abbrev pub BlocksStandBehind : Type 0
BlocksStandBehind =
    (dag : List Formula) (lines : List Answer) →
    blocks_of (all_answers dag lines) ≡ blocks_of (numbered_answers (1 + length dag) lines)

-- where no line tells of a pair, there is none
abbrev pub PairsAreNone : Type 0
PairsAreNone =
    (dag : List Formula) (lines : List Answer) → list_all tells_no_pair lines ≡ true →
    pair_of (all_answers dag lines) ≡ None
