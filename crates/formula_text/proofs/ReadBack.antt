-- The lines of formulas, and those behind them, are read as what they say.
use Rattle.std.proofs.Common.{◌≡◌, ℕ, suc, ◌+◌, ◌^◌, ◌<◌, Bool, true, false, List, [], ◌∷◌, ◌++◌, length, map, append_assoc, append-nil, Some, None, inl, slice_get, refl, ap, sym, ◌∙◌, subst, arith, rules}
use Rattle.std.specs.Prelude.{◌&&◌, ◌||◌, if◌then◌else◌, codes, option_and_then, option_map, Result, Ok, Err}
use Rattle.std.specs.Fmt.{decimal}
use Rattle.std.specs.List.{list_all, AllByRecursion}
use Rattle.std.proofs.lemmas.List.{length-map}
use Rattle.std.proofs.lemmas.List.Elements.{All-head, All-tail}
use Rattle.std.proofs.lemmas.Bool.{and_parts}
use Rattle.file_cut.specs.Lines.{lines_from}
use Rattle.formulas.specs.declared.formula.Formula.{Formula}
use Rattle.formulas.specs.declared.formula.Formula.TheVariants.{True, Not, And, At}
use Rattle.formulas.specs.Formulas.{CitesBelow}
use Rattle.formulas.specs.Ranges.{IsWritable}
use Rattle.formula_text.specs.Values.{value_text, value_in, both}
use Rattle.formula_text.specs.Answers.{Answer, Defines, Block, Separates, Equivalent, formula_name, cited, body_of, answer_of, with_answer, tells_no_pair, taken_from, with_formula, formulas_of, dag_of_answers, dag_of}
use Rattle.formula_text.specs.Reading.{blocks_of, pair_or, pair_of}
use Rattle.formula_text.specs.Texts.{body_parts, formula_line, text_from, text_of_dag, line_text, lines_text, text_of_answers, IsSayable, AreSayable, IsComment, numbered_answers}
use Rattle.formula_text.specs.Laws.{AreWritable, DagTextsAreRead, all_answers, AnswerTextsAreRead, CertificateTextsAreRead, AnswerFormulasAreRead, FormulasStandInFront, BlocksStandBehind, PairsAreNone}
use Rattle.formula_text.proofs.NumberLaws.{same_itself, number_below-decimal, decimal_some}
use Rattle.formula_text.proofs.ValueLaws.{decimal_graphic, value_in-text, value_graphic, value_some}
use Rattle.formula_text.proofs.PartLaws.{IsPart, graphic_part, word_part, word_parts, word_told, words_told, comment_lines, line_says}
use Rattle.formula_text.proofs.ReadLaws.{prefixed, none_before}

-- ---- one formula

name_part : (i : ℕ) → i < 2 ^ 32 → IsPart (formula_name i)
name_part i small =
    graphic_part (formula_name i) (omega arith) (decimal_graphic i (omega arith))

-- the parts of a body are parts
body_are :
    (k : ℕ) (f : Formula) → k < 2 ^ 32 → CitesBelow k f → IsWritable f →
    AllByRecursion IsPart (body_parts f)
body_are k True small h w = ((omega arith, refl), tt)
body_are k (Not i) small h w = ((omega arith, refl), (name_part i (omega arith), tt))
body_are k (And i j) small h w = (
  (omega arith, refl),
  (
    name_part i (let a = h.0 in omega arith),
    (name_part j (let a = h.1 in omega arith), tt),
  ),
)
body_are k (At node value splitter coarse) small h w =
    let low = w.0 in (
      (omega arith, refl),
      (
        graphic_part (decimal node) (decimal_some node (omega arith))
            (decimal_graphic node (omega arith)),
        (
          graphic_part (value_text value) (value_some value w.1) (value_graphic value w.1),
          (
            name_part splitter (let a = h.0 in omega arith),
            (name_part coarse (let a = h.1 in omega arith), tt),
          ),
        ),
      ),
    )

-- a formula is cited as it is named
cited-name : (k i : ℕ) → i < k → k < 2 ^ 32 → cited k (formula_name i) ≡ Some i
cited-name k i below small = number_below-decimal k i below (omega arith)

-- the body of a formula is read as it is written
body_of-parts :
    (k : ℕ) (f : Formula) → k < 2 ^ 32 → CitesBelow k f → IsWritable f →
    body_of k (body_parts f) ≡ Some f
body_of-parts k True small h w = refl
body_of-parts k (Not i) small h w = ap (option_map Not) (cited-name k i h small)
body_of-parts k (And i j) small h w =
    (λ t. both And (cited-name k i h.0 small t) (cited-name k j h.1 small t))
body_of-parts k (At node value splitter coarse) small h w =
    let low = w.0 in
    ap (option_and_then
    (λ n. option_and_then
    (λ v. both (At n v) (cited k (formula_name splitter)) (cited k (formula_name coarse)))
    (value_in (value_text value))))
    (number_below-decimal 256 node low (omega arith))
    ∙ ap (option_and_then
    (λ v. both (At node v) (cited k (formula_name splitter)) (cited k (formula_name coarse))))
    (value_in-text value w.1)
    ∙ (λ t. both (At node value) (cited-name k splitter h.0 small t)
    (cited-name k coarse h.1 small t))

-- the line of a formula says it
answer_of-parts :
    (k : ℕ) (f : Formula) → k < 2 ^ 32 → CitesBelow k f → IsWritable f →
    answer_of k (formula_name k ∷ codes "=" ∷ body_parts f) ≡ Some (Defines f)
answer_of-parts k f small h w =
    (λ i. if same_itself (formula_name k) i && true
    then option_map Defines (body_of k (body_parts f)) else None)
    ∙ ap (option_map Defines) (body_of-parts k f small h w)

-- ---- all formulas

-- an answer before answers that stand before others
one_before :
    (n : ℕ) (a : Answer) (done : List (ℕ × Answer)) (later : Result (List (ℕ × Answer)) ℕ) →
    with_answer n a (prefixed done later) ≡ prefixed ((n, a) ∷ done) later
one_before n a done (Ok answers) = refl
one_before n a done (Err bad) = refl

-- formulas of which the first has the number k, and that cite smaller ones
abbrev CiteEarlier : ℕ → List Formula → Type 0
CiteEarlier k [] = Unit {0}
CiteEarlier k (f ∷ fs) = CitesBelow k f × CiteEarlier (k + 1) fs

cite_earlier :
    (k : ℕ) (fs : List Formula) →
    ((j : ℕ) (f : Formula) → slice_get fs j ≡ Some f → CitesBelow (j + k) f) → CiteEarlier k fs
cite_earlier k [] h = tt
cite_earlier k (f ∷ fs) h = (
  subst (λ m. CitesBelow m f) (let e : 0 + k ≡ k = omega arith in e) (h 0 f refl),
  cite_earlier (k + 1) fs (λ j g there.
      let e : suc j + k ≡ j + (k + 1) = omega arith in
      subst (λ m. CitesBelow m g) e (h (suc j) g there)),
)

takes_formula : (pairs : Bool) → (pairs || true) ≡ true
takes_formula true = refl
takes_formula false = refl

-- what is read of the lines behind the number n, behind k formulas
abbrev read_behind : Bool → ℕ → ℕ → List ℕ → Result (List (ℕ × Answer)) ℕ
read_behind pairs n k text = taken_from pairs k (lines_from n text)

-- the lines of formulas are read as these formulas, before the lines behind them
read_formulas :
    (pairs : Bool) (n k : ℕ) (fs : List Formula) (rest : List ℕ) → k + length fs < 2 ^ 32 →
    CiteEarlier k fs → AreWritable fs →
    read_behind pairs n k (text_from k fs ++ rest)
    ≡ prefixed (numbered_answers n (map Defines fs))
    (read_behind pairs (n + length fs) (k + length fs) rest)
read_formulas pairs n k [] rest small cites all =
    let same : (m : ℕ) → m + 0 ≡ m = λ m. omega arith in
    none_before (read_behind pairs n k rest)
    ∙ ap (λ m. prefixed [] (read_behind pairs m k rest)) (sym (same n))
    ∙ ap (λ m. prefixed [] (read_behind pairs (n + 0) m rest)) (sym (same k))
read_formulas pairs n k (f ∷ fs) rest small cites all =
    let low : k < 2 ^ 32 = omega arith in
    let fine : IsWritable f = All-head IsWritable f fs all in
    let parts : List (List ℕ) = codes "=" ∷ body_parts f in
    let are : AllByRecursion IsPart (formula_name k ∷ parts) =
    (name_part k low, ((omega arith, refl), body_are k f low cites.0 fine)) in
    let later : List ℕ = text_from (k + 1) fs ++ rest in
    let moved : (m : ℕ) → m + 1 + length fs ≡ m + suc (length fs) = λ m. omega arith in
    let done : List (ℕ × Answer) = numbered_answers (n + 1) (map Defines fs) in
    ap (read_behind pairs n k) (append_assoc (formula_line k f) (text_from (k + 1) fs) rest)
    ∙ line_says pairs n k (formula_name k) parts (Defines f) later are refl (takes_formula pairs)
    (answer_of-parts k f low cites.0 fine)
    ∙ ap (with_answer n (Defines f))
    (read_formulas pairs (n + 1) (k + 1) fs rest (omega arith) cites.1
    (All-tail IsWritable f fs all))
    ∙ one_before n (Defines f) done
    (read_behind pairs (n + 1 + length fs) (k + 1 + length fs) rest)
    ∙ ap (λ m. prefixed ((n, Defines f) ∷ done) (read_behind pairs m (k + 1 + length fs) rest))
    (moved n)
    ∙ ap (λ m. prefixed ((n, Defines f) ∷ done)
    (read_behind pairs (n + suc (length fs)) m rest)) (moved k)

-- ---- lines of blocks and pairs

-- a line that can be said is read as it is written, before the lines behind it
read_line :
    (pairs : Bool) (n k : ℕ) (a : Answer) (rest : List ℕ) → k < 2 ^ 32 → IsSayable k a →
    (pairs || tells_no_pair a) ≡ true →
    read_behind pairs n k (line_text a ++ rest)
    ≡ with_answer n a (read_behind pairs (n + 1) k rest)
read_line pairs n k (Defines f) rest small h takes = absurd h
read_line pairs n k (Block f []) rest small h takes = absurd (let some = h.1 in omega arith)
read_line pairs n k (Block f (name ∷ names)) rest small h takes =
    let below : f < k = h.0 in
    line_says pairs n k (codes "block") (formula_name f ∷ name ∷ names)
    (Block f (name ∷ names)) rest
    ((omega arith, refl), (name_part f (omega arith), word_parts (name ∷ names) h.2))
    refl takes
    (λ i. if words_told (name ∷ names) h.2 i
    then option_map (λ g. Block g (name ∷ names)) (cited-name k f below small i) else None)
read_line pairs n k (Separates x y f) rest small h takes =
    let below : f < k = h.2 in
    line_says pairs n k (codes "separates") (x ∷ y ∷ formula_name f ∷ []) (Separates x y f) rest (
      (omega arith, refl),
      (word_part x h.0, (word_part y h.1, (name_part f (omega arith), tt))),
    )
    refl takes
    (λ i. if word_told x h.0 i && word_told y h.1 i
    then option_map (Separates x y) (cited-name k f below small i) else None)
read_line pairs n k (Equivalent x y) rest small h takes =
    line_says pairs n k (codes "equivalent") (x ∷ y ∷ []) (Equivalent x y) rest
    ((omega arith, refl), (word_part x h.0, (word_part y h.1, tt))) refl takes
    (λ i. if word_told x h.0 i && word_told y h.1 i then Some (Equivalent x y) else None)

-- lines that can be said are read as they are written, before a comment
read_lines :
    (pairs : Bool) (n k : ℕ) (lines : List Answer) (comment : List ℕ) → k < 2 ^ 32 →
    AreSayable k lines → list_all (λ a. pairs || tells_no_pair a) lines ≡ true →
    IsComment comment →
    read_behind pairs n k (lines_text lines ++ comment) ≡ Ok (numbered_answers n lines)
read_lines pairs n k [] comment small all takes is =
    ap (taken_from pairs k) (comment_lines n comment is)
read_lines pairs n k (a ∷ lines) comment small all takes is =
    let both = and_parts (pairs || tells_no_pair a) _ takes in
    ap (read_behind pairs n k) (append_assoc (line_text a) (lines_text lines) comment)
    ∙ read_line pairs n k a (lines_text lines ++ comment) small
    (All-head (IsSayable k) a lines all) both.0
    ∙ ap (with_answer n a)
    (read_lines pairs (n + 1) k lines comment small (All-tail (IsSayable k) a lines all) both.1 is)

-- ---- texts

-- answers behind answers
numbered-append :
    (n : ℕ) (xs ys : List Answer) →
    numbered_answers n (xs ++ ys)
    ≡ numbered_answers n xs ++ numbered_answers (n + length xs) ys
numbered-append n [] ys =
    let same : n ≡ n + 0 = omega arith in ap (λ m. numbered_answers m ys) same
numbered-append n (x ∷ xs) ys =
    let moved : n + 1 + length xs ≡ n + suc (length xs) = omega arith in
    ap (λ rest. (n, x) ∷ rest)
    (numbered-append (n + 1) xs ys
    ∙ ap (λ m. numbered_answers (n + 1) xs ++ numbered_answers m ys) moved)

-- the text of formulas, lines and a comment is read as these
text_read :
    (pairs : Bool) (dag : List Formula) (lines : List Answer) (comment : List ℕ) →
    CiteEarlier 0 dag → AreWritable dag → length dag < 2 ^ 32 → AreSayable (length dag) lines →
    list_all (λ a. pairs || tells_no_pair a) lines ≡ true → IsComment comment →
    read_behind pairs 1 0 (text_of_answers dag lines ++ comment) ≡ Ok (all_answers dag lines)
text_read pairs dag lines comment cites fine small all takes is =
    let done : List (ℕ × Answer) = numbered_answers 1 (map Defines dag) in
    let k : ℕ = length dag in
    let none : 0 + k ≡ k = omega arith in
    ap (read_behind pairs 1 0) (append_assoc (text_of_dag dag) (lines_text lines) comment)
    ∙ read_formulas pairs 1 0 dag (lines_text lines ++ comment) (omega arith) cites fine
    ∙ ap (λ m. prefixed done (read_behind pairs (1 + k) m (lines_text lines ++ comment))) none
    ∙ ap (prefixed done) (read_lines pairs (1 + k) k lines comment small all takes is)
    ∙ ap (λ m. Ok (done ++ numbered_answers (1 + m) lines)) (sym (length-map dag Defines))
    ∙ ap Ok (sym (numbered-append 1 (map Defines dag) lines))

-- formula k cites numbers below k
cites_all :
    (dag : List Formula) →
    ((j : ℕ) (f : Formula) → slice_get dag j ≡ Some f → CitesBelow j f) → CiteEarlier 0 dag
cites_all dag is =
    let none : (j : ℕ) → j ≡ j + 0 = λ j. omega arith in
    cite_earlier 0 dag (λ j f there. subst (λ m. CitesBelow m f) (none j) (is j f there))

all_taken : (lines : List Answer) → list_all (λ a. true || tells_no_pair a) lines ≡ true
all_taken [] = refl
all_taken (a ∷ lines) = all_taken lines

-- the text of formulas and of lines behind them is read as these
pub answers_of-text : AnswerTextsAreRead
answers_of-text dag lines comment is fine small all note =
    text_read true dag lines comment (cites_all dag is) fine small all (all_taken lines) note

-- and as a certificate, where no line tells of a pair
pub certificate_of-text : CertificateTextsAreRead
certificate_of-text dag lines comment is fine small all takes note =
    text_read false dag lines comment (cites_all dag is) fine small all takes note

-- ---- what the answers have

no_formulas :
    (n k : ℕ) (lines : List Answer) → AreSayable k lines →
    formulas_of (numbered_answers n lines) ≡ []
no_formulas n k [] all = refl
no_formulas n k (a ∷ lines) all =
    ap (with_formula a) (no_formulas (n + 1) k lines (All-tail (IsSayable k) a lines all))
    ∙ by a (All-head (IsSayable k) a lines all)
  where
    by : (a : Answer) → IsSayable k a → with_formula a [] ≡ []
    by (Defines f) h = absurd h
    by (Block f names) h = refl
    by (Separates x y f) h = refl
    by (Equivalent x y) h = refl

formulas_first :
    (n k : ℕ) (dag : List Formula) (lines : List Answer) → AreSayable k lines →
    formulas_of (numbered_answers n (map Defines dag ++ lines)) ≡ dag
formulas_first n k [] lines all = no_formulas n k lines all
formulas_first n k (f ∷ dag) lines all =
    ap (λ fs. f ∷ fs) (formulas_first (n + 1) k dag lines all)

-- the formulas of the answers are those in front
pub formulas_in_front : FormulasStandInFront
formulas_in_front dag lines all = formulas_first 1 (length dag) dag lines all

-- the formulas of a text are these
pub dag_of-answers : AnswerFormulasAreRead
dag_of-answers dag lines comment is fine small all note =
    ap dag_of_answers (answers_of-text dag lines comment is fine small all note)
    ∙ ap Ok (formulas_in_front dag lines all)

blocks_later :
    (n : ℕ) (dag : List Formula) (lines : List Answer) →
    blocks_of (numbered_answers n (map Defines dag ++ lines))
    ≡ blocks_of (numbered_answers (n + length dag) lines)
blocks_later n [] lines =
    let same : n ≡ n + 0 = omega arith in ap (λ m. blocks_of (numbered_answers m lines)) same
blocks_later n (f ∷ dag) lines =
    let moved : n + 1 + length dag ≡ n + suc (length dag) = omega arith in
    blocks_later (n + 1) dag lines ∙ ap (λ m. blocks_of (numbered_answers m lines)) moved

-- the blocks of the answers are those of the lines behind
pub blocks_behind : BlocksStandBehind
blocks_behind dag lines = blocks_later 1 dag lines

no_pair_of :
    (n : ℕ) (lines : List Answer) → list_all tells_no_pair lines ≡ true →
    pair_of (numbered_answers n lines) ≡ None
no_pair_of n [] h = refl
no_pair_of n (a ∷ lines) h =
    let both = and_parts (tells_no_pair a) (list_all tells_no_pair lines) h in
    ap (pair_or n a) (no_pair_of (n + 1) lines both.1) ∙ by a both.0
  where
    by : (a : Answer) → tells_no_pair a ≡ true → pair_or n a None ≡ None
    by (Defines f) e = refl
    by (Block f names) e = refl
    by (Separates x y f) e = cc
    by (Equivalent x y) e = cc

no_pair_first :
    (n : ℕ) (dag : List Formula) (lines : List Answer) → list_all tells_no_pair lines ≡ true →
    pair_of (numbered_answers n (map Defines dag ++ lines)) ≡ None
no_pair_first n [] lines h = no_pair_of n lines h
no_pair_first n (f ∷ dag) lines h = no_pair_first (n + 1) dag lines h

-- where no line tells of a pair, there is none
pub no_pairs : PairsAreNone
no_pairs dag lines h = no_pair_first 1 dag lines h

-- ---- formulas alone

no_lines : (k : ℕ) → AreSayable k []
no_lines k = search rules

-- the text of formulas is read as these formulas
pub dag_of-text : DagTextsAreRead
dag_of-text dag is fine small =
    sym (ap dag_of (append-nil (text_of_dag dag ++ []) ∙ append-nil (text_of_dag dag)))
    ∙ dag_of-answers dag [] [] is fine small (no_lines (length dag)) (inl refl)
