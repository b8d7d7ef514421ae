-- The least lines of misfits and of names that are no states.
use Rattle.std.proofs.Common.{◌≡◌, ℕ, zero, suc, ◌+◌, ◌<◌, Bool, true, false, not, ◌&&◌, List, [], ◌∷◌, length, get_or, drop, map, Some, None, refl, sym, ap, ◌∙◌, arith, min}
use Rattle.std.specs.Prelude.{Option}
use Rattle.std.specs.List.{list_all}
use Rattle.std.proofs.lemmas.List.{drop_more}
use Rattle.std.proofs.lemmas.Option.{same_Some, none-some}
use Rattle.functor_terms.specs.Terms.{Nodes}
use Rattle.typing.specs.Contents.{Content}
use Rattle.formulas.specs.declared.formula.Formula.{Formula}
use Rattle.satisfaction.specs.Modalities.{fits_term, AllFit}
use Rattle.formula_text.specs.Answers.{Answer, Defines, Block, Separates, Equivalent, formulas_of, with_formula}
use Rattle.formula_text.specs.Reading.{lines_of_formulas, with_line, blocks_of, with_block, block_seen, IsTextOf}
use Rattle.formula_text.specs.declared.answer.AnswerText.{AnswerText}
use Rattle.formula_text.specs.declared.answer.BlockLine.{BlockLine}
use Rattle.answer_checker.specs.BadLines.{lesser, if_passed, least_line, is_misfit, is_state, is_unfit}
use Rattle.answer_checker.specs.LineSteps.{least_of_formulas, least_of_blocks}

-- no number is none the lesser
pub lesser-none : (a : Option ℕ) → lesser a None ≡ a
lesser-none None = refl
lesser-none (Some m) = refl

-- the least of three
pub lesser-assoc : (a b c : Option ℕ) → lesser (lesser a b) c ≡ lesser a (lesser b c)
lesser-assoc None b c = refl
lesser-assoc (Some m) None c = refl
lesser-assoc (Some m) (Some n) None = refl
lesser-assoc (Some m) (Some n) (Some k) =
    let same : min (min m n) k ≡ min m (min n k) = omega arith in ap Some same

-- of two in either order
pub lesser-comm : (a b : Option ℕ) → lesser a b ≡ lesser b a
lesser-comm None None = refl
lesser-comm None (Some n) = refl
lesser-comm (Some m) None = refl
lesser-comm (Some m) (Some n) = let same : min m n ≡ min n m = omega arith in ap Some same

-- the second comes first
lesser-swap : (a b c : Option ℕ) → lesser a (lesser b c) ≡ lesser b (lesser a c)
lesser-swap a b c =
    sym (lesser-assoc a b c) ∙ ap (λ x. lesser x c) (lesser-comm a b) ∙ lesser-assoc b a c

-- one number more
pub least_more :
    (least here new rest all : Option ℕ) → new ≡ lesser least here →
    lesser least (lesser here rest) ≡ all → lesser new rest ≡ all
least_more least here new rest all is before =
    ap (λ x. lesser x rest) is ∙ lesser-assoc least here rest ∙ before

-- the first formula behind k others
pub misfit_here :
    (t : Nodes) (fs : List Formula) (lines : List ℕ) (k : ℕ) (f : Formula) (n : ℕ) →
    k < length fs → k < length lines → get_or fs k f ≡ f → get_or lines k n ≡ n →
    least_of_formulas t (drop k fs) (drop k lines)
    ≡ lesser (if_passed (not (fits_term t f)) n)
    (least_of_formulas t (drop (k + 1) fs) (drop (k + 1) lines))
misfit_here t fs lines k f n in_fs in_lines at at' =
    rw (drop_more fs k f in_fs, drop_more lines k n in_lines, at, at') refl

-- the first block behind k others
pub stranger_here :
    (names : List (List ℕ)) (blocks : List (ℕ × ℕ × List (List ℕ))) (b : ℕ × ℕ × List (List ℕ))
    (rest : List (ℕ × ℕ × List (List ℕ))) → blocks ≡ b ∷ rest →
    least_of_blocks names blocks
    ≡ lesser (if_passed (not (list_all (is_state names) b.2)) b.0) (least_of_blocks names rest)
stranger_here names blocks b rest is = ap (least_of_blocks names) is

-- each formula has a line
pub one_line_each :
    (answers : List (ℕ × Answer)) →
    length (lines_of_formulas answers) ≡ length (formulas_of answers)
one_line_each [] = refl
one_line_each (a ∷ answers) = by a.1 (one_line_each answers)
  where
    by : (x : Answer) → length (lines_of_formulas answers) ≡ length (formulas_of answers) →
        length (with_line a.0 x (lines_of_formulas answers))
        ≡ length (with_formula x (formulas_of answers))
    by (Defines f) same = ap suc same
    by (Block f names) same = same
    by (Separates x y f) same = same
    by (Equivalent x y) same = same

-- the least line of a misfit is that of the formulas alone
pub misfit_lines :
    (t : Nodes) (answers : List (ℕ × Answer)) →
    least_line (is_misfit t) answers
    ≡ least_of_formulas t (formulas_of answers) (lines_of_formulas answers)
misfit_lines t [] = refl
misfit_lines t (a ∷ answers) = by a.1 (misfit_lines t answers)
  where
    by : (x : Answer) →
        least_line (is_misfit t) answers
        ≡ least_of_formulas t (formulas_of answers) (lines_of_formulas answers) →
        lesser (if_passed (is_misfit t x) a.0) (least_line (is_misfit t) answers)
        ≡ least_of_formulas t (with_formula x (formulas_of answers))
        (with_line a.0 x (lines_of_formulas answers))
    by (Defines f) same = ap (lesser (if_passed (not (fits_term t f)) a.0)) same
    by (Block f names) same = same
    by (Separates x y f) same = same
    by (Equivalent x y) same = same

-- the least bad line is that of a formula or of a block
pub unfit_lines :
    (c : Content) (answers : List (ℕ × Answer)) →
    least_line (is_unfit c) answers
    ≡ lesser (least_of_formulas c.term (formulas_of answers) (lines_of_formulas answers))
    (least_of_blocks c.names (blocks_of answers))
unfit_lines c [] = refl
unfit_lines c (a ∷ answers) = by a.1 (unfit_lines c answers)
  where
    by : (x : Answer) →
        least_line (is_unfit c) answers
        ≡ lesser (least_of_formulas c.term (formulas_of answers) (lines_of_formulas answers))
        (least_of_blocks c.names (blocks_of answers)) →
        lesser (if_passed (is_unfit c x) a.0) (least_line (is_unfit c) answers)
        ≡ lesser
        (least_of_formulas c.term (with_formula x (formulas_of answers))
        (with_line a.0 x (lines_of_formulas answers)))
        (least_of_blocks c.names (with_block a.0 x (blocks_of answers)))
    by (Defines f) same =
        let here : Option ℕ = if_passed (not (fits_term c.term f)) a.0 in
        ap (lesser here) same
        ∙ sym (lesser-assoc here
        (least_of_formulas c.term (formulas_of answers) (lines_of_formulas answers))
        (least_of_blocks c.names (blocks_of answers)))
    by (Block f names) same =
        let here : Option ℕ = if_passed (not (list_all (is_state c.names) names)) a.0 in
        ap (lesser here) same
        ∙ lesser-swap here
        (least_of_formulas c.term (formulas_of answers) (lines_of_formulas answers))
        (least_of_blocks c.names (blocks_of answers))
    by (Separates x y f) same = same
    by (Equivalent x y) same = same

-- none is the lesser of two where both are none
neither : (a b : Option ℕ) → lesser a b ≡ None → (a ≡ None) × (b ≡ None)
neither None b none = (refl, none)
neither (Some m) None none = absurd (none-some m (sym none))
neither (Some m) (Some n) none = absurd (none-some (min m n) (sym none))

-- a test that was not passed
not_passed : (o : Bool) (n : ℕ) → if_passed (not o) n ≡ None → o ≡ true
not_passed true n none = refl
not_passed false n none = absurd (none-some n (sym none))

-- where no line is told each formula fits
pub all_fit :
    (t : Nodes) (fs : List Formula) (lines : List ℕ) → length lines ≡ length fs →
    least_of_formulas t fs lines ≡ None → AllFit t fs
all_fit t [] lines same none k f at = absurd (none-some f at)
all_fit t (x ∷ fs) [] same none k f at = absurd (omega (arith, same))
all_fit t (x ∷ fs) (n ∷ lines) same none zero f at =
    let both = neither (if_passed (not (fits_term t x)) n) (least_of_formulas t fs lines) none in
    ap (fits_term t) (sym (same_Some x f at)) ∙ not_passed (fits_term t x) n both.0
all_fit t (x ∷ fs) (n ∷ lines) same none (suc k) f at =
    let both = neither (if_passed (not (fits_term t x)) n) (least_of_formulas t fs lines) none in
    all_fit t fs lines (omega (arith, same)) both.1 k f at

-- the test of all that is left, where the next does not pass
pub all_false :
    {A : Type 0} (p : List ℕ → Bool) (g : A → List ℕ) (xs : List A) (i : ℕ) (d : A) →
    i < length xs → p (g (get_or xs i d)) ≡ false → list_all p (map g (drop i xs)) ≡ false
all_false p g xs i d h e =
    rw (drop_more xs i d h) (ap (λ o. o && list_all p (map g (drop (i + 1) xs))) e)

-- and where it does
pub all_true :
    {A : Type 0} (p : List ℕ → Bool) (g : A → List ℕ) (xs : List A) (i : ℕ) (d : A) →
    i < length xs → p (g (get_or xs i d)) ≡ true →
    list_all p (map g (drop i xs)) ≡ list_all p (map g (drop (i + 1) xs))
all_true p g xs i d h e =
    rw (drop_more xs i d h) (ap (λ o. o && list_all p (map g (drop (i + 1) xs))) e)

-- the least bad line by what was read
pub unfit_seen :
    (c : Content) (t : AnswerText) (answers : List (ℕ × Answer)) (lines : List ℕ)
    (blocks : List BlockLine) (a b o : Option ℕ) → IsTextOf t answers → lines ≡ t.lines.items →
    blocks ≡ t.blocks.items → a ≡ least_of_formulas c.term t.dag lines →
    b ≡ least_of_blocks c.names (map block_seen blocks) → o ≡ lesser a b →
    least_line (is_unfit c) answers ≡ o
unfit_seen c t answers lines blocks a b o is same same' ea eb eo =
    let formulas : a ≡ least_of_formulas c.term (formulas_of answers) (lines_of_formulas answers) =
    ea ∙ ap (least_of_formulas c.term t.dag) (same ∙ is.lines)
    ∙ ap (λ fs. least_of_formulas c.term fs (lines_of_formulas answers)) is.formulas in
    let others : b ≡ least_of_blocks c.names (blocks_of answers) =
    eb ∙ ap (least_of_blocks c.names) (ap (map block_seen) same' ∙ is.blocks) in
    unfit_lines c answers
    ∙ sym (eo ∙ ap (λ x. lesser x b) formulas
    ∙ ap (lesser (least_of_formulas c.term (formulas_of answers) (lines_of_formulas answers)))
    others)
