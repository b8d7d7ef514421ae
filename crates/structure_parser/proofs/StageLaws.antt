-- What the passes compute is what the stages say.
use Rattle.std.proofs.Common.{◌≡◌, ℕ, suc, ◌-◌, ◌==◌, Bool, true, false, List, [], ◌∷◌, ◌++◌, length, Some, None, refl, sym, ap, ◌∙◌, arith, append_assoc, append-nil}
use Rattle.std.proofs.Math.Dec.{eqb-suc-zero}
use Rattle.std.specs.Prelude.{Result, Ok, Err, is_some, if◌then◌else◌}
use Rattle.std.specs.List.{AllZip}
use Rattle.file_cut.specs.Lines.{Numbered}
use Rattle.file_cut.specs.declared.tree.Tree.{Tree}
use Rattle.functor_terms.specs.Words.{place_of}
use Rattle.functor_terms.specs.Terms.{Nodes}
use Rattle.typing.specs.declared.kind.TypeKind.{TypeKind}
use Rattle.typing.specs.declared.kind.TypeKind.TheVariants.{RepeatedState}
use Rattle.typing.specs.declared.value.Value.{Value}
use Rattle.fitting.specs.declared.fitted.Fitted.{Fitted}
use Rattle.fitting.specs.Fitting.{Found, fitting}
use Rattle.fitting.specs.Scaling.{has_sums}
use Rattle.structure_parser.specs.declared.stage.Kept.{Kept}
use Rattle.structure_parser.specs.declared.stage.Stage.TheVariants as stage
use Rattle.structure_parser.specs.Rows.{Row}
use Rattle.structure_parser.specs.Stages.{Typed, typed_first, typed, with_head, names_with, heads_of, bounded, summed}
use Rattle.structure_parser.specs.Reads.{IsNormalForm}
use Rattle.structure_parser.specs.Reading.{row_of, rows_in, first_bad, first_word, word_first, is_old, with_word, names_in, fresh_in, row_fit, typed_from, kept_of, told_of, told_bound, told_all, short_kept, IsValueOf}
use Rattle.structure_parser.specs.Reading.Told.{misfit, past_bound, fine}
use Rattle.structure_parser.proofs.RowLaws.{row-sound, good-rest, rows-cons}

-- ---- heads

-- a row begins with its head
head-first : (line : Numbered) (r : Row) → row_of line ≡ Some r →
    first_word line.text ≡ Some r.head
head-first line r is = let w = row-sound line r is in ap word_first w.spelled.1

-- the names of lines that are rows are those of the rows
pub names-rows : (before : List (List ℕ)) (lines : List Numbered) → first_bad lines ≡ None →
    names_in before lines ≡ names_with before (rows_in lines)
names-rows before [] good = refl
names-rows before (line ∷ lines) good =
    let (r, is, later) = good-rest line lines good in
    ap (λ o. names_in (with_word before o) lines) (head-first line r is)
    ∙ names-rows (with_head before r.head) lines later
    ∙ sym (ap (names_with before) (rows-cons line lines r is))

-- what is typed of so many rows with new heads, of which the first is new
typed-suc : (t : Nodes) (names : List (List ℕ)) (k : ℕ) (r : Row) (rows : List Row) →
    typed_from t names (suc k) (r ∷ rows)
    ≡ typed_first r.line (fitting t names 0 r.tree) (typed_from t names k rows)
typed-suc t names k r rows =
    let some : (suc k == 0) ≡ false = eqb-suc-zero k in
    let less : suc k - 1 ≡ k = omega arith in
    ap (λ b. typed_first r.line (row_fit t names b r.tree) (typed_from t names (suc k - 1) rows))
    some
    ∙ ap (λ n. typed_first r.line (fitting t names 0 r.tree) (typed_from t names n rows)) less

-- a count of lines with new first words does for the heads before each row
pub typed-fresh : (t : Nodes) (names before : List (List ℕ)) (lines : List Numbered) →
    first_bad lines ≡ None →
    typed_from t names (fresh_in before lines) (rows_in lines)
    ≡ typed t names before (rows_in lines)
typed-fresh t names before [] good = refl
typed-fresh t names before (line ∷ lines) good =
    let (r, is, later) = good-rest line lines good in
    let rows : rows_in (line ∷ lines) ≡ r ∷ rows_in lines = rows-cons line lines r is in
    let old : is_old before (first_word line.text) ≡ is_some (place_of r.head before) =
    ap (is_old before) (head-first line r is) in
    let more : with_word before (first_word line.text) ≡ with_head before r.head =
    ap (with_word before) (head-first line r is) in
    ap (typed_from t names (fresh_in before (line ∷ lines))) rows
    ∙ by r (is_some (place_of r.head before)) refl old more
    (typed-fresh t names (before ++ r.head ∷ []) lines later)
    ∙ sym (ap (typed t names before) rows)
  where
    later : ℕ
    later = fresh_in (with_word before (first_word line.text)) lines

    by : (r : Row) (b : Bool) → is_some (place_of r.head before) ≡ b →
        is_old before (first_word line.text) ≡ is_some (place_of r.head before) →
        with_word before (first_word line.text) ≡ with_head before r.head →
        typed_from t names (fresh_in (before ++ r.head ∷ []) lines) (rows_in lines)
        ≡ typed t names (before ++ r.head ∷ []) (rows_in lines) →
        typed_from t names (fresh_in before (line ∷ lines)) (r ∷ rows_in lines)
        ≡ typed t names before (r ∷ rows_in lines)
    by r true e old more rest =
        let none : fresh_in before (line ∷ lines) ≡ 0 =
        ap (λ (c : Bool). if c then 0 else suc later)
        (old ∙ e) in
        ap (λ n. typed_from t names n (r ∷ rows_in lines)) none
        ∙ sym (ap (λ (c : Bool). if c then Err (r.line, RepeatedState)
        else typed_first r.line (fitting t names 0 r.tree)
        (typed t names (before ++ r.head ∷ []) (rows_in lines))) e)
    by r false e old more rest =
        let pushed : with_word before (first_word line.text) ≡ before ++ r.head ∷ [] =
        more ∙ ap (λ (c : Bool). if c then before else before ++ r.head ∷ []) e in
        let some : fresh_in before (line ∷ lines) ≡ suc (fresh_in (before ++ r.head ∷ []) lines) =
        ap (λ (c : Bool). if c then 0 else suc later)
        (old ∙ e)
        ∙ ap (λ (l : List (List ℕ)). suc (fresh_in l lines)) pushed in
        ap (λ n. typed_from t names n (r ∷ rows_in lines)) some
        ∙ typed-suc t names (fresh_in (before ++ r.head ∷ []) lines) r (rows_in lines)
        ∙ ap (typed_first r.line (fitting t names 0 r.tree)) rest
        ∙ sym (ap (λ (c : Bool). if c then Err (r.line, RepeatedState)
        else typed_first r.line (fitting t names 0 r.tree)
        (typed t names (before ++ r.head ∷ []) (rows_in lines))) e)

-- ---- types

err_ok : {X Y : Type 0} (e : X) (y : Y) → ◌≡◌ {A = Result Y X} (Err e) (Ok y) → ⊥
err_ok e y q = cc

ok_same : {X Y : Type 0} (x y : Y) → ◌≡◌ {A = Result Y X} (Ok x) (Ok y) → x ≡ y
ok_same x y q = cc

first-ok : (line : ℕ) (found : Found Fitted) (rest : Typed) (fs : List Fitted) →
    typed_first line found rest ≡ Ok fs →
    (f : Fitted) × (later : List Fitted) × (rest ≡ Ok later) × (fs ≡ f ∷ later)
first-ok line (Err kind) rest fs e = absurd (err_ok (line, kind) fs e)
first-ok line (Ok f) (Err fault) fs e = absurd (err_ok fault fs e)
first-ok line (Ok f) (Ok later) fs e = (f, later, refl, sym (ok_same (f ∷ later) fs e))

-- a row that fits is fitted by its tree
pub row-fitting : (t : Nodes) (names : List (List ℕ)) (repeated : Bool) (tree : Tree)
    (f : Fitted) → row_fit t names repeated tree ≡ Ok f → fitting t names 0 tree ≡ Ok f
row-fitting t names true tree f e = absurd (err_ok RepeatedState f e)
row-fitting t names false tree f e = e

-- rows that are typed with no fault
typed-good : (t : Nodes) (names before : List (List ℕ)) (r : Row) (rows : List Row)
    (fs : List Fitted) → typed t names before (r ∷ rows) ≡ Ok fs →
    (is_some (place_of r.head before) ≡ false) × (f : Fitted) × (later : List Fitted)
    × (typed t names (before ++ r.head ∷ []) rows ≡ Ok later) × (fs ≡ f ∷ later)
typed-good t names before r rows fs e = by (is_some (place_of r.head before)) refl e
  where
    rest : Typed
    rest = typed t names (before ++ r.head ∷ []) rows

    by : (b : Bool) → is_some (place_of r.head before) ≡ b →
        (if b then Err (r.line, RepeatedState)
        else typed_first r.line (fitting t names 0 r.tree) rest) ≡ Ok fs →
        (is_some (place_of r.head before) ≡ false) × (f : Fitted) × (later : List Fitted)
        × (rest ≡ Ok later) × (fs ≡ f ∷ later)
    by true is e = absurd (err_ok (r.line, RepeatedState) fs e)
    by false is e =
        let (f, later, others, same) = first-ok r.line (fitting t names 0 r.tree) rest fs e in
        (is, f, later, others, same)

-- where no head stands before, the names are the heads
pub names-heads : (t : Nodes) (names before : List (List ℕ)) (rows : List Row) (fs : List Fitted) →
    typed t names before rows ≡ Ok fs → names_with before rows ≡ before ++ heads_of rows
names-heads t names before [] fs e = sym (append-nil before)
names-heads t names before (r ∷ rows) fs e =
    let (new, f, later, rest, same) = typed-good t names before r rows fs e in
    ap (λ (c : Bool). names_with (if c then before else before ++ r.head ∷ []) rows) new
    ∙ names-heads t names (before ++ r.head ∷ []) rows later rest
    ∙ append_assoc before (r.head ∷ []) (heads_of rows)

-- there is a fitted tree for each row
pub typed-length : (t : Nodes) (names before : List (List ℕ)) (rows : List Row) (fs : List Fitted) →
    typed t names before rows ≡ Ok fs → length fs ≡ length rows
typed-length t names before [] fs e = ap (λ (l : List Fitted). length l) (sym (ok_same [] fs e))
typed-length t names before (r ∷ rows) fs e =
    let (new, f, later, rest, same) = typed-good t names before r rows fs e in
    let so_far : length later ≡ length rows =
    typed-length t names (before ++ r.head ∷ []) rows later rest in
    omega (arith, ap length same, so_far)

-- ---- what is told

-- all is fine
pub told-fine : (t : Nodes) (names : List (List ℕ)) (k : ℕ) (rows : List Row) (l : ℕ)
    (ks : List Kept) → told_all t names k rows ≡ fine l ks →
    (fs : List Fitted) × (typed_from t names k rows ≡ Ok fs) × (bounded 1 rows fs ≡ Ok l)
    × (ks ≡ kept_of rows fs)
told-fine t names k rows l ks e = by (typed_from t names k rows) refl e
  where
    inner : (fs : List Fitted) → typed_from t names k rows ≡ Ok fs → (b : Result ℕ ℕ) →
        bounded 1 rows fs ≡ b → told_bound (kept_of rows fs) b ≡ fine l ks →
        (fs : List Fitted) × (typed_from t names k rows ≡ Ok fs) × (bounded 1 rows fs ≡ Ok l)
        × (ks ≡ kept_of rows fs)
    inner fs is (Err line) b e = let none : ⊥ = cc in absurd none
    inner fs is (Ok m) b e =
        let same : m ≡ l = cc in
        let all : kept_of rows fs ≡ ks = cc in
        (fs, is, b ∙ ap (λ (n : ℕ). Ok n) same, sym all)

    by : (read : Typed) → typed_from t names k rows ≡ read →
        told_of (stage.Fitting 1) [] rows read ≡ fine l ks →
        (fs : List Fitted) × (typed_from t names k rows ≡ Ok fs) × (bounded 1 rows fs ≡ Ok l)
        × (ks ≡ kept_of rows fs)
    by (Err fault) is e = let none : ⊥ = cc in absurd none
    by (Ok fs) is e = inner fs is (bounded 1 rows fs) refl e

-- some row does not fit
pub told-misfit : (t : Nodes) (names : List (List ℕ)) (k : ℕ) (rows : List Row) (line : ℕ)
    (kind : TypeKind) → told_all t names k rows ≡ misfit line kind →
    typed_from t names k rows ≡ Err (line, kind)
told-misfit t names k rows line kind e = by (typed_from t names k rows) refl e
  where
    inner : (fs : List Fitted) (b : Result ℕ ℕ) →
        told_bound (kept_of rows fs) b ≡ misfit line kind → ⊥
    inner fs (Err n) e = cc
    inner fs (Ok m) e = cc

    by : (read : Typed) → typed_from t names k rows ≡ read →
        told_of (stage.Fitting 1) [] rows read ≡ misfit line kind →
        typed_from t names k rows ≡ Err (line, kind)
    by (Err fault) is e =
        let first : fault.0 ≡ line = cc in
        let second : fault.1 ≡ kind = cc in
        is ∙ (λ i. Err (first i, second i))
    by (Ok fs) is e = absurd (inner fs (bounded 1 rows fs) e)

-- some row passes a bound
pub told-bound : (t : Nodes) (names : List (List ℕ)) (k : ℕ) (rows : List Row) (line : ℕ) →
    told_all t names k rows ≡ past_bound line →
    (fs : List Fitted) × (typed_from t names k rows ≡ Ok fs) × (bounded 1 rows fs ≡ Err line)
told-bound t names k rows line e = by (typed_from t names k rows) refl e
  where
    inner : (fs : List Fitted) → typed_from t names k rows ≡ Ok fs → (b : Result ℕ ℕ) →
        bounded 1 rows fs ≡ b → told_bound (kept_of rows fs) b ≡ past_bound line →
        (fs : List Fitted) × (typed_from t names k rows ≡ Ok fs) × (bounded 1 rows fs ≡ Err line)
    inner fs is (Err n) b e =
        let same : n ≡ line = cc in (fs, is, b ∙ ap (λ (m : ℕ). Err m) same)
    inner fs is (Ok m) b e = let none : ⊥ = cc in absurd none

    by : (read : Typed) → typed_from t names k rows ≡ read →
        told_of (stage.Fitting 1) [] rows read ≡ past_bound line →
        (fs : List Fitted) × (typed_from t names k rows ≡ Ok fs) × (bounded 1 rows fs ≡ Err line)
    by (Err fault) is e = let none : ⊥ = cc in absurd none
    by (Ok fs) is e = inner fs is (bounded 1 rows fs) refl e

-- ---- sums and values

-- the first short sum of what is kept is that of the rows
pub short-summed : (t : Nodes) (l : ℕ) (rows : List Row) (fs : List Fitted) →
    short_kept l t (kept_of rows fs) ≡ summed t l rows fs
short-summed t l [] fs = refl
short-summed t l (r ∷ rows) [] = refl
short-summed t l (r ∷ rows) (f ∷ fs) =
    ap (λ o. if has_sums l t 0 f then o else Some r.line) (short-summed t l rows fs)

-- a tree is kept for each row
pub kept-length : (rows : List Row) (fs : List Fitted) → length fs ≡ length rows →
    length (kept_of rows fs) ≡ length rows
kept-length [] fs e = refl
kept-length (r ∷ rows) [] e = omega (arith, e)
kept-length (r ∷ rows) (f ∷ fs) e =
    let rest = kept-length rows fs (omega (arith, e)) in omega (arith, rest)

-- the values of what is kept are the normal forms of the fitted trees
pub kept-values : (t : Nodes) (l n : ℕ) (rows : List Row) (fs : List Fitted) (vs : List Value) →
    length fs ≡ length rows → AllZip (IsValueOf t l n) (kept_of rows fs) vs →
    AllZip (IsNormalForm l t) fs vs
kept-values t l n [] [] vs e all = by vs all
  where
    by : (vs : List Value) → AllZip (IsValueOf t l n) [] vs → AllZip (IsNormalForm l t) [] vs
    by [] all = tt
    by (v ∷ vs) all = absurd all
kept-values t l n [] (f ∷ fs) vs e all = absurd (omega (arith, e))
kept-values t l n (r ∷ rows) [] vs e all = absurd (omega (arith, e))
kept-values t l n (r ∷ rows) (f ∷ fs) [] e all = absurd all
kept-values t l n (r ∷ rows) (f ∷ fs) (v ∷ vs) e all =
    (all.0.normal_form, kept-values t l n rows fs vs (omega (arith, e)) all.1)
