-- What a file is read as is smaller than the file.
use Rattle.std.proofs.Common.{◌≡◌, ℕ, suc, ◌+◌, ◌≤◌, Bool, true, false, cond, List, [], ◌∷◌, ◌++◌, length, refl, sym, ap, subst, arith}
use Rattle.std.specs.Prelude.{Option, Some, None, Result, Ok, Err, is_some}
use Rattle.std.specs.List.{AllZip}
use Rattle.std.specs.Option.{option_map_or}
use Rattle.file_cut.specs.Lines.{Numbered, lines_of}
use Rattle.file_cut.specs.Tokens.{marks}
use Rattle.file_cut.specs.Trees.{open_limit}
use Rattle.functor_terms.specs.Terms.{Nodes}
use Rattle.functor_terms.specs.Words.{place_of}
use Rattle.typing.specs.declared.value.Value.{Value}
use Rattle.typing.specs.declared.kind.TypeKind.{TypeKind}
use Rattle.typing.specs.declared.kind.TypeKind.TheVariants.{RepeatedState}
use Rattle.fitting.specs.declared.fitted.Fitted.{Fitted}
use Rattle.fitting.specs.Fitting.{Found, fitting}
use Rattle.fitting.specs.Scaling.{scaled}
use Rattle.fitting.proofs.TreeLengths.{marks-few}
use Rattle.structure_parser.specs.Rows.{Row, IsRowOf}
use Rattle.structure_parser.specs.Stages.{Outcome, Typed, typed_first, typed, bounded, summed, after_bounds, after_types, names_of, reads_rows}
use Rattle.structure_parser.specs.Reads.{IsNormalForm}
use Rattle.file_sizes.specs.Laws.{AcceptedFilesAreFew}
use Rattle.file_sizes.proofs.Sizes.{size, sum_of, few_from_sizes}
use Rattle.file_sizes.proofs.Shrinks.{normal_shrinks}
use Rattle.file_sizes.proofs.FitSizes.{fitted_small}
use Rattle.file_sizes.proofs.LineSizes.{text_length, lines_few, first_line}

misfit_accepted : (n : ℕ) (k : TypeKind) (l : ℕ) (fs : List Fitted) →
    Outcome.misfit n k ≡ Outcome.accepted l fs → ⊥
misfit_accepted n k l fs e = cc

past_accepted : (n l : ℕ) (fs : List Fitted) → Outcome.past_bound n ≡ Outcome.accepted l fs → ⊥
past_accepted n l fs e = cc

short_accepted : (n l : ℕ) (fs : List Fitted) → Outcome.short_sum n ≡ Outcome.accepted l fs → ⊥
short_accepted n l fs e = cc

same_accepted : (k l : ℕ) (gs fs : List Fitted) →
    Outcome.accepted k gs ≡ Outcome.accepted l fs → gs ≡ fs
same_accepted k l gs fs e = cc

abbrev the_typed : List Fitted → Typed
the_typed fs = Ok fs

-- rows that are accepted fit
accepted_typed : (t : Nodes) (rows : List Row) (l : ℕ) (fs : List Fitted) →
    reads_rows t rows ≡ Outcome.accepted l fs → typed t (names_of rows) [] rows ≡ Ok fs
accepted_typed t rows l fs e = types (typed t (names_of rows) [] rows) e
  where
    sums : (gs : List Fitted) (k : ℕ) (o : Option ℕ) →
        option_map_or Outcome.short_sum o (Outcome.accepted k gs) ≡ Outcome.accepted l fs →
        gs ≡ fs
    sums gs k None h = same_accepted k l gs fs h
    sums gs k (Some n) h = absurd (short_accepted n l fs h)

    bounds : (gs : List Fitted) (r : Result ℕ ℕ) →
        after_bounds t rows gs r ≡ Outcome.accepted l fs → gs ≡ fs
    bounds gs (Err line) h = absurd (past_accepted line l fs h)
    bounds gs (Ok k) h = sums gs k (summed t k rows gs) h

    types : (r : Typed) → after_types t rows r ≡ Outcome.accepted l fs → r ≡ Ok fs
    types (Err fault) h = absurd (misfit_accepted fault.0 fault.1 l fs h)
    types (Ok gs) h =
        ap (λ (x : List Fitted). the_typed x) (bounds gs (bounded 1 rows gs) h)

-- the sizes of what is fitted, over the denominator l
abbrev sum_scaled : ℕ → Nodes → List Fitted → ℕ
sum_scaled l t [] = 0
sum_scaled l t (f ∷ fs) = size 1 t 0 (scaled l t 0 f) + sum_scaled l t fs

err_ok : (n : ℕ) (kind : TypeKind) (fs : List Fitted) → ◌≡◌ {A = Typed} (Err (n, kind)) (Ok fs) → ⊥
err_ok n kind fs e = cc

fault_ok : (fault : ℕ × TypeKind) (fs : List Fitted) → ◌≡◌ {A = Typed} (Err fault) (Ok fs) → ⊥
fault_ok fault fs e = cc

typed_same : (fs gs : List Fitted) → ◌≡◌ {A = Typed} (Ok fs) (Ok gs) → fs ≡ gs
typed_same fs gs e = cc

-- the first row fits, and so do the others
typed_parts : (line : ℕ) (first : Found Fitted) (rest : Typed) (fs : List Fitted) →
    typed_first line first rest ≡ Ok fs →
    (f : Fitted) × (hs : List Fitted) × (first ≡ Ok f) × (rest ≡ Ok hs) × (f ∷ hs ≡ fs)
typed_parts line (Err kind) rest fs e = absurd (err_ok line kind fs e)
typed_parts line (Ok f) (Ok hs) fs e = (f, hs, refl, refl, typed_same (f ∷ hs) fs e)
typed_parts line (Ok f) (Err fault) fs e = absurd (fault_ok fault fs e)

module _ (l : ℕ) (t : Nodes) (names : List (List ℕ)) where
  -- a line is longer than what it denotes
  row_small : (line : Numbered) (r : Row) (f : Fitted) → IsRowOf line r →
      fitting t names 0 r.tree ≡ Ok f → size 1 t 0 (scaled l t 0 f) ≤ length line.text
  row_small line r f is e =
      let (rest, marked, spelled) = is.spelled in
      let all : suc (suc (length rest)) ≡ length (marks line.text) = sym (ap length marked) in
      let few = marks-few line.text in
      fitted_small l t names 0 (length line.text) r.tree f
      (record {
        depth = open_limit;
        tokens = rest;
        few = omega (arith, all, few);
        spelled = spelled;
      }) e

  -- the rows behind a row, whose head stands before them
  abbrev others : Row → List Row → List (List ℕ) → Typed
  others r rows before = typed t names (before ++ r.head ∷ []) rows

  -- and so are lines together
  rows_small : (before : List (List ℕ)) (lines : List Numbered) (rows : List Row)
      (fs : List Fitted) → AllZip IsRowOf lines rows → typed t names before rows ≡ Ok fs →
      sum_scaled l t fs ≤ text_length lines
  rows_small before [] [] fs is e =
      subst (λ gs. sum_scaled l t gs ≤ 0) (typed_same [] fs e) (omega arith)
  rows_small before [] (r ∷ rows) fs is e = absurd is
  rows_small before (line ∷ lines) [] fs is e = absurd is
  rows_small before (line ∷ lines) (r ∷ rows) fs is e =
      by (λ hs. rows_small (before ++ r.head ∷ []) lines rows hs is.1)
      (is_some (place_of r.head before)) e
    where
      by :
          ((hs : List Fitted) → others r rows before ≡ Ok hs
          → sum_scaled l t hs ≤ text_length lines) →
          (b : Bool) →
          cond b (Err (r.line, RepeatedState)) (typed_first r.line (fitting t names 0 r.tree)
          (others r rows before))
          ≡ Ok fs → sum_scaled l t fs ≤ length line.text + text_length lines
      by below true h = absurd (err_ok r.line RepeatedState fs h)
      by below false h =
          let (f, hs, fit, later, same) =
          typed_parts r.line (fitting t names 0 r.tree) (others r rows before) fs h in
          let one = row_small line r f is.0 fit in
          let more = below hs later in
          subst (λ gs. sum_scaled l t gs ≤ length line.text + text_length lines) same
          (omega (arith, one, more))

  -- normal forms are no larger
  forms_small : (fs : List Fitted) (values : List Value) → AllZip (IsNormalForm l t) fs values →
      sum_of (size 1 t 0) values ≤ sum_scaled l t fs
  forms_small [] [] is = omega arith
  forms_small [] (v ∷ values) is = absurd is
  forms_small (f ∷ fs) [] is = absurd is
  forms_small (f ∷ fs) (v ∷ values) is =
      let form = is.0 in
      let one = normal_shrinks 1 t 0 v (scaled l t 0 f) form.fitting form.normal form.equal in
      let more = forms_small fs values is.1 in
      omega (arith, one, more)

-- a file that is accepted has few structures and edges
pub accepted_few : AcceptedFilesAreFew
accepted_few bytes c reads =
    let rows = reads.spelled in
    let typed_all = accepted_typed c.term reads.rows c.denominator reads.fitted reads.read in
    let a = rows_small c.denominator c.term (names_of reads.rows) [] rows.others reads.rows
    reads.fitted rows.each typed_all in
    let b = forms_small c.denominator c.term (names_of reads.rows) reads.fitted c.values
    reads.values in
    let d = lines_few bytes in
    let split : text_length (lines_of bytes) ≡ length rows.functor.text + text_length rows.others =
    ap text_length rows.lines in
    let some = first_line bytes rows.functor rows.others rows.lines in
    let within = reads.within in
    few_from_sizes c.term c.values (omega (arith, a, b, d, split, some, within))
