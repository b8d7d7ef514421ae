-- The canonical text of a coalgebra has no fault as a file but a number past its bound.
use Rattle.std.proofs.Common.{◌≡◌, ℕ, ◌*◌, ◌/◌, ◌≤◌, true, false, List, [], ◌∷◌, ◌++◌, append_assoc, Option, Some, None, Result, Ok, Err, refl, sym, ap, ◌∙◌, subst, arith}
use Rattle.std.proofs.Common.{inl, inr}
use Rattle.std.specs.Prelude.{if◌then◌else◌}
use Rattle.std.specs.Int.{◌∣◌}
use Rattle.std.specs.Option.{option_map_or}
use Rattle.std.specs.List.{list_all, AllByRecursion, AllZip, IsDistinct}
use Rattle.std.proofs.lemmas.Bool.{and_parts}
use Rattle.std.proofs.Math.Nat.{div-mul_cancel, one-dvd}
use Rattle.file_cut.specs.Lines.{Numbered}
use Rattle.functor_terms.specs.Grammar.{SpellsTerm}
use Rattle.functor_terms.specs.Terms.{Nodes}
use Rattle.functor_terms.specs.Words.{is_same_word}
use Rattle.typing.specs.Contents.{Content}
use Rattle.typing.specs.declared.kind.TypeKind.{TypeKind}
use Rattle.typing.specs.declared.kind.TypeKind.TheVariants.{RepeatedState}
use Rattle.typing.specs.declared.value.Value.{Value}
use Rattle.typing.specs.Bounds.{are_positive, are_any, weights_hold}
use Rattle.typing.proofs.WeightTests.{sums-weaker}
use Rattle.fitting.specs.declared.fitted.Fitted.{Fitted}
use Rattle.fitting.specs.Fitting.{fitting}
use Rattle.fitting.specs.Scaling.{over_bound, scaled, has_sums}
use Rattle.fitting.proofs.FitSound.{fitting-sound}
use Rattle.structure_parser.specs.Rows.{Row, IsRowOf, AreRows, IsBad, IsGrammarFault}
use Rattle.structure_parser.specs.Stages.{heads_of, names_of, typed_first, typed, bounded, summed, Outcome, after_bounds, after_types, reads_rows}
use Rattle.structure_parser.specs.Reads.{Fault, IsOutcome, IsFault}
use Rattle.rescaling.specs.Rescaled.{rescaled}
use Rattle.rescaling.proofs.Scaled.{scaled-rescaled}
use Rattle.rescaling.proofs.Sums.{rescaled-sums}
use Rattle.structure_writer.specs.Text.{canonical}
use Rattle.structure_writer.specs.Laws.{OnlyBoundsRefuse}
use Rattle.structure_writer.specs.Spelled.{Denotes, DividesAll, IsWellFormed}
use Rattle.structure_writer.proofs.TextSpells.{IsExact, text-exact}
use Rattle.structure_writer.proofs.Loose.{fitting-loose}
use Rattle.structure_writer.proofs.ReadBack.{heads_same, one_rows, no_place, names_are, RowFits, bounded_all, same_fitted, some_factor}

-- ---- grammar

lines_never : (x : Numbered) (xs : List Numbered) → ◌≡◌ {A = List Numbered} (x ∷ xs) [] → ⊥
lines_never x xs e = cc

-- no line among rows is bad
none_bad : (front : List Numbered) (bad : Numbered) (back : List Numbered) (rows : List Row)
    → AllZip IsRowOf (front ++ bad ∷ back) rows → IsBad bad → ⊥
none_bad [] bad back [] all is = absurd all
none_bad [] bad back (r ∷ rows) all is = is r.head r.tree all.0.spelled
none_bad (line ∷ front) bad back [] all is = absurd all
none_bad (line ∷ front) bad back (r ∷ rows) all is = none_bad front bad back rows all.1 is

-- a text of rows has no line that spells nothing
no_grammar_fault : (text : List ℕ) (t : Nodes) (rows : List Row) → AreRows text t rows → (n : ℕ)
    → IsGrammarFault text n → ⊥
no_grammar_fault text t rows a n (inl none) =
    lines_never a.functor a.others (sym a.lines ∙ none.0)
no_grammar_fault text t rows a n (inr (inl first)) =
    let (functor, others, lines, number, never) = first in
    let same = heads_same a.functor functor a.others others (sym a.lines ∙ lines) in
    never t (subst (λ (l : Numbered). SpellsTerm l.text t) same.0 a.spelled)
no_grammar_fault text t rows a n (inr (inr later)) =
    let (functor, others, lines, u, spelled, bad) = later in
    let same = heads_same a.functor functor a.others others (sym a.lines ∙ lines) in
    none_bad bad.front bad.bad bad.back rows
    (subst (λ (ls : List Numbered). AllZip IsRowOf ls rows) (same.1 ∙ bad.split) a.each)
    bad.spells_none

-- ---- types

-- each tree fits, as something
abbrev RowFitted : Nodes → List (List ℕ) → Row → Type 0
RowFitted t names r = (f : Fitted) × (fitting t names 0 r.tree ≡ Ok f)

rows_fitted : (t : Nodes) (names : List (List ℕ)) (rows : List Row) (fs : List Fitted)
    → AllZip (Denotes t names) rows fs → AllByRecursion (RowFitted t names) rows
rows_fitted t names [] [] all = tt
rows_fitted t names [] (f ∷ fs) all = absurd all
rows_fitted t names (r ∷ rows) [] all = absurd all
rows_fitted t names (r ∷ rows) (f ∷ fs) all =
    (fitting-loose t names 0 r.tree f all.0, rows_fitted t names rows fs all.1)

-- where heads are distinct and trees fit, all rows are typed
record AreTyped (t : Nodes) (names before : List (List ℕ)) (rows : List Row) : Type 0 where
  pub fitted : List Fitted
  pub read : typed t names before rows ≡ Ok fitted
  pub each : AllZip (RowFits t names) rows fitted

typed_all : (t : Nodes) (names before : List (List ℕ)) (rows : List Row)
    → IsDistinct is_same_word (before ++ heads_of rows)
    → AllByRecursion (RowFitted t names) rows → AreTyped t names before rows
typed_all t names before [] d all = record { fitted = []; read = refl; each = tt }
typed_all t names before (r ∷ rows) d all =
    let rest = typed_all t names (before ++ r.head ∷ []) rows
    (subst (IsDistinct is_same_word) (sym (append_assoc before (r.head ∷ []) (heads_of rows))) d)
    all.1 in
    record {
      fitted = all.0.0 ∷ rest.fitted;
      read =
          ap (λ b. if b then Err (r.line, RepeatedState)
          else typed_first r.line (fitting t names 0 r.tree)
          (typed t names (before ++ r.head ∷ []) rows))
          (no_place before r.head (heads_of rows) d)
          ∙ (λ i. typed_first r.line (all.0.1 i) (rest.read i));
      each = (all.0.1, rest.each);
    }

-- ---- sums

-- where each distribution has its sum, no row is short
none_short : (t : Nodes) (l : ℕ) (rows : List Row) (fs : List Fitted)
    → AllByRecursion (λ f. has_sums l t 0 f ≡ true) fs → summed t l rows fs ≡ None
none_short t l [] fs all = refl
none_short t l (r ∷ rows) [] all = refl
none_short t l (r ∷ rows) (f ∷ fs) all =
    ap (λ b. if b then summed t l rows fs else Some r.line) all.0
    ∙ none_short t l rows fs all.1

-- weights that hold over a multiple of the least denominator have their sums over it
each_sum : (t : Nodes) (names : List (List ℕ)) (k l n : ℕ) → 1 ≤ k → n ≡ k * l
    → (rows : List Row) (fs : List Fitted) (vs : List Value) → AllZip (RowFits t names) rows fs
    → AllByRecursion (λ f. over_bound f ≡ false) fs → AllByRecursion (DividesAll l) fs
    → AllZip (λ f v. scaled n t 0 f ≡ v) fs vs → list_all (weights_hold n t 0) vs ≡ true
    → AllByRecursion (λ f. has_sums l t 0 f ≡ true) fs
each_sum t names k l n some is [] [] vs fit over m back hold = tt
each_sum t names k l n some is [] (f ∷ fs) vs fit over m back hold = absurd fit
each_sum t names k l n some is (r ∷ rows) [] vs fit over m back hold = absurd fit
each_sum t names k l n some is (r ∷ rows) (f ∷ fs) [] fit over m back hold = absurd back
each_sum t names k l n some is (r ∷ rows) (f ∷ fs) (v ∷ vs) fit over m back hold =
    let p = and_parts (weights_hold n t 0 v) (list_all (weights_hold n t 0) vs) hold in
    let u : Value = scaled l t 0 f in
    let good = (fitting-sound l t names 0 r.tree f fit.0 over.0).0 in
    let moved : v ≡ rescaled k t 0 u =
    sym back.0 ∙ ap (λ j. scaled j t 0 f) is ∙ scaled-rescaled k l t 0 f m.0 in
    let own : weights_hold l t 0 u ≡ true =
    sym (rescaled-sums k l some t 0 u good) ∙ sym (λ i. weights_hold (is i) t 0 (moved i))
    ∙ p.0 in (
      sums-weaker are_positive are_any (λ es h. refl) l t 0 u own,
      each_sum t names k l n some is rows fs vs fit.1 over.1 m.1 back.1 p.1,
    )

-- ---- outcomes

-- what the stages of bounds and sums say is no misfit
no_misfit : (t : Nodes) (rows : List Row) (fs : List Fitted) (line : ℕ) (kind : TypeKind)
    (r : Result ℕ ℕ) → after_bounds t rows fs r ≡ Outcome.misfit line kind → ⊥
no_misfit t rows fs line kind (Err n) e = cc
no_misfit t rows fs line kind (Ok l) e = by (summed t l rows fs) e
  where
    by : (o : Option ℕ)
        → option_map_or Outcome.short_sum o (Outcome.accepted l fs) ≡ Outcome.misfit line kind
        → ⊥
    by None e = cc
    by (Some n) e = cc

-- and no short sum, where none is short
no_short_sum : (t : Nodes) (rows : List Row) (fs : List Fitted) (line : ℕ)
    (r : Result ℕ ℕ) → ((l : ℕ) → r ≡ Ok l → summed t l rows fs ≡ None)
    → after_bounds t rows fs r ≡ Outcome.short_sum line → ⊥
no_short_sum t rows fs line (Err n) none e = cc
no_short_sum t rows fs line (Ok l) none e =
    let all : Outcome.accepted l fs ≡ Outcome.short_sum line =
    sym (ap (λ o. option_map_or Outcome.short_sum o (Outcome.accepted l fs)) (none l refl)) ∙ e in
    cc

module _ (d : Content) (well : IsWellFormed d) (text : List ℕ) (ex : IsExact text d) where
  abbrev rows : List Row
  rows = ex.spells.rows

  distinct : IsDistinct is_same_word (heads_of rows)
  distinct = subst (IsDistinct is_same_word) ex.spells.same_names ex.spells.names.distinct

  names_same : names_of rows ≡ d.names
  names_same = names_are [] rows distinct ∙ sym ex.spells.same_names

  are_typed : AreTyped d.term d.names [] rows
  are_typed =
      typed_all d.term d.names [] rows distinct
      (rows_fitted d.term d.names rows ex.spells.fitted ex.spells.denoted)

  -- what the stages say of an outcome
  outcome_is : (o : Outcome) → IsOutcome text o
      → after_bounds d.term rows are_typed.fitted (bounded 1 rows are_typed.fitted) ≡ o
  outcome_is o is =
      let same = one_rows text d.term is.term rows is.rows ex.spells.spelled is.spelled in
      sym (ap (λ names. after_types d.term rows (typed d.term names [] rows)) names_same
      ∙ ap (after_types d.term rows) are_typed.read)
      ∙ (λ i. reads_rows (same.0 i) (same.1 i)) ∙ is.read

  not_short : (l : ℕ) → bounded 1 rows are_typed.fitted ≡ Ok l
      → summed d.term l rows are_typed.fitted ≡ None
  not_short l e =
      let within = bounded_all d.term d.names 1 l rows are_typed.fitted (omega arith)
      are_typed.each e in
      let same : are_typed.fitted ≡ ex.spells.fitted =
      same_fitted d.term d.names rows are_typed.fitted ex.spells.fitted are_typed.each
      within.none_over ex.spells.denoted in
      let divides : l ∣ d.denominator =
      within.least d.denominator (one-dvd d.denominator)
      (subst (λ (fs : List Fitted). AllByRecursion (DividesAll d.denominator) fs) (sym same)
      ex.spells.multiple) in
      let k : ℕ = d.denominator / l in
      let whole : k * l ≡ d.denominator = div-mul_cancel l divides in
      none_short d.term l rows are_typed.fitted
      (each_sum d.term d.names k l d.denominator
      (some_factor k l d.denominator whole ex.spells.positive) (sym whole) rows are_typed.fitted
      d.values are_typed.each within.none_over within.multiple
      (subst (λ (fs : List Fitted). AllZip (λ f v. scaled d.denominator d.term 0 f ≡ v) fs d.values)
      (sym same) ex.back) well.weighted)

  only_bounds : (fault : Fault) → IsFault text fault → (line : ℕ) × (fault ≡ Fault.PastBound line)
  only_bounds (Fault.Grammar n) is =
      absurd (no_grammar_fault text d.term rows ex.spells.spelled n is.1)
  only_bounds (Fault.Misfit line kind) is =
      absurd (no_misfit d.term rows are_typed.fitted line kind (bounded 1 rows are_typed.fitted)
      (outcome_is (Outcome.misfit line kind) is.1))
  only_bounds (Fault.PastBound line) is = (line, refl)
  only_bounds (Fault.ShortSum line) is =
      absurd (no_short_sum d.term rows are_typed.fitted line (bounded 1 rows are_typed.fitted)
      not_short (outcome_is (Outcome.short_sum line) is.1))

-- the canonical text has no fault but a number past its bound
pub only-bounds : OnlyBoundsRefuse
only-bounds d well fault is = only_bounds d well (canonical d) (text-exact d well) fault is
