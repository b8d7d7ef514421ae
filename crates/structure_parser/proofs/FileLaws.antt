-- A file has one reading or one fault at most, and not both.
use Rattle.std.proofs.Common.{◌≡◌, ℕ, List, [], ◌∷◌, refl, sym, ap, ◌∙◌, subst, inl, inr}
use Rattle.std.specs.List.{AllZip}
use Rattle.std.proofs.lemmas.Option.{none-some, same_Some}
use Rattle.file_cut.specs.Lines.{Numbered, lines_of}
use Rattle.functor_terms.specs.Terms.{Nodes}
use Rattle.functor_terms.specs.Grammar.{SpellsTerm, OneTerm}
use Rattle.typing.specs.declared.value.Value.{Value}
use Rattle.typing.specs.Contents.{Content}
use Rattle.typing.specs.Laws.{EqualityIsAnEquivalence, NormalValuesAreUnique}
use Rattle.fitting.specs.declared.fitted.Fitted.{Fitted}
use Rattle.fitting.specs.Scaling.{scaled}
use Rattle.structure_parser.specs.Rows.{Row, AreRows, IsGrammarFault}
use Rattle.structure_parser.specs.Stages.{Outcome, heads_of, reads_rows}
use Rattle.structure_parser.specs.Reads.{IsNormalForm, Reads, Fault, IsOutcome}
use Rattle.structure_parser.specs.Laws.{OneReading, OneFault, FaultsRefuse}
use Rattle.structure_parser.specs.Reading.{rows_in, first_bad}
use Rattle.structure_parser.proofs.RowLaws.{rows-good, bad-complete}

first-same : {X : Type 0} (lines : List X) (x y : X) (xs ys : List X) → lines ≡ x ∷ xs →
    lines ≡ y ∷ ys → x ≡ y
first-same lines x y xs ys a b = cc

rest-same : {X : Type 0} (lines : List X) (x y : X) (xs ys : List X) → lines ≡ x ∷ xs →
    lines ≡ y ∷ ys → xs ≡ ys
rest-same lines x y xs ys a b = cc

not-empty : {X : Type 0} (lines : List X) (x : X) (xs : List X) → lines ≡ [] → lines ≡ x ∷ xs → ⊥
not-empty lines x xs a b = cc

module _ (one_term : OneTerm) (bytes : List ℕ) where
  -- a file has one term
  same-term : (t u : Nodes) (xs ys : List Row) → AreRows bytes t xs → AreRows bytes u ys → t ≡ u
  same-term t u xs ys a b =
      let first : a.functor ≡ b.functor =
      first-same (lines_of bytes) a.functor b.functor a.others b.others a.lines b.lines in
      one_term b.functor.text t u
      (subst (λ (line : Numbered). SpellsTerm line.text t) first a.spelled) b.spelled

  -- and one list of rows
  same-rows : (t u : Nodes) (xs ys : List Row) → AreRows bytes t xs → AreRows bytes u ys → xs ≡ ys
  same-rows t u xs ys a b =
      let rest : a.others ≡ b.others =
      rest-same (lines_of bytes) a.functor b.functor a.others b.others a.lines b.lines in
      sym (rows-good a.others xs a.each).1 ∙ ap rows_in rest ∙ (rows-good b.others ys b.each).1

  -- so the stages say one thing of it
  same-outcome : (o p : Outcome) → IsOutcome bytes o → IsOutcome bytes p → o ≡ p
  same-outcome o p a b =
      let terms : a.term ≡ b.term = same-term a.term b.term a.rows b.rows a.spelled b.spelled in
      let rows : a.rows ≡ b.rows = same-rows a.term b.term a.rows b.rows a.spelled b.spelled in
      sym a.read ∙ (λ i. reads_rows (terms i) (rows i)) ∙ b.read

  -- where the lines are rows, none is at fault
  no-grammar : (n : ℕ) (t : Nodes) (rows : List Row) → IsGrammarFault bytes n →
      AreRows bytes t rows → ⊥
  no-grammar n t rows (inl (none, number)) a =
      not-empty (lines_of bytes) a.functor a.others none a.lines
  no-grammar n t rows (inr (inl (functor, others, is, number, unspelled))) a =
      let first : a.functor ≡ functor =
      first-same (lines_of bytes) a.functor functor a.others others a.lines is in
      unspelled t (subst (λ (line : Numbered). SpellsTerm line.text t) first a.spelled)
  no-grammar n t rows (inr (inr (functor, others, is, u, spelled, bad))) a =
      let rest : a.others ≡ others =
      rest-same (lines_of bytes) a.functor functor a.others others a.lines is in
      none-some n (sym (rows-good a.others rows a.each).0 ∙ ap first_bad rest
      ∙ bad-complete others n bad)

  -- and one line is the first at fault
  same-grammar : (m n : ℕ) → IsGrammarFault bytes m → IsGrammarFault bytes n → m ≡ n
  same-grammar m n (inl (none, number)) (inl (none', number')) = number ∙ sym number'
  same-grammar m n (inl (none, number)) (inr (inl (functor, others, is, number', rest))) =
      absurd (not-empty (lines_of bytes) functor others none is)
  same-grammar m n (inl (none, number)) (inr (inr (functor, others, is, t, spelled, bad))) =
      absurd (not-empty (lines_of bytes) functor others none is)
  same-grammar m n (inr (inl (functor, others, is, number', rest))) (inl (none, number)) =
      absurd (not-empty (lines_of bytes) functor others none is)
  same-grammar m n (inr (inr (functor, others, is, t, spelled, bad))) (inl (none, number)) =
      absurd (not-empty (lines_of bytes) functor others none is)
  same-grammar m n (inr (inl (a, xs, is, number, unspelled)))
      (inr (inl (b, ys, is', number', unspelled'))) =
      let first : a ≡ b = first-same (lines_of bytes) a b xs ys is is' in
      number ∙ ap (λ (line : Numbered). line.number) first ∙ sym number'
  same-grammar m n (inr (inl (a, xs, is, number, unspelled)))
      (inr (inr (b, ys, is', t, spelled, bad))) =
      let first : b ≡ a = first-same (lines_of bytes) b a ys xs is' is in
      absurd (unspelled t (subst (λ (line : Numbered). SpellsTerm line.text t) first spelled))
  same-grammar m n (inr (inr (a, xs, is, t, spelled, bad)))
      (inr (inl (b, ys, is', number, unspelled))) =
      let first : a ≡ b = first-same (lines_of bytes) a b xs ys is is' in
      absurd (unspelled t (subst (λ (line : Numbered). SpellsTerm line.text t) first spelled))
  same-grammar m n (inr (inr (a, xs, is, t, spelled, bad)))
      (inr (inr (b, ys, is', u, spelled', bad'))) =
      let rest : xs ≡ ys = rest-same (lines_of bytes) a b xs ys is is' in
      same_Some m n (sym (bad-complete xs m bad) ∙ ap first_bad rest ∙ bad-complete ys n bad')

-- the fault that an outcome is
fault_of : Outcome → Fault
fault_of (Outcome.misfit line kind) = Fault.Misfit line kind
fault_of (Outcome.past_bound line) = Fault.PastBound line
fault_of (Outcome.short_sum line) = Fault.ShortSum line
fault_of (Outcome.accepted l fs) = Fault.Grammar 0

-- a text has one fault
pub one-fault : OneTerm → OneFault
unfolding fault_of
one-fault one bytes (Fault.Grammar m) (Fault.Grammar n) (le, a) (le', b) =
    ap Fault.Grammar (same-grammar one bytes m n a b)
one-fault one bytes (Fault.Grammar m) (Fault.Misfit n k) (le, a) (le', b) =
    absurd (no-grammar one bytes m b.term b.rows a b.spelled)
one-fault one bytes (Fault.Grammar m) (Fault.PastBound n) (le, a) (le', b) =
    absurd (no-grammar one bytes m b.term b.rows a b.spelled)
one-fault one bytes (Fault.Grammar m) (Fault.ShortSum n) (le, a) (le', b) =
    absurd (no-grammar one bytes m b.term b.rows a b.spelled)
one-fault one bytes (Fault.Misfit n k) (Fault.Grammar m) (le, a) (le', b) =
    absurd (no-grammar one bytes m a.term a.rows b a.spelled)
one-fault one bytes (Fault.PastBound n) (Fault.Grammar m) (le, a) (le', b) =
    absurd (no-grammar one bytes m a.term a.rows b a.spelled)
one-fault one bytes (Fault.ShortSum n) (Fault.Grammar m) (le, a) (le', b) =
    absurd (no-grammar one bytes m a.term a.rows b a.spelled)
one-fault one bytes (Fault.Misfit m j) (Fault.Misfit n k) (le, a) (le', b) =
    ap fault_of (same-outcome one bytes (Outcome.misfit m j) (Outcome.misfit n k) a b)
one-fault one bytes (Fault.Misfit m j) (Fault.PastBound n) (le, a) (le', b) =
    ap fault_of (same-outcome one bytes (Outcome.misfit m j) (Outcome.past_bound n) a b)
one-fault one bytes (Fault.Misfit m j) (Fault.ShortSum n) (le, a) (le', b) =
    ap fault_of (same-outcome one bytes (Outcome.misfit m j) (Outcome.short_sum n) a b)
one-fault one bytes (Fault.PastBound m) (Fault.Misfit n k) (le, a) (le', b) =
    ap fault_of (same-outcome one bytes (Outcome.past_bound m) (Outcome.misfit n k) a b)
one-fault one bytes (Fault.PastBound m) (Fault.PastBound n) (le, a) (le', b) =
    ap fault_of (same-outcome one bytes (Outcome.past_bound m) (Outcome.past_bound n) a b)
one-fault one bytes (Fault.PastBound m) (Fault.ShortSum n) (le, a) (le', b) =
    ap fault_of (same-outcome one bytes (Outcome.past_bound m) (Outcome.short_sum n) a b)
one-fault one bytes (Fault.ShortSum m) (Fault.Misfit n k) (le, a) (le', b) =
    ap fault_of (same-outcome one bytes (Outcome.short_sum m) (Outcome.misfit n k) a b)
one-fault one bytes (Fault.ShortSum m) (Fault.PastBound n) (le, a) (le', b) =
    ap fault_of (same-outcome one bytes (Outcome.short_sum m) (Outcome.past_bound n) a b)
one-fault one bytes (Fault.ShortSum m) (Fault.ShortSum n) (le, a) (le', b) =
    ap fault_of (same-outcome one bytes (Outcome.short_sum m) (Outcome.short_sum n) a b)

-- what a reading says is an outcome
accepted-is : (bytes : List ℕ) (c : Content) (a : Reads bytes c) →
    IsOutcome bytes (Outcome.accepted c.denominator a.fitted)
accepted-is bytes c a =
    record { term = c.term; rows = a.rows; spelled = a.spelled; read = a.read }

not-misfit : (n : ℕ) (k : _) (l : ℕ) (fs : List Fitted) →
    Outcome.misfit n k ≡ Outcome.accepted l fs → ⊥
not-misfit n k l fs e = cc

not-bound : (n l : ℕ) (fs : List Fitted) → Outcome.past_bound n ≡ Outcome.accepted l fs → ⊥
not-bound n l fs e = cc

not-short : (n l : ℕ) (fs : List Fitted) → Outcome.short_sum n ≡ Outcome.accepted l fs → ⊥
not-short n l fs e = cc

-- a faulty text denotes no coalgebra
pub faults-refuse : OneTerm → FaultsRefuse
faults-refuse one bytes (Fault.Grammar n) c (le, a) read =
    no-grammar one bytes n c.term read.rows a read.spelled
faults-refuse one bytes (Fault.Misfit n k) c (le, a) read =
    not-misfit n k c.denominator read.fitted (same-outcome one bytes (Outcome.misfit n k)
    (Outcome.accepted c.denominator read.fitted) a (accepted-is bytes c read))
faults-refuse one bytes (Fault.PastBound n) c (le, a) read =
    not-bound n c.denominator read.fitted (same-outcome one bytes (Outcome.past_bound n)
    (Outcome.accepted c.denominator read.fitted) a (accepted-is bytes c read))
faults-refuse one bytes (Fault.ShortSum n) c (le, a) read =
    not-short n c.denominator read.fitted (same-outcome one bytes (Outcome.short_sum n)
    (Outcome.accepted c.denominator read.fitted) a (accepted-is bytes c read))

-- ---- values

-- normal forms of fitted trees are one list of values
same-values : EqualityIsAnEquivalence → NormalValuesAreUnique → (l : ℕ) (t : Nodes)
    (fs : List Fitted) (us vs : List Value) → AllZip (IsNormalForm l t) fs us →
    AllZip (IsNormalForm l t) fs vs → us ≡ vs
same-values equal one l t [] [] [] a b = refl
same-values equal one l t [] (u ∷ us) vs a b = absurd a
same-values equal one l t [] [] (v ∷ vs) a b = absurd b
same-values equal one l t (f ∷ fs) [] vs a b = absurd a
same-values equal one l t (f ∷ fs) (u ∷ us) [] a b = absurd b
same-values equal one l t (f ∷ fs) (u ∷ us) (v ∷ vs) (x, a) (y, b) =
    let e = equal t 0 in
    let first : u ≡ v =
    one t 0 u v x.fitting y.fitting x.normal y.normal
    (e.congr u (scaled l t 0 f) v x.equal ∙ e.symm (scaled l t 0 f) v ∙ y.equal) in
    let rest : us ≡ vs = same-values equal one l t fs us vs a b in
    λ i. first i ∷ rest i

same-l : (l m : ℕ) (fs gs : List Fitted) → Outcome.accepted l fs ≡ Outcome.accepted m gs → l ≡ m
same-l l m fs gs e = cc

same-fitted : (l m : ℕ) (fs gs : List Fitted) → Outcome.accepted l fs ≡ Outcome.accepted m gs →
    fs ≡ gs
same-fitted l m fs gs e = cc

-- a text denotes one coalgebra
pub one-reading : OneTerm → EqualityIsAnEquivalence → NormalValuesAreUnique → OneReading
one-reading one_term equal one bytes c d a b =
    let term : d.term ≡ c.term =
    same-term one_term bytes d.term c.term b.rows a.rows b.spelled a.spelled in
    let rows : b.rows ≡ a.rows =
    same-rows one_term bytes d.term c.term b.rows a.rows b.spelled a.spelled in
    let said : Outcome.accepted d.denominator b.fitted ≡ Outcome.accepted c.denominator a.fitted =
    same-outcome one_term bytes (Outcome.accepted d.denominator b.fitted)
    (Outcome.accepted c.denominator a.fitted) (accepted-is bytes d b) (accepted-is bytes c a) in
    let l : d.denominator ≡ c.denominator =
    same-l d.denominator c.denominator b.fitted a.fitted said in
    let fitted : b.fitted ≡ a.fitted =
    same-fitted d.denominator c.denominator b.fitted a.fitted said in
    let names : d.names ≡ c.names = b.same_names ∙ ap heads_of rows ∙ sym a.same_names in
    let values : d.values ≡ c.values =
    same-values equal one c.denominator c.term a.fitted d.values c.values
    (subst (λ (fs : List Fitted). AllZip (IsNormalForm c.denominator c.term) fs d.values) fitted
    (subst (λ (t : Nodes). AllZip (IsNormalForm c.denominator t) b.fitted d.values) term
    (subst (λ m. AllZip (IsNormalForm m d.term) b.fitted d.values) l b.values))) a.values in
    λ i. record { term = term i; names = names i; denominator = l i; values = values i }
