-- A text that spells a coalgebra, and is accepted as a file, denotes the same fractions.
use Rattle.std.proofs.Common.{◌≡◌, ℕ, zero, suc, ◌*◌, ◌/◌, ◌≤◌, Bool, true, false, ◌||◌, List, [], ◌∷◌, ◌++◌, map, append_assoc, append-nil, Option, Some, None, Result, Ok, Err, refl, sym, ap, ◌∙◌, subst, arith}
use Rattle.std.specs.Prelude.{if◌then◌else◌, is_some, nat_le, IsTrue}
use Rattle.std.specs.Int.{◌∣◌}
use Rattle.std.specs.Option.{option_map_or}
use Rattle.std.specs.List.{list_any, AllByRecursion, AllZip, IsDistinct}
use Rattle.std.specs.Cmp.Lexicographic.{lists_equiv}
use Rattle.std.proofs.lemmas.Cmp.{nat_eq_equiv}
use Rattle.std.proofs.Math.Nat.{div-mul_cancel, one-dvd, zero-mul}
use Rattle.std.proofs.lemmas.Bool.{leb-true}
use Rattle.std.proofs.lemmas.Nat.Gcd.{dvd_refl, dvd_trans}
use Rattle.file_cut.specs.Lines.{Numbered}
use Rattle.file_cut.specs.Tokens.{marks}
use Rattle.file_cut.specs.Trees.{open_limit}
use Rattle.file_cut.proofs.TreeLaws.{one_line}
use Rattle.functor_terms.specs.Grammar.{SpellsTerm}
use Rattle.functor_terms.specs.Terms.{Nodes}
use Rattle.functor_terms.specs.Words.{is_same_word, place_of}
use Rattle.functor_terms.proofs.ReadingLaws.{one_term}
use Rattle.functor_terms.proofs.WordLemmas.{place-any}
use Rattle.typing.specs.Contents.{Content}
use Rattle.typing.specs.declared.kind.TypeKind.{TypeKind}
use Rattle.typing.specs.declared.kind.TypeKind.TheVariants.{RepeatedState}
use Rattle.typing.specs.declared.value.Value.{Value}
use Rattle.typing.specs.Equality.{are_equal}
use Rattle.fitting.specs.declared.fitted.Fitted.{Fitted}
use Rattle.fitting.specs.Fitting.{Found, fitting}
use Rattle.fitting.specs.Scaling.{over_bound, denominators, denominator_limit, common_multiple, scaled}
use Rattle.fitting.proofs.FitSound.{fitting-sound}
use Rattle.fitting.proofs.FitNumerals.{fitting-numerals}
use Rattle.fitting.proofs.JoinLaws.{ArePositive, common_multiple-least, denominators-positive, joined-range}
use Rattle.structure_parser.specs.Rows.{Row, row, IsRowOf, AreRows}
use Rattle.structure_parser.specs.Stages.{heads_of, with_head, names_with, names_of, Typed, typed_first, typed, bounded, summed, Outcome, after_bounds, after_types, reads_rows}
use Rattle.structure_parser.specs.Reads.{IsNormalForm, Reads}
use Rattle.rescaling.specs.Rescaled.{rescaled, SameFractions}
use Rattle.rescaling.proofs.SameFractions.{normal-forms}
use Rattle.rescaling.proofs.Scaled.{scaled-rescaled}
use Rattle.structure_writer.specs.Spelled.{Denotes, DividesAll, Spells}
use Rattle.structure_writer.proofs.Free.{fitting-free}

-- ---- one reading of rows

-- equal lists begin alike
pub heads_same : (x y : Numbered) (xs ys : List Numbered)
    → ◌≡◌ {A = List Numbered} (x ∷ xs) (y ∷ ys) → (x ≡ y) × (xs ≡ ys)
heads_same x y xs ys e = (cc, cc)

row_same : (line : Numbered) (r s : Row) → IsRowOf line r → IsRowOf line s → r ≡ s
row_same line r s a b =
    let both = one_line open_limit (marks line.text) r.head s.head r.tree s.tree
    a.spelled b.spelled in
    let number : r.line ≡ s.line = a.number ∙ sym b.number in
    λ i. row (number i) (both.0 i) (both.1 i)

rows_same : (lines : List Numbered) (rs ss : List Row) → AllZip IsRowOf lines rs
    → AllZip IsRowOf lines ss → rs ≡ ss
rows_same [] [] [] a b = refl
rows_same [] [] (s ∷ ss) a b = absurd b
rows_same [] (r ∷ rs) ss a b = absurd a
rows_same (line ∷ lines) [] ss a b = absurd a
rows_same (line ∷ lines) (r ∷ rs) [] a b = absurd b
rows_same (line ∷ lines) (r ∷ rs) (s ∷ ss) a b =
    λ i. row_same line r s a.0 b.0 i ∷ rows_same lines rs ss a.1 b.1 i

-- a text has one term and one list of rows at most
pub one_rows : (text : List ℕ) (t u : Nodes) (rs ss : List Row) → AreRows text t rs
    → AreRows text u ss → (t ≡ u) × (rs ≡ ss)
one_rows text t u rs ss a b =
    let same = heads_same a.functor b.functor a.others b.others (sym a.lines ∙ b.lines) in (
      one_term a.functor.text t u a.spelled
          (subst (λ (n : Numbered). SpellsTerm n.text u) (sym same.0) b.spelled),
      rows_same a.others rs ss a.each
          (subst (λ (l : List Numbered). AllZip IsRowOf l ss) (sym same.1) b.each),
    )

-- ---- names

-- a word before which no word is the same is new
new_word : (before : List (List ℕ)) (w : List ℕ) (rest : List (List ℕ))
    → IsDistinct is_same_word (before ++ w ∷ rest) → list_any (is_same_word w) before ≡ false
unfolding IsDistinct
new_word [] w rest d = refl
new_word (x ∷ before) w rest d =
    let other : is_same_word w x ≡ false =
    (lists_equiv nat_eq_equiv).symm w x ∙ in_all before d.0 in
    (λ i. other i || new_word before w rest d.1 i)
  where
    in_all : (ys : List (List ℕ))
        → AllByRecursion (λ y. is_same_word x y ≡ false) (ys ++ w ∷ rest)
        → is_same_word x w ≡ false
    in_all [] h = h.0
    in_all (y ∷ ys) h = in_all ys h.1

-- a name that comes later has no place before it
pub no_place : (before : List (List ℕ)) (w : List ℕ) (rest : List (List ℕ))
    → IsDistinct is_same_word (before ++ w ∷ rest) → is_some (place_of w before) ≡ false
no_place before w rest d = place-any (is_same_word w) before ∙ new_word before w rest d

-- where heads are distinct, all of them are names
pub names_are : (before : List (List ℕ)) (rows : List Row)
    → IsDistinct is_same_word (before ++ heads_of rows)
    → names_with before rows ≡ before ++ heads_of rows
names_are before [] d = sym (append-nil before)
names_are before (r ∷ rows) d =
    let more : with_head before r.head ≡ before ++ r.head ∷ [] =
    ap (λ b. if b then before else before ++ r.head ∷ [])
    (no_place before r.head (heads_of rows) d) in
    let split = append_assoc before (r.head ∷ []) (heads_of rows) in
    ap (λ names. names_with names rows) more
    ∙ names_are (before ++ r.head ∷ []) rows
    (subst (IsDistinct is_same_word) (sym split) d) ∙ split

-- ---- stages

typed_same : (xs ys : List Fitted) → ◌≡◌ {A = Typed} (Ok xs) (Ok ys) → xs ≡ ys
typed_same xs ys e = cc

typed_never : (fault : ℕ × TypeKind) (ys : List Fitted) → ◌≡◌ {A = Typed} (Err fault) (Ok ys) → ⊥
typed_never fault ys e = cc

-- the tree of a row fits, as this fitted tree
abbrev pub RowFits : Nodes → List (List ℕ) → Row → Fitted → Type 0
RowFits t names r f = fitting t names 0 r.tree ≡ Ok f

-- where all rows are typed, each tree fits
typed_each : (t : Nodes) (names before : List (List ℕ)) (rows : List Row) (fs : List Fitted)
    → typed t names before rows ≡ Ok fs → AllZip (RowFits t names) rows fs
typed_each t names before [] fs e =
    subst (λ (l : List Fitted). AllZip (RowFits t names) [] l) (typed_same [] fs e) tt
typed_each t names before (r ∷ rows) fs e =
    by (is_some (place_of r.head before)) (fitting t names 0 r.tree) refl
    (typed t names (before ++ r.head ∷ []) rows) refl
    (λ gs q. typed_each t names (before ++ r.head ∷ []) rows gs q) e
  where
    by : (b : Bool) (x : Found Fitted) → fitting t names 0 r.tree ≡ x → (rest : Typed)
        → typed t names (before ++ r.head ∷ []) rows ≡ rest
        → ((gs : List Fitted) → typed t names (before ++ r.head ∷ []) rows ≡ Ok gs
        → AllZip (RowFits t names) rows gs)
        → ◌≡◌ {A = Typed} (if b then Err (r.line, RepeatedState) else typed_first r.line x rest)
        (Ok fs) → AllZip (RowFits t names) (r ∷ rows) fs
    by true x ex rest er more e = absurd (typed_never (r.line, RepeatedState) fs e)
    by false (Err kind) ex rest er more e = absurd (typed_never (r.line, kind) fs e)
    by false (Ok f) ex (Ok gs) er more e =
        subst (λ (l : List Fitted). AllZip (RowFits t names) (r ∷ rows) l)
        (typed_same (f ∷ gs) fs e) (ex, more gs er)
    by false (Ok f) ex (Err fault) er more e = absurd (typed_never fault fs e)

-- what acceptance says of the stages
record IsAccepted (t : Nodes) (rows : List Row) (l : ℕ) (fs : List Fitted) : Type 0 where
  pub typed_ok : typed t (names_of rows) [] rows ≡ Ok fs
  pub bounded_ok : bounded 1 rows fs ≡ Ok l

outcome_same : (l m : ℕ) (fs gs : List Fitted) → Outcome.accepted l fs ≡ Outcome.accepted m gs
    → (l ≡ m) × (fs ≡ gs)
outcome_same l m fs gs e = (cc, cc)

accepted : (t : Nodes) (rows : List Row) (l : ℕ) (fs : List Fitted)
    → reads_rows t rows ≡ Outcome.accepted l fs → IsAccepted t rows l fs
accepted t rows l fs e = by (typed t (names_of rows) [] rows) refl e
  where
    summed_by : (m : ℕ) (gs : List Fitted) (o : Option ℕ)
        → option_map_or Outcome.short_sum o (Outcome.accepted m gs) ≡ Outcome.accepted l fs
        → (m ≡ l) × (gs ≡ fs)
    summed_by m gs None e = outcome_same m l gs fs e
    summed_by m gs (Some line) e = cc

    bounds : (gs : List Fitted) → typed t (names_of rows) [] rows ≡ Ok gs → (r : Result ℕ ℕ)
        → bounded 1 rows gs ≡ r → after_bounds t rows gs r ≡ Outcome.accepted l fs
        → IsAccepted t rows l fs
    bounds gs et (Err line) er e = cc
    bounds gs et (Ok m) er e =
        let same = summed_by m gs (summed t m rows gs) e in
        record {
          typed_ok = et ∙ ap (λ (k : List Fitted). Ok k) same.1;
          bounded_ok = ap (bounded 1 rows) (sym same.1) ∙ er ∙ ap (λ k. Ok k) same.0;
        }

    by : (r : Typed) → typed t (names_of rows) [] rows ≡ r
        → after_types t rows r ≡ Outcome.accepted l fs → IsAccepted t rows l fs
    by (Err fault) er e = cc
    by (Ok gs) er e = bounds gs er (bounded 1 rows gs) refl e

-- ---- bounds

-- no bound is passed, and m is the least common multiple of l and all denominators
pub record AreWithin (l m : ℕ) (fs : List Fitted) : Type 0 where
  pub first : l ∣ m
  pub positive : 1 ≤ m
  pub none_over : AllByRecursion (λ f. over_bound f ≡ false) fs
  pub multiple : AllByRecursion (DividesAll m) fs
  pub least : (k : ℕ) → l ∣ k → AllByRecursion (DividesAll k) fs → m ∣ k

number_same : (m n : ℕ) → ◌≡◌ {A = Result ℕ ℕ} (Ok m) (Ok n) → m ≡ n
number_same m n e = cc

number_never : (line n : ℕ) → ◌≡◌ {A = Result ℕ ℕ} (Err line) (Ok n) → ⊥
number_never line n e = cc

-- what divides a number divides its multiples
all_trans : (j m : ℕ) (qs : List ℕ) → j ∣ m → AllByRecursion (λ q. q ∣ j) qs
    → AllByRecursion (λ q. q ∣ m) qs
all_trans j m [] h all = tt
all_trans j m (q ∷ qs) h all = (dvd_trans q all.0 h, all_trans j m qs h all.1)

-- a number joined with the denominators of a fitted tree
abbrev joined : ℕ → Fitted → ℕ
joined l f = common_multiple l (denominators f)

-- what is read of a canonical text is within the bounds
pub bounded_all : (t : Nodes) (names : List (List ℕ)) (l m : ℕ) (rows : List Row) (fs : List Fitted)
    → 1 ≤ l → AllZip (RowFits t names) rows fs → bounded l rows fs ≡ Ok m → AreWithin l m fs
bounded_all t names l m [] [] some fit e =
    let same : l ≡ m = number_same l m e in
    record {
      first = subst (λ n. l ∣ n) same (dvd_refl l);
      positive = omega (arith, same, some);
      none_over = tt;
      multiple = tt;
      least = λ k h all. subst (λ n. n ∣ k) same h;
    }
bounded_all t names l m [] (f ∷ fs) some fit e = absurd fit
bounded_all t names l m (r ∷ rows) [] some fit e = absurd fit
bounded_all t names l m (r ∷ rows) (f ∷ fs) some fit e =
    by (over_bound f) refl (nat_le (joined l f) denominator_limit) refl
    (λ one q. bounded_all t names (joined l f) m rows fs one fit.1 q) e
  where
    by : (a : Bool) → over_bound f ≡ a → (b : Bool) → nat_le (joined l f) denominator_limit ≡ b
        → (1 ≤ joined l f → bounded (joined l f) rows fs ≡ Ok m → AreWithin (joined l f) m fs)
        → option_map_or (λ n. bounded n rows fs)
        (if a then None else (if b then Some (joined l f) else None)) (Err r.line) ≡ Ok m
        → AreWithin l m (f ∷ fs)
    by true ea b eb rest e = absurd (number_never r.line m e)
    by false ea false eb rest e = absurd (number_never r.line m e)
    by false ea true eb rest e =
        let own : ArePositive (denominators f) =
        denominators-positive f (fitting-numerals t names 0 r.tree f fit.0) in
        let is = common_multiple-least l (denominators f) some own in
        let range = joined-range l (denominators f) (Some (joined l f))
        some own (refl, leb-true (joined l f) denominator_limit eb) in
        let tail = rest (omega (arith, range.0, some)) e in
        record {
          first = dvd_trans l is.multiple.of_first tail.first;
          positive = tail.positive;
          none_over = (ea, tail.none_over);
          multiple = (
            all_trans (joined l f) m (denominators f) tail.first
                is.multiple.of_others,
            tail.multiple,
          );
          least = λ k h all.
              tail.least k (is.least k (record { of_first = h; of_others = all.0 })) all.1;
        }

-- ---- values

fitted_same : (f g : Fitted) → ◌≡◌ {A = Found Fitted} (Ok f) (Ok g) → f ≡ g
fitted_same f g e = cc

-- what rows are fitted to within the bounds is what they denote without them
pub same_fitted : (t : Nodes) (names : List (List ℕ)) (rows : List Row) (fs gs : List Fitted)
    → AllZip (RowFits t names) rows fs → AllByRecursion (λ f. over_bound f ≡ false) fs
    → AllZip (Denotes t names) rows gs → fs ≡ gs
same_fitted t names [] [] [] a over b = refl
same_fitted t names [] [] (g ∷ gs) a over b = absurd b
same_fitted t names [] (f ∷ fs) gs a over b = absurd a
same_fitted t names (r ∷ rows) [] gs a over b = absurd a
same_fitted t names (r ∷ rows) (f ∷ fs) [] a over b = absurd b
same_fitted t names (r ∷ rows) (f ∷ fs) (g ∷ gs) a over b =
    let free = fitting-free t names 0 r.tree f a.0 over.0 in
    λ i. fitted_same f g (sym free ∙ b.0) i
    ∷ same_fitted t names rows fs gs a.1 over.1 b.1 i

-- each value over a multiple of the least denominator is that over it, rescaled
same_values : (t : Nodes) (names : List (List ℕ)) (k l n : ℕ) → 1 ≤ k → n ≡ k * l
    → (rows : List Row) (fs : List Fitted) (us vs : List Value)
    → AllZip (RowFits t names) rows fs → AllByRecursion (λ f. over_bound f ≡ false) fs
    → AllByRecursion (DividesAll l) fs → AllZip (IsNormalForm l t) fs us
    → AllZip (IsNormalForm n t) fs vs → vs ≡ map (rescaled k t 0) us
same_values t names k l n some is [] [] [] [] a over m b c = refl
same_values t names k l n some is [] [] [] (v ∷ vs) a over m b c = absurd c
same_values t names k l n some is [] [] (u ∷ us) vs a over m b c = absurd b
same_values t names k l n some is [] (f ∷ fs) us vs a over m b c = absurd a
same_values t names k l n some is (r ∷ rows) [] us vs a over m b c = absurd a
same_values t names k l n some is (r ∷ rows) (f ∷ fs) [] vs a over m b c = absurd b
same_values t names k l n some is (r ∷ rows) (f ∷ fs) (u ∷ us) [] a over m b c = absurd c
same_values t names k l n some is (r ∷ rows) (f ∷ fs) (u ∷ us) (v ∷ vs) a over m b c =
    let fit = (fitting-sound l t names 0 r.tree f a.0 over.0).0 in
    let moved : scaled n t 0 f ≡ rescaled k t 0 (scaled l t 0 f) =
    ap (λ j. scaled j t 0 f) is ∙ scaled-rescaled k l t 0 f m.0 in
    let first : v ≡ rescaled k t 0 u =
    normal-forms k t 0 (scaled l t 0 f) u v some fit
    (record { fitting = b.0.fitting; normal = b.0.normal; equal = b.0.equal })
    (record {
      fitting = c.0.fitting;
      normal = c.0.normal;
      equal = subst (λ (x : Value). IsTrue (are_equal t 0 v x)) moved c.0.equal;
    }) in
    λ i. first i ∷ same_values t names k l n some is rows fs us vs a.1 over.1 m.1 b.1 c.1 i

-- a factor of a number above 0 is above 0
pub some_factor : (k l n : ℕ) → k * l ≡ n → 1 ≤ n → 1 ≤ k
some_factor zero l n e h = absurd (omega (arith, sym (zero-mul l) ∙ e, h))
some_factor (suc k) l n e h = omega arith

module _ (text : List ℕ) (d e : Content) (sp : Spells text d) (rd : Reads text e) where
  same : (d.term ≡ e.term) × (sp.rows ≡ rd.rows)
  same = one_rows text d.term e.term sp.rows rd.rows sp.spelled rd.spelled

  same_names : d.names ≡ heads_of rd.rows
  same_names = sp.same_names ∙ ap heads_of same.1

  names_same : names_of rd.rows ≡ d.names
  names_same =
      names_are [] rd.rows (subst (IsDistinct is_same_word) same_names sp.names.distinct)
      ∙ sym same_names

  accepted_is : IsAccepted e.term rd.rows e.denominator rd.fitted
  accepted_is = accepted e.term rd.rows e.denominator rd.fitted rd.read

  fit_e : AllZip (RowFits e.term (names_of rd.rows)) rd.rows rd.fitted
  fit_e = typed_each e.term (names_of rd.rows) [] rd.rows rd.fitted accepted_is.typed_ok

  fit : AllZip (RowFits d.term d.names) rd.rows rd.fitted
  fit =
      subst (λ (names : List (List ℕ)). AllZip (RowFits d.term names) rd.rows rd.fitted) names_same
      (subst (λ (t : Nodes). AllZip (RowFits t (names_of rd.rows)) rd.rows rd.fitted)
      (sym same.0) fit_e)

  within_e : AreWithin 1 e.denominator rd.fitted
  within_e =
      bounded_all d.term d.names 1 e.denominator rd.rows rd.fitted (omega arith) fit
      accepted_is.bounded_ok

  fitted_is : rd.fitted ≡ sp.fitted
  fitted_is =
      same_fitted d.term d.names rd.rows rd.fitted sp.fitted fit within_e.none_over
      (subst (λ (rows : List Row). AllZip (Denotes d.term d.names) rows sp.fitted) same.1
      sp.denoted)

  divides : e.denominator ∣ d.denominator
  divides =
      within_e.least d.denominator (one-dvd d.denominator)
      (subst (λ (fs : List Fitted). AllByRecursion (DividesAll d.denominator) fs) (sym fitted_is)
      sp.multiple)

  -- what is read back has the same fractions
  pub same-fractions : SameFractions d e
  same-fractions =
      let k : ℕ = d.denominator / e.denominator in
      let whole : k * e.denominator ≡ d.denominator = div-mul_cancel e.denominator divides in
      let some : 1 ≤ k = some_factor k e.denominator d.denominator whole sp.positive in
      record {
        factor = k;
        same_term = sym same.0;
        same_names = rd.same_names ∙ sym same_names;
        same_denominator = sym whole;
        same_values =
            same_values d.term d.names k e.denominator d.denominator some (sym whole) rd.rows
            rd.fitted e.values d.values fit within_e.none_over within_e.multiple
            (subst (λ (t : Nodes). AllZip (IsNormalForm e.denominator t) rd.fitted e.values)
            (sym same.0) rd.values)
            (subst (λ (fs : List Fitted). AllZip (IsNormalForm d.denominator d.term) fs d.values)
            (sym fitted_is) sp.values);
      }
