-- From what the passes answer to what a file is read as.
use Rattle.std.proofs.Common.{◌≡◌, ℕ, ◌≤◌, Bool, List, [], ◌∷◌, length, Option, Some, None, refl, sym, ap, ◌∙◌, subst, arith, inr}
use Rattle.std.specs.Prelude.{Ok, Err, IsTrue}
use Rattle.std.specs.List.{AllZip, list_all}
use Rattle.std.specs.Option.{option_map_or}
use Rattle.std.proofs.lemmas.Bool.{and_from}
use Rattle.file_cut.specs.Lines.{Numbered, lines_of}
use Rattle.functor_terms.specs.Terms.{Nodes}
use Rattle.functor_terms.specs.Grammar.{SpellsTerm}
use Rattle.typing.specs.declared.value.Value.{Value}
use Rattle.typing.specs.Contents.{Content}
use Rattle.fitting.specs.declared.fitted.Fitted.{Fitted}
use Rattle.structure_parser.specs.declared.fault.FileFault.{FileFault}
use Rattle.structure_parser.specs.declared.fault.FileFault.TheVariants as answer
use Rattle.structure_parser.specs.declared.stage.Kept.{Kept}
use Rattle.structure_parser.specs.Rows.{Row, AreRows}
use Rattle.structure_parser.specs.Stages.{Typed, typed, names_of, heads_of, bounded, Outcome, after_types, after_bounds, reads_rows}
use Rattle.structure_parser.specs.Reads.{IsNormalForm, Reads, Tells, IsOutcome, most_bytes}
use Rattle.structure_parser.specs.Reading.{rows_in, first_bad, names_in, fresh_in, typed_from, kept_of, told_all, short_kept, IsValueOf, TellsSum, TellsFault, AreRead, Says, TellsRows}
use Rattle.structure_parser.specs.Reading.Told.{fine}
use Rattle.structure_parser.proofs.RowLaws.{good-rows, bad-sound}
use Rattle.structure_parser.proofs.StageLaws.{names-rows, typed-fresh, names-heads, typed-length, told-fine, told-misfit, told-bound, short-summed, kept-length, kept-values}

-- what holds of each pair
pub zip-all : {X : Type 0} (R : X → Value → Type 0) (p : Value → Bool) →
    ((x : X) (v : Value) → R x v → IsTrue (p v)) → (xs : List X) (vs : List Value) →
    AllZip R xs vs → IsTrue (list_all p vs)
zip-all R p h [] [] all = refl
zip-all R p h [] (v ∷ vs) all = absurd all
zip-all R p h (x ∷ xs) [] all = absurd all
zip-all R p h (x ∷ xs) (v ∷ vs) all =
    and_from (p v) (list_all p vs) (h x v all.0) (zip-all R p h xs vs all.1)

map-length : (rows : List Row) → length (heads_of rows) ≡ length rows
map-length [] = refl
map-length (r ∷ rows) = let rest = map-length rows in omega (arith, rest)

module _ (t : Nodes) (lines : List Numbered) (names : List (List ℕ)) (k : ℕ)
    (named : names ≡ names_in [] lines) (counted : k ≡ fresh_in [] lines) where
  abbrev rows : List Row
  rows = rows_in lines

  -- the rows are typed as the stages say
  same-typed : first_bad lines ≡ None → (read : Typed) → typed_from t names k rows ≡ read →
      typed t (names_of rows) [] rows ≡ read
  same-typed good read e =
      let known : names ≡ names_of rows = named ∙ names-rows [] lines good in
      ap (λ (l : List (List ℕ)). typed t l [] rows) (sym known)
      ∙ sym (typed-fresh t names [] lines good)
      ∙ ap (λ n. typed_from t names n rows) (sym counted) ∙ e

  -- a fault that the second pass tells
  pub lines-fault : (fault : FileFault) →
      TellsFault fault (first_bad lines) (told_all t names k rows) → TellsRows t lines fault
  lines-fault answer.TooLong h = absurd h
  lines-fault (answer.Grammar line) h = h
  lines-fault (answer.TypeFault line kind) h = (
    h.0,
    ap (after_types t rows)
        (same-typed h.0 (Err (line, kind)) (told-misfit t names k rows line kind h.1)),
  )
  lines-fault (answer.WeightBound line) h =
      let (fs, read, stops) = told-bound t names k rows line h.1 in (
        h.0,
        ap (after_types t rows) (same-typed h.0 (Ok fs) read)
            ∙ ap (after_bounds t rows fs) stops,
      )
  lines-fault (answer.SumFault line) h = absurd h
  lines-fault answer.NoMemory h = tt

  module _ (good : first_bad lines ≡ None) (l : ℕ) (ks : List Kept)
      (all : told_all t names k rows ≡ fine l ks) where
    -- what the second pass keeps
    found : (fs : List Fitted) × (typed t (names_of rows) [] rows ≡ Ok fs)
        × (bounded 1 rows fs ≡ Ok l) × (ks ≡ kept_of rows fs)
    found =
        let (fs, read, within, same) = told-fine t names k rows l ks all in
        (fs, same-typed good (Ok fs) read, within, same)

    -- the names are the heads
    heads-are : names ≡ heads_of rows
    heads-are =
        named ∙ names-rows [] lines good
        ∙ names-heads t (names_of rows) [] rows found.0 found.1

    long : length found.0 ≡ length rows
    long = typed-length t (names_of rows) [] rows found.0 found.1

    -- a tree is kept for each name
    pub one-each : length ks ≡ length names
    one-each =
        ap length found.3 ∙ kept-length rows found.0 long ∙ sym (map-length rows)
        ∙ sym (ap length heads-are)

    -- what all stages say, by the stage of sums
    outcome : (short : Option ℕ) → short_kept l t ks ≡ short →
        reads_rows t rows ≡ option_map_or Outcome.short_sum short (Outcome.accepted l found.0)
    outcome short e =
        ap (after_types t rows) found.1 ∙ ap (after_bounds t rows found.0) found.2
        ∙ ap (λ o. option_map_or Outcome.short_sum o (Outcome.accepted l found.0))
        (sym (short-summed t l rows found.0) ∙ ap (short_kept l t) (sym found.3) ∙ e)

    -- a fault of the stage of sums
    pub lines-short : (fault : FileFault) → TellsSum fault (short_kept l t ks) →
        TellsRows t lines fault
    lines-short (answer.SumFault line) h = (good, outcome (Some line) h)
    lines-short answer.NoMemory h = tt
    lines-short answer.TooLong h = absurd h
    lines-short (answer.Grammar line) h = absurd h
    lines-short (answer.TypeFault line kind) h = absurd h
    lines-short (answer.WeightBound line) h = absurd h

    -- a coalgebra
    pub lines-read : (n : ℕ) (c : Content) → short_kept l t ks ≡ None → c.term ≡ t →
        c.names ≡ names → c.denominator ≡ l → AllZip (IsValueOf t l n) ks c.values →
        AreRead t lines c
    lines-read n c sums term same_names denominator values = record {
      good = good;
      same_term = term;
      fitted = found.0;
      read =
          outcome None sums ∙ ap (λ m. Outcome.accepted m found.0) (sym denominator);
      same_names = same_names ∙ heads-are;
      values =
          subst (λ m. AllZip (IsNormalForm m t) found.0 c.values) (sym denominator)
          (kept-values t l n rows found.0 c.values long
          (subst (λ (xs : List Kept). AllZip (IsValueOf t l n) xs c.values) found.3 values));
    }

-- ---- files

module _ (bytes : List ℕ) (within : length bytes ≤ most_bytes) (functor : Numbered)
    (others : List Numbered) (is : lines_of bytes ≡ functor ∷ others) (t : Nodes)
    (spelled : SpellsTerm functor.text t) where
  -- the rows of the file
  are-rows : first_bad others ≡ None → AreRows bytes t (rows_in others)
  are-rows good = record {
    functor = functor;
    others = others;
    lines = is;
    spelled = spelled;
    each = good-rows others good;
  }

  outcome-is : (outcome : Outcome) → Says t others outcome → IsOutcome bytes outcome
  outcome-is outcome says = record {
    term = t;
    rows = rows_in others;
    spelled = are-rows says.0;
    read = says.1;
  }

  -- a fault of the lines is one of the file
  pub file-fault : (fault : FileFault) → TellsRows t others fault → Tells bytes fault
  file-fault answer.TooLong h = absurd h
  file-fault (answer.Grammar line) h =
      (within, inr (inr (functor, others, is, t, spelled, bad-sound others line h)))
  file-fault (answer.TypeFault line kind) h = (within, outcome-is (Outcome.misfit line kind) h)
  file-fault (answer.WeightBound line) h = (within, outcome-is (Outcome.past_bound line) h)
  file-fault (answer.SumFault line) h = (within, outcome-is (Outcome.short_sum line) h)
  file-fault answer.NoMemory h = tt

  -- what the lines denote is what the file denotes
  pub file-read : (c : Content) → AreRead t others c → Reads bytes c
  file-read c read = record {
    rows = rows_in others;
    fitted = read.fitted;
    within = within;
    spelled =
        subst (λ (u : Nodes). AreRows bytes u (rows_in others)) (sym read.same_term)
        (are-rows read.good);
    read =
        ap (λ (u : Nodes). reads_rows u (rows_in others)) read.same_term ∙ read.read;
    same_names = read.same_names;
    values =
        subst (λ (u : Nodes). AllZip (IsNormalForm c.denominator u) read.fitted c.values)
        (sym read.same_term) read.values;
  }
