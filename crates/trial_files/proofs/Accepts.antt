-- Lines that are all good are a file with no fault.
use Rattle.std.proofs.Common.{◌≡◌, ℕ, suc, ◌+◌, ◌*◌, ◌/◌, ◌≤◌, true, false, List, [], ◌∷◌, ◌++◌, length, append_assoc, Some, None, Ok, Err, refl, sym, ap, ◌∙◌, subst, arith}
use Rattle.std.specs.Prelude.{codes, nat_le, if◌then◌else◌}
use Rattle.std.specs.Int.{◌∣◌}
use Rattle.std.specs.Option.{option_map_or}
use Rattle.std.specs.List.{list_all, AllByRecursion, AllZip, IsDistinct}
use Rattle.std.proofs.lemmas.Bool.{le-leb}
use Rattle.std.proofs.lemmas.Nat.Gcd.{dvd_refl, dvd_trans, le_of_dvd}
use Rattle.std.proofs.Math.Nat.{div-mul_cancel, one-dvd}
use Rattle.file_cut.specs.Lines.{numbered_line, is_skipped, lines_of, lines_from}
use Rattle.file_cut.specs.declared.tree.Tree.{Tree}
use Rattle.functor_terms.specs.Grammar.{SpellsTerm}
use Rattle.functor_terms.specs.Terms.{Nodes}
use Rattle.functor_terms.specs.Words.{is_same_word, AreNames}
use Rattle.typing.specs.declared.kind.TypeKind.TheVariants.{RepeatedState}
use Rattle.fitting.specs.declared.fitted.Fitted.{Fitted}
use Rattle.fitting.specs.Fitting.{fitting}
use Rattle.fitting.specs.Scaling.{over_bound, denominators, denominator_limit, common_multiple, has_sums}
use Rattle.fitting.proofs.FitNumerals.{fitting-numerals}
use Rattle.fitting.proofs.JoinLaws.{common_multiple-least, denominators-positive}
use Rattle.structure_parser.specs.Rows.{Row, AreRows}
use Rattle.structure_parser.specs.Stages.{heads_of, names_of, typed_first, typed, within_limit, joined_with, bounded, summed, Outcome, after_bounds, after_types, reads_rows}
use Rattle.structure_writer.specs.Spelled.{DividesAll}
use Rattle.structure_writer.proofs.ReadBack.{no_place, names_are, some_factor}
use Rattle.structure_writer.proofs.Marks.{is_plain, IsTextOf}
use Rattle.trial_files.proofs.Lines.{lines_with, rows_from, rows-spelled}
use Rattle.structure_writer.proofs.TextSpells.{first_line, heads_are}

-- what a text of a structure is read as, with denominators that divide 8 and sums that hold
pub record IsGood (t : Nodes) (names : List (List ℕ)) (text : List ℕ) : Type 0 where
  pub tree : Tree
  pub fitted : Fitted
  pub piece : IsTextOf 64 text tree
  pub short : length text ≤ 50
  pub read : fitting t names 0 tree ≡ Ok fitted
  pub over : over_bound fitted ≡ false
  pub divides : DividesAll 8 fitted
  pub sums : (l : ℕ) → 1 ≤ l → DividesAll l fitted → has_sums l t 0 fitted ≡ true

-- ---- the common denominator

eight_positive : (n : ℕ) → n ∣ 8 → (1 ≤ n) × (n ≤ 8)
eight_positive n h =
    let whole : 8 / n * n ≡ 8 = div-mul_cancel n h in
    let turned : n * (8 / n) ≡ 8 = commute n (8 / n) ∙ whole in
    (some_factor n (8 / n) 8 turned (omega arith), le_of_dvd (omega arith) h)
  where
    commute : (a b : ℕ) → a * b ≡ b * a
    commute a b = omega arith

-- a denominator that divides 8 joined with those of a tree, which do too
record IsJoined (m : ℕ) (f : Fitted) (n : ℕ) : Type 0 where
  pub joined : joined_with m f ≡ Some n
  pub of_first : m ∣ n
  pub of_eight : n ∣ 8
  pub multiple : DividesAll n f

joins : (t : Nodes) (names : List (List ℕ)) (u : Tree) (f : Fitted) → fitting t names 0 u ≡ Ok f
    → over_bound f ≡ false → DividesAll 8 f → (m : ℕ) → m ∣ 8
    → IsJoined m f (common_multiple m (denominators f))
joins t names u f read over divides m of_eight =
    let n : ℕ = common_multiple m (denominators f) in
    let least = common_multiple-least m (denominators f) ((eight_positive m of_eight).0)
    (denominators-positive f (fitting-numerals t names 0 u f read)) in
    let small : n ∣ 8 = least.least 8 (record { of_first = of_eight; of_others = divides }) in
    let within : nat_le n denominator_limit ≡ true =
    le-leb n denominator_limit (omega (arith, (eight_positive n small).1)) in
    record {
      joined =
          ap (λ b. if b then None else within_limit n) over
          ∙ ap (λ b. if b then Some n else None) within;
      of_first = least.multiple.of_first;
      of_eight = small;
      multiple = least.multiple.of_others;
    }

all_more : (k l : ℕ) → k ∣ l → (qs : List ℕ) → AllByRecursion (λ q. q ∣ k) qs
    → AllByRecursion (λ q. q ∣ l) qs
all_more k l h [] all = tt
all_more k l h (q ∷ qs) all = (dvd_trans q all.0 h, all_more k l h qs all.1)

-- what the stage of bounds says of rows with good trees
record AreBounded (m : ℕ) (rows : List Row) (fs : List Fitted) : Type 0 where
  pub denominator : ℕ
  pub stage : bounded m rows fs ≡ Ok denominator
  pub of_first : m ∣ denominator
  pub of_eight : denominator ∣ 8
  pub multiple : AllByRecursion (DividesAll denominator) fs

module _ (t : Nodes) (names : List (List ℕ)) where
  abbrev Good : List ℕ → Type 0
  Good = IsGood t names

  abbrev pub trees : (texts : List (List ℕ)) → AllByRecursion (IsGood t names) texts → List Tree
  trees [] all = []
  trees (text ∷ texts) all = all.0.tree ∷ trees texts all.1

  -- what the texts are read as
  abbrev pub fitteds : (texts : List (List ℕ)) → AllByRecursion (IsGood t names) texts → List Fitted
  fitteds [] all = []
  fitteds (text ∷ texts) all = all.0.fitted ∷ fitteds texts all.1

  trees_count : (texts : List (List ℕ)) (all : AllByRecursion Good texts)
      → length (trees texts all) ≡ length texts
  trees_count [] all = refl
  trees_count (text ∷ texts) all = ap suc (trees_count texts all.1)

  pieces : (texts : List (List ℕ)) (all : AllByRecursion Good texts)
      → AllZip (IsTextOf 64) texts (trees texts all)
  pieces [] all = tt
  pieces (text ∷ texts) all = (all.0.piece, pieces texts all.1)

  all_typed : (n : ℕ) (before heads texts : List (List ℕ)) (all : AllByRecursion Good texts)
      → length texts ≡ length heads → IsDistinct is_same_word (before ++ heads)
      → typed t names before (rows_from n heads (trees texts all)) ≡ Ok (fitteds texts all)
  all_typed n before [] [] all l d = refl
  all_typed n before [] (text ∷ texts) all l d = absurd (omega (arith, l))
  all_typed n before (h ∷ heads) [] all l d = absurd (omega (arith, l))
  all_typed n before (h ∷ heads) (text ∷ texts) all l d =
      let rows : List Row = rows_from (n + 1) heads (trees texts all.1) in
      let rest : typed t names (before ++ h ∷ []) rows ≡ Ok (fitteds texts all.1) =
      all_typed (n + 1) (before ++ h ∷ []) heads texts all.1 (omega (arith, l))
      (subst (IsDistinct is_same_word) (sym (append_assoc before (h ∷ []) heads)) d) in
      ap (λ b. if b then Err (n, RepeatedState)
      else typed_first n (fitting t names 0 all.0.tree) (typed t names (before ++ h ∷ []) rows))
      (no_place before h heads d)
      ∙ (λ i. typed_first n (all.0.read i) (rest i))

  all_bounded : (m n : ℕ) → m ∣ 8 → (heads texts : List (List ℕ))
      (all : AllByRecursion Good texts) → length texts ≡ length heads
      → AreBounded m (rows_from n heads (trees texts all)) (fitteds texts all)
  all_bounded m n of_eight [] [] all l = record {
    denominator = m;
    stage = refl;
    of_first = dvd_refl m;
    of_eight = of_eight;
    multiple = tt;
  }
  all_bounded m n of_eight [] (text ∷ texts) all l = absurd (omega (arith, l))
  all_bounded m n of_eight (h ∷ heads) [] all l = absurd (omega (arith, l))
  all_bounded m n of_eight (h ∷ heads) (text ∷ texts) all l =
      let f : Fitted = all.0.fitted in
      let k : ℕ = common_multiple m (denominators f) in
      let here = joins t names all.0.tree f all.0.read all.0.over all.0.divides m of_eight in
      let rows : List Row = rows_from (n + 1) heads (trees texts all.1) in
      let rest = all_bounded k (n + 1) here.of_eight heads texts all.1 (omega (arith, l)) in
      record {
        denominator = rest.denominator;
        stage =
            ap (λ o. option_map_or (λ j. bounded j rows (fitteds texts all.1)) o (Err n))
            here.joined
            ∙ rest.stage;
        of_first = dvd_trans m here.of_first rest.of_first;
        of_eight = rest.of_eight;
        multiple = (
          all_more k rest.denominator rest.of_first (denominators f) here.multiple,
          rest.multiple,
        );
      }

  none_short : (l n : ℕ) → 1 ≤ l → (heads texts : List (List ℕ)) (all : AllByRecursion Good texts)
      → AllByRecursion (DividesAll l) (fitteds texts all)
      → summed t l (rows_from n heads (trees texts all)) (fitteds texts all) ≡ None
  none_short l n some [] [] all m = refl
  none_short l n some [] (text ∷ texts) all m = refl
  none_short l n some (h ∷ heads) [] all m = refl
  none_short l n some (h ∷ heads) (text ∷ texts) all m =
      ap (λ b. if b then summed t l (rows_from (n + 1) heads (trees texts all.1))
      (fitteds texts all.1)
      else Some n) (all.0.sums l some m.0)
      ∙ none_short l (n + 1) some heads texts all.1 m.1

-- what is known of a text whose lines are good
pub record AreAccepted (t : Nodes) (names : List (List ℕ)) (bytes : List ℕ) (fs : List Fitted) :
    Type 0 where
  pub rows : List Row
  pub denominator : ℕ
  pub spelled : AreRows bytes t rows
  pub read : reads_rows t rows ≡ Outcome.accepted denominator fs
  pub heads : names ≡ heads_of rows
  pub of_eight : (1 ≤ denominator) × (denominator ≤ 8)

module _ (t : Nodes) (names : List (List ℕ)) (are : AreNames names) (functor : List ℕ)
    (spelled : SpellsTerm functor t) (plain : list_all is_plain functor ≡ true)
    (unskipped : is_skipped functor ≡ false) (texts : List (List ℕ))
    (all : AllByRecursion (IsGood t names) texts) (count : length texts ≡ length names) where
  abbrev us : List Tree
  us = trees t names texts all

  abbrev fs : List Fitted
  fs = fitteds t names texts all

  abbrev rows : List Row
  rows = rows_from 2 names us

  same_heads : heads_of rows ≡ names
  same_heads = heads_are 2 names us (trees_count t names texts all ∙ count)

  same_names : names_of rows ≡ names
  same_names =
      names_are [] rows (subst (IsDistinct is_same_word) (sym same_heads) are.distinct) ∙ same_heads

  -- good texts make a file that is accepted
  pub good-accepted : AreAccepted t names ((functor ++ codes "\n") ++ lines_with names texts) fs
  good-accepted =
      let within = all_bounded t names 1 2 (one-dvd 8) names texts all count in
      let l : ℕ = within.denominator in
      let range = eight_positive l within.of_eight in
      let lines : List ℕ = lines_with names texts in
      record {
        rows = rows;
        denominator = l;
        spelled =
            record {
              functor = numbered_line 1 functor;
              others = lines_from 2 lines;
              lines =
                  ap lines_of (append_assoc functor (codes "\n") lines)
                  ∙ first_line 1 functor lines plain unskipped;
              spelled = spelled;
              each =
                  rows-spelled 2 names texts us are.each (pieces t names texts all) count;
            };
        read =
            ap (λ ns. after_types t rows (typed t ns [] rows)) same_names
            ∙ ap (after_types t rows) (all_typed t names 2 [] names texts all count are.distinct)
            ∙ ap (after_bounds t rows fs) within.stage
            ∙ ap (λ o. option_map_or Outcome.short_sum o (Outcome.accepted l fs))
            (none_short t names l 2 range.0 names texts all within.multiple);
        heads = sym same_heads;
        of_eight = range;
      }
