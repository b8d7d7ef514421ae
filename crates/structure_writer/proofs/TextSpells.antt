-- The canonical text of a coalgebra spells it.
use Rattle.std.proofs.Common.{◌≡◌, ℕ, suc, ◌+◌, ◌^◌, true, false, not, List, [], ◌∷◌, ◌++◌, length, append_assoc, append-nil, refl, sym, ap, ◌∙◌, subst, arith, true≢false}
use Rattle.std.specs.Prelude.{◌==◌, codes, if◌then◌else◌}
use Rattle.std.specs.List.{list_all, AllByRecursion, AllZip}
use Rattle.std.proofs.lemmas.Bool.{and_parts, not-true}
use Rattle.std.proofs.lemmas.Bool.Decides.{nat_tests}
use Rattle.std.proofs.lemmas.List.{length-append}
use Rattle.file_cut.specs.Bytes.{IsName, is_word_byte, number_sign, line_feed, carriage_return}
use Rattle.file_cut.specs.Lines.{Numbered, begun, raw_lines, is_skipped, without_return, numbered_line, lines_from, lines_of}
use Rattle.file_cut.specs.Tokens.{marks}
use Rattle.file_cut.specs.Trees.{SpellsLine}
use Rattle.file_cut.specs.declared.mark.Mark.TheVariants.{Word, Colon}
use Rattle.file_cut.specs.declared.tree.Tree.{Tree}
use Rattle.file_cut.proofs.LineLaws.{lines-take}
use Rattle.file_cut.proofs.TokenLaws.{blank_ends}
use Rattle.functor_terms.specs.Text.{text_of_term}
use Rattle.functor_terms.proofs.TextLaws.{texts_spell}
use Rattle.typing.specs.Contents.{Content}
use Rattle.typing.specs.declared.value.Value.{Value}
use Rattle.typing.specs.Equality.{are_equal}
use Rattle.typing.specs.Fits.{fits}
use Rattle.typing.specs.Order.{is_normal}
use Rattle.typing.specs.Values.{states_below}
use Rattle.typing.specs.Bounds.{weights_hold, is_within}
use Rattle.typing.proofs.EqualityLaws.{eq-equivalence}
use Rattle.fitting.specs.declared.fitted.Fitted.{Fitted}
use Rattle.fitting.specs.Scaling.{scaled}
use Rattle.structure_parser.specs.Rows.{Row, row, IsRowOf}
use Rattle.structure_parser.specs.Stages.{heads_of}
use Rattle.structure_parser.specs.Reads.{IsNormalForm}
use Rattle.structure_writer.specs.Text.{Write, paired, text_at, state_line, state_lines, canonical}
use Rattle.structure_writer.specs.Spelled.{free_fitting, Denotes, DividesAll, Spells, IsWellFormed}
use Rattle.structure_writer.proofs.Marks.{Lexes, colon-lexes, name-marks, is_plain, word-plain, both-plain}
use Rattle.structure_writer.proofs.FunctorLine.{clean-unskipped, term-clean}
use Rattle.structure_writer.proofs.Written.{IsWritten}
use Rattle.structure_writer.proofs.WrittenTerms.{term-written}

-- ---- lines

-- a line that ends no line within is one line, before its line feed
pub raw_first : (line rest : List ℕ) → list_all is_plain line ≡ true
    → raw_lines (line ++ line_feed ∷ rest) ≡ line ∷ raw_lines rest
raw_first [] rest h = refl
raw_first (b ∷ line) rest h =
    let p = and_parts (is_plain b) (list_all is_plain line) h in
    let q = and_parts (not (b == line_feed)) (not (b == carriage_return)) p.0 in
    let other : (b == line_feed) ≡ false = not-true (b == line_feed) q.0 in
    (λ i. begun (other i) b (raw_first line rest p.1 i))

pub untrimmed : (line : List ℕ) → list_all is_plain line ≡ true → without_return line ≡ line
untrimmed [] h = refl
untrimmed (b ∷ []) h =
    let p = and_parts (is_plain b) true h in
    let q = and_parts (not (b == line_feed)) (not (b == carriage_return)) p.0 in
    ap (λ x. if x then [] else b ∷ []) (not-true (b == carriage_return) q.1)
untrimmed (b ∷ c ∷ line) h =
    let p = and_parts (is_plain b) (list_all is_plain (c ∷ line)) h in
    ap (λ l. b ∷ l) (untrimmed (c ∷ line) p.1)

-- the first line of a text is numbered and the others follow
pub first_line : (n : ℕ) (line rest : List ℕ) → list_all is_plain line ≡ true
    → is_skipped line ≡ false
    → lines_from n (line ++ line_feed ∷ rest)
    ≡ numbered_line n line ∷ lines_from (n + 1) rest
first_line n line rest h skipped =
    lines-take n (line ++ line_feed ∷ rest) line rest (record {
      raw = line;
      lines = raw_first line rest h;
      trimmed = sym (untrimmed line h);
      shorter = omega (arith, length-append line (line_feed ∷ rest));
    }) skipped

pub note_ends : (b : ℕ) → is_word_byte b ≡ true → (b == number_sign) ≡ false
note_ends b word = grind (arith, nat_tests)

-- a name is no blank and begins no note
pub name_unskipped : (name more : List ℕ) → IsName name → is_skipped (name ++ more) ≡ false
name_unskipped [] more is = absurd (omega (arith, is.0.0))
name_unskipped (b ∷ name) more is =
    let p = and_parts (is_word_byte b) (list_all is_word_byte name) is.0.1 in
    (λ i. if blank_ends b p.0 i then is_skipped (name ++ more) else note_ends b p.0 i)

-- ---- rows

-- rows with these heads and trees, the first at line n
abbrev pub rows_from : ℕ → List (List ℕ) → List Tree → List Row
rows_from n [] us = []
rows_from n (name ∷ names) [] = []
rows_from n (name ∷ names) (u ∷ us) = row n name u ∷ rows_from (n + 1) names us

-- the heads of rows are the names
pub heads_are : (n : ℕ) (names : List (List ℕ)) (us : List Tree) → length us ≡ length names
    → heads_of (rows_from n names us) ≡ names
heads_are n [] us l = refl
heads_are n (name ∷ names) [] l = absurd (omega (arith, l))
heads_are n (name ∷ names) (u ∷ us) l =
    ap (λ rest. name ∷ rest) (heads_are (n + 1) names us (omega (arith, l)))

-- the text spells the coalgebra, and its values are what the trees denote, as they stand
pub record IsExact (text : List ℕ) (c : Content) : Type 0 where
  pub spells : Spells text c
  pub back : AllZip (λ f v. scaled c.denominator c.term 0 f ≡ v) spells.fitted c.values

module _ (c : Content) (well : IsWellFormed c) where
  abbrev w : Write
  w = text_at c.denominator c.names c.term 0

  abbrev Written : Value → Type 0
  Written =
      IsWritten c.denominator 64 w (free_fitting c.term c.names 0) (scaled c.denominator c.term 0)

  each_written : (vs : List Value) → list_all (fits c.term 0) vs ≡ true
      → list_all (weights_hold c.denominator c.term 0) vs ≡ true
      → list_all (states_below (length c.names)) vs ≡ true
      → list_all (is_within (2 ^ 106)) vs ≡ true → AllByRecursion Written vs
  each_written [] x y b s = tt
  each_written (v ∷ vs) x y b s =
      let p = and_parts (fits c.term 0 v) (list_all (fits c.term 0) vs) x in
      let q = and_parts (weights_hold c.denominator c.term 0 v)
      (list_all (weights_hold c.denominator c.term 0) vs) y in
      let r = and_parts (states_below (length c.names) v)
      (list_all (states_below (length c.names)) vs) b in
      let t = and_parts (is_within (2 ^ 106) v) (list_all (is_within (2 ^ 106)) vs) s in (
        term-written c.denominator well.positive well.bounded c.names well.names c.term well.term
            v (record { fitting = p.0; weighted = q.0; below = r.0; within = t.0 }),
        each_written vs p.1 q.1 r.1 t.1,
      )

  abbrev pub trees_of : (vs : List Value) → AllByRecursion Written vs → List Tree
  trees_of [] all = []
  trees_of (v ∷ vs) all = all.0.tree ∷ trees_of vs all.1

  abbrev pub fitted_of : (vs : List Value) → AllByRecursion Written vs → List Fitted
  fitted_of [] all = []
  fitted_of (v ∷ vs) all = all.0.fitted ∷ fitted_of vs all.1

  trees_count : (vs : List Value) (all : AllByRecursion Written vs)
      → length (trees_of vs all) ≡ length vs
  trees_count [] all = refl
  trees_count (v ∷ vs) all = ap suc (trees_count vs all.1)

  -- the line of a state spells its name and its tree
  line_spelled : (name : List ℕ) (v : Value) → IsName name → (h : Written v)
      → SpellsLine (paired name (w v)) name h.tree
  line_spelled name v named h =
      let word : Lexes name (Word name ∷ []) = λ rest none. name-marks name rest named none in
      let whole = colon-lexes name h.text (Word name ∷ []) h.piece.tokens word h.piece.lexes in (
        h.piece.tokens,
        ap (λ text. marks (paired name text)) h.is
            ∙ ap marks (sym (append-nil (paired name h.text)))
            ∙ whole [] refl ∙ ap (λ ts. Word name ∷ Colon ∷ ts) (append-nil h.piece.tokens),
        h.piece.spelled,
      )

  line_plain : (name : List ℕ) (v : Value) → IsName name → Written v
      → list_all is_plain (paired name (w v)) ≡ true
  line_plain name v named h =
      ap (λ text. list_all is_plain (paired name text)) h.is
      ∙ both-plain name (codes ": " ++ h.text) (word-plain name named.0.1) h.piece.plain

  each_row : (n : ℕ) (names : List (List ℕ)) (vs : List Value) → AllByRecursion IsName names
      → (all : AllByRecursion Written vs) → length vs ≡ length names
      → AllZip IsRowOf (lines_from n (state_lines w names vs))
      (rows_from n names (trees_of vs all))
  each_row n [] vs named all l = tt
  each_row n (name ∷ names) [] named all l = absurd (omega (arith, l))
  each_row n (name ∷ names) (v ∷ vs) named all l =
      let line : List ℕ = paired name (w v) in
      let rest : List ℕ = state_lines w names vs in
      let rows : List Row = rows_from (n + 1) names (trees_of vs all.1) in
      let cut : lines_from n (state_line name (w v) ++ rest)
      ≡ numbered_line n line ∷ lines_from (n + 1) rest =
      ap (lines_from n) (append_assoc line (codes "\n") rest)
      ∙ first_line n line rest (line_plain name v named.0 all.0)
      (name_unskipped name (codes ": " ++ w v) named.0) in
      subst (λ (ls : List Numbered). AllZip IsRowOf ls (row n name all.0.tree ∷ rows)) (sym cut) (
        record { number = refl; spelled = line_spelled name v named.0 all.0 },
        each_row (n + 1) names vs named.1 all.1 (omega (arith, l)),
      )

  each_denoted : (n : ℕ) (names : List (List ℕ)) (vs : List Value)
      → (all : AllByRecursion Written vs) → length vs ≡ length names
      → AllZip (Denotes c.term c.names) (rows_from n names (trees_of vs all)) (fitted_of vs all)
  each_denoted n [] [] all l = tt
  each_denoted n [] (v ∷ vs) all l = absurd (omega (arith, l))
  each_denoted n (name ∷ names) [] all l = absurd (omega (arith, l))
  each_denoted n (name ∷ names) (v ∷ vs) all l =
      (all.0.read, each_denoted (n + 1) names vs all.1 (omega (arith, l)))

  each_multiple : (vs : List Value) (all : AllByRecursion Written vs)
      → AllByRecursion (DividesAll c.denominator) (fitted_of vs all)
  each_multiple [] all = tt
  each_multiple (v ∷ vs) all = (all.0.divides, each_multiple vs all.1)

  each_value : (vs : List Value) (all : AllByRecursion Written vs)
      → list_all (fits c.term 0) vs ≡ true → list_all (is_normal c.term 0) vs ≡ true
      → AllZip (IsNormalForm c.denominator c.term) (fitted_of vs all) vs
  each_value [] all x n = tt
  each_value (v ∷ vs) all x n =
      let p = and_parts (fits c.term 0 v) (list_all (fits c.term 0) vs) x in
      let q = and_parts (is_normal c.term 0 v) (list_all (is_normal c.term 0) vs) n in (
        record {
          fitting = p.0;
          normal = q.0;
          equal =
              ap (are_equal c.term 0 v) all.0.back ∙ (eq-equivalence c.term 0).refl v;
        },
        each_value vs all.1 p.1 q.1,
      )

  each_back : (vs : List Value) (all : AllByRecursion Written vs)
      → AllZip (λ f v. scaled c.denominator c.term 0 f ≡ v) (fitted_of vs all) vs
  each_back [] all = tt
  each_back (v ∷ vs) all = (all.0.back, each_back vs all.1)

  -- the canonical text is exact
  pub text-exact : IsExact (canonical c) c
  text-exact =
      let all = each_written c.values well.fitting well.weighted well.in_range well.in_bounds in
      let clean = term-clean c.term well.term in
      let lines : List ℕ = state_lines w c.names c.values in
      let first : is_skipped (text_of_term c.term) ≡ false =
      ap is_skipped (sym (append-nil (text_of_term c.term)))
      ∙ clean-unskipped (text_of_term c.term) [] clean in
      record {
        spells =
            record {
              rows = rows_from 2 c.names (trees_of c.values all);
              fitted = fitted_of c.values all;
              spelled =
                  record {
                    functor = numbered_line 1 (text_of_term c.term);
                    others = lines_from 2 lines;
                    lines =
                        ap lines_of (append_assoc (text_of_term c.term) (codes "\n") lines)
                        ∙ first_line 1 (text_of_term c.term) lines clean.plain first;
                    spelled = texts_spell c.term well.term;
                    each = each_row 2 c.names c.values well.names.each all well.one_each;
                  };
              same_names =
                  sym (heads_are 2 c.names (trees_of c.values all)
                  (trees_count c.values all ∙ well.one_each));
              names = well.names;
              positive = well.positive;
              denoted = each_denoted 2 c.names c.values all well.one_each;
              multiple = each_multiple c.values all;
              values = each_value c.values all well.fitting well.normal;
            };
        back = each_back c.values all;
      }

  -- the canonical text spells the coalgebra
  pub text-spells : Spells (canonical c) c
  text-spells = text-exact.spells
