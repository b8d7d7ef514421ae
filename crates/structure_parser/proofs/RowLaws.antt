-- Rows are read exactly where lines spell them.
use Rattle.std.proofs.Common.{◌≡◌, ℕ, List, [], ◌∷◌, ◌++◌, Option, Some, None, refl, sym, ap, ◌∙◌, subst, append-nil}
use Rattle.std.specs.Prelude.{option_map}
use Rattle.std.specs.List.{AllZip}
use Rattle.std.proofs.lemmas.Option.{none-some, same_Some}
use Rattle.file_cut.specs.Lines.{Numbered}
use Rattle.file_cut.specs.Tokens.{marks}
use Rattle.file_cut.specs.Trees.{SpellsWithin, SpellsLine, open_limit}
use Rattle.file_cut.specs.Reading.{tree_at}
use Rattle.file_cut.specs.declared.mark.Mark.{Mark}
use Rattle.file_cut.specs.declared.mark.Mark.TheVariants.{Word, Colon}
use Rattle.file_cut.specs.declared.tree.Tree.{Tree}
use Rattle.file_cut.proofs.TreeLaws.{tree-complete, whole-spelled}
use Rattle.structure_parser.specs.Rows.{Row, row, IsRowOf, IsBad, IsFirstBad}
use Rattle.structure_parser.specs.Reading.{at_end, behind_head, row_at, row_of, behind_row, rows_in, bad_first, first_bad}

mapped_some : {X Y : Type 0} (f : X → Y) (o : Option X) (y : Y) → option_map f o ≡ Some y →
    (x : X) × (o ≡ Some x) × (f x ≡ y)
mapped_some f None y e = absurd (none-some y e)
mapped_some f (Some x) y e = (x, refl, same_Some (f x) y e)

-- a tree at the end of the tokens is what they spell
ended : (ts : List Mark) (t : Tree) (r : Option (Tree × List Mark)) → tree_at open_limit ts ≡ r →
    at_end r ≡ Some t → SpellsWithin open_limit ts t
ended ts t None e h = absurd (none-some t h)
ended ts t (Some (u, [])) e h =
    subst (λ (v : Tree). SpellsWithin open_limit ts v) (same_Some u t h)
    (whole-spelled open_limit ts u [] e refl)
ended ts t (Some (u, m ∷ rest)) e h = absurd (none-some t h)

-- what is read as a row is one
pub row-sound : (line : Numbered) (r : Row) → row_of line ≡ Some r → IsRowOf line r
unfolding row_of
row-sound line r e = by (marks line.text) refl e
  where
    colon : (head : List ℕ) (ts : List Mark) → marks line.text ≡ Word head ∷ ts →
        behind_head line.number head ts ≡ Some r → IsRowOf line r
    colon head (Colon ∷ ts) is e =
        let (t, read, same) =
        mapped_some (row line.number head) (at_end (tree_at open_limit ts)) r e in
        let spelled : SpellsWithin open_limit ts t =
        ended ts t (tree_at open_limit ts) refl read in
        subst (λ (q : Row). IsRowOf line q) same
        (record { number = refl; spelled = (ts, is, spelled) })
    colon head _ is e = absurd (none-some r e)

    by : (ts : List Mark) → marks line.text ≡ ts → row_at line.number ts ≡ Some r → IsRowOf line r
    by (Word head ∷ ts) is e = colon head ts is e
    by _ is e = absurd (none-some r e)

-- and what a line spells is read
pub row-complete : (line : Numbered) (head : List ℕ) (t : Tree) → SpellsLine line.text head t →
    row_of line ≡ Some (row line.number head t)
unfolding row_of
row-complete line head t (rest, is, spelled) =
    let whole : tree_at open_limit rest ≡ Some (t, []) =
    ap (tree_at open_limit) (sym (append-nil rest)) ∙ tree-complete open_limit rest t [] spelled in
    ap (row_at line.number) is ∙ ap (λ o. option_map (row line.number head) (at_end o)) whole

-- a line that spells no row is read as none
pub row-none : (line : Numbered) → IsBad line → row_of line ≡ None
row-none line bad = by (row_of line) refl
  where
    by : (o : Option Row) → row_of line ≡ o → row_of line ≡ None
    by None e = e
    by (Some r) e = let is = row-sound line r e in absurd (bad r.head r.tree is.spelled)

-- a line that is read as none is bad
pub none-bad : (line : Numbered) → row_of line ≡ None → IsBad line
none-bad line e head t spelled =
    none-some (row line.number head t) (sym e ∙ row-complete line head t spelled)

-- what is read is the one row that the line spells
pub row-is : (line : Numbered) (r : Row) → IsRowOf line r → row_of line ≡ Some r
row-is line r is =
    row-complete line r.head r.tree is.spelled
    ∙ ap (λ n. Some (row n r.head r.tree)) (sym is.number)

-- ---- lists of lines

-- where no line is bad, the first is a row
pub good-rest : (line : Numbered) (lines : List Numbered) → first_bad (line ∷ lines) ≡ None →
    (r : Row) × (row_of line ≡ Some r) × (first_bad lines ≡ None)
good-rest line lines e = by (row_of line) refl e
  where
    by : (o : Option Row) → row_of line ≡ o → bad_first line.number (first_bad lines) o ≡ None →
        (r : Row) × (row_of line ≡ Some r) × (first_bad lines ≡ None)
    by None is e = absurd (none-some line.number (sym e))
    by (Some r) is e = (r, is, e)

-- the rows of lines of which the first is a row
pub rows-cons : (line : Numbered) (lines : List Numbered) (r : Row) → row_of line ≡ Some r →
    rows_in (line ∷ lines) ≡ r ∷ rows_in lines
rows-cons line lines r e = ap (λ o. behind_row o (rows_in lines)) e

-- and the first bad line behind it
pub bad-cons : (line : Numbered) (lines : List Numbered) (r : Row) → row_of line ≡ Some r →
    first_bad (line ∷ lines) ≡ first_bad lines
bad-cons line lines r e = ap (bad_first line.number (first_bad lines)) e

-- a line that is no row is the first bad one
pub bad-here : (line : Numbered) (lines : List Numbered) → row_of line ≡ None →
    first_bad (line ∷ lines) ≡ Some line.number
bad-here line lines e = ap (bad_first line.number (first_bad lines)) e

-- lines of which none is bad spell their rows
pub good-rows : (lines : List Numbered) → first_bad lines ≡ None →
    AllZip IsRowOf lines (rows_in lines)
good-rows [] e = tt
good-rows (line ∷ lines) e =
    let (r, is, later) = good-rest line lines e in
    subst (λ (l : List Row). AllZip IsRowOf (line ∷ lines) l) (sym (rows-cons line lines r is))
    (row-sound line r is, good-rows lines later)

-- and lines that spell rows are these
pub rows-good : (lines : List Numbered) (rows : List Row) → AllZip IsRowOf lines rows →
    (first_bad lines ≡ None) × (rows_in lines ≡ rows)
rows-good [] [] all = (refl, refl)
rows-good [] (r ∷ rows) all = absurd all
rows-good (line ∷ lines) [] all = absurd all
rows-good (line ∷ lines) (r ∷ rows) all =
    let is : row_of line ≡ Some r = row-is line r all.0 in
    let (later, same) = rows-good lines rows all.1 in
    (bad-cons line lines r is ∙ later, rows-cons line lines r is ∙ ap (λ l. r ∷ l) same)

-- the first bad line, with the rows before it
pub bad-sound : (lines : List Numbered) (n : ℕ) → first_bad lines ≡ Some n → IsFirstBad lines n
bad-sound [] n e = absurd (none-some n e)
bad-sound (line ∷ lines) n e = by (row_of line) refl (bad-sound lines n) e
  where
    by : (o : Option Row) → row_of line ≡ o →
        (first_bad lines ≡ Some n → IsFirstBad lines n) →
        bad_first line.number (first_bad lines) o ≡ Some n → IsFirstBad (line ∷ lines) n
    by None is rest e = record {
      front = [];
      bad = line;
      back = lines;
      split = refl;
      rows = [];
      each = tt;
      spells_none = none-bad line is;
      number = sym (same_Some line.number n e);
    }
    by (Some r) is rest e =
        let w = rest e in
        record {
          front = line ∷ w.front;
          bad = w.bad;
          back = w.back;
          split = ap (λ l. line ∷ l) w.split;
          rows = r ∷ w.rows;
          each = (row-sound line r is, w.each);
          spells_none = w.spells_none;
          number = w.number;
        }

-- is the only one
pub bad-complete : (lines : List Numbered) (n : ℕ) → IsFirstBad lines n →
    first_bad lines ≡ Some n
bad-complete lines n w =
    ap first_bad w.split ∙ by w.front w.rows w.each ∙ ap Some (sym w.number)
  where
    by : (front : List Numbered) (rows : List Row) → AllZip IsRowOf front rows →
        first_bad (front ++ w.bad ∷ w.back) ≡ Some w.bad.number
    by [] rows all = bad-here w.bad w.back (row-none w.bad w.spells_none)
    by (line ∷ front) [] all = absurd all
    by (line ∷ front) (r ∷ rows) all =
        bad-cons line (front ++ w.bad ∷ w.back) r (row-is line r all.0) ∙ by front rows all.1
