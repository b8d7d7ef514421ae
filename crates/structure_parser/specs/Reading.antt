-- Lines read one after the other: what the two passes over a file compute. Only private clauses
-- cite it; that it agrees with the stages is proved.
--
-- row_of line              == the row that the line spells, if it is a structure line
-- rows_in lines            == the rows of the lines that are structure lines
-- first_bad lines          == the number of the first line that is no structure line
-- first_word text          == the word with which a line begins, if it begins with a name
-- names_in names lines     == the names with the first words of the lines more
-- fresh_in names lines     == how many lines stand before the first whose first word is a name by
--                             then
-- typed_from t names k rows == `typed` of rows of which the k first have new heads, and no more
-- told t names so_far rows == what is told of a file where so much is read, and these rows are left
-- AreRead t lines c        == the lines behind the functor line denote the coalgebra
-- TellsRows t lines fault  == the fault is that of the lines behind the functor line
use Rattle.std.specs.Prelude.{◌≡◌, ℕ, suc, ◌-◌, ◌==◌, ◌≤◌, ◌^◌, Bool, false, IsTrue, List, [], ◌∷◌, ◌++◌, is_some, Option, Some, None, Result, Ok, Err, option_map, if◌then◌else◌}
use Rattle.std.specs.List.{AllZip, AllByRecursion}
use Rattle.file_cut.specs.Lines.{Numbered}
use Rattle.file_cut.specs.Tokens.{marks}
use Rattle.file_cut.specs.Trees.{open_limit}
use Rattle.file_cut.specs.Reading.{tree_at}
use Rattle.file_cut.specs.declared.mark.Mark.{Mark}
use Rattle.file_cut.specs.declared.mark.Mark.TheVariants.{Word, Colon}
use Rattle.file_cut.specs.declared.tree.Tree.{Tree}
use Rattle.functor_terms.specs.Words.{place_of}
use Rattle.functor_terms.specs.Terms.{Nodes}
use Rattle.typing.specs.declared.kind.TypeKind.{TypeKind}
use Rattle.typing.specs.declared.kind.TypeKind.TheVariants.{RepeatedState}
use Rattle.typing.specs.declared.value.Value.{Value}
use Rattle.typing.specs.Contents.{Content}
use Rattle.typing.specs.Bounds.{is_within, weights_hold}
use Rattle.typing.specs.Values.{states_below}
use Rattle.fitting.specs.Fitting.{Found, fitting}
use Rattle.fitting.specs.Scaling.{over_bound, lists_within, has_sums, IsFitted}
use Rattle.fitting.specs.declared.fitted.Fitted.{Fitted}
use Rattle.structure_parser.specs.declared.fault.FileFault.{FileFault}
use Rattle.structure_parser.specs.declared.fault.FileFault.TheVariants as answer
use Rattle.structure_parser.specs.declared.stage.Kept.{Kept}
use Rattle.structure_parser.specs.declared.stage.Stage.{Stage}
use Rattle.structure_parser.specs.declared.stage.Stage.TheVariants as stage
use Rattle.structure_parser.specs.declared.stage.SoFar.{SoFar}
use Rattle.structure_parser.specs.Rows.{Row, row}
use Rattle.structure_parser.specs.Stages.{Typed, typed_first, bounded, with_head, heads_of, Outcome, reads_rows}
use Rattle.structure_parser.specs.Reads.{IsNormalForm}

-- ---- lines as rows

-- what was read, where nothing is left
abbrev pub at_end : Option (Tree × List Mark) → Option Tree
at_end None = None
at_end (Some (t, [])) = Some t
at_end (Some (t, m ∷ ts)) = None

-- the row behind its head
abbrev pub behind_head : ℕ → List ℕ → List Mark → Option Row
behind_head n head (Colon ∷ ts) = option_map (row n head) (at_end (tree_at open_limit ts))
behind_head n head _ = None

-- the row of these tokens
abbrev pub row_at : ℕ → List Mark → Option Row
row_at n (Word head ∷ ts) = behind_head n head ts
row_at n _ = None

-- the row that the line spells
unfoldable pub row_of : Numbered → Option Row
row_of line = row_at line.number (marks line.text)

-- rows behind one that may be there
abbrev pub behind_row : Option Row → List Row → List Row
behind_row None rows = rows
behind_row (Some r) rows = r ∷ rows

-- the rows of the lines that are rows
abbrev pub rows_in : List Numbered → List Row
rows_in [] = []
rows_in (line ∷ lines) = behind_row (row_of line) (rows_in lines)

-- the number of a line that is no row, or what is found behind it
abbrev pub bad_first : ℕ → Option ℕ → Option Row → Option ℕ
bad_first n later None = Some n
bad_first n later (Some r) = later

-- the number of the first line that is no row
abbrev pub first_bad : List Numbered → Option ℕ
first_bad [] = None
first_bad (line ∷ lines) = bad_first line.number (first_bad lines) (row_of line)

-- ---- heads

-- the word of a token, if it is a name
abbrev pub word_in : Mark → Option (List ℕ)
word_in (Word w) = Some w
word_in _ = None

-- the word of the first token
abbrev pub word_first : List Mark → Option (List ℕ)
word_first [] = None
word_first (m ∷ ms) = word_in m

-- the word with which a line begins
abbrev pub first_word : List ℕ → Option (List ℕ)
first_word text = word_first (marks text)

-- the names with a word more, if there is one and it is new
abbrev pub with_word : List (List ℕ) → Option (List ℕ) → List (List ℕ)
with_word names None = names
with_word names (Some w) = with_head names w

-- the word is one of the names
abbrev pub is_old : List (List ℕ) → Option (List ℕ) → Bool
is_old names None = false
is_old names (Some w) = is_some (place_of w names)

-- the names with the first words of lines more
abbrev pub names_in : List (List ℕ) → List Numbered → List (List ℕ)
names_in names [] = names
names_in names (line ∷ lines) = names_in (with_word names (first_word line.text)) lines

-- how many lines stand before the first whose first word is old by then
abbrev pub fresh_in : List (List ℕ) → List Numbered → ℕ
fresh_in names [] = 0
fresh_in names (line ∷ lines) =
    if is_old names (first_word line.text)
    then 0
    else suc (fresh_in (with_word names (first_word line.text)) lines)

-- ---- types, bounds and sums in one pass

-- what a tree denotes, where its head may stand before
abbrev pub row_fit : Nodes → List (List ℕ) → Bool → Tree → Found Fitted
row_fit t names repeated tree = if repeated then Err RepeatedState else fitting t names 0 tree

-- `typed` of rows of which the k first have new heads
abbrev pub typed_from : Nodes → List (List ℕ) → ℕ → List Row → Typed
typed_from t names k [] = Ok []
typed_from t names k (r ∷ rows) =
    typed_first r.line (row_fit t names (k == 0) r.tree) (typed_from t names (k - 1) rows)

-- a fitted tree with the number of its line
abbrev pub kept : ℕ → Fitted → Kept
kept line f = record { line = line; fitted = f }

-- fitted trees with the lines of their rows
abbrev pub kept_of : List Row → List Fitted → List Kept
kept_of [] fs = []
kept_of (r ∷ rows) [] = []
kept_of (r ∷ rows) (f ∷ fs) = kept r.line f ∷ kept_of rows fs

-- what is told of a file but for its sums
pub data Told : Type 0 where
  misfit : ℕ → TypeKind → Told
  past_bound : ℕ → Told
  fine : ℕ → List Kept → Told

-- the common denominator with all that is kept, or the line at which a bound is passed
abbrev pub told_bound : List Kept → Result ℕ ℕ → Told
told_bound ks (Err line) = past_bound line
told_bound ks (Ok l) = fine l ks

-- what is told, by the stage so far and by what the rows that are left are typed as
abbrev pub told_of : Stage → List Kept → List Row → Typed → Told
told_of (stage.Misfit line kind) ks rows read = misfit line kind
told_of (stage.PastBound line) ks rows (Err fault) = misfit fault.0 fault.1
told_of (stage.PastBound line) ks rows (Ok fs) = past_bound line
told_of (stage.Fitting l) ks rows (Err fault) = misfit fault.0 fault.1
told_of (stage.Fitting l) ks rows (Ok fs) = told_bound (ks ++ kept_of rows fs) (bounded l rows fs)

-- what is told of a file where so much is read, and these rows are left
abbrev pub told : Nodes → List (List ℕ) → SoFar → List Row → Told
told t names so_far rows =
    told_of so_far.stage so_far.kept.items rows (typed_from t names so_far.fresh rows)

-- the same at the front of a file, where so many rows have new heads
abbrev pub told_all : Nodes → List (List ℕ) → ℕ → List Row → Told
told_all t names k rows = told_of (stage.Fitting 1) [] rows (typed_from t names k rows)

-- with a row more, whose tree is found so, all is told that was told before
abbrev pub TellsOn : SoFar → ℕ → Found Fitted → SoFar → Type 0
TellsOn old line found new =
    (t : Nodes) (names : List (List ℕ)) (head : List ℕ) (tree : Tree) (rest : List Row) →
    row_fit t names (old.fresh == 0) tree ≡ found →
    told t names new rest ≡ told t names old (row line head tree ∷ rest)

-- the fitted tree is ready to be scaled, where n states have names
pub record IsReady (t : Nodes) (n : ℕ) (k : Kept) : Type 0 where
  pub fitted : IsFitted t n k.fitted
  pub not_over : over_bound k.fitted ≡ false
  pub small : IsTrue (lists_within (2 ^ 26) k.fitted)

-- the common denominator so far is from 1 to 2^40
abbrev pub IsInRange : Stage → Type 0
IsInRange (stage.Fitting l) = (1 ≤ l) × (l ≤ 2 ^ 40)
IsInRange (stage.PastBound line) = Unit {0}
IsInRange (stage.Misfit line kind) = Unit {0}

-- no line so far is a misfit
abbrev pub IsNoMisfit : Stage → Type 0
IsNoMisfit (stage.Fitting l) = Unit {0}
IsNoMisfit (stage.PastBound line) = Unit {0}
IsNoMisfit (stage.Misfit line kind) = ⊥

-- all that is kept is ready, and the denominator is in range
pub record IsSound (t : Nodes) (n : ℕ) (s : SoFar) : Type 0 where
  pub ready : AllByRecursion (IsReady t n) s.kept.items
  pub in_range : IsInRange s.stage

-- what the tree denotes has no list of more than 2^26 entries
abbrev pub IsShort : Nodes → List (List ℕ) → Tree → Type 0
IsShort t names tree =
    (f : Fitted) → fitting t names 0 tree ≡ Ok f → IsTrue (lists_within (2 ^ 26) f)

-- ---- values

-- the line of a tree, if some distribution in it does not sum to l
abbrev pub short_line : ℕ → Nodes → Kept → Option ℕ
short_line l t k = if has_sums l t 0 k.fitted then None else Some k.line

-- the line of the first tree with a distribution that does not sum to l
abbrev pub short_kept : ℕ → Nodes → List Kept → Option ℕ
short_kept l t [] = None
short_kept l t (k ∷ ks) = if has_sums l t 0 k.fitted then short_kept l t ks else Some k.line

-- v is the normal form of the fitted tree, with states below n and weights within their bounds
pub record IsValueOf (t : Nodes) (l n : ℕ) (k : Kept) (v : Value) : Type 0 where
  pub normal_form : IsNormalForm l t k.fitted v
  pub in_range : IsTrue (states_below n v)
  pub weighted : IsTrue (weights_hold l t 0 v)
  pub in_bounds : IsTrue (is_within (2 ^ 106) v)

-- the fault is that of this line, or want of memory
abbrev pub TellsSum : FileFault → Option ℕ → Type 0
TellsSum (answer.SumFault line) short = short ≡ Some line
TellsSum answer.NoMemory short = Unit {0}
TellsSum _ short = ⊥

-- ---- what the passes answer

-- the fault is that of a line that is no row, or want of memory
abbrev pub TellsCut : FileFault → Numbered → Type 0
TellsCut (answer.Grammar n) line = (row_of line ≡ None) × (n ≡ line.number)
TellsCut answer.NoMemory line = Unit {0}
TellsCut _ line = ⊥

-- the fault is the first bad line, or else what is told
abbrev pub TellsFault : FileFault → Option ℕ → Told → Type 0
TellsFault (answer.Grammar line) bad read = bad ≡ Some line
TellsFault (answer.TypeFault line kind) bad read = (bad ≡ None) × (read ≡ misfit line kind)
TellsFault (answer.WeightBound line) bad read = (bad ≡ None) × (read ≡ past_bound line)
TellsFault answer.NoMemory bad read = Unit {0}
TellsFault _ bad read = ⊥

-- the lines behind the functor line denote the coalgebra
pub record AreRead (t : Nodes) (lines : List Numbered) (c : Content) : Type 0 where
  pub good : first_bad lines ≡ None
  pub same_term : c.term ≡ t
  pub fitted : List Fitted
  pub read : reads_rows t (rows_in lines) ≡ Outcome.accepted c.denominator fitted
  pub same_names : c.names ≡ heads_of (rows_in lines)
  pub values : AllZip (IsNormalForm c.denominator t) fitted c.values

-- no line is bad, and the stages say this of the rows
abbrev pub Says : Nodes → List Numbered → Outcome → Type 0
Says t lines outcome = (first_bad lines ≡ None) × (reads_rows t (rows_in lines) ≡ outcome)

-- the fault is that of the lines behind the functor line, or want of memory
abbrev pub TellsRows : Nodes → List Numbered → FileFault → Type 0
TellsRows t lines answer.TooLong = ⊥
TellsRows t lines (answer.Grammar line) = first_bad lines ≡ Some line
TellsRows t lines (answer.TypeFault line kind) = Says t lines (Outcome.misfit line kind)
TellsRows t lines (answer.WeightBound line) = Says t lines (Outcome.past_bound line)
TellsRows t lines (answer.SumFault line) = Says t lines (Outcome.short_sum line)
TellsRows t lines answer.NoMemory = Unit {0}
