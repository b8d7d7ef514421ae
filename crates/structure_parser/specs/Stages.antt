-- The stages behind the grammar, over the rows of a file. The earliest stage that finds a fault
-- decides, and in it the first row.
--
-- heads_of rows         == the heads in line order
-- names_of rows         == the heads, each once, in the order of their first lines
-- typed t names before rows == the fitted trees of rows, or the line and the kind of the first row
--                          whose head stands before it, or whose tree has a misfit
-- bounded l rows fs     == the common denominator, joined from l on in line order, or the line of
--                          the first row with a weight or a number over its bound, or at which the
--                          denominator passes its limit
-- summed t l rows fs    == the line of the first row with a distribution that does not sum to l
-- reads_rows t rows     == what all stages say
use Rattle.std.specs.Prelude.{ℕ, List, [], ◌∷◌, ◌++◌, map, is_some, nat_le, Option, Some, None, Result, Ok, Err, if◌then◌else◌}
use Rattle.std.specs.Option.{option_map_or}
use Rattle.functor_terms.specs.Words.{place_of}
use Rattle.functor_terms.specs.Terms.{Nodes}
use Rattle.typing.specs.declared.kind.TypeKind.{TypeKind}
use Rattle.typing.specs.declared.kind.TypeKind.TheVariants.{RepeatedState}
use Rattle.fitting.specs.declared.fitted.Fitted.{Fitted}
use Rattle.fitting.specs.Fitting.{Found, fitting}
use Rattle.fitting.specs.Scaling.{over_bound, denominators, denominator_limit, common_multiple, has_sums}
use Rattle.structure_parser.specs.Rows.{Row}

-- ---- types

-- the heads in line order
abbrev pub heads_of : List Row → List (List ℕ)
heads_of rows = map (λ r. r.head) rows

-- the names with a head more, if it is new
abbrev pub with_head : List (List ℕ) → List ℕ → List (List ℕ)
with_head names head = if is_some (place_of head names) then names else names ++ head ∷ []

-- the names with the heads of rows more
abbrev pub names_with : List (List ℕ) → List Row → List (List ℕ)
names_with names [] = names
names_with names (r ∷ rows) = names_with (with_head names r.head) rows

-- the heads, each once, in the order of their first lines
abbrev pub names_of : List Row → List (List ℕ)
names_of rows = names_with [] rows

-- the fitted trees of rows, or the line and the kind of the first misfit
abbrev pub Typed : Type 0
Typed = Result (List Fitted) (ℕ × TypeKind)

-- a fitted tree before those of the rows behind it, or the misfit of its line
abbrev pub typed_first : ℕ → Found Fitted → Typed → Typed
typed_first line (Err kind) rest = Err (line, kind)
typed_first line (Ok f) (Ok fs) = Ok (f ∷ fs)
typed_first line (Ok f) (Err fault) = Err fault

-- the fitted trees of rows, or the first misfit; `before` has the heads of the rows before them
abbrev pub typed : Nodes → List (List ℕ) → List (List ℕ) → List Row → Typed
typed t names before [] = Ok []
typed t names before (r ∷ rows) =
    if is_some (place_of r.head before)
    then Err (r.line, RepeatedState)
    else typed_first r.line (fitting t names 0 r.tree) (typed t names (before ++ r.head ∷ []) rows)

-- ---- bounds

-- the number, if it is within the limit of common denominators
abbrev pub within_limit : ℕ → Option ℕ
within_limit m = if nat_le m denominator_limit then Some m else None

-- the denominator with those of a fitted tree, if all is within its bound
abbrev pub joined_with : ℕ → Fitted → Option ℕ
joined_with l f = if over_bound f then None else within_limit (common_multiple l (denominators f))

-- the common denominator, or the line at which a bound is passed
abbrev pub bounded : ℕ → List Row → List Fitted → Result ℕ ℕ
bounded l [] fs = Ok l
bounded l (r ∷ rows) [] = Ok l
bounded l (r ∷ rows) (f ∷ fs) =
    option_map_or (λ m. bounded m rows fs) (joined_with l f) (Err r.line)

-- ---- sums

-- the line of the first row with a distribution that does not sum to l
abbrev pub summed : Nodes → ℕ → List Row → List Fitted → Option ℕ
summed t l [] fs = None
summed t l (r ∷ rows) [] = None
summed t l (r ∷ rows) (f ∷ fs) = if has_sums l t 0 f then summed t l rows fs else Some r.line

-- ---- all stages in turn

-- what rows are read as: fitted trees over a common denominator, or the first fault
pub data Outcome : Type 0 where
  misfit : ℕ → TypeKind → Outcome
  past_bound : ℕ → Outcome
  short_sum : ℕ → Outcome
  accepted : ℕ → List Fitted → Outcome

-- the stage of sums
abbrev pub after_bounds : Nodes → List Row → List Fitted → Result ℕ ℕ → Outcome
after_bounds t rows fs (Err line) = past_bound line
after_bounds t rows fs (Ok l) = option_map_or short_sum (summed t l rows fs) (accepted l fs)

-- the stages of bounds and sums
abbrev pub after_types : Nodes → List Row → Typed → Outcome
after_types t rows (Err fault) = misfit fault.0 fault.1
after_types t rows (Ok fs) = after_bounds t rows fs (bounded 1 rows fs)

-- all stages in turn
abbrev pub reads_rows : Nodes → List Row → Outcome
reads_rows t rows = after_types t rows (typed t (names_of rows) [] rows)
