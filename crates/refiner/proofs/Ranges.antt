-- Rounds, splits and parts in arrays that grow at their ends.
use Rattle.std.proofs.Common.{◌≡◌, ◌-◌, ◌<◌, ◌≤◌, ◌∙◌, ℕ, List, [], ◌∷◌, ◌++◌, Some, length, length-append, get_or, take, drop, map, refl, ap, arith}
use Rattle.std.specs.Prelude.{All, slice_get, slice_range, option_map}
use Rattle.std.proofs.lemmas.List.{drop-append-le, take-append-le, map-append, length-drop, length-map, take_all}
use Rattle.std.proofs.lemmas.List.Elements.{All-head, All-tail, All-take, All-drop}
use Rattle.std.proofs.lemmas.Option.{slice_get-map, slice_get-get_or}
use Rattle.std.proofs.Math.Seq.{drop-append_seam}
use Rattle.refiner.specs.declared.parts.Part.{Part}
use Rattle.refiner.specs.declared.rows.SplitRow.{SplitRow}
use Rattle.refiner.specs.declared.rows.RoundRow.{RoundRow}
use Rattle.refiner.specs.Recorded.{Split, round_with}
use Rattle.refiner.specs.Flat.{split_of, round_of, LiesWithin, AreOfParts}

-- a range within a list, where something is added to the list
pub range_kept : {X : Type 0} (from to : ℕ) (xs ys : List X) → LiesWithin (length xs) from to →
    slice_range (xs ++ ys) from to ≡ slice_range xs from to
range_kept from to xs ys within =
    ap (take (to - from)) (drop-append-le from xs ys (omega (arith, within.0, within.1)))
    ∙ take-append-le (to - from) (drop from xs) ys
    (omega (arith, within.0, within.1, length-drop from xs))

-- the range of what is added
pub range_added : {X : Type 0} (from to : ℕ) (xs ys : List X) → from ≡ length xs →
    to ≡ length (xs ++ ys) → slice_range (xs ++ ys) from to ≡ ys
range_added from to xs ys begins ends =
    let many : to - from ≡ length ys = omega (arith, begins, ends, length-append xs ys) in
    rw (many, begins, drop-append_seam xs ys) (take_all (length ys) ys (omega arith))

-- two functions that are one on all of a list
pub map_all : {X Y : Type 0} (P : X → Type 0) (f g : X → Y) → ((x : X) → P x → f x ≡ g x) →
    (xs : List X) → All P xs → map f xs ≡ map g xs
map_all P f g same [] all = refl
map_all P f g same (x ∷ xs) all =
    rw (same x (All-head P x xs all), map_all P f g same xs (All-tail P x xs all)) refl

-- a split, where parts are added
pub split_kept : (parts more : List Part) (row : SplitRow) →
    LiesWithin (length parts) row.from row.to → split_of (parts ++ more) row ≡ split_of parts row
split_kept parts more row within =
    ap (λ (ps : List Part). let s : Split = record { parent = row.parent; parts = ps } in s)
    (range_kept row.from row.to parts more within)

-- splits, where parts are added
pub splits_kept : (parts more : List Part) (rows : List SplitRow) → AreOfParts rows parts →
    map (split_of (parts ++ more)) rows ≡ map (split_of parts) rows
splits_kept parts more rows within =
    map_all (λ (s : SplitRow). LiesWithin (length parts) s.from s.to) (split_of (parts ++ more))
    (split_of parts) (λ row h. split_kept parts more row h) rows within

-- rounds, where a split and its parts are added
pub rounds_kept : (splits added : List SplitRow) (parts more : List Part)
    (rounds : List RoundRow) → AreOfParts splits parts →
    All (λ (r : RoundRow). LiesWithin (length splits) r.from r.to) rounds →
    map (round_of (splits ++ added) (parts ++ more)) rounds ≡ map (round_of splits parts) rounds
rounds_kept splits added parts more rounds of_parts of_splits =
    map_all (λ (r : RoundRow). LiesWithin (length splits) r.from r.to)
    (round_of (splits ++ added) (parts ++ more)) (round_of splits parts)
    (λ row h. ap (round_with row.numbers)
    (ap (map (split_of (parts ++ more))) (range_kept row.from row.to splits added h)
    ∙ splits_kept parts more (slice_range splits row.from row.to)
    (All-take (λ (s : SplitRow). LiesWithin (length parts) s.from s.to) (row.to - row.from)
    (drop row.from splits) (All-drop (λ (s : SplitRow). LiesWithin (length parts) s.from s.to)
    row.from splits
    of_parts))))
    rounds of_splits

-- the splits of the round that has not ended, where one is added
pub splits_added : (ended : ℕ) (splits : List SplitRow) (parts new : List Part) (row : SplitRow) →
    ended ≤ length splits → AreOfParts splits parts → row.from ≡ length parts →
    row.to ≡ length (parts ++ new) →
    map (split_of (parts ++ new)) (drop ended (splits ++ row ∷ []))
    ≡ map (split_of parts) (drop ended splits) ++ record { parent = row.parent; parts = new } ∷ []
splits_added ended splits parts new row within of_parts begins ends =
    rw (
      drop-append-le ended splits (row ∷ []) within,
      map-append (split_of (parts ++ new)) (drop ended splits) (row ∷ []),
      splits_kept parts new (drop ended splits)
          (All-drop (λ (s : SplitRow). LiesWithin (length parts) s.from s.to) ended splits
          of_parts),
      range_added row.from row.to parts new begins ends,
    ) refl

-- the element at a place of a list that is made element by element
pub map_at : {X Y : Type 0} (f : X → Y) (xs : List X) (k : ℕ) (d : X) → k < length (map f xs) →
    slice_get (map f xs) k ≡ Some (f (get_or xs k d))
map_at f xs k d h =
    slice_get-map f xs k
    ∙ ap (option_map f) (slice_get-get_or xs k d (omega (arith, h, length-map xs f)))
