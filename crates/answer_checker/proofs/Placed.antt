-- Where states stand in block lines, by their places.
use Rattle.std.proofs.Common.{◌≡◌, ℕ, ◌+◌, ◌<◌, List, [], ◌∷◌, ◌++◌, length, map, get_or, sym, ap, ◌∙◌, subst, arith, below_more}
use Rattle.std.specs.List.{range_with_len}
use Rattle.std.proofs.lemmas.List.FromFn.{map-range_with_len_more}
use Rattle.answer_checker.specs.Blocks.{BlockLine, times_in, line_of}
use Rattle.answer_checker.specs.Rules.{StandOnce}
use Rattle.answer_checker.specs.Steps.{IsPlaceOf, ArePlaces, IsNotOnce}
use Rattle.answer_checker.specs.declared.places.Place.{Place}
use Rattle.answer_checker.specs.declared.places.Place.TheVariants.{Nowhere, In, Again}
use Rattle.answer_checker.specs.declared.verdict.Reason.TheVariants.{Missing, Twice}

module _ (places : List Place) (i : ℕ) (below : i < length places) (lines : List BlockLine)
    (are : ArePlaces lines places) where
  -- where the state stands
  stands : (place : Place) → get_or places i Nowhere ≡ place → IsPlaceOf lines i place
  stands place at = subst (IsPlaceOf lines i) at (are i below)

  -- one state more stands once
  pub once_more :
      (k : ℕ) → get_or places i Nowhere ≡ In k → StandOnce i lines → StandOnce (i + 1) lines
  once_more k at once = below_more _ _ once (stands (In k) at).0

  -- the first state that stands nowhere
  pub is_missing :
      get_or places i Nowhere ≡ Nowhere → StandOnce i lines →
      IsNotOnce (length places) lines (Missing i)
  is_missing at once =
      let none : times_in lines i ≡ 0 = stands Nowhere at in
      (record { state = below; not_once = λ e. omega (arith, e, none); once_before = once }, none)

  -- the first state that stands more than once
  pub is_twice :
      get_or places i Nowhere ≡ Again → StandOnce i lines
      → IsNotOnce (length places) lines (Twice i)
  is_twice at once =
      let more : 1 < times_in lines i = stands Again at in
      (record { state = below; not_once = λ e. omega (arith, e, more); once_before = once }, more)

-- the line of one state more
pub line_more :
    (lines : List BlockLine) (numbers : List ℕ) (i k : ℕ) → k ≡ line_of lines i →
    numbers ≡ map (line_of lines) (range_with_len 0 i) →
    numbers ++ k ∷ [] ≡ map (line_of lines) (range_with_len 0 (i + 1))
line_more lines numbers i k is before =
    ap (λ ns. ns ++ k ∷ []) before
    ∙ ap (λ n. map (line_of lines) (range_with_len 0 i) ++ n ∷ []) is
    ∙ sym (map-range_with_len_more (line_of lines) 0 i i (omega arith))
