-- What the steps of the program answer. No promise of a public call speaks of these words.
--
-- put_again k place               == the place of a state that stands in line k once more
-- IsPlaceOf lines i place         == where state i stands in the lines
-- ArePlaces lines places          == the same of each state
-- IsNotOnce n lines reason        == the reason is that of a first state that does not stand once
-- AreFirstsOf numbers firsts      == for each state the first one with its number
-- IsDifferent .. reason           == the reason is that of a first state that is not like its first
use Rattle.std.specs.Prelude.{◌≡◌, ◌<◌, ◌≤◌, ℕ, List, length, slice_index, slice_index_or, EachIndex}
use Rattle.functor_terms.specs.Terms.{Nodes}
use Rattle.typing.specs.declared.value.Value.{Value}
use Rattle.answer_checker.specs.Blocks.{BlockLine, times_in, line_of}
use Rattle.answer_checker.specs.Rules.{IsFirstNotOnce, first_beside, IsFirstUnlike}
use Rattle.answer_checker.specs.declared.verdict.Reason.{Reason}
use Rattle.answer_checker.specs.declared.verdict.Reason.TheVariants.{Missing, Twice, Unstable, Wrong}
use Rattle.answer_checker.specs.declared.places.Place.{Place}
use Rattle.answer_checker.specs.declared.places.Place.TheVariants.{Nowhere, In, Again}

-- the place of a state that stands in line k once more
abbrev pub put_again : ℕ → Place → Place
put_again k Nowhere = In k
put_again k (In j) = Again
put_again k Again = Again

-- where a state stands in the lines: nowhere, in one line once, or more often
abbrev pub IsPlaceOf : List BlockLine → ℕ → Place → Type 0
IsPlaceOf lines i Nowhere = times_in lines i ≡ 0
IsPlaceOf lines i (In k) = (times_in lines i ≡ 1) × (line_of lines i ≡ k)
IsPlaceOf lines i Again = 1 < times_in lines i

-- the places of the states, in order
abbrev pub ArePlaces : List BlockLine → List Place → Type 0
ArePlaces lines places =
    (i : ℕ) → i < length places → IsPlaceOf lines i (slice_index_or places i Nowhere)

-- the reason is that of the first of n states that does not stand in the lines once
abbrev pub IsNotOnce : ℕ → List BlockLine → Reason → Type 0
IsNotOnce n lines (Missing i) = IsFirstNotOnce n lines i × (times_in lines i ≡ 0)
IsNotOnce n lines (Twice i) = IsFirstNotOnce n lines i × (1 < times_in lines i)
IsNotOnce n lines (Unstable x y) = ⊥
IsNotOnce n lines (Wrong f x) = ⊥

-- for each state the first one with its number, which is no later
pub record AreFirstsOf (numbers firsts : List ℕ) : Type 0 where
  pub count : length firsts ≡ length numbers
  pub first : EachIndex numbers (λ y. slice_index firsts y ≡ first_beside numbers y)
  pub no_later : EachIndex numbers (λ y. slice_index firsts y ≤ y)

-- the reason is that of the first state that is not like the first state of its block
abbrev pub IsDifferent : Nodes → List Value → List ℕ → Reason → Type 0
IsDifferent t values numbers (Missing i) = ⊥
IsDifferent t values numbers (Twice i) = ⊥
IsDifferent t values numbers (Unstable x y) = IsFirstUnlike t values numbers x y
IsDifferent t values numbers (Wrong f x) = ⊥
