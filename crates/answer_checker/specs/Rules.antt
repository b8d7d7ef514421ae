-- The three rules by which block lines are judged, in their order. The first that fails decides.
--
-- StandOnce n lines                  == each of n states stands in the lines exactly once
-- IsFirstNotOnce n lines i           == i is the first of them that does not
-- first_beside numbers y             == the first state with the number of state y
-- IsLikeFirst t values numbers y     == under the numbers, the structure of y is equal to that of
--                                       the first state of its block
-- AreLikeFirsts t values numbers     == the same of each state
-- IsFirstUnlike .. x y               == y is the first that is not like the first of its block, x
-- HoldsExactly n told line           == the formula of the line holds at its states alone
-- HoldAllExactly n told lines        == the same of each line
-- IsFirstWrong n told lines f x      == f is the formula of the first line of which this is not so,
--                                       and x the first state at which it is wrong
-- PassesRules .. lines               == all three hold
use Rattle.std.specs.Prelude.{◌≡◌, ◌≢◌, ◌<◌, ◌==◌, ℕ, suc, Bool, List, [], ◌∷◌, length, slice_get, slice_index, Some, if◌then◌else◌}
use Rattle.functor_terms.specs.Terms.{Nodes}
use Rattle.typing.specs.declared.value.Value.{Value}
use Rattle.typing.specs.Stable.{AreEqualUnder}
use Rattle.answer_checker.specs.Blocks.{BlockLine, has_state, times_in, line_numbers}

-- each of n states stands in the lines exactly once
abbrev pub StandOnce : ℕ → List BlockLine → Type 0
StandOnce n lines = (i : ℕ) → i < n → times_in lines i ≡ 1

-- i is the first of n states that does not stand in the lines exactly once
pub record IsFirstNotOnce (n : ℕ) (lines : List BlockLine) (i : ℕ) : Type 0 where
  pub state : i < n
  pub not_once : times_in lines i ≢ 1
  pub once_before : StandOnce i lines

-- the first state with a number
abbrev pub first_with : List ℕ → ℕ → ℕ
first_with [] c = 0
first_with (x ∷ numbers) c = if x == c then 0 else suc (first_with numbers c)

-- the first state with the number of state y
abbrev pub first_beside : List ℕ → ℕ → ℕ
first_beside numbers y = first_with numbers (slice_index numbers y)

module _ (t : Nodes) (values : List Value) (numbers : List ℕ) where
  -- under the numbers, the structure of state y is equal to that of the first state of its block
  abbrev pub IsLikeFirst : ℕ → Type 0
  IsLikeFirst y =
      (u v : Value) → slice_get values (first_beside numbers y) ≡ Some u →
      slice_get values y ≡ Some v → AreEqualUnder t numbers u v

  -- the same of each state before n
  abbrev pub AreLikeBefore : ℕ → Type 0
  AreLikeBefore n = (y : ℕ) → y < n → IsLikeFirst y

  -- the same of each state
  abbrev pub AreLikeFirsts : Type 0
  AreLikeFirsts = AreLikeBefore (length values)

  -- y is the first state that is not like the first state of its block, which is x
  pub record IsFirstUnlike (x y : ℕ) : Type 0 where
    pub state : y < length values
    pub first : x ≡ first_beside numbers y
    pub unlike : IsLikeFirst y → ⊥
    pub like_before : AreLikeBefore y

module _ (told : ℕ → ℕ → Bool) where
  -- the formula of the line holds at state i exactly if the line has it
  abbrev pub IsRightAt : BlockLine → ℕ → Type 0
  IsRightAt line i = told line.formula i ≡ has_state line i

  -- among n states, the formula of the line holds at its states alone
  abbrev pub HoldsExactly : ℕ → BlockLine → Type 0
  HoldsExactly n line = (i : ℕ) → i < n → IsRightAt line i

  -- the same of each line before number k
  abbrev pub HoldExactlyBefore : ℕ → List BlockLine → ℕ → Type 0
  HoldExactlyBefore n lines k =
      (j : ℕ) (line : BlockLine) → j < k → slice_get lines j ≡ Some line → HoldsExactly n line

  -- the same of each line
  abbrev pub HoldAllExactly : ℕ → List BlockLine → Type 0
  HoldAllExactly n lines = HoldExactlyBefore n lines (length lines)

  -- line k is the first whose formula does not hold at its states alone, and x is the first state
  -- at which it is wrong
  pub record IsFirstWrongLine (n : ℕ) (lines : List BlockLine) (k : ℕ) (line : BlockLine) (x : ℕ) :
      Type 0 where
    pub there : slice_get lines k ≡ Some line
    pub state : x < n
    pub wrong : IsRightAt line x → ⊥
    pub right_before : HoldsExactly x line
    pub lines_before : HoldExactlyBefore n lines k

  -- f is the formula of this line
  abbrev pub IsFirstWrong : ℕ → List BlockLine → ℕ → ℕ → Type 0
  IsFirstWrong n lines f x =
      (k : ℕ) × (line : BlockLine) × (line.formula ≡ f) × IsFirstWrongLine n lines k line x

-- each state stands once, each is like the first of its block, and the formula of each line holds
-- at its states alone
pub record PassesRules
    (t : Nodes) (values : List Value) (told : ℕ → ℕ → Bool) (lines : List BlockLine) : Type 0 where
  pub once : StandOnce (length values) lines
  pub like_firsts : AreLikeFirsts t values (line_numbers lines (length values))
  pub formulas : HoldAllExactly told (length values) lines
