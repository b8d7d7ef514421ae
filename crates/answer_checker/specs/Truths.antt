-- What the steps of the third rule answer. No promise of a public call speaks of these words.
--
-- AreCitations formulas found       == one for each line, which cites the formula with its number
-- IsRightBy told numbers f k x      == formula f holds at state x exactly if x has the number k
-- IsWrongBy told numbers f k x      == x is the first state at which this is not so
-- earlier found other               == the one of two wrong lines that comes first
-- IsFoundWrong .. reason            == the reason is that of the first line of which this is so
use Rattle.std.specs.Prelude.{◌≡◌, ◌<◌, ◌==◌, ℕ, Bool, List, length, slice_get, slice_index, Option, Some, None, nat_lt, if◌then◌else◌}
use Rattle.std.specs.List.{All, Contains}
use Rattle.answer_checker.specs.declared.truths.Citation.{Citation}
use Rattle.answer_checker.specs.declared.truths.WrongLine.{WrongLine}
use Rattle.answer_checker.specs.declared.verdict.Reason.{Reason}
use Rattle.answer_checker.specs.declared.verdict.Reason.TheVariants.{Missing, Twice, Unstable, Wrong}

-- the citation of formula f by line k
abbrev pub citation_of : ℕ → ℕ → Citation
citation_of f k = record { formula = f; line = k }

-- each is the citation of a line, and each line before n has its citation
pub record AreCitationsBefore (formulas : List ℕ) (n : ℕ) (found : List Citation) : Type 0 where
  pub each : All (λ c. slice_get formulas c.line ≡ Some c.formula) found
  pub all : (k f : ℕ) → k < n → slice_get formulas k ≡ Some f → Contains found (citation_of f k)

-- the same of all lines
abbrev pub AreCitations : List ℕ → List Citation → Type 0
AreCitations formulas found = AreCitationsBefore formulas (length formulas) found

module _ (told : ℕ → ℕ → Bool) (numbers : List ℕ) where
  -- formula f holds at state x exactly if x has the number k
  abbrev pub IsRightBy : ℕ → ℕ → ℕ → Type 0
  IsRightBy f k x = told f x ≡ (slice_index numbers x == k)

  -- the same of each state before n
  abbrev pub AreRightBefore : ℕ → ℕ → ℕ → Type 0
  AreRightBefore f k n = (x : ℕ) → x < n → IsRightBy f k x

  -- the formula of the line holds at exactly the states that have its number
  abbrev pub IsRightLine : ℕ → ℕ → Type 0
  IsRightLine f k = AreRightBefore f k (length numbers)

  -- x is the first state at which it is wrong
  pub record IsWrongBy (f k x : ℕ) : Type 0 where
    pub state : x < length numbers
    pub wrong : IsRightBy f k x → ⊥
    pub right_before : AreRightBefore f k x

  module _ (formulas : List ℕ) where
    -- each line is right
    abbrev pub AreAllRight : Type 0
    AreAllRight = (k f : ℕ) → slice_get formulas k ≡ Some f → IsRightLine f k

    -- f is the formula of the first line that is not, and x the first state at which it is wrong
    pub record IsFirstWrongBy (f x : ℕ) : Type 0 where
      pub line : ℕ
      pub there : slice_get formulas line ≡ Some f
      pub wrong : IsWrongBy f line x
      pub lines_before :
          (j g : ℕ) → j < line → slice_get formulas j ≡ Some g → IsRightLine g j

    -- no reason where each line is right, and else that of the first which is not
    abbrev pub IsReasonFound : Reason → Type 0
    IsReasonFound (Missing i) = ⊥
    IsReasonFound (Twice i) = ⊥
    IsReasonFound (Unstable x y) = ⊥
    IsReasonFound (Wrong f x) = IsFirstWrongBy f x

    -- the same, where a reason may be found
    abbrev pub IsFoundWrong : Option Reason → Type 0
    IsFoundWrong None = AreAllRight
    IsFoundWrong (Some reason) = IsReasonFound reason

-- the one of two wrong lines that comes first
abbrev pub earlier : Option WrongLine → WrongLine → Option WrongLine
earlier None other = Some other
earlier (Some known) other = if nat_lt other.line known.line then Some other else Some known
