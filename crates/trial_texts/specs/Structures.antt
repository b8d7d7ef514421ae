-- What is drawn for the states of a trial input, as plain data.
--
-- Structure                 == what is drawn for one state, one form for each kind of input
-- structure_of kind size x  == what is drawn for a state where the generator's number was x
-- draws_of kind x           == how many draws these are
-- structures kind size n x  == what is drawn for n states, one after the other
use Rattle.std.specs.Prelude.{ℕ, zero, suc, ◌+◌, ◌*◌, List, [], ◌∷◌}
use Rattle.trial_texts.specs.declared.kind.TrialKind.{TrialKind}
use Rattle.trial_texts.specs.declared.kind.TrialKind.TheVariants.{Lts, Chain, Sums, Dfa}
use Rattle.trial_texts.specs.Draws.{number, draw, pairs}

-- what is drawn for one state
pub data Structure : Type 0 where
  -- pairs of a label and a target
  moves : List (ℕ × ℕ) → Structure
  -- a mark, two targets, and how many eighths the first of them has
  chances : (mark first second eighths : ℕ) → Structure
  -- a mark, and pairs of a target and a weight, which is written less 3
  sums : (mark : ℕ) → List (ℕ × ℕ) → Structure
  -- a mark, and the targets by `a` and `b`
  ends : (mark first second : ℕ) → Structure

-- what is drawn for a state, where there are so many states and the generator's number was x
abbrev pub structure_of : TrialKind → ℕ → ℕ → Structure
structure_of Lts size x = moves (pairs 3 size (draw 4 1 x) (number 1 x))
structure_of Chain size x =
    chances (draw 2 1 x) (draw size 2 x) (draw size 3 x) (1 + draw 7 4 x)
structure_of Sums size x = sums (draw 2 1 x) (pairs size 7 (draw 4 2 x) (number 2 x))
structure_of Dfa size x = ends (draw 2 1 x) (draw size 2 x) (draw size 3 x)

-- how many draws these are
abbrev pub draws_of : TrialKind → ℕ → ℕ
draws_of Lts x = 1 + 2 * draw 4 1 x
draws_of Chain x = 4
draws_of Sums x = 2 + 2 * draw 4 2 x
draws_of Dfa x = 3

-- what is drawn for n states, one after the other
abbrev pub structures : TrialKind → ℕ → ℕ → ℕ → List Structure
structures kind size zero x = []
structures kind size (suc n) x =
    structure_of kind size x ∷ structures kind size n (number (draws_of kind x) x)
