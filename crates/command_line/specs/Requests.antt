-- What words ask for.
--
-- Task                == what is asked of a file, with one case for each command
-- Request             == what is asked for: a task on a file, or a trial
-- request_of line     == the request of a line, by the table of commands
-- asked words         == the request that the words make, if they make one
-- Asks words request  == the words make this request
-- AsksNothing words   == they are of no row of the table
-- IsDrawable request  == a trial has a seed and a number of states that can be drawn
use Rattle.std.specs.Prelude.{◌≡◌, ℕ, ◌^◌, ◌<◌, ⊤, List, [], ◌∷◌, Option, Some, None, Bool, true, false, codes, bytes_eq, length, nat_lt, nat_le, nat_eq, ◌&&◌, ◌%◌, if◌then◌else◌}
use Rattle.std.specs.List.{list_all, list_any}
use Rattle.std.specs.Option.{option_and_then}
use Rattle.std.specs.Char.{is_ascii_digit}
use Rattle.std.specs.Str.Parse.{digits_value}
use Rattle.trial_texts.specs.declared.kind.TrialKind.{TrialKind}
use Rattle.trial_texts.specs.declared.kind.TrialKind.TheVariants as kinds
use Rattle.trial_texts.specs.Text.{IsSized}
use Rattle.command_line.specs.Lines.{Line, line_of}

-- What is asked of a file, with the names of a further file and of the states, and whether the line
-- of statistics is wanted.
pub data Task : Type 0 where
  -- the block of each state
  Blocks : (stats : Bool) → Task
  -- the quotient by the blocks
  Minimise : (stats : Bool) → Task
  -- for each two of the states, one after the other, whether they are equivalent, and if not, why
  Explain : (states : List (List ℕ)) → (stats : Bool) → Task
  -- the blocks, each with a formula that holds at exactly its states
  Certify : (stats : Bool) → Task
  -- the truth of each formula of a file at each of the states
  Check : (formulas : List ℕ) → (states : List (List ℕ)) → Task
  -- whether the answer in a file is right
  Verify : (answer : List ℕ) → Task

-- What is asked for.
pub data Request : Type 0 where
  -- a task on the file of this name
  OnFile : (file : List ℕ) → (task : Task) → Request
  -- the counts of a drawn system, from the seed on, with so many states
  Trial : (kind : TrialKind) → (seed size : ℕ) → Request

-- the seed and the number of states of a trial are within their bounds
abbrev pub IsDrawable : Request → Type 0
IsDrawable (Request.OnFile file task) = ⊤
IsDrawable (Request.Trial kind seed size) = (seed < 2 ^ 64) × IsSized size

-- a task that takes no word behind its file
abbrev pub if_none : List (List ℕ) → List ℕ → Task → Option Request
if_none [] file task = Some (Request.OnFile file task)
if_none (word ∷ rest) file task = None

-- the words are pairs, one or more
abbrev pub are_pairs : List (List ℕ) → Bool
are_pairs words = nat_lt 0 (length words) && nat_eq (length words % 2) 0

-- an explanation, whose words behind the file are pairs
abbrev pub explain_of : List ℕ → List (List ℕ) → Bool → Option Request
explain_of file rest stats =
    if are_pairs rest then Some (Request.OnFile file (Task.Explain rest stats)) else None

-- a command that takes no `--stats`
abbrev pub if_bare : Bool → Option Request → Option Request
if_bare stats request = if stats then None else request

-- formulas at states: a further file, and one state or more
abbrev pub check_of : List ℕ → List (List ℕ) → Option Request
check_of file (formulas ∷ state ∷ states) =
    Some (Request.OnFile file (Task.Check formulas (state ∷ states)))
check_of file _ = None

-- an answer to be judged: one further file
abbrev pub verify_of : List ℕ → List (List ℕ) → Option Request
verify_of file (answer ∷ []) = Some (Request.OnFile file (Task.Verify answer))
verify_of file _ = None

-- the kind of trial that a word names
abbrev pub kind_of : List ℕ → Option TrialKind
kind_of word =
    if bytes_eq word (codes "lts") then Some kinds.Lts
    else if bytes_eq word (codes "chain") then Some kinds.Chain
    else if bytes_eq word (codes "sums") then Some kinds.Sums
    else if bytes_eq word (codes "dfa") then Some kinds.Dfa
    else None

-- one digit or more, and nothing else
abbrev pub is_digits : List ℕ → Bool
is_digits word = nat_lt 0 (length word) && list_all is_ascii_digit word

-- the number that digits write, where it is below 2^64
abbrev pub number_in : List ℕ → Option ℕ
number_in word =
    if is_digits word && nat_lt (digits_value 10 word) (2 ^ 64)
    then Some (digits_value 10 word)
    else None

-- a number of states that can be drawn
abbrev pub is_size : ℕ → Bool
is_size size = nat_lt 0 size && nat_le size 200000

-- the number of states that a word asks for
abbrev pub size_in : List ℕ → Option ℕ
size_in word = option_and_then (λ n. if is_size n then Some n else None) (number_in word)

-- a trial of a kind, with the words of its seed and of its size
abbrev pub trial_with : TrialKind → List ℕ → List ℕ → Option Request
trial_with kind seed size =
    option_and_then
    (λ x. option_and_then (λ n. Some (Request.Trial kind x n)) (size_in size))
    (number_in seed)

-- a trial: a kind, a seed and a size
abbrev pub trial_of : List ℕ → List (List ℕ) → Option Request
trial_of word (seed ∷ size ∷ []) =
    option_and_then (λ kind. trial_with kind seed size) (kind_of word)
trial_of word _ = None

-- the table of commands
abbrev pub row_of : Line → Option Request
row_of line =
    if bytes_eq line.action (codes "blocks")
    then if_none line.rest line.file (Task.Blocks line.stats)
    else if bytes_eq line.action (codes "minimise")
    then if_none line.rest line.file (Task.Minimise line.stats)
    else if bytes_eq line.action (codes "explain")
    then explain_of line.file line.rest line.stats
    else if bytes_eq line.action (codes "certify")
    then if_none line.rest line.file (Task.Certify line.stats)
    else if bytes_eq line.action (codes "check")
    then if_bare line.stats (check_of line.file line.rest)
    else if bytes_eq line.action (codes "verify")
    then if_bare line.stats (verify_of line.file line.rest)
    else if bytes_eq line.action (codes "trial")
    then if_bare line.stats (trial_of line.file line.rest)
    else None

-- the word has no byte
abbrev pub is_empty : List ℕ → Bool
is_empty [] = true
is_empty (b ∷ word) = false

-- the request of a line; an empty word is of no row
abbrev pub request_of : Line → Option Request
request_of line =
    if list_any is_empty (line.action ∷ line.file ∷ line.rest) then None else row_of line

-- the request of words that may be one simple command
abbrev pub request_in : Option Line → Option Request
request_in None = None
request_in (Some line) = request_of line

-- the request that the words make, if they make one
abbrev pub asked : List (List ℕ) → Option Request
asked words = request_in (line_of words)

-- the words make this request
abbrev pub Asks : List (List ℕ) → Request → Type 0
Asks words request = asked words ≡ Some request

-- they are of no row of the table
abbrev pub AsksNothing : List (List ℕ) → Type 0
AsksNothing words = asked words ≡ None
