-- How a request stands before its output is written.
--
-- IsHalted stages o s line       == it was stopped, and this line says why
-- IsMade request stages o ..     == its output was made, and no stage stopped it
-- IsStrange names words first .. == the status and the word tell of the first that names none
use Rattle.std.specs.Prelude.{◌≡◌, ◌⊎◌, ◌+◌, ℕ, List}
use Rattle.command_line.specs.Requests.{Request}
use Rattle.copar_run.specs.declared.status.Status.{Status}
use Rattle.copar_run.specs.declared.status.Status.TheVariants.{UnknownState, ReadFault, NoMemory}
use Rattle.copar_run.specs.Outcome.{Outside, Stage, NoReadFailed, Reached, Stops, PassesAll, Answers}
use Rattle.copar_run.specs.Named.{IsStranger}
use Rattle.copar_run.specs.Lines.{line_of, line_at}

-- memory was wanting, or one of the stages stopped the request; the line tells it
pub data IsHalted
    (stages : List Stage) (o : Outside) (s : Status) (line : List ℕ) : Type 0 where
  ForMemory : s ≡ NoMemory → line ≡ line_of s → NoReadFailed o → IsHalted stages o s line
  AtStage :
      (stage : Stage) → Reached o stages stage → Stops o stage s → line ≡ line_at stage s
      → (s ≡ ReadFault) ⊎ NoReadFailed o → IsHalted stages o s line

-- no stage stopped the request, and its output was made
pub record IsMade
    (request : Request) (stages : List Stage) (o : Outside) (rise : ℕ) (ending : Status)
    (whole : List ℕ) : Type 0 where
  pub passes : PassesAll o stages
  pub answers : Answers o request rise ending whole
  pub read : NoReadFailed o

-- the status tells the place of the first word that is none of the names, and this is the word
pub record IsStrange
    (names words : List (List ℕ)) (first : ℕ) (s : Status) (word : List ℕ) : Type 0 where
  pub place : ℕ
  pub told : s ≡ UnknownState (first + place)
  pub stranger : IsStranger names words place
  pub same : stranger.word ≡ word
