-- How a run ends.
--
-- code_of status            == the number that the program ends with
-- Outside                   == what a run met outside: the files, and their counts of faults
-- Stage, stages_of request  == what may stop a request before its work, in the order of refusals
-- later_stages file task    == those behind the reading of the first file
-- Stops o stage s           == the stage has a cause for this status
-- Passes o stage            == the stage has none
-- Reached o stages stage    == each stage before it passes
-- names_read request        == the names that it reads where nothing stops it, in that order
-- IsRead o request name     == it reads this name: nothing earlier stopped it
-- Answers o request rise ending whole
--                           == the whole output of the request, and the status that comes with it
-- Ends request o counts rise s output
--                           == the request may end so: why, what was written, how many steps
-- Ran words o counts rise s output
--                           == the same of the words
use Rattle.std.specs.Prelude.{◌≡◌, ℕ, ◌+◌, ◌<◌, ◌≤◌, List, [], ◌∷◌, length, take, ⊤, Bool, true, false, Option, Some, IfSome, ◌⊎◌}
use Rattle.std.specs.Ordering.{nat_cmp}
use Rattle.std.specs.Cmp.Lexicographic.{slice_cmp}
use Rattle.std.specs.FinMap as map
use Rattle.outside.specs.Faults.{last_count, Rose}
use Rattle.trial_texts.specs.Text.{text_of_trial}
use Rattle.command_line.specs.Requests.{Request, Task, Asks, AsksNothing}
use Rattle.typing.specs.Contents.{Content, words_of}
use Rattle.copar_run.specs.declared.status.Status.{Status}
use Rattle.copar_run.specs.declared.status.Status.TheVariants as status
use Rattle.copar_run.specs.declared.status.Status.TheVariants.{Done, No, Usage, Grammar, TypeFault, WeightBound, SumFault, UnknownState, AnswerText, ReadFault, WriteFault, NoMemory, TooLong}
use Rattle.structure_parser.specs.Reads.{Reads, Fault, IsFault, most_bytes}
use Rattle.answer_checker.specs.BadLines.{IsBadFormulaLine, IsBadAnswerLine}
use Rattle.copar_run.specs.Reading.{status_of}
use Rattle.copar_run.specs.Named.{IsStranger, AreNamed}
use Rattle.copar_run.specs.Outputs.{Subject, Prints, MayEnd}

-- the number that the program ends with
abbrev pub code_of : Status → ℕ
code_of Done = 0
code_of No = 1
code_of Usage = 2
code_of (Grammar line) = 3
code_of (TypeFault line kind) = 4
code_of (WeightBound line) = 5
code_of (SumFault line) = 6
code_of (UnknownState place) = 7
code_of (AnswerText line) = 8
code_of ReadFault = 9
code_of WriteFault = 10
code_of NoMemory = 11
code_of TooLong = 12

-- a status with which a stage may stop a request
abbrev pub is_stop : Status → Bool
is_stop Done = false
is_stop No = false
is_stop Usage = false
is_stop WriteFault = false
is_stop NoMemory = false
is_stop _ = true

-- the status comes once the output is written
abbrev pub is_end : Status → Bool
is_end Done = true
is_end No = true
is_end _ = false

-- the files of a folder, by name
abbrev pub Files : Type 0
Files = map.FinMap (slice_cmp nat_cmp) (List ℕ)

-- what a run met outside: the files, where the folder tells them, and for each name its count of
-- faults before and after
pub record Outside : Type 0 where
  pub files : Option Files
  pub before : List ℕ → ℕ
  pub now : List ℕ → ℕ

-- what a run met outside, by its folder before and after
abbrev pub met : Option Files → (List ℕ → ℕ) → (List ℕ → ℕ) → Outside
met files before now = record { files = files; before = before; now = now }

-- the counts of faults of a sink, before and after
pub record Counts : Type 0 where
  pub before : ℕ
  pub now : ℕ

-- the counts of a sink, before and after
abbrev pub counts : ℕ → ℕ → Counts
counts before now = record { before = before; now = now }

-- the count did not rise, and is below its last value
pub record IsQuiet (before now : ℕ) : Type 0 where
  pub same : now ≡ before
  pub below : now < last_count

-- no read failed: no count of the folder changed
abbrev pub NoReadFailed : Outside → Type 0
NoReadFailed o = (name : List ℕ) → o.now name ≡ o.before name

-- no write failed: the count did not change
abbrev pub NoWriteFailed : Counts → Type 0
NoWriteFailed w = w.now ≡ w.before

-- what a second file is to be
pub data Form : Type 0 where
  -- lines of answers, of which the formulas count
  Formulas : Form
  -- formulas and blocks, which are judged
  Answer : Form

-- what may stop a request before its work
pub data Stage : Type 0 where
  -- the file is read; it is within the bound
  GetFile : (name : List ℕ) → Stage
  -- it denotes a coalgebra
  ReadFile : (name : List ℕ) → Stage
  -- the words, counted from a first number, name states of the coalgebra of the file
  FindStates : (file : List ℕ) → (first : ℕ) → (words : List (List ℕ)) → Stage
  -- the second file is of its form, and fits the coalgebra of the first
  JudgeText : (file : List ℕ) → (second : List ℕ) → (form : Form) → Stage

-- reading FILE, and what may stop the request after it
abbrev pub of_file : List ℕ → List Stage → List Stage
of_file file others = Stage.GetFile file ∷ Stage.ReadFile file ∷ others

-- reading a second file, and judging its form
abbrev pub of_second : List ℕ → List ℕ → Form → List Stage
of_second file second form = Stage.GetFile second ∷ Stage.JudgeText file second form ∷ []

-- what may stop a task once its first file is read, in the order of refusals
abbrev pub later_stages : List ℕ → Task → List Stage
later_stages file (Task.Blocks stats) = []
later_stages file (Task.Minimise stats) = []
later_stages file (Task.Explain states stats) = Stage.FindStates file 0 states ∷ []
later_stages file (Task.Certify stats) = []
later_stages file (Task.Check formulas states) =
    Stage.FindStates file 1 states ∷ of_second file formulas Formulas
later_stages file (Task.Verify answer) = of_second file answer Answer

-- what may stop a request, in the order of refusals; nothing stops a trial
abbrev pub stages_of : Request → List Stage
stages_of (Request.OnFile file task) = of_file file (later_stages file task)
stages_of (Request.Trial kind seed size) = []

-- the names of the files that stages read, in order
abbrev pub names_in : List Stage → List (List ℕ)
names_in [] = []
names_in (Stage.GetFile name ∷ stages) = name ∷ names_in stages
names_in (Stage.ReadFile name ∷ stages) = names_in stages
names_in (Stage.FindStates file first words ∷ stages) = names_in stages
names_in (Stage.JudgeText file second form ∷ stages) = names_in stages

-- the names of the files that a request reads where nothing stops it, in the order of refusals
abbrev pub names_read : Request → List (List ℕ)
names_read request = names_in (stages_of request)

-- the file of this name has these bytes
abbrev pub Holds : Files → List ℕ → List ℕ → Type 0
Holds files name bytes = map.get files name ≡ Some bytes

-- the file of this name denotes the coalgebra
abbrev pub Denotes : Files → List ℕ → Content → Type 0
Denotes files name c = (bytes : List ℕ) × Holds files name bytes × Reads bytes c

-- the line is the first that keeps the bytes from being a second file of this form
abbrev pub IsBadLine : Form → Content → List ℕ → ℕ → Type 0
IsBadLine Formulas c bytes line = IsBadFormulaLine c.term bytes line
IsBadLine Answer c bytes line = IsBadAnswerLine c bytes line

-- The cause of a status in the files: the file is too long; its bytes have this first fault; the
-- word at this place is the first that names no state; this line is the first that is not of the
-- form.
abbrev pub Cause : Files → Stage → Status → Type 0
Cause files (Stage.GetFile name) s =
    (s ≡ TooLong) × ((bytes : List ℕ) × Holds files name bytes × (most_bytes < length bytes))
Cause files (Stage.ReadFile name) s =
    (bytes : List ℕ) × Holds files name bytes
    × ((fault : Fault) × (s ≡ status_of fault) × IsFault bytes fault)
Cause files (Stage.FindStates file first words) s =
    (c : Content) × Denotes files file c
    × ((k : ℕ) × (s ≡ status.UnknownState (first + k)) × IsStranger (words_of c) words k)
Cause files (Stage.JudgeText file second form) s =
    (c : Content) × Denotes files file c × ((bytes : List ℕ) × Holds files second bytes
    × ((line : ℕ) × (s ≡ AnswerText line) × IsBadLine form c bytes line))

-- the stage has no cause in the files
abbrev pub Clear : Files → Stage → Type 0
Clear files (Stage.GetFile name) =
    (bytes : List ℕ) × Holds files name bytes × (length bytes ≤ most_bytes)
Clear files (Stage.ReadFile name) = (c : Content) × Denotes files name c
Clear files (Stage.FindStates file first words) =
    (c : Content) × Denotes files file c × AreNamed (words_of c) words
Clear files (Stage.JudgeText file second form) =
    (c : Content) × Denotes files file c × ((bytes : List ℕ) × Holds files second bytes
    × ((line : ℕ) → IsBadLine form c bytes line → ⊥))

-- a read of this stage failed, and the count of its name rose
abbrev pub FailedRead : Outside → Stage → Type 0
FailedRead o (Stage.GetFile name) = Rose (o.before name) (o.now name)
FailedRead o (Stage.ReadFile name) = ⊥
FailedRead o (Stage.FindStates file first words) = ⊥
FailedRead o (Stage.JudgeText file second form) = ⊥

-- the stage may stop with the status; where the folder is silent, this is all that is known
abbrev pub MayStop : Stage → Status → Type 0
MayStop (Stage.GetFile name) s = s ≡ TooLong
MayStop (Stage.ReadFile name) s = (fault : Fault) × (s ≡ status_of fault)
MayStop (Stage.FindStates file first words) s = (place : ℕ) × (s ≡ status.UnknownState place)
MayStop (Stage.JudgeText file second form) s = (line : ℕ) × (s ≡ AnswerText line)

-- the stage has a cause for the status: a failed read, or one in the files
abbrev pub Stops : Outside → Stage → Status → Type 0
Stops o stage s =
    ((s ≡ ReadFault) × FailedRead o stage)
    ⊎ (MayStop stage s × IfSome o.files (λ files. Cause files stage s))

-- the stage has none
abbrev pub Passes : Outside → Stage → Type 0
Passes o stage = IfSome o.files (λ files. Clear files stage)

-- the stage is among these, and each before it passes
abbrev pub Reached : Outside → List Stage → Stage → Type 0
Reached o [] stage = ⊥
Reached o (first ∷ stages) stage = (stage ≡ first) ⊎ (Passes o first × Reached o stages stage)

-- each stage passes
abbrev pub PassesAll : Outside → List Stage → Type 0
PassesAll o [] = ⊤
PassesAll o (first ∷ stages) = Passes o first × PassesAll o stages

-- the request reads the file of this name
abbrev pub IsRead : Outside → Request → List ℕ → Type 0
IsRead o request name = Reached o (stages_of request) (Stage.GetFile name)

-- it is about the coalgebra of this file
abbrev pub IsOfOne : Files → List ℕ → Subject → Type 0
IsOfOne files file subject = (c : Content) × (subject ≡ Subject.One c) × Denotes files file c

-- it is about the coalgebra of this file and the bytes of another
abbrev pub IsOfTwo : Files → List ℕ → List ℕ → Subject → Type 0
IsOfTwo files file second subject =
    (c : Content) × (bytes : List ℕ) × (subject ≡ Subject.WithText c bytes)
    × Denotes files file c × Holds files second bytes

-- what the task on this file is about, in these files
abbrev pub IsSubjectOf : Files → List ℕ → Task → Subject → Type 0
IsSubjectOf files file (Task.Blocks stats) subject = IsOfOne files file subject
IsSubjectOf files file (Task.Minimise stats) subject = IsOfOne files file subject
IsSubjectOf files file (Task.Explain states stats) subject = IsOfOne files file subject
IsSubjectOf files file (Task.Certify stats) subject = IsOfOne files file subject
IsSubjectOf files file (Task.Check formulas states) subject = IsOfTwo files file formulas subject
IsSubjectOf files file (Task.Verify answer) subject = IsOfTwo files file answer subject

-- it is about the coalgebra that these bytes denote
abbrev pub IsOfBytes : List ℕ → Subject → Type 0
IsOfBytes bytes subject = (c : Content) × (subject ≡ Subject.One c) × Reads bytes c

-- what the request is about, in these files; a trial is about the text that it draws
abbrev pub IsSubject : Files → Request → Subject → Type 0
IsSubject files (Request.OnFile file task) subject = IsSubjectOf files file task subject
IsSubject files (Request.Trial kind seed size) subject =
    IsOfBytes (text_of_trial kind seed size) subject

-- the whole output of the request, with the status that comes once it is written
abbrev pub Answers : Outside → Request → ℕ → Status → List ℕ → Type 0
Answers o request rise ending whole =
    MayEnd request ending × IfSome o.files (λ files.
    (subject : Subject) × IsSubject files request subject
    × Prints request subject rise ending whole)

-- what of the whole output was written: all, or after a failed write a part from its front
abbrev pub IsWritten : Counts → Status → List ℕ → Status → List ℕ → Type 0
IsWritten w ending whole s output =
    ((s ≡ ending) × (output ≡ whole) × NoWriteFailed w)
    ⊎ ((s ≡ WriteFault) × Rose w.before w.now × ((n : ℕ) × (output ≡ take n whole)))

-- How a request may end: without memory, before the first write; at the first stage that stops it;
-- or after its work, which took so many steps.
pub data Ends
    (request : Request) (o : Outside) (w : Counts) (rise : ℕ) (s : Status)
    (output : List ℕ) : Type 0 where
  WithoutMemory :
      s ≡ NoMemory → output ≡ [] → NoReadFailed o → NoWriteFailed w
      → Ends request o w rise s output
  Stopped :
      (stage : Stage) → Reached o (stages_of request) stage → Stops o stage s → output ≡ []
      → (s ≡ ReadFault) ⊎ NoReadFailed o → NoWriteFailed w → Ends request o w rise s output
  Worked :
      (ending : Status) → (whole : List ℕ) → PassesAll o (stages_of request)
      → Answers o request rise ending whole → IsWritten w ending whole s output
      → NoReadFailed o → Ends request o w rise s output

-- How a run on these words may end: refused, where they ask for nothing; without memory to read
-- them; or as the request that they make.
pub data Ran
    (words : List (List ℕ)) (o : Outside) (w : Counts) (rise : ℕ) (s : Status)
    (output : List ℕ) : Type 0 where
  Refused :
      AsksNothing words → s ≡ Usage → output ≡ [] → NoReadFailed o → NoWriteFailed w
      → Ran words o w rise s output
  Unread :
      s ≡ NoMemory → output ≡ [] → NoReadFailed o → NoWriteFailed w
      → Ran words o w rise s output
  Asked :
      (request : Request) → Asks words request → Ends request o w rise s output
      → Ran words o w rise s output
