-- What follows from how a run ends.
use Rattle.std.proofs.Common.{◌≡◌, ◌≢◌, ◌⊎◌, inl, inr, ℕ, List, [], refl, ap, sym, subst, ◌∙◌, arith, Some, IfSome, Bool, true, false, true≢false, is_some}
use Rattle.std.specs.Prelude.{unwrap_or, take}
use Rattle.outside.specs.Faults.{Rose}
use Rattle.command_line.specs.Requests.{Request, Task, Asks, AsksNothing}
use Rattle.trial_texts.specs.Text.{text_of_trial}
use Rattle.copar_run.specs.declared.status.Status.{Status}
use Rattle.copar_run.specs.declared.status.Status.TheVariants.{Done, No, Usage, ReadFault, WriteFault, NoMemory}
use Rattle.structure_parser.specs.Reads.{Fault}
use Rattle.copar_run.specs.Reading.{status_of}
use Rattle.copar_run.specs.Outputs.{Subject, Prints, MayEnd, MayEndSo}
use Rattle.copar_run.specs.Outcome.{Counts, Files, Outside, IsQuiet, NoReadFailed, NoWriteFailed, Stage, stages_of, Cause, MayStop, Stops, Reached, PassesAll, IsRead, IsSubject, IsSubjectOf, IsOfOne, IsOfTwo, IsOfBytes, Answers, Ends, Ran, is_stop, is_end}
use Rattle.copar_run.proofs.Stages.{ReadingLaws, told, may_stop, same_bytes, same_content, blocked, meet, past, read_name}

-- the status is that of a failed read
abbrev pub is_read : Status → Bool
is_read ReadFault = true
is_read _ = false

-- the status is that of a failed write
abbrev is_write : Status → Bool
is_write WriteFault = true
is_write _ = false

-- the status refuses the words
abbrev is_usage : Status → Bool
is_usage Usage = true
is_usage _ = false

-- statuses that a test tells apart differ
pub apart : (test : Status → Bool) (s t u : Status) → test t ≡ true → test u ≡ false → s ≡ t
    → s ≡ u → ⊥
apart test s t u good bad e f = true≢false (sym good ∙ ap test (sym e ∙ f) ∙ bad)

fault_stops : (fault : Fault) → is_stop (status_of fault) ≡ true
fault_stops (Fault.Grammar line) = refl
fault_stops (Fault.Misfit line kind) = refl
fault_stops (Fault.PastBound line) = refl
fault_stops (Fault.ShortSum line) = refl

fault_reads : (fault : Fault) → is_read (status_of fault) ≡ false
fault_reads (Fault.Grammar line) = refl
fault_reads (Fault.Misfit line kind) = refl
fault_reads (Fault.PastBound line) = refl
fault_reads (Fault.ShortSum line) = refl

-- what a stage may stop with is the status of a stage
may_is_stop : (stage : Stage) (s : Status) → MayStop stage s → is_stop s ≡ true
may_is_stop (Stage.GetFile name) s e = ap is_stop e
may_is_stop (Stage.ReadFile name) s e = ap is_stop e.1 ∙ fault_stops e.0
may_is_stop (Stage.FindStates file first words) s e = ap is_stop e.1
may_is_stop (Stage.JudgeText file second form) s e = ap is_stop e.1

-- and it is not that of a failed read
may_is_no_read : (stage : Stage) (s : Status) → MayStop stage s → is_read s ≡ false
may_is_no_read (Stage.GetFile name) s e = ap is_read e
may_is_no_read (Stage.ReadFile name) s e = ap is_read e.1 ∙ fault_reads e.0
may_is_no_read (Stage.FindStates file first words) s e = ap is_read e.1
may_is_no_read (Stage.JudgeText file second form) s e = ap is_read e.1

-- a stage stops with the status of a stage
stops_stop : (o : Outside) (stage : Stage) (s : Status) → Stops o stage s → is_stop s ≡ true
stops_stop o stage s (inl r) = ap is_stop r.0
stops_stop o stage s (inr a) = may_is_stop stage s a.0

-- a stage stops with no other status
pub no_stop : (o : Outside) (stage : Stage) (s t : Status) → Stops o stage s
    → is_stop t ≡ false → s ≡ t → ⊥
no_stop o stage s t x bad e = true≢false (sym (stops_stop o stage s x) ∙ ap is_stop e ∙ bad)

-- a task ends with Done or No
task_ended : (task : Task) (s : Status) → MayEndSo task s → is_end s ≡ true
task_ended (Task.Blocks stats) s e = ap is_end e
task_ended (Task.Minimise stats) s e = ap is_end e
task_ended (Task.Explain states stats) s e = ap is_end e
task_ended (Task.Certify stats) s e = ap is_end e
task_ended (Task.Check formulas states) s e = ap is_end e
task_ended (Task.Verify answer) s (inl e) = ap is_end e
task_ended (Task.Verify answer) s (inr e) = ap is_end e

-- and so does a request
pub ended : (request : Request) (s : Status) → MayEnd request s → is_end s ≡ true
ended (Request.OnFile file task) s e = task_ended task s e
ended (Request.Trial kind seed size) s e = ap is_end e

-- a status after the work is that of no stage
end_is_no_stop : (s : Status) → is_end s ≡ true → is_stop s ≡ true → ⊥
end_is_no_stop Done e h = true≢false (sym h)
end_is_no_stop No e h = true≢false (sym h)
end_is_no_stop _ e h = true≢false (sym e)

-- words ask for one request
same_request : (words : List (List ℕ)) (a b : Request) → Asks words a → Asks words b → b ≡ a
same_request words a b e h = ap (λ r. unwrap_or r a) (sym h ∙ e)

-- words that ask for nothing ask for no request
asks_none : (words : List (List ℕ)) (request : Request) → Asks words request
    → AsksNothing words → ⊥
asks_none words request e n = true≢false (sym (ap is_some e) ∙ ap is_some n)

module _ (words : List (List ℕ)) (o : Outside) (w : Counts) (rise : ℕ) (s : Status)
    (output : List ℕ) where
  -- a run ends as the request of its words does
  pub ends : (request : Request) → Asks words request → Ran words o w rise s output
      → Ends request o w rise s output
  ends request e (Ran.Refused n u x r q) = absurd (asks_none words request e n)
  ends request e (Ran.Unread m x r q) = Ends.WithoutMemory m x r q
  ends request e (Ran.Asked other a r) =
      subst (λ q. Ends q o w rise s output) (same_request words request other e a) r

  -- words that ask for nothing are refused
  pub usage : AsksNothing words → Ran words o w rise s output → (s ≡ Usage) ⊎ (s ≡ NoMemory)
  usage n (Ran.Refused a u x r q) = inl u
  usage n (Ran.Unread m x r q) = inr m
  usage n (Ran.Asked request a r) = absurd (asks_none words request a n)

  -- no request ends as words that are refused
  no_usage : (request : Request) → Ends request o w rise s output → s ≡ Usage → ⊥
  no_usage request (Ends.WithoutMemory m x r q) u =
      apart is_usage s Usage NoMemory refl refl u m
  no_usage request (Ends.Stopped stage r x e i q) u = no_stop o stage s Usage x refl u
  no_usage request (Ends.Worked ending whole p a (inl x) i) u =
      true≢false (sym (ended request ending a.0) ∙ ap is_end (sym x.0 ∙ u))
  no_usage request (Ends.Worked ending whole p a (inr x) i) u =
      apart is_usage s Usage WriteFault refl refl u x.0

  -- and no others
  pub usage_only : Ran words o w rise s output → s ≡ Usage → AsksNothing words
  usage_only (Ran.Refused a v x r q) u = a
  usage_only (Ran.Unread m x r q) u =
      absurd (apart is_usage s Usage NoMemory refl refl u m)
  usage_only (Ran.Asked request a r) u = absurd (no_usage request r u)

  -- a failed read is counted
  pub read_fault : (request : Request) → Ends request o w rise s output → s ≡ ReadFault
      → (name : List ℕ) × IsRead o request name × Rose (o.before name) (o.now name)
  read_fault request (Ends.WithoutMemory m x r q) u =
      absurd (apart is_read s ReadFault NoMemory refl refl u m)
  read_fault request (Ends.Stopped stage r (inl f) x i q) u =
      read_name o (stages_of request) stage r f.1
  read_fault request (Ends.Stopped stage r (inr a) x i q) u =
      absurd (true≢false (sym (ap is_read u) ∙ may_is_no_read stage s a.0))
  read_fault request (Ends.Worked ending whole p a (inl x) i) u =
      absurd (true≢false (sym (ended request ending a.0) ∙ ap is_end (sym x.0 ∙ u)))
  read_fault request (Ends.Worked ending whole p a (inr x) i) u =
      absurd (apart is_read s ReadFault WriteFault refl refl u x.0)

  -- a failed write is counted, and a part of the output was written
  pub write_fault : (request : Request) → Ends request o w rise s output → s ≡ WriteFault
      → Rose w.before w.now
      × ((ending : Status) × (whole : List ℕ) × (n : ℕ)
      × Answers o request rise ending whole × (output ≡ take n whole))
  write_fault request (Ends.WithoutMemory m x r q) u =
      absurd (apart is_write s WriteFault NoMemory refl refl u m)
  write_fault request (Ends.Stopped stage r x e i q) u =
      absurd (no_stop o stage s WriteFault x refl u)
  write_fault request (Ends.Worked ending whole p a (inl x) i) u =
      absurd (true≢false (sym (ended request ending a.0) ∙ ap is_end (sym x.0 ∙ u)))
  write_fault request (Ends.Worked ending whole p a (inr x) i) u =
      (x.1, (ending, whole, x.2.0, a, x.2.1))

  -- after the work all of the output was written
  pub whole_output : (request : Request) → Ends request o w rise s output → is_end s ≡ true
      → Answers o request rise s output
  whole_output request (Ends.WithoutMemory m x r q) d =
      absurd (true≢false (sym d ∙ ap is_end m))
  whole_output request (Ends.Stopped stage r x e i q) d =
      absurd (end_is_no_stop s d (stops_stop o stage s x))
  whole_output request (Ends.Worked ending whole p a (inl x) i) d =
      subst (λ z. Answers o request rise z output) (sym x.0)
      (subst (λ z. Answers o request rise ending z) (sym x.1) a)
  whole_output request (Ends.Worked ending whole p a (inr x) i) d =
      absurd (true≢false (sym d ∙ ap is_end x.0))

  -- under each other status nothing was written
  pub nothing : Ran words o w rise s output → is_end s ≡ false → s ≢ WriteFault → output ≡ []
  nothing (Ran.Refused a u x r q) e f = x
  nothing (Ran.Unread m x r q) e f = x
  nothing (Ran.Asked request a (Ends.WithoutMemory m x r q)) e f = x
  nothing (Ran.Asked request a (Ends.Stopped stage r y x i q)) e f = x
  nothing (Ran.Asked request a (Ends.Worked ending whole p b (inl x) i)) e f =
      absurd (true≢false (sym (ended request ending b.0) ∙ ap is_end (sym x.0) ∙ e))
  nothing (Ran.Asked request a (Ends.Worked ending whole p b (inr x) i)) e f = absurd (f x.0)

  -- a read failed under its status alone
  pub reads_are_told : Ran words o w rise s output → s ≢ ReadFault → NoReadFailed o
  reads_are_told (Ran.Refused a u x r q) f = r
  reads_are_told (Ran.Unread m x r q) f = r
  reads_are_told (Ran.Asked request a (Ends.WithoutMemory m x r q)) f = r
  reads_are_told (Ran.Asked request a (Ends.Stopped stage r y x (inl i) q)) f = absurd (f i)
  reads_are_told (Ran.Asked request a (Ends.Stopped stage r y x (inr i) q)) f = i
  reads_are_told (Ran.Asked request a (Ends.Worked ending whole p b x i)) f = i

  -- and so did a write
  pub writes_are_told : Ran words o w rise s output → s ≢ WriteFault → NoWriteFailed w
  writes_are_told (Ran.Refused a u x r q) f = q
  writes_are_told (Ran.Unread m x r q) f = q
  writes_are_told (Ran.Asked request a (Ends.WithoutMemory m x r q)) f = q
  writes_are_told (Ran.Asked request a (Ends.Stopped stage r y x i q)) f = q
  writes_are_told (Ran.Asked request a (Ends.Worked ending whole p b (inl x) i)) f = x.2
  writes_are_told (Ran.Asked request a (Ends.Worked ending whole p b (inr x) i)) f = absurd (f x.0)

-- a quiet count did not rise
not_risen : (before now : ℕ) → IsQuiet before now → Rose before now → ⊥
not_risen before now q r = omega (arith, q.same, q.below, r)

module _ (laws : ReadingLaws) (files : Files) (o : Outside) (known : o.files ≡ Some files)
    (w : Counts) (rise : ℕ) (s : Status) (output : List ℕ) (request : Request) where
  -- a cause in the files is told, unless a read failed or memory was wanting
  pub fault_is_told : (fault : Status) (stage : Stage) → Ends request o w rise s output
      → Reached o (stages_of request) stage → Cause files stage fault
      → (s ≡ fault) ⊎ ((s ≡ ReadFault) ⊎ (s ≡ NoMemory))
  fault_is_told fault stage (Ends.WithoutMemory m x r q) reached e = inr (inr m)
  fault_is_told fault stage (Ends.Stopped other r x y i q) reached e =
      let may : MayStop stage fault = may_stop files stage fault e in
      let stops : Stops o stage fault =
      inr (may, subst (λ z. IfSome z (λ f. Cause f stage fault)) (sym known) e) in
      elim (meet laws files o known (stages_of request) stage other fault s reached stops r x) [
        | inl same ↦ inl same
        | inr h ↦ elim h [
          | inl read ↦ absurd (true≢false (sym (ap is_read read) ∙ may_is_no_read stage fault may))
          | inr read ↦ inr (inl read)
        ]
      ]
  fault_is_told fault stage (Ends.Worked ending whole p a x i) reached e =
      let may : MayStop stage fault = may_stop files stage fault e in
      let stops : Stops o stage fault =
      inr (may, subst (λ z. IfSome z (λ f. Cause f stage fault)) (sym known) e) in
      let read = blocked laws files o known stage fault
      (past o (stages_of request) stage p reached) stops in
      absurd (true≢false (sym (ap is_read read.0) ∙ may_is_no_read stage fault may))

  -- a status of a stage has its cause in the files, unless a read failed
  pub judged : Ends request o w rise s output → is_stop s ≡ true
      → (s ≡ ReadFault)
      ⊎ ((stage : Stage) × Reached o (stages_of request) stage × Cause files stage s)
  judged (Ends.WithoutMemory m x r q) e = absurd (true≢false (sym e ∙ ap is_stop m))
  judged (Ends.Stopped stage r (inl f) x i q) e = inl f.0
  judged (Ends.Stopped stage r (inr a) x i q) e =
      inr (stage, r, told o.files files (λ f. Cause f stage s) known a.1)
  judged (Ends.Worked ending whole p a (inl x) i) e =
      absurd (end_is_no_stop s (ap is_end x.0 ∙ ended request ending a.0) e)
  judged (Ends.Worked ending whole p a (inr x) i) e =
      absurd (true≢false (sym e ∙ ap is_stop x.0))

  one_of : (file : List ℕ) (a b : Subject) → IsOfOne files file a → IsOfOne files file b → b ≡ a
  one_of file a b x y =
      y.1 ∙ ap Subject.One (same_content laws files file x.0 y.0 x.2 y.2) ∙ sym x.1

  one_of_two : (file second : List ℕ) (a b : Subject) → IsOfTwo files file second a
      → IsOfTwo files file second b → b ≡ a
  one_of_two file second a b x y =
      y.2
      ∙ ap (λ c. Subject.WithText c y.1) (same_content laws files file x.0 y.0 x.3 y.3)
      ∙ ap (λ bytes. Subject.WithText x.0 bytes) (same_bytes files second x.1 y.1 x.4 y.4)
      ∙ sym x.2

  -- a task on a file is about one subject
  same_of_task : (file : List ℕ) (t : Task) (a b : Subject) → IsSubjectOf files file t a
      → IsSubjectOf files file t b → b ≡ a
  same_of_task file (Task.Blocks stats) a b x y = one_of file a b x y
  same_of_task file (Task.Minimise stats) a b x y = one_of file a b x y
  same_of_task file (Task.Explain states stats) a b x y = one_of file a b x y
  same_of_task file (Task.Certify stats) a b x y = one_of file a b x y
  same_of_task file (Task.Check formulas states) a b x y = one_of_two file formulas a b x y
  same_of_task file (Task.Verify answer) a b x y = one_of_two file answer a b x y

  -- and so are bytes
  one_of_bytes : (bytes : List ℕ) (a b : Subject) → IsOfBytes bytes a → IsOfBytes bytes b → b ≡ a
  one_of_bytes bytes a b x y =
      y.1 ∙ ap Subject.One (laws.one bytes x.0 y.0 x.2 y.2) ∙ sym x.1

  -- and a request
  same_subject : (r : Request) (a b : Subject) → IsSubject files r a → IsSubject files r b → b ≡ a
  same_subject (Request.OnFile file task) a b x y = same_of_task file task a b x y
  same_subject (Request.Trial kind seed size) a b x y =
      one_of_bytes (text_of_trial kind seed size) a b x y

  -- where nothing stops the request and no count rose, memory was wanting or the output is that of
  -- its subject
  pub headline : (subject : Subject) → Ends request o w rise s output
      → PassesAll o (stages_of request) → IsSubject files request subject
      → ((name : List ℕ) → IsRead o request name → IsQuiet (o.before name) (o.now name))
      → IsQuiet w.before w.now
      → (s ≡ NoMemory) ⊎ (MayEnd request s × Prints request subject rise s output)
  headline subject (Ends.WithoutMemory m x r q) p i quiet still = inl m
  headline subject (Ends.Stopped stage r x y e q) p i quiet still =
      let read = read_name o (stages_of request) stage r
      (blocked laws files o known stage s (past o (stages_of request) stage p r) x).1 in
      absurd (not_risen (o.before read.0) (o.now read.0) (quiet read.0 read.1) read.2)
  headline subject (Ends.Worked ending whole q a (inr x) e) p i quiet still =
      absurd (not_risen w.before w.now still x.1)
  headline subject (Ends.Worked ending whole q a (inl x) e) p i quiet still =
      let answer = told o.files files
      (λ f. (about : Subject) × IsSubject f request about
      × Prints request about rise ending whole)
      known a.1 in
      let same : subject ≡ answer.0 = same_subject request answer.0 subject answer.1 i in
      inr (
        subst (λ z. MayEnd request z) (sym x.0) a.0,
        subst (λ z. Prints request z rise s output) (sym same)
            (subst (λ z. Prints request answer.0 rise z output) (sym x.0)
            (subst (λ z. Prints request answer.0 rise ending z) (sym x.1) answer.2)),
      )
