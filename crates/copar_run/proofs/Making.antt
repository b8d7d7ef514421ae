-- How the stages of a run make its end, one before the other.
use Rattle.std.proofs.Common.{◌≡◌, ◌≢◌, ◌⊎◌, inl, inr, ℕ, ◌≤◌, ◌+◌, ◌-◌, arith, List, [], ◌∷◌, length, take, refl, ap, sym, ◌∙◌, subst, unwrap_or, slice_get, Option, Some, None, IfSome}
use Rattle.std.specs.FinMap as map
use Rattle.outside.specs.Faults.{Rose}
use Rattle.outside.specs.Whole.{IsLongerThan}
use Rattle.command_line.specs.Requests.{Request, Task, asked, Asks}
use Rattle.typing.specs.Contents.{Content, words_of}
use Rattle.copar_run.specs.declared.status.Status.{Status}
use Rattle.copar_run.specs.declared.status.Status.TheVariants as status
use Rattle.copar_run.specs.declared.status.Status.TheVariants.{Done, Grammar, TypeFault, WeightBound, SumFault, ReadFault, WriteFault, NoMemory, TooLong}
use Rattle.structure_parser.specs.Reads.{Reads, Fault, IsFault, most_bytes}
use Rattle.copar_run.specs.Reading.{Tells, status_of}
use Rattle.copar_run.specs.Outputs.{Subject, MayEnd, Prints}
use Rattle.copar_run.specs.Outcome.{Counts, Files, Outside, NoReadFailed, NoWriteFailed, Stage, Form, later_stages, stages_of, Holds, Denotes, IsBadLine, Cause, Clear, FailedRead, Stops, Passes, Reached, PassesAll, IsOfOne, IsOfTwo, IsSubject, Ends, Ran, met}
use Rattle.copar_run.specs.Named.{AreNamed}
use Rattle.copar_run.specs.Lines.{line_of, line_at, told_line, stranger_line, IsLine}
use Rattle.copar_run.specs.Standing.{IsMade, IsHalted, IsStrange}
use Rattle.copar_run.proofs.Projections.{apart, is_read}

-- what holds of a told option, and so something else
pub if-some : {A : Type 0} (P Q : A → Type 0) (o : Option A) → ((a : A) → P a → Q a)
    → IfSome o P → IfSome o Q
if-some P Q None f e = e
if-some P Q (Some a) f e = f a e

-- and what holds of all holds of it
pub if-any : {A : Type 0} (P : A → Type 0) (o : Option A) → ((a : A) → P a) → IfSome o P
if-any P None f = tt
if-any P (Some a) f = f a

-- and so what follows from both of two
pub if-both : {A : Type 0} (P Q R : A → Type 0) (o : Option A) → ((a : A) → P a → Q a → R a)
    → IfSome o P → IfSome o Q → IfSome o R
if-both P Q R None f e h = e
if-both P Q R (Some a) f e h = f a e h

-- a file that is longer than the bound is the cause of its refusal
pub long-stops : (o : Option Files) (name : List ℕ)
    → IfSome o (λ files. IsLongerThan (map.get files name) most_bytes)
    → IfSome o (λ files. Cause files (Stage.GetFile name) TooLong)
long-stops o name longer =
    if-some (λ files. IsLongerThan (map.get files name) most_bytes)
    (λ files. Cause files (Stage.GetFile name) TooLong) o
    (λ files long. by files (map.get files name) refl long) longer
  where
    by : (files : Files) (file : Option (List ℕ)) → map.get files name ≡ file
        → IsLongerThan file most_bytes → Cause files (Stage.GetFile name) TooLong
    by files None is long = absurd long
    by files (Some bytes) is long = (refl, (bytes, is, long))

-- bytes without a fault are told by want of memory alone
pub no-fault-told : (bytes : List ℕ) (s : Status) → ((fault : Fault) → ¬ IsFault bytes fault)
    → Tells bytes s → s ≡ NoMemory
no-fault-told bytes (Grammar line) none tells = absurd (none (Fault.Grammar line) tells)
no-fault-told bytes (TypeFault line kind) none tells =
    absurd (none (Fault.Misfit line kind) tells)
no-fault-told bytes (WeightBound line) none tells = absurd (none (Fault.PastBound line) tells)
no-fault-told bytes (SumFault line) none tells = absurd (none (Fault.ShortSum line) tells)
no-fault-told bytes NoMemory none tells = refl
no-fault-told bytes _ none tells = absurd tells

-- a status that is of no word has its line
pub no-word : (s t : Status) (word : List ℕ) → s ≡ t → told_line t word ≡ line_of t
    → told_line s word ≡ line_of s
no-word s t word e same = subst (λ z. told_line z word ≡ line_of z) (sym e) same

-- the word that names no state is the one at its place
strange-line : (file : List ℕ) (first : ℕ) {names : List (List ℕ)} (words : List (List ℕ))
    (s : Status) (word : List ℕ) (strange : IsStrange names words first s word)
    → told_line s word ≡ line_at (Stage.FindStates file first words) s
strange-line file first words s word strange =
    subst (λ z. told_line z word ≡ line_at (Stage.FindStates file first words) z)
    (sym strange.told)
    (ap stranger_line (sym (
    ap (λ k. unwrap_or (slice_get words k) []) (ahead first strange.place)
    ∙ ap (λ o. unwrap_or o []) strange.stranger.there
    ∙ strange.same
    )))
  where
    ahead : (a b : ℕ) → (a + b) - a ≡ b
    ahead a b = omega arith

module _ (o : Outside) where
  -- what stops behind a stage that passes stops behind both
  pub behind : (first : Stage) (stages : List Stage) (s : Status) (line : List ℕ)
      → Passes o first → IsHalted stages o s line → IsHalted (first ∷ stages) o s line
  behind first stages s line passes (IsHalted.ForMemory wanting is read) =
      IsHalted.ForMemory wanting is read
  behind first stages s line passes (IsHalted.AtStage stage r x is read) =
      IsHalted.AtStage stage (inr (passes, r)) x is read

  -- and what is made behind it is made behind both
  pub made-behind : (first : Stage) (stages : List Stage) (request : Request) (rise : ℕ)
      (ending : Status) (whole : List ℕ) → Passes o first
      → IsMade request stages o rise ending whole
      → IsMade request (first ∷ stages) o rise ending whole
  made-behind first stages request rise ending whole passes made = record {
    passes = (passes, made.passes);
    answers = made.answers;
    read = made.read;
  }

  -- memory was wanting
  pub halt-wanting : (stages : List Stage) (s : Status) (word : List ℕ) → s ≡ NoMemory
      → NoReadFailed o → IsHalted stages o s (told_line s word)
  halt-wanting stages s word wanting read =
      IsHalted.ForMemory wanting (no-word s NoMemory word wanting refl) read

  -- no bytes were got
  pub halt-reading : (name : List ℕ) (stages : List Stage) (s : Status) (word : List ℕ)
      → (s ≡ NoMemory) ⊎ Stops o (Stage.GetFile name) s
      → (s ≢ ReadFault → NoReadFailed o)
      → IsHalted (Stage.GetFile name ∷ stages) o s (told_line s word)
  halt-reading name stages s word (inl wanting) counted =
      halt-wanting (Stage.GetFile name ∷ stages) s word wanting
      (counted (λ e. apart is_read s ReadFault NoMemory refl refl e wanting))
  halt-reading name stages s word (inr (inl failed)) counted =
      IsHalted.AtStage (Stage.GetFile name) (inl refl) (inl failed)
      (no-word s ReadFault word failed.0 refl) (inl failed.0)
  halt-reading name stages s word (inr (inr cause)) counted =
      IsHalted.AtStage (Stage.GetFile name) (inl refl) (inr cause)
      (no-word s TooLong word cause.0 refl)
      (inr (counted (λ e. apart is_read s ReadFault TooLong refl refl e cause.0)))

  -- bytes were got, within the bound
  pub got : (name bytes : List ℕ) → IfSome o.files (λ files. Holds files name bytes)
      → length bytes ≤ most_bytes → Passes o (Stage.GetFile name)
  got name bytes there within =
      if-some (λ files. Holds files name bytes) (λ files. Clear files (Stage.GetFile name)) o.files
      (λ files holds. (bytes, holds, within)) there

  module _ (name bytes : List ℕ) (there : IfSome o.files (λ files. Holds files name bytes)) where
    -- they denote a coalgebra
    pub denotes : (c : Content) → Reads bytes c → IfSome o.files (λ files. Denotes files name c)
    denotes c reads =
        if-some (λ files. Holds files name bytes) (λ files. Denotes files name c) o.files
        (λ files holds. (bytes, holds, reads)) there

    -- a file that spells a coalgebra passes the reading
    pub read-file : (c : Content) → Reads bytes c → Passes o (Stage.ReadFile name)
    read-file c reads =
        if-some (λ files. Denotes files name c) (λ files. Clear files (Stage.ReadFile name)) o.files
        (λ files e. (c, e)) (denotes c reads)

    -- they have this fault
    at-fault : (stages : List Stage) (fault : Fault) → IsFault bytes fault → NoReadFailed o
        → IsHalted (Stage.ReadFile name ∷ stages) o (status_of fault) (line_of (status_of fault))
    at-fault stages fault faulty read =
        IsHalted.AtStage (Stage.ReadFile name) (inl refl)
        (inr (
          (fault, refl),
          if-some (λ files. Holds files name bytes)
              (λ files. Cause files (Stage.ReadFile name) (status_of fault)) o.files
              (λ files holds. (bytes, holds, (fault, refl, faulty))) there,
        ))
        refl (inr read)

    -- the status tells a fault of theirs
    pub halt-judging : (stages : List Stage) (s : Status) (word : List ℕ) → Tells bytes s
        → NoReadFailed o → IsHalted (Stage.ReadFile name ∷ stages) o s (told_line s word)
    halt-judging stages (Grammar line) word tells read =
        at-fault stages (Fault.Grammar line) tells read
    halt-judging stages (TypeFault line kind) word tells read =
        at-fault stages (Fault.Misfit line kind) tells read
    halt-judging stages (WeightBound line) word tells read =
        at-fault stages (Fault.PastBound line) tells read
    halt-judging stages (SumFault line) word tells read =
        at-fault stages (Fault.ShortSum line) tells read
    halt-judging stages NoMemory word tells read = IsHalted.ForMemory refl refl read
    halt-judging stages _ word tells read = absurd tells

  module _ (file : List ℕ) (c : Content)
      (there : IfSome o.files (λ files. Denotes files file c)) where
    -- a word names no state
    pub halt-finding : (first : ℕ) (words : List (List ℕ)) (stages : List Stage) (s : Status)
        (word : List ℕ) → IsStrange (words_of c) words first s word → NoReadFailed o
        → IsHalted (Stage.FindStates file first words ∷ stages) o s (told_line s word)
    halt-finding first words stages s word strange read =
        IsHalted.AtStage (Stage.FindStates file first words) (inl refl)
        (inr (
          (first + strange.place, strange.told),
          if-some (λ files. Denotes files file c)
              (λ files. Cause files (Stage.FindStates file first words) s) o.files
              (λ files e. (c, e, (strange.place, strange.told, strange.stranger))) there,
        ))
        (strange-line file first words s word strange) (inr read)

    -- or each does
    pub found : (first : ℕ) (words : List (List ℕ)) → AreNamed (words_of c) words
        → Passes o (Stage.FindStates file first words)
    found first words named =
        if-some (λ files. Denotes files file c)
        (λ files. Clear files (Stage.FindStates file first words)) o.files
        (λ files e. (c, e, named)) there

    -- or memory was wanting
    pub halt-at-finding : (first : ℕ) (words : List (List ℕ)) (stages : List Stage) (s : Status)
        (word : List ℕ) → (s ≡ NoMemory) ⊎ IsStrange (words_of c) words first s word
        → NoReadFailed o
        → IsHalted (Stage.FindStates file first words ∷ stages) o s (told_line s word)
    halt-at-finding first words stages s word (inl wanting) read =
        halt-wanting (Stage.FindStates file first words ∷ stages) s word wanting read
    halt-at-finding first words stages s word (inr strange) read =
        halt-finding first words stages s word strange read

    -- the coalgebra is what a request on this file is about
    pub about-one : (request : Request)
        → ((files : Files) → IsOfOne files file (Subject.One c)
        → IsSubject files request (Subject.One c))
        → IfSome o.files (λ files. IsSubject files request (Subject.One c))
    about-one request is =
        if-some (λ files. Denotes files file c)
        (λ files. IsSubject files request (Subject.One c)) o.files
        (λ files e. is files (c, refl, e)) there

    module _ (second bytes : List ℕ) (holds : IfSome o.files (λ files. Holds files second bytes))
      where
        -- a line of the second file is not of its form
        pub halt-text : (form : Form) (stages : List Stage) (line : ℕ) (word : List ℕ)
            → IsBadLine form c bytes line → NoReadFailed o
            → IsHalted (Stage.JudgeText file second form ∷ stages) o (status.AnswerText line)
            (told_line (status.AnswerText line) word)
        halt-text form stages line word bad read =
            IsHalted.AtStage (Stage.JudgeText file second form) (inl refl)
            (inr (
              (line, refl),
              if-both (λ files. Denotes files file c) (λ files. Holds files second bytes)
                  (λ files. Cause files (Stage.JudgeText file second form) (status.AnswerText line))
                  o.files (λ files e h. (c, e, (bytes, h, (line, refl, bad)))) there holds,
            ))
            refl (inr read)

        -- or each is
        pub judged : (form : Form) → ((line : ℕ) → IsBadLine form c bytes line → ⊥)
            → Passes o (Stage.JudgeText file second form)
        judged form good =
            if-both (λ files. Denotes files file c) (λ files. Holds files second bytes)
            (λ files. Clear files (Stage.JudgeText file second form)) o.files
            (λ files e h. (c, e, (bytes, h, good))) there holds

        -- it and the second file are what a request on both is about
        pub about-two : (request : Request)
            → ((files : Files) → IsOfTwo files file second (Subject.WithText c bytes)
            → IsSubject files request (Subject.WithText c bytes))
            → IfSome o.files (λ files. IsSubject files request (Subject.WithText c bytes))
        about-two request is =
            if-both (λ files. Denotes files file c) (λ files. Holds files second bytes)
            (λ files. IsSubject files request (Subject.WithText c bytes)) o.files
            (λ files e h. is files (c, bytes, refl, e, h)) there holds

  -- the output of a request that is about this subject is made
  pub make : (request : Request) (stages : List Stage) (subject : Subject) (rise : ℕ)
      (ending : Status) (output : List ℕ) → PassesAll o stages
      → IfSome o.files (λ files. IsSubject files request subject)
      → MayEnd request ending → Prints request subject rise ending output → NoReadFailed o
      → (s : Status) (text : List ℕ) → s ≡ ending → text ≡ output
      → IsMade request stages o rise s text
  make request stages subject rise ending output passes about may prints read s text same is =
      subst (λ z. IsMade request stages o rise z text) (sym same)
      (subst (λ z. IsMade request stages o rise ending z) (sym is) (record {
        passes = passes;
        answers = (
          may,
          if-some (λ files. IsSubject files request subject)
              (λ files. (about : Subject) × IsSubject files request about
              × Prints request about rise ending output) o.files
              (λ files e. (subject, e, prints)) about,
        );
        read = read;
      }))

  -- a task that reads the file alone
  pub make-of-one : (file : List ℕ) (c : Content)
      → IfSome o.files (λ files. Denotes files file c)
      → (told task : Task) → told ≡ task → later_stages file task ≡ []
      → ((files : Files) → IsOfOne files file (Subject.One c)
      → IsSubject files (Request.OnFile file task) (Subject.One c))
      → MayEnd (Request.OnFile file task) Done → (rise : ℕ) (output : List ℕ)
      → Prints (Request.OnFile file task) (Subject.One c) rise Done output → NoReadFailed o
      → (s : Status) (text : List ℕ) → s ≡ Done → text ≡ output
      → IsMade (Request.OnFile file told) (later_stages file told) o rise s text
  make-of-one file c there told task same none about may rise output prints read s text done is =
      subst (λ t. IsMade (Request.OnFile file t) (later_stages file t) o rise s text) (sym same)
      (make (Request.OnFile file task) (later_stages file task) (Subject.One c) rise Done output
      (subst (λ stages. PassesAll o stages) (sym none) tt)
      (about-one file c there (Request.OnFile file task) about) may prints read s text done is)

-- no read fails where no count changed
module _ (files : Option Files) (a b now : List ℕ → ℕ) (same : (name : List ℕ) → b name ≡ a name)
  where
    -- the stages that are reached do not depend on the counts before
    reached-from : (stages : List Stage) (stage : Stage) → Reached (met files b now) stages stage
        → Reached (met files a now) stages stage
    reached-from [] stage r = r
    reached-from (first ∷ stages) stage (inl e) = inl e
    reached-from (first ∷ stages) stage (inr r) = inr (r.0, reached-from stages stage r.1)

    failed-from : (stage : Stage) → FailedRead (met files b now) stage
        → FailedRead (met files a now) stage
    failed-from (Stage.GetFile name) failed = subst (λ n. Rose n (now name)) (same name) failed
    failed-from (Stage.ReadFile name) failed = failed
    failed-from (Stage.FindStates file first words) failed = failed
    failed-from (Stage.JudgeText file second form) failed = failed

    stops-from : (stage : Stage) (s : Status) → Stops (met files b now) stage s
        → Stops (met files a now) stage s
    stops-from stage s (inl failed) = inl (failed.0, failed-from stage failed.1)
    stops-from stage s (inr cause) = inr cause

    unfailed-from : NoReadFailed (met files b now) → NoReadFailed (met files a now)
    unfailed-from read name = read name ∙ same name

    passes-from : (stages : List Stage) → PassesAll (met files b now) stages
        → PassesAll (met files a now) stages
    passes-from [] p = p
    passes-from (first ∷ stages) p = (p.0, passes-from stages p.1)

    -- what stops from then on stops from the start
    pub halted-from : (stages : List Stage) (s : Status) (line : List ℕ)
        → IsHalted stages (met files b now) s line → IsHalted stages (met files a now) s line
    halted-from stages s line (IsHalted.ForMemory wanting is read) =
        IsHalted.ForMemory wanting is (unfailed-from read)
    halted-from stages s line (IsHalted.AtStage stage r x is (inl failed)) =
        IsHalted.AtStage stage (reached-from stages stage r) (stops-from stage s x) is (inl failed)
    halted-from stages s line (IsHalted.AtStage stage r x is (inr read)) =
        IsHalted.AtStage stage (reached-from stages stage r) (stops-from stage s x) is
        (inr (unfailed-from read))

    -- and what is made is made
    pub made-from : (stages : List Stage) (request : Request) (rise : ℕ) (ending : Status)
        (whole : List ℕ) → IsMade request stages (met files b now) rise ending whole
        → IsMade request stages (met files a now) rise ending whole
    made-from stages request rise ending whole made = record {
      passes = passes-from stages made.passes;
      answers = made.answers;
      read = unfailed-from made.read;
    }

-- a count that did not fall rose by some number
pub rise-of : (before after : ℕ) → before ≤ after → (rise : ℕ) × (after ≡ before + rise)
rise-of before after grows = (after - before, omega (arith, grows))

-- a halted request has written nothing
pub end-halted : (request : Request) (o : Outside) (w : Counts) (rise : ℕ) (s : Status)
    (line : List ℕ) → IsHalted (stages_of request) o s line → NoWriteFailed w
    → Ends request o w rise s []
end-halted request o w rise s line (IsHalted.ForMemory wanting is read) written =
    Ends.WithoutMemory wanting refl read written
end-halted request o w rise s line (IsHalted.AtStage stage r x is read) written =
    Ends.Stopped stage r x refl read written

-- its line tells how it ended
pub halted-line : (words : List (List ℕ)) (request : Request) (o : Outside) (s : Status)
    (line : List ℕ) → Asks words request → IsHalted (stages_of request) o s line
    → IsLine words o s line
halted-line words request o s line asks (IsHalted.ForMemory wanting is read) =
    IsLine.FromOutside (inl wanting) is
halted-line words request o s line asks (IsHalted.AtStage stage r x is read) =
    IsLine.FromStage request asks stage r x is

-- an output that is made is written whole, or from its front
pub end-written : (request : Request) (o : Outside) (w : Counts) (rise : ℕ) (ending : Status)
    (output : List ℕ) → IsMade request (stages_of request) o rise ending output → NoWriteFailed w
    → Ends request o w rise ending output
end-written request o w rise ending output made written =
    Ends.Worked ending output made.passes made.answers (inl (refl, refl, written)) made.read

-- a write that failed ends the run with its own status
pub end-failed : (request : Request) (o : Outside) (w : Counts) (rise : ℕ) (ending : Status)
    (output : List ℕ) (n : ℕ) → IsMade request (stages_of request) o rise ending output
    → Rose w.before w.now → Ends request o w rise WriteFault (take n output)
end-failed request o w rise ending output n made rose =
    Ends.Worked ending output made.passes made.answers (inr (refl, rose, (n, refl))) made.read

-- words that make a request end as it does
pub ran-asked : (words : List (List ℕ)) (o : Outside) (w : Counts) (rise : ℕ) (s : Status)
    (output : List ℕ) (request : Request) → asked words ≡ Some request
    → Ends request o w rise s output → Ran words o w rise s output
ran-asked words o w rise s output request asks ends = Ran.Asked request asks ends
