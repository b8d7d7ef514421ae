-- At most one stage stops a request, and with one status, save for failed reads.
use Rattle.std.proofs.Common.{◌≡◌, ◌⊎◌, inl, inr, ℕ, ◌+◌, List, [], ◌∷◌, length, ap, sym, subst, ◌∙◌, arith, Option, Some, None, IfSome, is_some, true≢false}
use Rattle.std.proofs.lemmas.Bool.{cases_order}
use Rattle.std.specs.Prelude.{unwrap_or, IsSome}
use Rattle.outside.specs.Faults.{Rose}
use Rattle.functor_terms.specs.Words.{place_of}
use Rattle.typing.specs.Contents.{Content, words_of}
use Rattle.copar_run.specs.declared.status.Status.{Status}
use Rattle.copar_run.specs.declared.status.Status.TheVariants as status
use Rattle.structure_parser.specs.Reads.{Reads, Fault, IsFault}
use Rattle.structure_parser.specs.Laws.{OneReading, OneFault, FaultsRefuse}
use Rattle.answer_checker.specs.BadLines.{bad_formula_line, bad_answer_line}
use Rattle.copar_run.specs.Reading.{status_of}
use Rattle.copar_run.specs.Outcome.{Files, Outside, Stage, Form, Holds, Denotes, IsBadLine, Cause, Clear, FailedRead, MayStop, Stops, Passes, Reached, PassesAll}
use Rattle.copar_run.specs.Named.{IsStranger, AreNamed}

-- what is known of reading: a file denotes one coalgebra at most, and has one first fault at most,
-- with which it denotes none
pub record ReadingLaws : Type 0 where
  pub one : OneReading
  pub fault : OneFault
  pub refuse : FaultsRefuse

-- a file has one list of bytes
pub same_bytes : (files : Files) (name bytes others : List ℕ) → Holds files name bytes
    → Holds files name others → others ≡ bytes
same_bytes files name bytes others a b = ap (λ o. unwrap_or o []) (sym b ∙ a)

-- what a told option says
pub told : {A : Type 0} (o : Option A) (a : A) (P : A → Type 0) → o ≡ Some a → IfSome o P → P a
told o a P e = subst (λ x. IfSome x P) e

-- a cause makes a status that its stage may stop with
pub may_stop : (files : Files) (stage : Stage) (s : Status) → Cause files stage s
    → MayStop stage s
may_stop files (Stage.GetFile name) s e = e.0
may_stop files (Stage.ReadFile name) s e = (e.2.0, e.2.1)
may_stop files (Stage.FindStates file first words) s e = (first + e.2.0, e.2.1)
may_stop files (Stage.JudgeText file second form) s e = (e.2.2.0, e.2.2.1)

-- a name that is there is somewhere
nowhere : (o : Option ℕ) → IsSome o → o ≡ None → ⊥
nowhere o some none = true≢false (sym some ∙ ap is_some none)

-- the first stranger among words is one
same_stranger : (names words : List (List ℕ)) (j k : ℕ) → IsStranger names words j
    → IsStranger names words k → k ≡ j
same_stranger names words j k a b = elim (cases_order k j) [
  | inl same ↦ same
  | inr apart ↦ elim apart [
    | inl below ↦ absurd (nowhere (place_of b.word names) (a.first k b.word below b.there)
        b.strange)
    | inr above ↦ absurd (nowhere (place_of a.word names) (b.first j a.word above a.there)
        a.strange)
  ]
]

-- words among which there is a stranger are not all names
no_stranger : (names words : List (List ℕ)) (k : ℕ) → AreNamed names words
    → IsStranger names words k → ⊥
no_stranger names words k all b =
    nowhere (place_of b.word names) (all k b.word b.there) b.strange

-- the number of an option is one
one_number : (o : Option ℕ) (a b : ℕ) → o ≡ Some a → o ≡ Some b → b ≡ a
one_number o a b e f = ap (λ z. unwrap_or z a) (sym f ∙ e)

-- the bad line of a text is one
same_line : (form : Form) (c : Content) (bytes : List ℕ) (a b : ℕ) → IsBadLine form c bytes a
    → IsBadLine form c bytes b → b ≡ a
same_line Form.Formulas c bytes a b x y = one_number (bad_formula_line c.term bytes) a b x y
same_line Form.Answer c bytes a b x y = one_number (bad_answer_line c bytes) a b x y

module _ (laws : ReadingLaws) (files : Files) where
  -- a file denotes one coalgebra
  pub same_content : (name : List ℕ) (c d : Content) → Denotes files name c
      → Denotes files name d → d ≡ c
  same_content name c d a b =
      laws.one a.0 c d a.2 (subst (λ x. Reads x d) (same_bytes files name a.0 b.0 a.1 b.1) b.2)

  -- a file that is read has no fault
  unfaulted : (name : List ℕ) (c : Content) (bytes : List ℕ) (fault : Fault)
      → Denotes files name c → Holds files name bytes → IsFault bytes fault → ⊥
  unfaulted name c bytes fault a h e =
      laws.refuse a.0 fault c
      (subst (λ x. IsFault x fault) (same_bytes files name a.0 bytes a.1 h) e) a.2

  -- words of one file's states have one first stranger
  met_stranger : (file : List ℕ) (words : List (List ℕ)) (c d : Content) (j k : ℕ)
      → Denotes files file c → Denotes files file d → IsStranger (words_of c) words j
      → IsStranger (words_of d) words k → k ≡ j
  met_stranger file words c d j k a b x y =
      same_stranger (words_of c) words j k x
      (subst (λ z. IsStranger (words_of z) words k) (same_content file c d a b) y)

  -- a second file beside a first has one bad line
  met_line : (file second : List ℕ) (form : Form) (c d : Content) (bytes others : List ℕ) (a b : ℕ)
      → Denotes files file c → Denotes files file d → Holds files second bytes
      → Holds files second others → IsBadLine form c bytes a → IsBadLine form d others b → b ≡ a
  met_line file second form c d bytes others a b x y h k p q =
      same_line form c bytes a b p
      (subst (λ z. IsBadLine form z bytes b) (same_content file c d x y)
      (subst (λ z. IsBadLine form d z b) (same_bytes files second bytes others h k) q))

  -- a stage that is clear has no cause
  pub uncaused : (stage : Stage) (s : Status) → Clear files stage → Cause files stage s → ⊥
  uncaused (Stage.GetFile name) s a e =
      let same : e.1.0 ≡ a.0 = same_bytes files name a.0 e.1.0 a.1 e.1.1 in
      omega (arith, a.2, e.1.2, ap length same)
  uncaused (Stage.ReadFile name) s a e = unfaulted name a.0 e.0 e.2.0 a.1 e.1 e.2.2
  uncaused (Stage.FindStates file first words) s a e =
      no_stranger (words_of a.0) words e.2.0 a.2
      (subst (λ z. IsStranger (words_of z) words e.2.0) (same_content file a.0 e.0 a.1 e.1) e.2.2)
  uncaused (Stage.JudgeText file second form) s a e =
      a.2.2 e.2.2.0
      (subst (λ z. IsBadLine form z a.2.0 e.2.2.0) (same_content file a.0 e.0 a.1 e.1)
      (subst (λ z. IsBadLine form e.0 z e.2.2.0)
      (same_bytes files second a.2.0 e.2.0 a.2.1 e.2.1) e.2.2.2))

  -- the first fault of a file is one
  same_fault : (name bytes others : List ℕ) (f g : Fault) → Holds files name bytes
      → Holds files name others → IsFault bytes f → IsFault others g → g ≡ f
  same_fault name bytes others f g a b e h =
      sym (laws.fault bytes f g e
      (subst (λ x. IsFault x g) (same_bytes files name bytes others a b) h))

  -- a stage has causes for one status
  pub one_cause : (stage : Stage) (s t : Status) → Cause files stage s → Cause files stage t
      → t ≡ s
  one_cause (Stage.GetFile name) s t a e = e.0 ∙ sym a.0
  one_cause (Stage.ReadFile name) s t a e =
      e.2.1 ∙ ap status_of (same_fault name a.0 e.0 a.2.0 e.2.0 a.1 e.1 a.2.2 e.2.2) ∙ sym a.2.1
  one_cause (Stage.FindStates file first words) s t a e =
      e.2.1
      ∙ ap (λ k. status.UnknownState (first + k))
      (met_stranger file words a.0 e.0 a.2.0 e.2.0 a.1 e.1 a.2.2 e.2.2)
      ∙ sym a.2.1
  one_cause (Stage.JudgeText file second form) s t a e =
      e.2.2.1
      ∙ ap status.AnswerText
      (met_line file second form a.0 e.0 a.2.0 e.2.0 a.2.2.0 e.2.2.0 a.1 e.1 a.2.1 e.2.1
      a.2.2.2 e.2.2.2)
      ∙ sym a.2.2.1

-- two statuses are the same, or one of them is that of a failed read
abbrev pub AreSame : Status → Status → Type 0
AreSame s t = (t ≡ s) ⊎ ((s ≡ status.ReadFault) ⊎ (t ≡ status.ReadFault))

module _ (laws : ReadingLaws) (files : Files) (o : Outside) (known : o.files ≡ Some files) where
  -- one stage stops with one status
  agree : (stage : Stage) (s t : Status) → Stops o stage s → Stops o stage t → AreSame s t
  agree stage s t (inl r) b = inr (inl r.0)
  agree stage s t (inr a) (inl r) = inr (inr r.0)
  agree stage s t (inr a) (inr b) =
      inl (one_cause laws files stage s t
      (told o.files files (λ f. Cause f stage s) known a.1)
      (told o.files files (λ f. Cause f stage t) known b.1))

  -- a stage that passes stops by a failed read alone
  pub blocked : (stage : Stage) (s : Status) → Passes o stage → Stops o stage s
      → (s ≡ status.ReadFault) × FailedRead o stage
  blocked stage s p (inl r) = r
  blocked stage s p (inr a) =
      absurd (uncaused laws files stage s (told o.files files (λ f. Clear f stage) known p)
      (told o.files files (λ f. Cause f stage s) known a.1))

  -- stages that are reached stop with one status
  pub meet : (stages : List Stage) (a b : Stage) (s t : Status) → Reached o stages a
      → Stops o a s → Reached o stages b → Stops o b t → AreSame s t
  meet [] a b s t r x q y = absurd r
  meet (first ∷ stages) a b s t (inl e) x (inl h) y =
      agree first s t (subst (λ z. Stops o z s) e x) (subst (λ z. Stops o z t) h y)
  meet (first ∷ stages) a b s t (inl e) x (inr h) y =
      inr (inl (blocked first s h.0 (subst (λ z. Stops o z s) e x)).0)
  meet (first ∷ stages) a b s t (inr e) x (inl h) y =
      inr (inr (blocked first t e.0 (subst (λ z. Stops o z t) h y)).0)
  meet (first ∷ stages) a b s t (inr e) x (inr h) y = meet stages a b s t e.1 x h.1 y

-- where all pass, each that is reached does
pub past : (o : Outside) (stages : List Stage) (stage : Stage) → PassesAll o stages
    → Reached o stages stage → Passes o stage
past o [] stage p r = absurd r
past o (first ∷ stages) stage p (inl e) = subst (λ z. Passes o z) (sym e) p.0
past o (first ∷ stages) stage p (inr r) = past o stages stage p.1 r.1

-- a failed read is that of a name which is read
pub read_name : (o : Outside) (stages : List Stage) (stage : Stage) → Reached o stages stage
    → FailedRead o stage
    → (name : List ℕ) × Reached o stages (Stage.GetFile name)
    × Rose (o.before name) (o.now name)
read_name o stages (Stage.GetFile name) r f = (name, r, f)
read_name o stages (Stage.ReadFile name) r f = absurd f
read_name o stages (Stage.FindStates file first words) r f = absurd f
read_name o stages (Stage.JudgeText file second form) r f = absurd f
