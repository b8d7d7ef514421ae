-- What each request prints.
--
-- Subject          == what a request is about, once nothing stopped it
-- IsCounted c rise == the work on this coalgebra takes so many steps
-- IsFound c found  == the refinement of the sorted states of the coalgebra
-- WithStats        == a text, and behind it the line of statistics, if it is wanted
-- MayEnd request ending
--                  == the status may come once the output is written
-- Prints request subject rise ending output
--                  == the output of the request for this subject, after so many steps, and the
--                     status that comes once it is written
-- MayEndSo, PrintsFor
--                  == the same of a task on a file
use Rattle.std.specs.Prelude.{◌≡◌, ◌⊎◌, ℕ, Bool, true, false, List, [], ◌++◌, length}
use Rattle.command_line.specs.Requests.{Request, Task}
use Rattle.typing.specs.Contents.{Content}
use Rattle.typing.specs.Layers.{sorted_count, edge_count}
use Rattle.desorting.specs.Desorted.{IsDesorted}
use Rattle.classes.specs.declared.refining.Refinement.{Refinement}
use Rattle.classes.specs.Refined.{IsRefined}
use Rattle.classes.specs.Counted.{IsCounted as IsCountedAs}
use Rattle.answer_writer.specs.Stats.{stats_text}
use Rattle.copar_run.specs.declared.status.Status.{Status}
use Rattle.copar_run.specs.declared.status.Status.TheVariants.{Done, No}
use Rattle.copar_run.specs.Blocks.{IsBlockList}
use Rattle.copar_run.specs.Minimal.{IsMinimal}
use Rattle.copar_run.specs.Explained.{IsExplained}
use Rattle.copar_run.specs.Certified.{IsCertified}
use Rattle.copar_run.specs.Checked.{IsTruthList}
use Rattle.copar_run.specs.Verified.{IsVerified}
use Rattle.copar_run.specs.Summarised.{IsSummary}

-- what a request is about: a coalgebra, or one with the bytes of a second file
pub data Subject : Type 0 where
  One : Content → Subject
  WithText : Content → List ℕ → Subject

-- the work on a coalgebra takes so many steps: they are those of a legal history of smaller halves
-- over a system of its structures, which ends in the classes of equivalence
abbrev pub IsCounted : Content → ℕ → Type 0
IsCounted c rise = (sorted edges : ℕ) × IsCountedAs c sorted edges rise

-- the refinement is that of the structures of the coalgebra, and was counted
pub record IsFound (c : Content) (found : Refinement) : Type 0 where
  pub desorted : IsDesorted c.term c.values c.denominator found.system
  pub refined : IsRefined found.system found.refined
  pub counted :
      IsCountedAs c found.system.store.states (length found.system.store.edges) found.refined.labels

-- the line of statistics, if it is wanted: the numbers of sorted states, edges and steps
abbrev pub stats_part : Bool → Content → ℕ → List ℕ
stats_part true c rise =
    stats_text (sorted_count c.term c.values) (edge_count c.term c.values) rise
stats_part false c rise = []

-- the output is such a text, and behind it stands the line of statistics, if it is wanted; the work
-- took so many steps
abbrev pub WithStats : Bool → Content → ℕ → (List ℕ → Type 0) → List ℕ → Type 0
WithStats stats c rise IsText output =
    IsCounted c rise
    × ((text : List ℕ) × IsText text × (output ≡ text ++ stats_part stats c rise))

-- the status may come once the output of the task is written
abbrev pub MayEndSo : Task → Status → Type 0
MayEndSo (Task.Verify answer) s = (s ≡ Done) ⊎ (s ≡ No)
MayEndSo _ s = s ≡ Done

-- the status may come once the output is written
abbrev pub MayEnd : Request → Status → Type 0
MayEnd (Request.OnFile file task) s = MayEndSo task s
MayEnd (Request.Trial kind seed size) s = s ≡ Done

-- the output of the task for this subject, after so many steps, and the status that comes then
abbrev pub PrintsFor : Task → Subject → ℕ → Status → List ℕ → Type 0
PrintsFor (Task.Blocks stats) (Subject.One c) rise ending output =
    WithStats stats c rise (IsBlockList c) output
PrintsFor (Task.Minimise stats) (Subject.One c) rise ending output =
    WithStats stats c rise (IsMinimal c) output
PrintsFor (Task.Explain states stats) (Subject.One c) rise ending output =
    WithStats stats c rise (IsExplained c states) output
PrintsFor (Task.Certify stats) (Subject.One c) rise ending output =
    WithStats stats c rise (IsCertified c) output
PrintsFor (Task.Check formulas states) (Subject.WithText c bytes) rise ending output =
    (rise ≡ 0) × IsTruthList c bytes states output
PrintsFor (Task.Verify answer) (Subject.WithText c bytes) rise ending output =
    (rise ≡ 0) × IsVerified c bytes ending output
PrintsFor _ _ _ _ _ = ⊥

-- the output of the request for this subject, after so many steps, and the status that comes then
abbrev pub Prints : Request → Subject → ℕ → Status → List ℕ → Type 0
Prints (Request.OnFile file task) subject rise ending output =
    PrintsFor task subject rise ending output
Prints (Request.Trial kind seed size) (Subject.One c) rise ending output =
    IsCounted c rise × IsSummary kind c rise output
Prints _ _ _ _ _ = ⊥
