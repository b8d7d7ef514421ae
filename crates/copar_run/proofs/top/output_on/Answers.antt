use Rattle.std.proofs.Common.{◌≡◌, ◌∷◌, ◌≤◌, ◌⊎◌, ◌∙◌, IfSome, length, sym, subst}
use Rattle.std.proofs.lemmas.Result.{IfOk-weaker, IfErr-weaker}
use Rattle.command_line.specs.Asked.{denoted_task}
use Rattle.command_line.specs.Requests.{Request}
use Rattle.typing.specs.Contents.{content_of}
use Rattle.copar_run.specs.declared.status.Status.TheVariants.{ReadFault, NoMemory}
use Rattle.structure_parser.specs.Reads.{most_bytes}
use Rattle.copar_run.specs.Reading.{Tells}
use Rattle.copar_run.specs.Lines.{told_line}
use Rattle.copar_run.specs.Standing.{IsHalted, IsMade}
use Rattle.copar_run.specs.Outcome.{Holds, Stage, Stops, later_stages, met}
use Rattle.copar_run.proofs.Making.{behind, made-behind, halt-reading, halt-judging, got, read-file, halted-from, made-from}
use Rattle.copar_run.proofs.top.output_on.Goals as goal

pub returns-in-Err-clause-halted : goal.returns-in-Err-clause-halted
returns-in-Err-clause-halted g c =
    let o = met (g.F.Folder.files c.args.folder.now) (g.F.Folder.faults c.args.folder.now)
    (g.F.Folder.faults c.file_bytes.new.folder) in
    let later = later_stages c.args.file.now (denoted_task c.args.task.now) in
    let s = c.by.result.status in
    let word = c.by.result.word.now in
    let name = c.args.file.now in
    halt-reading o name (Stage.ReadFile name ∷ later) s word
    (subst (λ z. (z ≡ NoMemory) ⊎ Stops o (Stage.GetFile name) z) (sym c.by.ensures.same)
    c.in-Err.ensures.stopped)
    (λ apart. c.in-Err.ensures.counted
    (λ e. apart (c.by.ensures.same ∙ (let same : c.in-Err.status ≡ ReadFault = cc in same))))

pub returns-in-Err-coalgebra_of-clause-halted : goal.returns-in-Err-coalgebra_of-clause-halted
returns-in-Err-coalgebra_of-clause-halted g c =
    let files = g.F.Folder.files c.args.folder.now in
    let o = met files (g.F.Folder.faults c.args.folder.now)
    (g.F.Folder.faults c.file_bytes.new.folder) in
    let later = later_stages c.args.file.now (denoted_task c.args.task.now) in
    let s = c.by-in-Err-coalgebra_of.result.status in
    let word = c.by-in-Err-coalgebra_of.result.word.now in
    let name = c.args.file.now in
    let bytes = c.deref.result.now in
    let there : IfSome files (λ f. Holds f name bytes) =
    subst (λ b. IfSome files (λ f. Holds f name b)) (sym c.deref.ensures.value)
    c.in-Ok.ensures.whole_file in
    let within : length bytes ≤ most_bytes =
    subst (λ b. length b ≤ most_bytes) (sym c.deref.ensures.value) c.in-Ok.ensures.within in
    behind o (Stage.GetFile name) (Stage.ReadFile name ∷ later) s (told_line s word)
    (got o name bytes there within)
    (halt-judging o name bytes there later s word
    (subst (Tells bytes) (sym c.by-in-Err-coalgebra_of.ensures.same)
    c.in-Err-coalgebra_of.ensures.fault)
    (c.in-Ok.ensures.counted (λ e. cc)))

pub returns-clause-made : goal.returns-clause-made
returns-clause-made g c =
    let files = g.F.Folder.files c.args.folder.now in
    let before = g.F.Folder.faults c.args.folder.now in
    let mid = g.F.Folder.faults c.file_bytes.new.folder in
    let now = g.F.Folder.faults c.answer_of.new.folder in
    let o = met files before now in
    let task = denoted_task c.args.task.now in
    let request = Request.OnFile c.args.file.now task in
    let later = later_stages c.args.file.now task in
    let name = c.args.file.now in
    let bytes = c.deref.result.now in
    let there : IfSome files (λ f. Holds f name bytes) =
    subst (λ b. IfSome files (λ f. Holds f name b)) (sym c.deref.ensures.value)
    c.in-Ok.ensures.whole_file in
    let within : length bytes ≤ most_bytes =
    subst (λ b. length b ≤ most_bytes) (sym c.deref.ensures.value) c.in-Ok.ensures.within in
    IfOk-weaker c.answer_of.result _ _
    (λ made (rise, risen, is). (
      rise,
      risen,
      made-behind o (Stage.GetFile name) (Stage.ReadFile name ∷ later) request rise
          made.status made.text.items (got o name bytes there within)
          (made-behind o (Stage.ReadFile name) later request rise made.status made.text.items
          (read-file o name bytes there (content_of c.in-Ok-coalgebra_of.c)
          c.in-Ok-coalgebra_of.ensures.read)
          (made-from files before mid now (c.in-Ok.ensures.counted (λ e. cc)) later request rise
          made.status made.text.items
          (subst (λ f. IsMade request later (met f mid now) rise made.status made.text.items)
          c.in-Ok.ensures.files_stay is))),
    ))
    c.answer_of.ensures.made

pub returns-clause-halted : goal.returns-clause-halted
returns-clause-halted g c =
    let files = g.F.Folder.files c.args.folder.now in
    let before = g.F.Folder.faults c.args.folder.now in
    let mid = g.F.Folder.faults c.file_bytes.new.folder in
    let now = g.F.Folder.faults c.answer_of.new.folder in
    let o = met files before now in
    let later = later_stages c.args.file.now (denoted_task c.args.task.now) in
    let name = c.args.file.now in
    let bytes = c.deref.result.now in
    let there : IfSome files (λ f. Holds f name bytes) =
    subst (λ b. IfSome files (λ f. Holds f name b)) (sym c.deref.ensures.value)
    c.in-Ok.ensures.whole_file in
    let within : length bytes ≤ most_bytes =
    subst (λ b. length b ≤ most_bytes) (sym c.deref.ensures.value) c.in-Ok.ensures.within in
    IfErr-weaker c.answer_of.result _ _
    (λ ended is.
    let s = ended.status in
    let line = told_line s ended.word.now in
    behind o (Stage.GetFile name) (Stage.ReadFile name ∷ later) s line
    (got o name bytes there within)
    (behind o (Stage.ReadFile name) later s line
    (read-file o name bytes there (content_of c.in-Ok-coalgebra_of.c)
    c.in-Ok-coalgebra_of.ensures.read)
    (halted-from files before mid now (c.in-Ok.ensures.counted (λ e. cc)) later s line
    (subst (λ f. IsHalted later (met f mid now) s line) c.in-Ok.ensures.files_stay is))))
    c.answer_of.ensures.halted
