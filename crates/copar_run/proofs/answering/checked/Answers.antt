use Rattle.std.proofs.Common.{◌≡◌, ◌⊎◌, ◌<◌, ◌≤◌, ◌∙◌, [], ◌∷◌, length, map, refl, sym, ap, subst, IfSome}
use Rattle.std.specs.List.{All}
use Rattle.std.proofs.lemmas.List.{length-map}
use Rattle.std.proofs.lemmas.Slice.Zip.{AllZip-long}
use Rattle.command_line.specs.Requests.{Request, Task}
use Rattle.typing.specs.Contents.{content_of}
use Rattle.structure_parser.specs.Reads.{most_bytes}
use Rattle.truth_writer.specs.Truths.{truths_text}
use Rattle.satisfaction.specs.Satisfaction.{holds_at}
use Rattle.answer_checker.specs.BadLines.{bad_formula_line}
use Rattle.answer_checker.specs.Verdicts.{TellsBadFormula}
use Rattle.copar_run.specs.declared.status.Status.TheVariants as status
use Rattle.copar_run.specs.declared.status.Status.TheVariants.{Done, ReadFault, NoMemory}
use Rattle.copar_run.specs.Outputs.{Subject}
use Rattle.copar_run.specs.Lines.{told_line}
use Rattle.copar_run.specs.Standing.{IsHalted}
use Rattle.copar_run.specs.Outcome.{Form, Holds, Stage, Stops, of_second, met}
use Rattle.copar_run.proofs.Making.{behind, found, halt-at-finding, halt-reading, halt-text, got, judged, about-two, make}
use Rattle.copar_run.proofs.Finding.{are-named}
use Rattle.copar_run.proofs.AnswerLaws.{numbers-named}
use Rattle.copar_run.proofs.VerdictLaws.{unclear}
use Rattle.copar_run.proofs.answering.checked.Goals as goal

pub returns-in-Err-clause-halted : goal.returns-in-Err-clause-halted
returns-in-Err-clause-halted g c =
    let words = map (λ word. word.now) c.args.states.now in
    let o = met (g.F.Folder.files c.args.folder.now) (g.F.Folder.faults c.args.folder.now)
    (g.F.Folder.faults c.args.folder.now) in
    halt-at-finding o c.args.file.now (content_of c.args.c.now) c.requires.read 1 words
    (of_second c.args.file.now c.args.formulas.now Form.Formulas) c.in-Err.ended.status
    c.in-Err.ended.word.now c.in-Err.ensures.strange (λ name. refl)

pub returns-in-Err-file_bytes-clause-halted : goal.returns-in-Err-file_bytes-clause-halted
returns-in-Err-file_bytes-clause-halted g c =
    let words = map (λ word. word.now) c.args.states.now in
    let source = content_of c.args.c.now in
    let o = met (g.F.Folder.files c.args.folder.now) (g.F.Folder.faults c.args.folder.now)
    (g.F.Folder.faults c.file_bytes.new.folder) in
    let s = c.by.result.status in
    let word = c.by.result.word.now in
    let name = c.args.formulas.now in
    behind o (Stage.FindStates c.args.file.now 1 words)
    (of_second c.args.file.now name Form.Formulas) s (told_line s word)
    (found o c.args.file.now source c.requires.read 1 words
    (are-named source.names words c.in-Ok.numbers.items c.in-Ok.ensures.found))
    (halt-reading o name (Stage.JudgeText c.args.file.now name Form.Formulas ∷ []) s word
    (subst (λ z. (z ≡ NoMemory) ⊎ Stops o (Stage.GetFile name) z) (sym c.by.ensures.same)
    c.in-Err-file_bytes.ensures.stopped)
    (λ apart. c.in-Err-file_bytes.ensures.counted
    (λ e. apart (c.by.ensures.same
    ∙ (let same : c.in-Err-file_bytes.status ≡ ReadFault = cc in same)))))

pub returns-in-Err-BadLine-clause-halted : goal.returns-in-Err-BadLine-clause-halted
returns-in-Err-BadLine-clause-halted g c =
    let words = map (λ word. word.now) c.args.states.now in
    let source = content_of c.args.c.now in
    let files = g.F.Folder.files c.args.folder.now in
    let o = met files (g.F.Folder.faults c.args.folder.now)
    (g.F.Folder.faults c.file_bytes.new.folder) in
    let file = c.args.file.now in
    let name = c.args.formulas.now in
    let bytes = c.deref.result.now in
    let line = c.in-Err-BadLine.line in
    let word = c.by-in-Err-BadLine.result.word.now in
    let holds : IfSome files (λ f. Holds f name bytes) =
    subst (λ b. IfSome files (λ f. Holds f name b)) (sym c.deref.ensures.value)
    c.in-Ok-file_bytes.ensures.whole_file in
    let within : length bytes ≤ most_bytes =
    subst (λ b. length b ≤ most_bytes) (sym c.deref.ensures.value)
    c.in-Ok-file_bytes.ensures.within in
    subst (λ s. IsHalted (Stage.FindStates file 1 words ∷ of_second file name Form.Formulas) o s
    (told_line s word))
    (let told = c.by-in-Err-BadLine.ensures.same in let number = c.in-Err-BadLine.line-is in
    let is : c.by-in-Err-BadLine.result.status ≡ status.AnswerText line = cc in sym is)
    (behind o (Stage.FindStates file 1 words) (of_second file name Form.Formulas)
    (status.AnswerText line) (told_line (status.AnswerText line) word)
    (found o file source c.requires.read 1 words
    (are-named source.names words c.in-Ok.numbers.items c.in-Ok.ensures.found))
    (behind o (Stage.GetFile name) (Stage.JudgeText file name Form.Formulas ∷ [])
    (status.AnswerText line) (told_line (status.AnswerText line) word)
    (got o name bytes holds within)
    (halt-text o file source c.requires.read name bytes holds Form.Formulas [] line word
    (subst (λ fault. TellsBadFormula source.term bytes fault) c.in-Err-BadLine.field-0-is
    c.in-Err-BadLine.ensures.bad)
    (c.in-Ok-file_bytes.ensures.counted (λ e. cc)))))

pub truths_text-requires-clause-one_each : goal.truths_text-requires-clause-one_each
truths_text-requires-clause-one_each g c =
    sym (ap length c.as_slice.ensures.value ∙ AllZip-long _ _ _ c.in-Ok.ensures.found
    ∙ length-map c.args.states.now _)

pub truths_text-requires-clause-states : goal.truths_text-requires-clause-states
truths_text-requires-clause-states g c =
    let words = map (λ word. word.now) c.args.states.now in
    let source = c.args.c.now in
    subst (λ is. All (λ i. i < length source.values.items) is) (sym c.as_slice.ensures.value)
    (subst (λ n. All (λ i. i < n) c.in-Ok.numbers.items) (sym source.one_each)
    (numbers-named source.names words c.in-Ok.numbers.items c.in-Ok.ensures.found))

pub returns-clause-made : goal.returns-clause-made
returns-clause-made g c =
    let words = map (λ word. word.now) c.args.states.now in
    let source = content_of c.args.c.now in
    let files = g.F.Folder.files c.args.folder.now in
    let o = met files (g.F.Folder.faults c.args.folder.now)
    (g.F.Folder.faults c.file_bytes.new.folder) in
    let file = c.args.file.now in
    let name = c.args.formulas.now in
    let bytes = c.deref.result.now in
    let dag = c.in-Ok-read_formulas.dag in
    let numbers = c.in-Ok.numbers.items in
    let holds : IfSome files (λ f. Holds f name bytes) =
    subst (λ b. IfSome files (λ f. Holds f name b)) (sym c.deref.ensures.value)
    c.in-Ok-file_bytes.ensures.whole_file in
    let within : length bytes ≤ most_bytes =
    subst (λ b. length b ≤ most_bytes) (sym c.deref.ensures.value)
    c.in-Ok-file_bytes.ensures.within in
    make o (Request.OnFile file (Task.Check name words))
    (Stage.FindStates file 1 words ∷ of_second file name Form.Formulas)
    (Subject.WithText source bytes) 0 Done c.in_ok-text.text.items (
      found o file source c.requires.read 1 words
          (are-named source.names words numbers c.in-Ok.ensures.found),
      (
        got o name bytes holds within,
        (
          judged o file source c.requires.read name bytes holds Form.Formulas
              (λ line bad. unclear (bad_formula_line source.term bytes) line
              c.in-Ok-read_formulas.ensures.clear bad),
          tt,
        ),
      ),
    )
    (about-two o file source c.requires.read name bytes holds
    (Request.OnFile file (Task.Check name words))
    (λ fs is. is))
    refl (
      refl,
      record {
        numbers = numbers;
        dag = dag;
        named = c.in-Ok.ensures.found;
        read = c.in-Ok-read_formulas.ensures.good;
        text = c.in_ok-text.ensures
            ∙ ap (λ is. truths_text (holds_at source dag) (length dag) words is)
            c.as_slice.ensures.value;
      },
    )
    (c.in-Ok-file_bytes.ensures.counted (λ e. cc)) _ _ c.done.ensures.done c.done.ensures.same
