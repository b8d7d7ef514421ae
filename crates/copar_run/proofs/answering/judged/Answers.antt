use Rattle.std.proofs.Common.{◌≡◌, ◌⊎◌, ◌≤◌, ◌∙◌, ℕ, [], ◌∷◌, inl, inr, length, refl, sym, ap, subst, arith, IfSome}
use Rattle.command_line.specs.Requests.{Request, Task}
use Rattle.typing.specs.Contents.{content_of}
use Rattle.structure_parser.specs.Reads.{most_bytes}
use Rattle.answer_checker.specs.Verdicts.{IsVerdict, IsRightIfYes}
use Rattle.answer_checker.specs.declared.verdict.Verdict.TheVariants.{Yes, No, BadLine}
use Rattle.copar_run.specs.declared.status.Status.TheVariants as status
use Rattle.copar_run.specs.declared.status.Status.TheVariants.{Done, ReadFault, NoMemory}
use Rattle.copar_run.specs.Outputs.{Subject}
use Rattle.copar_run.specs.Verified.{AreReasonStates}
use Rattle.copar_run.specs.Lines.{told_line}
use Rattle.copar_run.specs.Standing.{IsHalted}
use Rattle.copar_run.specs.Outcome.{Form, Holds, Stage, Stops, of_second, code_of, met}
use Rattle.copar_run.proofs.Making.{behind, halt-reading, halt-text, got, judged, about-two, make}
use Rattle.copar_run.proofs.VerdictLaws.{bad-line, good-lines, reason-states}
use Rattle.copar_run.proofs.answering.judged.Goals as goal

pub returns-in-Err-clause-halted : goal.returns-in-Err-clause-halted
returns-in-Err-clause-halted g c =
    let o = met (g.F.Folder.files c.args.folder.now) (g.F.Folder.faults c.args.folder.now)
    (g.F.Folder.faults c.file_bytes.new.folder) in
    halt-reading o c.args.answer.now
    (Stage.JudgeText c.args.file.now c.args.answer.now Form.Answer ∷ []) c.by.result.status
    c.by.result.word.now
    (subst (λ z. (z ≡ NoMemory) ⊎ Stops o (Stage.GetFile c.args.answer.now) z)
    (sym c.by.ensures.same) c.in-Err.ensures.stopped)
    (λ apart. c.in-Err.ensures.counted
    (λ e. apart (c.by.ensures.same ∙ (let same : c.in-Err.status ≡ ReadFault = cc in same))))

pub returns-in-BadLine-clause-halted : goal.returns-in-BadLine-clause-halted
returns-in-BadLine-clause-halted g c =
    let files = g.F.Folder.files c.args.folder.now in
    let o = met files (g.F.Folder.faults c.args.folder.now)
    (g.F.Folder.faults c.file_bytes.new.folder) in
    let source = content_of c.args.c.now in
    let bytes = c.deref.result.now in
    let name = c.args.answer.now in
    let holds : IfSome files (λ f. Holds f name bytes) =
    subst (λ b. IfSome files (λ f. Holds f name b)) (sym c.deref.ensures.value)
    c.in-Ok.ensures.whole_file in
    let within : length bytes ≤ most_bytes =
    subst (λ b. length b ≤ most_bytes) (sym c.deref.ensures.value) c.in-Ok.ensures.within in
    let given : IsVerdict source bytes (BadLine c.in-BadLine.line) =
    subst (λ v. IsVerdict source bytes v) c.in-BadLine.is c.in_ok-line.ensures.verdict in
    let word = c.by-in-BadLine.result.word.now in
    subst (λ s. IsHalted (of_second c.args.file.now name Form.Answer) o s (told_line s word))
    (sym c.by-in-BadLine.ensures.same)
    (behind o (Stage.GetFile name) (Stage.JudgeText c.args.file.now name Form.Answer ∷ [])
    (status.AnswerText c.in-BadLine.line) (told_line (status.AnswerText c.in-BadLine.line) word)
    (got o name bytes holds within)
    (halt-text o c.args.file.now source c.requires.read name bytes holds Form.Answer []
    c.in-BadLine.line word (bad-line source bytes c.in-BadLine.line given)
    (c.in-Ok.ensures.counted (λ e. cc))))

pub reason_line-requires : goal.reason_line-requires
reason_line-requires g c =
    let source = content_of c.args.c.now in
    let bytes = c.deref.result.now in
    let given : IsVerdict source bytes (No c.in-No.reason) =
    subst (λ v. IsVerdict source bytes v) c.in-No.is c.in_ok-line.ensures.verdict in
    record {
      named = subst (λ n. AreReasonStates n c.in-No.reason) c.args.c.now.one_each
          (reason-states source bytes c.in-No.reason given);
    }

pub returns-in-No-clause-made : goal.returns-in-No-clause-made
returns-in-No-clause-made g c =
    let files = g.F.Folder.files c.args.folder.now in
    let o = met files (g.F.Folder.faults c.args.folder.now)
    (g.F.Folder.faults c.file_bytes.new.folder) in
    let source = content_of c.args.c.now in
    let bytes = c.deref.result.now in
    let file = c.args.file.now in
    let name = c.args.answer.now in
    let holds : IfSome files (λ f. Holds f name bytes) =
    subst (λ b. IfSome files (λ f. Holds f name b)) (sym c.deref.ensures.value)
    c.in-Ok.ensures.whole_file in
    let within : length bytes ≤ most_bytes =
    subst (λ b. length b ≤ most_bytes) (sym c.deref.ensures.value) c.in-Ok.ensures.within in
    let given : IsVerdict source bytes (No c.in-No.reason) =
    subst (λ v. IsVerdict source bytes v) c.in-No.is c.in_ok-line.ensures.verdict in
    make o (Request.OnFile file (Task.Verify name)) (of_second file name Form.Answer)
    (Subject.WithText source bytes) 0 status.No c.in_ok-reason_line-in-No.field-0.items (
      got o name bytes holds within,
      (
        judged o file source c.requires.read name bytes holds Form.Answer
            (good-lines source bytes (No c.in-No.reason) refl given),
        tt,
      ),
    )
    (about-two o file source c.requires.read name bytes holds
    (Request.OnFile file (Task.Verify name))
    (λ fs is. is))
    (inr refl) (
      refl,
      record {
        verdict = No c.in-No.reason;
        given = given;
        status = refl;
        text = c.in_ok-reason_line-in-No.ensures.line;
        right = λ e. absurd (apart-codes (ap code_of e));
      },
    )
    (c.in-Ok.ensures.counted (λ e. cc)) _ _ refl refl
  where
    apart-codes : ◌≡◌ {A = ℕ} 1 0 → ⊥
    apart-codes e = omega (arith, e)

pub returns-clause-made : goal.returns-clause-made
returns-clause-made g c =
    let files = g.F.Folder.files c.args.folder.now in
    let o = met files (g.F.Folder.faults c.args.folder.now)
    (g.F.Folder.faults c.file_bytes.new.folder) in
    let source = content_of c.args.c.now in
    let bytes = c.deref.result.now in
    let file = c.args.file.now in
    let name = c.args.answer.now in
    let holds : IfSome files (λ f. Holds f name bytes) =
    subst (λ b. IfSome files (λ f. Holds f name b)) (sym c.deref.ensures.value)
    c.in-Ok.ensures.whole_file in
    let within : length bytes ≤ most_bytes =
    subst (λ b. length b ≤ most_bytes) (sym c.deref.ensures.value) c.in-Ok.ensures.within in
    let given : IsVerdict source bytes Yes =
    subst (λ v. IsVerdict source bytes v) c.in-Yes.is c.in_ok-line.ensures.verdict in
    let right : IsRightIfYes source bytes Yes =
    subst (λ v. IsRightIfYes source bytes v) c.in-Yes.is c.in_ok-line.ensures.yes_is_right in
    make o (Request.OnFile file (Task.Verify name)) (of_second file name Form.Answer)
    (Subject.WithText source bytes) 0 Done c.in_ok-from_slice-in-Yes.field-0.items (
      got o name bytes holds within,
      (
        judged o file source c.requires.read name bytes holds Form.Answer
            (good-lines source bytes Yes refl given),
        tt,
      ),
    )
    (about-two o file source c.requires.read name bytes holds
    (Request.OnFile file (Task.Verify name))
    (λ fs is. is))
    (inl refl) (
      refl,
      record {
        verdict = Yes;
        given = given;
        status = refl;
        text = c.in_ok-from_slice-in-Yes.ensures.items;
        right = λ e. right;
      },
    )
    (c.in-Ok.ensures.counted (λ e. cc)) _ _ c.done.ensures.done c.done.ensures.same
