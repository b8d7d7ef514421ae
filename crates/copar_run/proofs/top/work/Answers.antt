use Rattle.std.proofs.Common.{[], inr, refl, sym, ap, ◌∙◌, take, subst, true≢false}
use Rattle.std.specs.Io.KnownBytes.{append_known}
use Rattle.command_line.specs.Asked.{denoted}
use Rattle.copar_run.specs.declared.status.Status.TheVariants.{WriteFault}
use Rattle.copar_run.specs.Outcome.{Ends, counts, is_end, met}
use Rattle.copar_run.specs.Lines.{IsLine, told_line}
use Rattle.copar_run.proofs.Projections.{ended}
use Rattle.copar_run.proofs.Making.{end-halted, end-written, end-failed, halted-line, no-word, rise-of}
use Rattle.outside.proofs.Taking.{append_known_none}
use Rattle.copar_run.proofs.top.work.Goals as goal

pub returns-then-put_all-clause-ends : goal.returns-then-put_all-clause-ends
returns-then-put_all-clause-ends g c =
    let o = met (g.F.Folder.files c.args.folder.now) (g.F.Folder.faults c.args.folder.now)
    (g.F.Folder.faults c.output_over.new.folder) in
    let w = counts (g.O.Sink.faults c.args.out.now) (g.O.Sink.faults c.put_all.new.sink) in
    let (rise, risen, made) = c.in-Ok.ensures.made in (
      rise,
      c.in-Ok.made.text.items,
      risen,
      c.put_all.ensures.whole c.if-put_all.true
          ∙ ap (append_known (g.O.Sink.taken c.args.out.now)) c.deref.ensures.value,
      (λ none other. c.put_all.ensures.no_call_for_no_byte (c.deref.ensures.value ∙ none)),
      subst (λ s. Ends (denoted c.args.request.now) o w rise s c.in-Ok.made.text.items)
          (sym c.by.ensures.same)
          (end-written (denoted c.args.request.now) o w rise c.in-Ok.made.status
          c.in-Ok.made.text.items made
          (c.put_all.ensures.success_counts_nothing c.if-put_all.true)),
    )

pub returns-then-put_all-clause-line : goal.returns-then-put_all-clause-line
returns-then-put_all-clause-line g c words asks e =
    let (rise, risen, made) = c.in-Ok.ensures.made in
    absurd (true≢false
    (sym (ended (denoted c.args.request.now) c.in-Ok.made.status made.answers.0)
    ∙ ap is_end (sym c.by.ensures.same) ∙ e))

pub returns-in-Ok-clause-ends : goal.returns-in-Ok-clause-ends
returns-in-Ok-clause-ends g c =
    let o = met (g.F.Folder.files c.args.folder.now) (g.F.Folder.faults c.args.folder.now)
    (g.F.Folder.faults c.output_over.new.folder) in
    let w = counts (g.O.Sink.faults c.args.out.now) (g.O.Sink.faults c.put_all.new.sink) in
    let (rise, risen, made) = c.in-Ok.ensures.made in
    let (n, taken) = c.put_all.ensures.front in (
      rise,
      take n c.in-Ok.made.text.items,
      risen,
      taken ∙ ap (λ text. append_known (g.O.Sink.taken c.args.out.now) (take n text))
          c.deref.ensures.value,
      (λ none other. absurd (other c.by-else-put_all.ensures.same)),
      subst (λ s. Ends (denoted c.args.request.now) o w rise s (take n c.in-Ok.made.text.items))
          (sym c.by-else-put_all.ensures.same)
          (end-failed (denoted c.args.request.now) o w rise c.in-Ok.made.status
          c.in-Ok.made.text.items n made
          (c.put_all.ensures.failure_is_counted c.if-put_all.false)),
    )

pub returns-in-Ok-clause-line : goal.returns-in-Ok-clause-line
returns-in-Ok-clause-line g c words asks e =
    IsLine.FromOutside (inr c.by-else-put_all.ensures.same)
    (no-word c.by-else-put_all.result.status WriteFault c.by-else-put_all.result.word.now
    c.by-else-put_all.ensures.same refl)

pub returns-clause-ends : goal.returns-clause-ends
returns-clause-ends g c =
    let (rise, risen) = rise-of c.args.steps.now c.output_over.new.steps
    c.output_over.ensures.grows in (
      rise,
      [],
      risen,
      sym (append_known_none (g.O.Sink.taken c.args.out.now)),
      (λ none other. refl),
      end-halted (denoted c.args.request.now)
          (met (g.F.Folder.files c.args.folder.now) (g.F.Folder.faults c.args.folder.now)
          (g.F.Folder.faults c.output_over.new.folder))
          (counts (g.O.Sink.faults c.args.out.now) (g.O.Sink.faults c.args.out.now))
          rise c.in-Err.ended.status
          (told_line c.in-Err.ended.status c.in-Err.ended.word.now) c.in-Err.ensures.halted refl,
    )

pub returns-clause-line : goal.returns-clause-line
returns-clause-line g c words asks e =
    halted-line words (denoted c.args.request.now)
    (met (g.F.Folder.files c.args.folder.now) (g.F.Folder.faults c.args.folder.now)
    (g.F.Folder.faults c.output_over.new.folder))
    c.in-Err.ended.status (told_line c.in-Err.ended.status c.in-Err.ended.word.now) asks
    c.in-Err.ensures.halted
