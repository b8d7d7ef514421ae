use Rattle.std.proofs.Common.{[], arith, refl, sym, ap, ◌∙◌, option_map}
use Rattle.command_line.specs.Asked.{denoted}
use Rattle.command_line.specs.Requests.{Asks, AsksNothing}
use Rattle.copar_run.specs.Outcome.{Ran}
use Rattle.outside.proofs.Taking.{append_known_none}
use Rattle.copar_run.proofs.top.ended.Goals as goal

pub returns-in-Ok-None-clause-ends : goal.returns-in-Ok-None-clause-ends
returns-in-Ok-None-clause-ends g c =
    let nothing : AsksNothing c.args.words.now =
    sym c.in-Ok-None.ensures.asked ∙ ap (option_map denoted) c.in-Ok-None.field-0-is in (
      0,
      [],
      omega arith,
      sym (append_known_none (g.O.Sink.taken c.args.out.now)),
      (λ none other. refl),
      Ran.Refused nothing c.by.ensures.same refl (λ name. refl) refl,
    )

pub returns-in-Err-clause-ends : goal.returns-in-Err-clause-ends
returns-in-Err-clause-ends g c = (
  0,
  [],
  omega arith,
  sym (append_known_none (g.O.Sink.taken c.args.out.now)),
  (λ none other. refl),
  Ran.Unread c.by-in-Err.ensures.same refl (λ name. refl) refl,
)

pub returns-clause-ends : goal.returns-clause-ends
returns-clause-ends g c =
    let asks : Asks c.args.words.now (denoted c.in-Ok-Some.request) =
    sym c.in-Ok-Some.ensures.asked ∙ ap (option_map denoted) c.in-Ok-Some.field-0-is in
    let (rise, output, risen, taken, none, ends) = c.work.ensures.ends in
    (rise, output, risen, taken, none, Ran.Asked (denoted c.in-Ok-Some.request) asks ends)

pub returns-clause-line : goal.returns-clause-line
returns-clause-line g c end other =
    let asks : Asks c.args.words.now (denoted c.in-Ok-Some.request) =
    sym c.in-Ok-Some.ensures.asked ∙ ap (option_map denoted) c.in-Ok-Some.field-0-is in
    c.work.ensures.line c.args.words.now asks end
