use Rattle.std.proofs.Common.{◌∙◌, sym, subst}
use Rattle.structure_parser.specs.Reads.{IsFault}
use Rattle.copar_run.proofs.Making.{no-fault-told}
use Rattle.copar_run.proofs.trial.trial_output.Goals as goal

pub returns-in-Err-clause-wanting : goal.returns-in-Err-clause-wanting
returns-in-Err-clause-wanting g c =
    let text = c.deref.result.now in
    c.by.ensures.same
    ∙ no-fault-told text c.in-Err.status
    (λ fault. subst (λ t. ¬ IsFault t fault)
    (sym (c.deref.ensures.value ∙ c.in_ok-text.ensures.text))
    (c.trial_texts_are_accepted.ensures.no_fault c.args.kind c.args.seed c.args.size
    c.requires.sized fault))
    c.in-Err.ensures.fault
