use Rattle.trial_texts.specs.Text.{text_of_trial}
use Rattle.trial_files.proofs.Accepted.{texts-accepted}
use Rattle.trial_files.proofs.laws.trial_texts_are_accepted.Goals as goal

pub returns-clause-accepted : goal.returns-clause-accepted
returns-clause-accepted c = texts-accepted

pub returns-clause-no_fault : goal.returns-clause-no_fault
returns-clause-no_fault c kind seed size sized fault is =
    let (d, reads, count) = texts-accepted kind seed size sized in
    c.faults_refuse_files.ensures (text_of_trial kind seed size) fault d is reads
