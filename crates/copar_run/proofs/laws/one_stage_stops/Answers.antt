use Rattle.copar_run.proofs.Stages.{ReadingLaws, meet}
use Rattle.copar_run.proofs.laws.one_stage_stops.Goals as goal

pub returns : goal.returns
returns c =
    let laws : ReadingLaws = record {
      one = c.files_have_one_reading.ensures;
      fault = c.files_have_one_fault.ensures;
      refuse = c.faults_refuse_files.ensures;
    } in record {
      one_status = λ files o stages a b s t known r x q y.
          meet laws files o known stages a b s t r x q y;
    }
