use Rattle.copar_run.proofs.Projections.{ends, usage, usage_only, fault_is_told, judged, nothing, read_fault, write_fault, whole_output, reads_are_told, writes_are_told, headline}
use Rattle.copar_run.proofs.Stages.{ReadingLaws}
use Rattle.copar_run.proofs.laws.runs_end_so.Goals as goal

pub returns : goal.returns
returns c =
    let laws : ReadingLaws = record {
      one = c.files_have_one_reading.ensures;
      fault = c.files_have_one_fault.ensures;
      refuse = c.faults_refuse_files.ensures;
    } in
    record {
      usage = λ words o w rise s output n r. usage words o w rise s output n r;
      usage_only = usage_only;
      judged = λ words o w rise s output files request r known a.
          judged laws files o known w rise s output request (ends words o w rise s output request a
          r);
      fault_is_told = λ words o w rise s output files request stage fault r known a.
          fault_is_told laws files o known w rise s output request fault stage
          (ends words o w rise s output request a r);
      nothing = nothing;
      read_fault = λ words o w rise s output request r a.
          read_fault words o w rise s output request (ends words o w rise s output request a r);
      write_fault = λ words o w rise s output request r a.
          write_fault words o w rise s output request (ends words o w rise s output request a r);
      whole = λ words o w rise s output request r a.
          whole_output words o w rise s output request (ends words o w rise s output request a r);
      reads_are_told = reads_are_told;
      writes_are_told = writes_are_told;
      headline = λ words o w rise s output files request subject r known a.
          headline laws files o known w rise s output request subject
          (ends words o w rise s output request a r);
    }
