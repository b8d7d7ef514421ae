use Rattle.std.proofs.Common.{inl, inr}
use Rattle.std.proofs.Common.{⊎_elim}
use Rattle.copar_run.proofs.top.answer.Goals as goal

pub returns-clause-ends : goal.returns-clause-ends
returns-clause-ends g c =
    c.ended.ensures.ends

pub returns-clause-usage : goal.returns-clause-usage
returns-clause-usage g c asks =
    let (rise, output, risen, taken, none, ran) = c.ended.ensures.ends in
    c.runs_end_so.ensures.usage _ _ _ _ _ output asks ran

pub returns-clause-usage_only : goal.returns-clause-usage_only
returns-clause-usage_only g c is =
    let (rise, output, risen, taken, none, ran) = c.ended.ensures.ends in
    c.runs_end_so.ensures.usage_only _ _ _ _ _ output ran is

pub returns-clause-judged : goal.returns-clause-judged
returns-clause-judged g c files request told asks stop =
    let (rise, output, risen, taken, none, ran) = c.ended.ensures.ends in
    c.runs_end_so.ensures.judged _ _ _ _ _ output files request ran told asks stop

pub returns-clause-fault_is_told : goal.returns-clause-fault_is_told
returns-clause-fault_is_told g c files request stage fault told asks reached cause =
    let (rise, output, risen, taken, none, ran) = c.ended.ensures.ends in
    c.runs_end_so.ensures.fault_is_told _ _ _ _ _ output files request stage fault ran told asks
    reached cause

pub returns-clause-read_fault : goal.returns-clause-read_fault
returns-clause-read_fault g c request asks is =
    let (rise, output, risen, taken, none, ran) = c.ended.ensures.ends in
    c.runs_end_so.ensures.read_fault _ _ _ _ _ output request ran asks is

pub returns-clause-reads_are_told : goal.returns-clause-reads_are_told
returns-clause-reads_are_told g c other =
    let (rise, output, risen, taken, none, ran) = c.ended.ensures.ends in
    c.runs_end_so.ensures.reads_are_told _ _ _ _ _ output ran other

pub returns-clause-writes_are_told : goal.returns-clause-writes_are_told
returns-clause-writes_are_told g c other =
    let (rise, output, risen, taken, none, ran) = c.ended.ensures.ends in
    c.runs_end_so.ensures.writes_are_told _ _ _ _ _ output ran other

pub returns-clause-untouched : goal.returns-clause-untouched
returns-clause-untouched g c end other =
    let (rise, output, risen, taken, none, ran) = c.ended.ensures.ends in
    none (c.runs_end_so.ensures.nothing _ _ _ _ _ output ran end other) other

pub returns-clause-headline : goal.returns-clause-headline
returns-clause-headline g c files request subject told asks passes about quiet still =
    let (rise, output, risen, taken, none, ran) = c.ended.ensures.ends in
    ⊎_elim
    (λ wanting. inl wanting)
    (λ done. inr (done.0, (rise, output, risen, done.1, taken)))
    (c.runs_end_so.ensures.headline _ _ _ _ _ output files request subject ran told asks passes
    about quiet still)
