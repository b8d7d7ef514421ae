use Rattle.std.proofs.Common.{◌≡◌, length, subst}
use Rattle.std.proofs.lemmas.Result.{IfOk-weaker}
use Rattle.typing.specs.Contents.{content_of}
use Rattle.copar_run.proofs.BlockLaws.{are_blocks}
use Rattle.copar_run.proofs.SummaryLaws.{is_summary}
use Rattle.copar_run.proofs.outputs.summarised.Goals as goal

pub returns : goal.returns
returns c =
    let is = c.in_ok-firsts in
    let source = content_of c.args.c.now in
    let found = c.args.found.now in
    IfOk-weaker c.trial_summary.result _ _
    (λ output text. is_summary c.args.kind source is.firsts.items found.system.store.states
    (length found.system.store.edges) found.refined.labels
    (are_blocks source is.firsts.items is.ensures.stable is.ensures.coarsest is.ensures.first)
    c.requires.found.counted c.as_slice.result.now c.sorted.result c.len.result
    c.labels-labels.result
    c.as_slice.ensures.value c.sorted.ensures.count
    (subst (λ s. c.len.result ≡ length s.edges) c.store-store.ensures.store c.len.ensures.edges)
    c.labels-labels.ensures
    output.items text)
    c.trial_summary.ensures.lines
