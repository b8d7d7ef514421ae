use Rattle.std.proofs.Common.{◌≡◌, [], refl, sym, ap, subst}
use Rattle.command_line.specs.Asked.{denoted}
use Rattle.command_line.specs.Requests.{Request}
use Rattle.copar_run.specs.declared.status.Status.TheVariants.{Done}
use Rattle.copar_run.specs.Standing.{IsMade}
use Rattle.copar_run.specs.Outputs.{Subject}
use Rattle.copar_run.specs.Outcome.{IsSubject, stages_of, met}
use Rattle.copar_run.proofs.Making.{if-any, make}
use Rattle.copar_run.proofs.top.output_over.Goals as goal

pub returns-in-Ok-clause-made : goal.returns-in-Ok-clause-made
returns-in-Ok-clause-made g c =
    let files = g.F.Folder.files c.args.folder.now in
    let o = met files (g.F.Folder.faults c.args.folder.now)
    (g.F.Folder.faults c.args.folder.now) in
    let request = Request.Trial c.in-Trial.kind c.in-Trial.seed c.in-Trial.size in
    let same : denoted c.args.request.now ≡ request = ap denoted c.in-Trial.is in
    let (rise, risen, (source, reads, counted, summary)) = c.in-Ok.ensures.prints in (
      rise,
      risen,
      subst (λ r. IsMade r (stages_of r) o rise c.done.result.status c.done.result.text.items)
          (sym same)
          (make o request [] (Subject.One source) rise Done c.in-Ok.text.items tt
          (if-any (λ fs. IsSubject fs request (Subject.One source)) files
          (λ fs. (source, refl, reads)))
          refl (counted, summary) (λ name. refl) _ _ c.done.ensures.done c.done.ensures.same),
    )
