use Rattle.std.proofs.Common.{◌≡◌, ◌⊎◌, ◌<◌, [], ◌∷◌, length, map, refl, sym, ap, subst}
use Rattle.std.specs.List.{All}
use Rattle.command_line.specs.Asked.{denoted_task}
use Rattle.command_line.specs.Requests.{Request, Task}
use Rattle.typing.specs.Contents.{content_of}
use Rattle.copar_run.specs.declared.status.Status.TheVariants.{Done, NoMemory}
use Rattle.copar_run.specs.Outputs.{Subject}
use Rattle.copar_run.specs.Named.{AreNumbers}
use Rattle.copar_run.specs.Lines.{told_line}
use Rattle.copar_run.specs.Standing.{IsHalted, IsMade, IsStrange}
use Rattle.copar_run.specs.Outcome.{Stage, later_stages, met}
use Rattle.copar_run.proofs.Making.{found, halt-at-finding, about-one, make, make-of-one}
use Rattle.copar_run.proofs.Finding.{are-named}
use Rattle.copar_run.proofs.AnswerLaws.{numbers-named}
use Rattle.copar_run.proofs.answering.answer_of.Goals as goal

pub returns-in_ok-blocks_output-in-Blocks-clause-made :
    goal.returns-in_ok-blocks_output-in-Blocks-clause-made
returns-in_ok-blocks_output-in-Blocks-clause-made g c =
    let faults = g.F.Folder.faults c.args.folder.now in
    let (rise, risen, prints) = c.in_ok-blocks_output-in-Blocks.ensures.prints in (
      rise,
      risen,
      make-of-one (met (g.F.Folder.files c.args.folder.now) faults faults) c.args.file.now
          (content_of c.args.c.now) c.requires.read (denoted_task c.args.task.now)
          (Task.Blocks c.in-Blocks.stats) (ap denoted_task c.in-Blocks.is) refl (λ files is. is)
          refl rise c.in_ok-blocks_output-in-Blocks.field-0.items prints (λ name. refl) _ _
          c.done.ensures.done c.done.ensures.same,
    )

pub returns-in_ok-minimal_output-in-Minimise-clause-made :
    goal.returns-in_ok-minimal_output-in-Minimise-clause-made
returns-in_ok-minimal_output-in-Minimise-clause-made g c =
    let faults = g.F.Folder.faults c.args.folder.now in
    let (rise, risen, prints) = c.in_ok-minimal_output-in-Minimise.ensures.prints in (
      rise,
      risen,
      make-of-one (met (g.F.Folder.files c.args.folder.now) faults faults) c.args.file.now
          (content_of c.args.c.now) c.requires.read (denoted_task c.args.task.now)
          (Task.Minimise c.in-Minimise.stats) (ap denoted_task c.in-Minimise.is) refl
          (λ files is. is) refl rise c.in_ok-minimal_output-in-Minimise.field-0.items prints
          (λ name. refl) _ _ c.done-in-Minimise.ensures.done c.done-in-Minimise.ensures.same,
    )

pub returns-in_ok-certified_output-in-Certify-clause-made :
    goal.returns-in_ok-certified_output-in-Certify-clause-made
returns-in_ok-certified_output-in-Certify-clause-made g c =
    let faults = g.F.Folder.faults c.args.folder.now in
    let (rise, risen, prints) = c.in_ok-certified_output-in-Certify.ensures.prints in (
      rise,
      risen,
      make-of-one (met (g.F.Folder.files c.args.folder.now) faults faults) c.args.file.now
          (content_of c.args.c.now) c.requires.read (denoted_task c.args.task.now)
          (Task.Certify c.in-Certify.stats) (ap denoted_task c.in-Certify.is) refl (λ files is. is)
          refl rise c.in_ok-certified_output-in-Certify.field-0.items prints (λ name. refl) _ _
          c.done-in-Certify.ensures.done c.done-in-Certify.ensures.same,
    )

pub returns-in-Err-clause-halted : goal.returns-in-Err-clause-halted
returns-in-Err-clause-halted g c =
    let files = g.F.Folder.files c.args.folder.now in
    let o = met files (g.F.Folder.faults c.args.folder.now)
    (g.F.Folder.faults c.args.folder.now) in
    let source = content_of c.args.c.now in
    let file = c.args.file.now in
    let words = map (λ word. word.now) c.in-Explain.states.items in
    let task = Task.Explain words c.in-Explain.stats in
    let request = Request.OnFile file task in
    let same : denoted_task c.args.task.now ≡ task = ap denoted_task c.in-Explain.is in
    let s = c.in-Err.ended.status in
    let word = c.in-Err.ended.word.now in
    subst (λ t. IsHalted (later_stages file t) o s (told_line s word)) (sym same)
    (halt-at-finding o file source c.requires.read 0 words [] s word
    (subst (λ ws. (s ≡ NoMemory) ⊎ IsStrange source.names (map (λ w. w.now) ws) 0 s word)
    c.as_slice.ensures.value c.in-Err.ensures.strange)
    (λ name. refl))

pub explained_output-requires-clause-named : goal.explained_output-requires-clause-named
explained_output-requires-clause-named g c =
    let names = c.args.c.now.names in
    subst (λ is. All (λ i. i < length names) is) (sym c.as_slice-in-Explain.ensures.value)
    (numbers-named names (map (λ w. w.now) c.as_slice.result.now) c.in-Ok.numbers.items
    c.in-Ok.ensures.found)

pub returns-in_ok-text-in-Explain-clause-made : goal.returns-in_ok-text-in-Explain-clause-made
returns-in_ok-text-in-Explain-clause-made g c =
    let files = g.F.Folder.files c.args.folder.now in
    let o = met files (g.F.Folder.faults c.args.folder.now)
    (g.F.Folder.faults c.args.folder.now) in
    let source = content_of c.args.c.now in
    let file = c.args.file.now in
    let words = map (λ word. word.now) c.in-Explain.states.items in
    let task = Task.Explain words c.in-Explain.stats in
    let request = Request.OnFile file task in
    let same : denoted_task c.args.task.now ≡ task = ap denoted_task c.in-Explain.is in
    let numbered : AreNumbers source.names words c.in-Ok.numbers.items =
    subst (λ ws. AreNumbers source.names (map (λ w. w.now) ws) c.in-Ok.numbers.items)
    c.as_slice.ensures.value c.in-Ok.ensures.found in
    let (rise, risen, told) = c.in_ok-text-in-Explain.ensures.prints in (
      rise,
      risen,
      subst (λ t. IsMade (Request.OnFile file t) (later_stages file t) o rise
          c.done-in-Explain.result.status
          c.done-in-Explain.result.text.items) (sym same)
          (make o request (Stage.FindStates file 0 words ∷ []) (Subject.One source) rise Done
          c.in_ok-text-in-Explain.text.items (
            found o file source c.requires.read 0 words
                (are-named source.names words c.in-Ok.numbers.items numbered),
            tt,
          )
          (about-one o file source c.requires.read request (λ fs is. is)) refl
          (told words (subst (λ is. AreNumbers source.names words is)
          (sym c.as_slice-in-Explain.ensures.value) numbered))
          (λ name. refl) _ _ c.done-in-Explain.ensures.done c.done-in-Explain.ensures.same),
    )
