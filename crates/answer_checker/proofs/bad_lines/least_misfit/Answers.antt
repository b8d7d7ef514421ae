use Rattle.std.proofs.Common.{◌≡◌, ℕ, ◌+◌, ◌<◌, List, length, get_or, drop, sym, ap, ◌∙◌, arith, not, true, false}
use Rattle.std.specs.Prelude.{Option}
use Rattle.std.proofs.lemmas.List.{get_or_default}
use Rattle.std.proofs.lemmas.Option.{slice_get_within, get_or_from_slice_get}
use Rattle.formulas.specs.declared.formula.Formula.{Formula}
use Rattle.satisfaction.specs.Modalities.{fits_term}
use Rattle.answer_checker.specs.BadLines.{lesser, if_passed}
use Rattle.answer_checker.specs.LineSteps.{least_of_formulas}
use Rattle.answer_checker.proofs.LeastLines.{lesser-none, least_more, misfit_here}
use Rattle.answer_checker.proofs.bad_lines.least_misfit.Goals as goal
use Rattle.answer_checker.proofs.bad_lines.least_misfit.Goals.{then-not-fits_modality, else-not-fits_modality}

pub loop-k-preserved : goal.loop-k-preserved
loop-k-preserved c =
    let t = c.args.term.now in
    let fs : List Formula = c.args.dag.now in
    let lines : List ℕ = c.args.lines.now in
    let k : ℕ = c.loop-k.k in
    let f : Formula = c.formula.result.now in
    let n : ℕ = get_or lines k 0 in
    let in_fs : k < length fs = slice_get_within fs k f c.formula.ensures.there in
    let in_lines : k < length lines = omega (arith, c.requires.one_each, in_fs) in
    let here : Option ℕ = if_passed (not (fits_term t f)) n in
    let rest : Option ℕ = least_of_formulas t (drop (k + 1) fs) (drop (k + 1) lines) in
    let all : Option ℕ = least_of_formulas t fs lines in
    let so_far : lesser c.loop-k.least (lesser here rest) ≡ all =
    ap (lesser c.loop-k.least)
    (sym (misfit_here t fs lines k f n in_fs in_lines
    (get_or_from_slice_get fs k f f c.formula.ensures.there) (get_or_default lines k n 0 in_lines)))
    ∙ c.loop-k.invariant in
    elim c.if-not-fits_modality.branch [
      | then-not-fits_modality w ↦
          let is : fits_term t f ≡ false =
          sym c.fits_modality.ensures ∙ w.if-not-fits_modality.true in
          least_more c.loop-k.least here c.if-not-fits_modality.least rest all
          (w.least-is ∙ w.lesser-least.ensures
          ∙ ap (λ o. lesser c.loop-k.least (if_passed (not o) n)) (sym is)) so_far
      | else-not-fits_modality w ↦
          let is : fits_term t f ≡ true =
          sym c.fits_modality.ensures ∙ w.if-not-fits_modality.false in
          least_more c.loop-k.least here c.if-not-fits_modality.least rest all
          (w.least-is ∙ sym (lesser-none c.loop-k.least)
          ∙ ap (λ o. lesser c.loop-k.least (if_passed (not o) n)) (sym is)) so_far
    ]
