use Rattle.std.proofs.Common.{◌≡◌, ◌==◌, length, Ok, Err, refl, subst}
use Rattle.std.proofs.lemmas.Result.{IfOk-weaker}
use Rattle.fitting.specs.declared.fault.FitFault.{FitFault}
use Rattle.fitting.specs.declared.fitted.Fitted.{Fitted}
use Rattle.fitting.specs.Fitting.{Gives, fitting}
use Rattle.structure_parser.specs.Reading.{row_fit}
use Rattle.structure_parser.proofs.StageLaws.{row-fitting}
use Rattle.structure_parser.proofs.stage.with_row.Goals as goal

pub returns-in-Ok : goal.returns-in-Ok
returns-in-Ok c =
    let fit : row_fit c.args.term.now c.args.names.now (c.args.so_far.fresh == 0) c.args.tree.now
    ≡ Ok c.in-Ok.fitted = c.in-Ok.ensures.exact in
    let fits : fitting c.args.term.now c.args.names.now 0 c.args.tree.now ≡ Ok c.in-Ok.fitted =
    row-fitting c.args.term.now c.args.names.now (c.args.so_far.fresh == 0) c.args.tree.now
    c.in-Ok.fitted fit in
    record {
      told =
          IfOk-weaker c.with_fitted.result _ _
          (λ new h head rest. h c.args.term.now c.args.names.now head c.args.tree.now rest fit)
          c.with_fitted.ensures.told;
      sound =
          IfOk-weaker c.with_fitted.result _ _
          (λ new h. h c.args.term.now (length c.args.names.now)
          (c.args.names.now, c.args.tree.now, refl, fits)
          (c.requires.short c.in-Ok.fitted fits) c.requires.sound)
          c.with_fitted.ensures.sound;
    }

pub returns-in-Err-Misfit : goal.returns-in-Err-Misfit
returns-in-Err-Misfit c =
    let fit : row_fit c.args.term.now c.args.names.now (c.args.so_far.fresh == 0) c.args.tree.now
    ≡ Err c.in-Err-Misfit.kind =
    subst (λ (fault : FitFault). Gives {A = Fitted} (Err fault) (row_fit c.args.term.now
    c.args.names.now (c.args.so_far.fresh == 0) c.args.tree.now))
    c.in-Err-Misfit.field-0-is c.in-Err-Misfit.ensures.exact in
    record {
      told =
          (λ head rest. c.with_misfit.ensures.told c.args.term.now c.args.names.now head
          c.args.tree.now rest fit);
      sound =
          c.with_misfit.ensures.sound c.args.term.now (length c.args.names.now) c.requires.sound;
    }
