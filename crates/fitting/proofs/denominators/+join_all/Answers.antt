use Rattle.std.proofs.Common.{◌≡◌, ◌≤◌, List, length, sym, ap, ◌∙◌, arith}
use Rattle.fitting.specs.declared.fitted.Fitted.{Fitted}
use Rattle.fitting.specs.declared.fitted.Weight.{Weight}
use Rattle.fitting.specs.Scaling.{denominators}
use Rattle.fitting.specs.Joining.{joined}
use Rattle.fitting.proofs.JoinLoops.{entry_denominators, list_denominators}
use Rattle.fitting.proofs.JoinLaws.{weights-denominators, each-more, each-stops, entry-more, entry-stops, entry-stops-late, entries-end}
use Rattle.fitting.proofs.denominators.+join_all.Goals as goal

pub join_all-returns-in_err-join_all-in-Weights : goal.join_all-returns-in_err-join_all-in-Weights
join_all-returns-in_err-join_all-in-Weights t c =
    let es : List (Fitted × Weight) = c.as_slice-value-items.result.now in
    let all : joined c.args.l (entry_denominators es)
    ≡ joined c.args.l (denominators c.args.fitted.now) =
    ap (joined c.args.l) (sym (weights-denominators c.args.fitted.now es
    c.loop-value.invariant.all)) in
    c.from_residual.ensures
    ∙ sym (entry-stops es c.loop-value.value-index c.loop-value-item.result c.loop-value.so_far
    (joined c.args.l (entry_denominators es)) c.loop-value-test.true c.loop-value-item.is
    c.loop-value.invariant.rest c.in_err-join_all-in-Weights.ensures)
    ∙ all

pub join_all-returns-in_err-so_far-in-Weights : goal.join_all-returns-in_err-so_far-in-Weights
join_all-returns-in_err-so_far-in-Weights t c =
    let es : List (Fitted × Weight) = c.as_slice-value-items.result.now in
    let all : joined c.args.l (entry_denominators es)
    ≡ joined c.args.l (denominators c.args.fitted.now) =
    ap (joined c.args.l) (sym (weights-denominators c.args.fitted.now es
    c.loop-value.invariant.all)) in
    c.from_residual-in_err-so_far-in-Weights.ensures
    ∙ sym (entry-stops-late es c.loop-value.value-index c.loop-value-item.result c.loop-value.so_far
    (joined c.args.l (entry_denominators es)) c.loop-value-test.true c.loop-value-item.is
    c.loop-value.invariant.rest c.in_ok-join_all-in-Weights.field-0
    c.in_ok-join_all-in-Weights.ensures c.in_err-so_far-in-Weights.ensures)
    ∙ all

pub join_all-loop-value-preserved : goal.join_all-loop-value-preserved
join_all-loop-value-preserved t c =
    let es : List (Fitted × Weight) = c.as_slice-value-items.result.now in
    record {
      all = c.loop-value.invariant.all;
      rest =
          entry-more es c.loop-value.value-index c.loop-value-item.result c.loop-value.so_far
          (joined c.args.l (entry_denominators es)) c.loop-value-test.true c.loop-value-item.is
          c.loop-value.invariant.rest c.in_ok-join_all-in-Weights.field-0
          c.in_ok-so_far-in-Weights.so_far c.in_ok-join_all-in-Weights.ensures
          c.in_ok-so_far-in-Weights.ensures;
    }

pub join_all-returns-after-loop-value : goal.join_all-returns-after-loop-value
join_all-returns-after-loop-value t c =
    let es : List (Fitted × Weight) = c.as_slice-value-items.result.now in
    let past : length es ≤ c.loop-value.value-index = omega (arith, c.loop-value-test.false) in
    sym (entries-end es c.loop-value.value-index c.loop-value.so_far
    (joined c.args.l (entry_denominators es)) past c.loop-value.invariant.rest)
    ∙ ap (joined c.args.l) (sym (weights-denominators c.args.fitted.now es
    c.loop-value.invariant.all))

pub join_each-returns-in_err-so_far : goal.join_each-returns-in_err-so_far
join_each-returns-in_err-so_far t c =
    let xs : List Fitted = c.as_slice-value-items.result.now in
    c.from_residual.ensures
    ∙ sym (each-stops xs c.loop-value.value-index c.value-item.result c.loop-value.so_far
    (joined c.args.l (list_denominators c.args.fitted.now)) c.loop-value-test.true c.value-item.is
    c.loop-value.invariant.rest c.in_err-so_far.ensures)

pub join_each-loop-value-preserved : goal.join_each-loop-value-preserved
join_each-loop-value-preserved t c =
    let xs : List Fitted = c.as_slice-value-items.result.now in
    record {
      all = c.loop-value.invariant.all;
      rest =
          each-more xs c.loop-value.value-index c.value-item.result c.loop-value.so_far
          (joined c.args.l (list_denominators c.args.fitted.now)) c.loop-value-test.true
          c.value-item.is c.loop-value.invariant.rest c.in_ok-so_far.so_far c.in_ok-so_far.ensures;
    }
