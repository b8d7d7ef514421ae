use Rattle.std.proofs.Common.{sym, ap, ◌∙◌, true≢false}
use Rattle.modalities.specs.declared.three.Three.{Three}
use Rattle.modalities.specs.Order.{sums_of}
use Rattle.formula_checker.specs.LayerValues.{weights_of}
use Rattle.evaluation.proofs.ValueTests.{other_value}
use Rattle.evaluation.proofs.weighing.has_weights.Goals.{then-has_weight, else-has_weight}
use Rattle.evaluation.proofs.weighing.has_weights.Goals as goal

pub returns-else-has_weight-2 : goal.returns-else-has_weight-2
returns-else-has_weight-2 c m =
    let made = weights_of m c.args.denominator c.args.entries.now c.args.trits.now in
    let fails = c.if-has_weight-2.false in
    elim c.if-has_weight.branch [
      | then-has_weight w ↦
          fails ∙ sym (other_value made c.args.value.now (λ e.
          let one = ap (λ (v : Three). (sums_of v).at_one) (e ∙ c.in-Triple.is)
          ∙ sym (ap (λ s. s.at_one) c.get-sums.ensures) in
          true≢false (sym (w.has_weight-then-has_weight.ensures.1 one) ∙ sym w.value-is ∙ fails)))
      | else-has_weight w ↦
          fails ∙ sym (other_value made c.args.value.now (λ e.
          let two = ap (λ (v : Three). (sums_of v).at_two) (e ∙ c.in-Triple.is)
          ∙ sym (ap (λ s. s.at_two) c.get-sums.ensures) in
          true≢false (sym (c.has_weight.ensures.1 two) ∙ sym w.value-is ∙ fails)))
    ]
