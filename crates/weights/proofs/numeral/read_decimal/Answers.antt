use Rattle.std.proofs.Common.{◌^◌, length, ◌∙◌, sym, arith}
use Rattle.std.proofs.Math.Nat.{one-le-pow}
use Rattle.weights.proofs.Forms.{all_kept, bounded_positive, whole_with_fraction}
use Rattle.weights.proofs.numeral.read_decimal.Goals as goal

pub joined_within-requires-clause-fraction : goal.joined_within-requires-clause-fraction
joined_within-requires-clause-fraction c =
    rw c.without_end_zeros-kept.ensures.value
    (all_kept c.args.fraction_digits.now (sym c.is_digits-2.ensures.value
    ∙ c.if-not-is_digits-2.false))

pub fraction-requires-clause-below : goal.fraction-requires-clause-below
fraction-requires-clause-below c =
    bounded_positive (10 ^ length c.without_end_zeros-kept.result.now) c.power_within.result
    (one-le-pow (length c.without_end_zeros-kept.result.now) 10 (omega arith))
    c.power_within.ensures.value

pub returns : goal.returns
returns c =
    record {
      value =
          c.fraction.ensures.value
          ∙ rw (
            c.joined_within.ensures.value,
            c.power_within.ensures.value,
            c.without_end_zeros-kept.ensures.value,
          )
          (whole_with_fraction c.args.negative c.args.whole.now c.args.fraction_digits.now
          (sym c.is_digits.ensures.value ∙ c.if-not-is_digits.false)
          (sym c.is_digits-2.ensures.value ∙ c.if-not-is_digits-2.false));
    }
