use Rattle.std.proofs.Common.{length, subst, sym, arith}
use Rattle.answer_checker.specs.Steps.{IsNotOnce}
use Rattle.answer_checker.specs.declared.verdict.Reason.TheVariants.{Missing, Twice}
use Rattle.answer_checker.proofs.Placed.{once_more, is_missing, is_twice}
use Rattle.answer_checker.proofs.places.first_not_once.Goals as goal

pub returns-in-Nowhere-clause-reason : goal.returns-in-Nowhere-clause-reason
returns-in-Nowhere-clause-reason c lines are =
    subst (λ i. IsNotOnce (length c.args.places.now) lines (Missing i))
    (sym c.loop-place.invariant.count)
    (is_missing c.args.places.now c.loop-place.place-index c.loop-place-test.true lines are
    c.in-Nowhere.is (c.loop-place.invariant.once lines are))

pub returns-in-Again-clause-reason : goal.returns-in-Again-clause-reason
returns-in-Again-clause-reason c lines are =
    subst (λ i. IsNotOnce (length c.args.places.now) lines (Twice i))
    (sym c.loop-place.invariant.count)
    (is_twice c.args.places.now c.loop-place.place-index c.loop-place-test.true lines are
    c.in-Again.is (c.loop-place.invariant.once lines are))

pub loop-place-preserved : goal.loop-place-preserved
loop-place-preserved c =
    record {
      count = omega (arith, c.loop-place.invariant.count);
      once = λ lines are.
          once_more c.args.places.now c.loop-place.place-index c.loop-place-test.true lines are
          c.in-In.field-0 c.in-In.is (c.loop-place.invariant.once lines are);
    }
