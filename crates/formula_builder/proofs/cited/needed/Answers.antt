use Rattle.std.proofs.Common.{◌∙◌, subst, arith}
use Rattle.formula_builder.specs.Keeping.{AreClosed}
use Rattle.formula_builder.proofs.Marking.{closed_past}
use Rattle.formula_builder.proofs.cited.needed.Goals as goal

pub loop-below-init : goal.loop-below-init
loop-below-init c = record {
  one_each = c.in_ok-marks.ensures.one_each ∙ c.len-n.ensures;
  wished = c.in_ok-marks.ensures.all;
  reasoned = c.in_ok-marks.ensures.reasoned c.args.dag.now;
  closed = λ k e. subst (λ n. AreClosed c.args.dag.now c.in_ok-marks.marks.items n)
      (omega (arith, e)) (closed_past c.args.dag.now c.in_ok-marks.marks.items);
}

pub loop-below-preserved : goal.loop-below-preserved
loop-below-preserved c = record {
  one_each = c.mark_through.ensures.as_many ∙ c.loop-below.invariant.one_each;
  wished = λ p d h. c.mark_through.ensures.kept _ (c.loop-below.invariant.wished p d h);
  reasoned = c.mark_through.ensures.reasoned c.args.wanted.now c.loop-below.invariant.reasoned;
  closed = λ k e. subst (λ n. AreClosed c.args.dag.now c.mark_through.new.marks.items n)
      (omega (arith, e, c.len-n.ensures, c.loop-below-test.true))
      (c.mark_through.ensures.closed (c.loop-below.invariant.closed _
      (omega (arith, e, c.len-n.ensures, c.loop-below-test.true))));
}

pub returns : goal.returns
returns c = record {
  one_each = c.loop-below.invariant.one_each;
  wanted_marked = c.loop-below.invariant.wished;
  closed = c.loop-below.invariant.closed 0
      (omega (arith, c.len-n.ensures, c.loop-below-test.false));
  reasoned = c.loop-below.invariant.reasoned;
}
