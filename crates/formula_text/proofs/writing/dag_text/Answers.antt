use Rattle.formula_text.proofs.Pushed.{formula_more}
use Rattle.formula_text.proofs.writing.dag_text.Goals as goal

pub loop-k-preserved : goal.loop-k-preserved
loop-k-preserved c =
    formula_more c.args.dag.now c.loop-k.k c.formula.result.now c.loop-k.text.items
    c.push_formula.new.text.items c.formula.ensures.there c.loop-k.invariant
    c.in_ok-push_formula.ensures.line_is_last
