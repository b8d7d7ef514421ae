use Rattle.std.proofs.Common.{◌∙◌, sym, arith}
use Rattle.formula_builder.proofs.Marking.{through_closed, untouched_closed, through_reasoned, marked_from, unmarked_from}
use Rattle.formula_builder.proofs.Renumbered.{cites-more}
use Rattle.formula_builder.proofs.cited.mark_through.Goals as goal

pub mark_cited-requires : goal.mark_cited-requires
mark_cited-requires c =
    cites-more c.formula.result.now c.args.k _
    (omega (arith, c.requires.there, c.requires.one_each))
    (c.is_dag.ensures.ordered c.args.k c.formula.result.now c.formula.ensures.there)

pub returns-then-index-clause-closed : goal.returns-then-index-clause-closed
returns-then-index-clause-closed c =
    through_closed c.args.dag.now c.args.k c.formula.result.now c.args.marks.now.items
    c.mark_cited.new.marks.items c.is_dag.ensures.ordered c.formula.ensures.there
    c.mark_cited.ensures.marked

pub returns-then-index-clause-reasoned : goal.returns-then-index-clause-reasoned
returns-then-index-clause-reasoned c wanted =
    through_reasoned c.args.dag.now c.args.k c.formula.result.now c.args.marks.now.items
    c.mark_cited.new.marks.items wanted c.formula.ensures.there c.mark_cited.ensures.marked
    (marked_from c.args.marks.now.items c.args.k _
    (omega (arith, c.requires.there, c.requires.one_each))
    (sym c.index.ensures ∙ c.if-index.true))

pub returns-else-index-clause-closed : goal.returns-else-index-clause-closed
returns-else-index-clause-closed c =
    untouched_closed c.args.dag.now c.args.k c.args.marks.now.items
    (unmarked_from c.args.marks.now.items c.args.k _ (sym c.index.ensures ∙ c.if-index.false))
