use Rattle.std.proofs.Common.{◌∙◌, ℕ, List, refl, subst, arith}
use Rattle.std.specs.Prelude.{All}
use Rattle.std.proofs.lemmas.List.{take_all}
use Rattle.formula_builder.specs.Keeping.{IsMarked}
use Rattle.formula_builder.proofs.Marking.{wished_all, wished_only}
use Rattle.formula_builder.proofs.cited.wanted_marks.Goals as goal

pub loop-k-preserved : goal.loop-k-preserved
loop-k-preserved c = record {
  one_each = c.mark.ensures.as_many ∙ c.loop-k.invariant.one_each;
  all = wished_all c.args.wanted.now c.loop-k.k-index _ c.loop-k.marks.items
      c.mark.new.marks.items c.loop-k-test.true refl c.mark.ensures.marked
      c.loop-k.invariant.all;
  only = wished_only c.args.wanted.now c.loop-k.k-index _ c.loop-k.marks.items
      c.mark.new.marks.items c.loop-k-test.true refl c.mark.ensures.marked
      c.loop-k.invariant.only;
}

pub returns-clause-all : goal.returns-clause-all
returns-clause-all c =
    subst (λ (ks : List ℕ). All (λ j. IsMarked c.loop-k.marks.items j) ks)
    (take_all c.loop-k.k-index c.args.wanted.now (omega arith)) c.loop-k.invariant.all
