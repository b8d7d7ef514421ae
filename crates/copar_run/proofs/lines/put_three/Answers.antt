use Rattle.std.proofs.Common.{◌∙◌, rules, sym}
use Rattle.copar_run.proofs.Prefixes.{front_then, front_of, whole_then}
use Rattle.copar_run.proofs.lines.put_three.Goals as goal

pub returns-then-not-put_all-clause-front : goal.returns-then-not-put_all-clause-front
returns-then-not-put_all-clause-front g c =
    front_of _ _ _ _ (front_of _ _ c.args.first.now _ c.put_all.ensures.front)

pub returns-then-not-put_all-2-clause-front : goal.returns-then-not-put_all-2-clause-front
returns-then-not-put_all-2-clause-front g c =
    front_of _ _ _ _ (front_then _ _ _ c.args.first.now _ (c.put_all.ensures.whole (search rules))
    c.put_all-2.ensures.front)

pub returns-clause-whole : goal.returns-clause-whole
returns-clause-whole g c quiet =
    whole_then _ _ _ _ _ (whole_then _ _ _ c.args.first.now _
    (c.put_all.ensures.whole (search rules)) (c.put_all-2.ensures.whole (search rules)))
    (c.put_text.ensures.whole (record {
      same = quiet.same
          ∙ sym (c.put_all-2.ensures.success_counts_nothing (search rules)
          ∙ c.put_all.ensures.success_counts_nothing (search rules));
      below = quiet.below;
    }))

pub returns-clause-front : goal.returns-clause-front
returns-clause-front g c =
    front_then _ _ _ _ _ (whole_then _ _ _ c.args.first.now _
    (c.put_all.ensures.whole (search rules)) (c.put_all-2.ensures.whole (search rules)))
    c.put_text.ensures.front
