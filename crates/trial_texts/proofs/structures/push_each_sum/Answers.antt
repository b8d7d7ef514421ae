use Rattle.std.proofs.Common.{◌++◌, ◌*◌, ap, ◌∙◌}
use Rattle.trial_texts.specs.Draws.{number}
use Rattle.trial_texts.specs.Text.{sum_text}
use Rattle.trial_texts.proofs.EntryLaws.{entries, none-less, entry-more, entries-done, two-less, draws-done}
use Rattle.trial_texts.proofs.structures.push_each_sum.Goals as goal

pub loop-i-init : goal.loop-i-init
loop-i-init c = record {
  text =
      ap (λ n. c.args.text.now.items ++ entries sum_text c.args.size 7 n c.args.draws.now.number)
      (none-less c.args.count);
  draws = ap (λ n. number (2 * n) c.args.draws.now.number) (none-less c.args.count);
}

pub loop-i-preserved : goal.loop-i-preserved
loop-i-preserved c = record {
  text =
      entry-more sum_text c.args.size 7 c.args.count c.loop-i.i c.loop-i.draws.number
      c.pair-target.new.self.number c.pair-target.result.0 c.pair-target.result.1
      c.loop-i.text.items c.push_sum.new.text.items c.push_between.new.text.items
      c.loop-i-test.true c.pair-target.ensures.first c.pair-target.ensures.second
      c.pair-target.ensures.number c.in_ok-push_sum.ensures c.in_ok-push_between.ensures
      ∙ c.loop-i.invariant.text;
  draws =
      two-less c.args.count c.loop-i.i c.loop-i.draws.number c.pair-target.new.self.number
      c.loop-i-test.true c.pair-target.ensures.number
      ∙ c.loop-i.invariant.draws;
}

pub returns-clause-text : goal.returns-clause-text
returns-clause-text c =
    entries-done sum_text c.args.size 7 c.args.count c.loop-i.i c.loop-i.draws.number
    c.loop-i.text.items
    _ c.loop-i-test.false c.loop-i.invariant.text

pub returns-clause-draws : goal.returns-clause-draws
returns-clause-draws c =
    draws-done c.args.count c.loop-i.i c.loop-i.draws.number _ c.loop-i-test.false
    c.loop-i.invariant.draws
