use Rattle.std.proofs.Common.{rules}
use Rattle.std.specs.Prelude.{codes}
use Rattle.functor_terms.proofs.TextSteps.{join-turn}
use Rattle.functor_terms.proofs.text.push_words.Goals as goal

pub loop-i-preserved : goal.loop-i-preserved
loop-i-preserved c =
    join-turn (λ word. word) (codes ",") c.args.words.now c.loop-i.i c.word.result.now
    c.args.text.now.items c.loop-i.text.items c.push_before.new.text.items
    c.extend_from_slice.new.self.items
    c.word.ensures c.loop-i.invariant (search rules) (search rules)
