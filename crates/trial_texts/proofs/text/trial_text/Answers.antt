use Rattle.std.proofs.Common.{◌++◌, ap, ◌∙◌}
use Rattle.std.specs.Prelude.{codes}
use Rattle.trial_texts.specs.Structures.{structures}
use Rattle.trial_texts.specs.Text.{functor_text, lines_text, text_of_trial}
use Rattle.trial_texts.proofs.EntryLaws.{none-less, lines_left, line-more, lines-done}
use Rattle.trial_texts.proofs.text.trial_text.Goals as goal

pub loop-state-init : goal.loop-state-init
loop-state-init c =
    ap (λ t. t ++ lines_left c.args.kind c.args.size 0 c.args.seed)
    (c.in_ok-push_functor.ensures
    ∙ ap (λ t. t ++ (functor_text c.args.kind ++ codes "\n")) c.new-text.ensures.items)
    ∙ ap (λ n. (functor_text c.args.kind ++ codes "\n")
    ++ lines_text 0 (structures c.args.kind c.args.size n c.args.seed)) (none-less c.args.size)

pub loop-state-preserved : goal.loop-state-preserved
loop-state-preserved c =
    line-more c.args.kind c.args.size c.loop-state.state c.loop-state.draws.number
    c.push_line.new.draws.number c.loop-state.text.items c.push_line.new.text.items
    c.loop-state-test.true c.in_ok-push_line.ensures.draws c.in_ok-push_line.ensures.line
    ∙ c.loop-state.invariant

pub returns : goal.returns
returns c = record {
  text =
      lines-done c.args.kind c.args.size c.loop-state.state c.loop-state.draws.number
      c.loop-state.text.items (text_of_trial c.args.kind c.args.seed c.args.size)
      c.loop-state-test.false c.loop-state.invariant;
}
