use Rattle.std.proofs.Common.{◌∙◌, sym}
use Rattle.answer_checker.specs.BadLines.{is_state}
use Rattle.answer_checker.proofs.LeastLines.{all_false, all_true}
use Rattle.answer_checker.proofs.bad_lines.are_states.Goals as goal

pub returns-then-not-is_state : goal.returns-then-not-is_state
returns-then-not-is_state c =
    sym (c.loop-word.invariant
    ∙ all_false (is_state c.args.names.now) (λ word. word.now) c.args.words.now
    c.loop-word.word-index _ c.loop-word-test.true
    (sym c.is_state.ensures ∙ c.if-not-is_state.true))

pub loop-word-preserved : goal.loop-word-preserved
loop-word-preserved c =
    c.loop-word.invariant
    ∙ all_true (is_state c.args.names.now) (λ word. word.now) c.args.words.now
    c.loop-word.word-index _ c.loop-word-test.true
    (sym c.is_state.ensures ∙ c.if-not-is_state.false)
