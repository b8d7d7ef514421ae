use Rattle.std.proofs.Common.{rules, ◌≡◌, ◌++◌, ap, ◌∙◌}
use Rattle.std.specs.Prelude.{codes}
use Rattle.trial_texts.proofs.EntryLaws.{chances-put}
use Rattle.trial_texts.proofs.structures.push_chances.Goals as goal

pub returns-clause-text : goal.returns-clause-text
returns-clause-text c =
    let end : c.as_slice.result.now ≡ codes "})" = search rules in
    chances-put c.args.text.now.items c.push_mark.new.text.items c.push_both.new.text.items
    c.extend_from_slice.new.self.items c.args.size c.args.draws.now.number
    c.push_mark.new.draws.number c.pair-first.new.self.number c.pair-first.result.0
    c.pair-first.result.1 c.below-eighths.result c.in_ok-push_mark.ensures.text
    c.in_ok-push_mark.ensures.draws c.pair-first.ensures.first c.pair-first.ensures.second
    c.pair-first.ensures.number c.below-eighths.ensures.drawn c.in_ok-push_both.ensures
    (c.in_ok-extend_from_slice.ensures.items ∙ ap (λ s. c.push_both.new.text.items ++ s) end)
