use Rattle.std.proofs.Common.{◌≡◌, ◌∙◌, ap₂, rules, codes, true}
use Rattle.std.proofs.lemmas.Result.{IfOk-weaker}
use Rattle.clap.specs.Words.{app_of, new_app, with_rule}
use Rattle.clap.specs.Simple.{on_top}
use Rattle.command_line.proofs.parts.command.Goals as goal

pub returns : goal.returns
returns c =
    let named : app_of c.after_help.result
    ≡ on_top (λ s. record s { no_binary_name = true; has_version = true })
    (new_app (codes "copar")) = search rules in
    let first = c.in_ok-arg.ensures.shape c.action.ensures.local
    ∙ ap₂ with_rule named c.action.ensures.rule in
    let second = c.in_ok-arg-2.ensures.shape c.file.ensures.local
    ∙ ap₂ with_rule first c.file.ensures.rule in
    let third = c.in_ok-arg-3.ensures.shape c.rest.ensures.local
    ∙ ap₂ with_rule second c.rest.ensures.rule in
    IfOk-weaker c.arg-4.result _ _
    (λ m h. h.shape c.stats.ensures.local ∙ ap₂ with_rule third c.stats.ensures.rule)
    c.arg-4.ensures
