use Rattle.std.proofs.Common.{◌∙◌, ap, sym}
use Rattle.command_line.specs.Requests.{request_in}
use Rattle.command_line.proofs.Drawable.{asked_drawable}
use Rattle.command_line.proofs.request.asked_by.Goals as goal

pub returns-in-Ok-clause-drawable : goal.returns-in-Ok-clause-drawable
returns-in-Ok-clause-drawable c =
    asked_drawable c.args.words.now c.request_of.result
    (c.request_of.ensures ∙ sym (ap request_in c.in-Ok.ensures.taken))
