use Rattle.std.proofs.Common.{◌∙◌, ap}
use Rattle.std.specs.Prelude.{slice_index}
use Rattle.formulas.specs.Truth.{holds}
use Rattle.formula_builder.proofs.Renumbered.{kept_truth}
use Rattle.formula_builder.proofs.laws.cited_formulas_keep_their_truths.Goals as goal

pub returns : goal.returns
returns g c w dag wanted small new ordered is i h x =
    kept_truth w dag small (slice_index is.old) ordered is.ordered is.same (slice_index new i)
    (is.there i h) x
    ∙ ap (λ k. holds w dag k x) (is.are_wanted i h)
