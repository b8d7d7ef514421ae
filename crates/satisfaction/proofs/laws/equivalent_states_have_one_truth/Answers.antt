use Rattle.std.proofs.Common.{sym, ◌∙◌}
use Rattle.satisfaction.proofs.Likeness.{one_truth}
use Rattle.satisfaction.proofs.laws.equivalent_states_have_one_truth.Goals as goal

pub returns-clause-values : goal.returns-clause-values
returns-clause-values c t d values term within dag ordered k h i j alike =
    one_truth t d values term within dag ordered k h i j alike

pub returns-clause-content : goal.returns-clause-content
returns-clause-content c content term within dag ordered k h i j alike =
    let same = one_truth content.term content.denominator content.values term within dag ordered
    k h i j alike in
    (λ e. sym same ∙ e, λ e. same ∙ e)
