use Rattle.std.proofs.Common.{[], ◌∷◌, List, subst, true≢false}
use Rattle.typing.specs.Contents.{content_of}
use Rattle.formulas.specs.declared.formula.Formula.{Formula}
use Rattle.formulas.specs.Formulas.{IsDag}
use Rattle.formula_builder.specs.Cited.{IsOnlyCited}
use Rattle.state_certificates.proofs.Separations.{separates}
use Rattle.state_certificates.proofs.Cut.{kept_fit}
use Rattle.state_certificates.proofs.separating.separating_formula.Goals as goal

pub returns-in_ok-cut_out-in-Some-clause-apart : goal.returns-in_ok-cut_out-in-Some-clause-apart
returns-in_ok-cut_out-in-Some-clause-apart c =
    let s = c.in_ok-cut_out-in-Some.field-0 in
    separates (content_of c.args.c.now) c.args.told.now c.requires.told
    (subst (λ (fs : List Formula). IsDag fs) c.dag-dag.ensures c.is_dag.ensures.ordered)
    c.args.i c.args.j c.requires.i_is_there c.requires.j_is_there
    (λ e. true≢false (c.in-Some.ensures.none.1 e))
    c.in-Some.k c.in-Some.ensures.formula s.dag s.formula
    (subst (λ (fs : List Formula). IsOnlyCited fs (c.in-Some.k ∷ []) s.dag (s.formula ∷ []))
    c.dag-dag.ensures c.in_ok-cut_out-in-Some.ensures)

pub returns-in_ok-cut_out-in-Some-clause-fit : goal.returns-in_ok-cut_out-in-Some-clause-fit
returns-in_ok-cut_out-in-Some-clause-fit c =
    let s = c.in_ok-cut_out-in-Some.field-0 in
    kept_fit c.args.told.now.dag (c.in-Some.k ∷ []) s.dag (s.formula ∷ [])
    (subst (λ (fs : List Formula). IsOnlyCited fs (c.in-Some.k ∷ []) s.dag (s.formula ∷ []))
    c.dag-dag.ensures c.in_ok-cut_out-in-Some.ensures) c.args.c.now.term
