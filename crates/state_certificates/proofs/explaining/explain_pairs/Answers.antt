use Rattle.std.proofs.Common.{◌≡◌, ◌<◌, ◌∙◌, ℕ, List, Option, All, length, map, sym, ap, subst}
use Rattle.typing.specs.Contents.{content_of}
use Rattle.formulas.specs.declared.formula.Formula.{Formula}
use Rattle.formulas.specs.Formulas.{IsDag}
use Rattle.formula_builder.specs.Cited.{IsOnlyCited}
use Rattle.state_certificates.specs.Explained.{numbers_in, answer_of, renewed, IsExplanation}
use Rattle.state_certificates.proofs.Pairs.{all_there, explained}
use Rattle.state_certificates.proofs.explaining.explain_pairs.Goals as goal

pub only_cited-requires : goal.only_cited-requires
only_cited-requires c =
    let told = c.args.told.now in
    let wanted : c.as_slice-2.result.now ≡ numbers_in (map (answer_of told) c.args.pairs.now) =
    c.as_slice-2.ensures.value ∙ c.in_ok-wanted.ensures
    ∙ ap numbers_in (c.as_slice.ensures.value ∙ c.in_ok-found.ensures) in
    subst (λ (fs : List Formula). All (λ k. k < length fs) c.as_slice-2.result.now)
    (sym c.dag-dag.ensures)
    (subst (λ ks. All (λ k. k < length told.dag) ks) (sym wanted)
    (all_there (content_of c.args.c.now) told c.requires.told c.args.pairs.now
    c.requires.are_there))

pub returns : goal.returns
returns c =
    let now = c.args.c.now in
    let told = c.args.told.now in
    let pairs = c.args.pairs.now in
    let small = c.in_ok-small.small in
    let new = c.in_ok-small.numbers.items in
    let answers : List (Option ℕ) = map (answer_of told) pairs in
    let wanted : c.as_slice-2.result.now ≡ numbers_in answers =
    c.as_slice-2.ensures.value ∙ c.in_ok-wanted.ensures
    ∙ ap numbers_in (c.as_slice.ensures.value ∙ c.in_ok-found.ensures) in
    let verdicts : c.in_ok-renew.field-0.items ≡ renewed answers new =
    c.in_ok-renew.ensures
    ∙ ap (λ vs. renewed vs c.as_slice-4.result.now)
    (c.as_slice-3.ensures.value ∙ c.in_ok-found.ensures)
    ∙ ap (renewed answers) c.as_slice-4.ensures.value in
    subst (IsExplanation (content_of now) pairs small) (sym verdicts)
    (explained (content_of now) told c.requires.told small
    (subst (λ (fs : List Formula). IsDag fs) c.dag-dag.ensures c.is_dag.ensures.ordered)
    c.cited_formulas_are_old.ensures.no_more pairs c.requires.are_there new
    (subst (λ (fs : List Formula). IsOnlyCited fs (numbers_in answers) small new)
    c.dag-dag.ensures
    (subst (λ ks. IsOnlyCited c.dag-dag.result.now ks small new) wanted c.in_ok-small.ensures)))
