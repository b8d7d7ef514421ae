use Rattle.std.proofs.Common.{Vec, Global, ◌≡◌, ◌<◌, ◌∙◌, ℕ, List, All, length, map, sym, ap, subst, arith}
use Rattle.std.specs.Prelude.{slice_index}
use Rattle.std.proofs.lemmas.Grind.{get_or_default_zero}
use Rattle.typing.specs.Contents.{content_of}
use Rattle.formulas.specs.declared.formula.Formula.{Formula}
use Rattle.formulas.specs.Formulas.{IsDag}
use Rattle.formula_builder.specs.Cited.{IsOnlyCited}
use Rattle.state_certificates.specs.Groups.{AreGroups}
use Rattle.state_certificates.proofs.Classed.{key_there, certified}
use Rattle.state_certificates.proofs.certificate.certify_classes.Goals as goal

-- what is so of each number of a list, read past its end too
below_all :
    (xs : List ℕ) (n : ℕ) → ((k : ℕ) → k < length xs → slice_index xs k < n) → All (λ x. x < n) xs
below_all xs n each k d h = omega (arith, each k h, get_or_default_zero xs k d h)

pub only_cited-requires : goal.only_cited-requires
only_cited-requires c =
    let now = c.args.c.now in
    let told = c.args.told.now in
    let keys = c.as_slice.result.now in
    let firsts = c.in_ok-keys-2.field-0.keys.items in
    let groups = map (λ (v : Vec ℕ Global). v.items) c.in_ok-keys-2.field-0.places.items in
    let count : length keys ≡ length now.values.items =
    omega (
      arith,
      ap (λ (ns : List ℕ). length ns) c.as_slice.ensures.value,
      c.in_ok-keys.ensures.one_each,
      c.len.ensures,
      now.one_each,
    ) in
    let grouped : AreGroups keys (length now.values.items) firsts groups =
    subst (λ n. AreGroups keys n firsts groups) count c.in_ok-keys-2.ensures in
    let below : All (λ k. k < length told.dag) firsts =
    below_all firsts (length told.dag) (λ m h.
    key_there (content_of now) told c.requires.told keys
    (λ i hi. ap (λ (ns : List ℕ). slice_index ns i) c.as_slice.ensures.value
    ∙ c.in_ok-keys.ensures.of_blocks i (omega (arith, hi, c.len.ensures, now.one_each)))
    firsts groups grouped m (omega (arith, h, grouped.one_each))) in
    subst (λ (fs : List Formula). All (λ k. k < length fs) c.as_slice-2.result.now)
    (sym c.dag-dag.ensures)
    (subst (λ ks. All (λ k. k < length told.dag) ks) (sym c.as_slice-2.ensures.value) below)

pub returns : goal.returns
returns c =
    let now = c.args.c.now in
    let told = c.args.told.now in
    let keys = c.as_slice.result.now in
    let firsts = c.in_ok-keys-2.field-0.keys.items in
    let groups = map (λ (v : Vec ℕ Global). v.items) c.in_ok-keys-2.field-0.places.items in
    let small = c.in_ok-small.small in
    let new = c.in_ok-small.formulas.items in
    let count : length keys ≡ length now.values.items =
    omega (
      arith,
      ap (λ (ns : List ℕ). length ns) c.as_slice.ensures.value,
      c.in_ok-keys.ensures.one_each,
      c.len.ensures,
      now.one_each,
    ) in
    certified (content_of now) told c.requires.told keys
    (λ i hi. ap (λ (ns : List ℕ). slice_index ns i) c.as_slice.ensures.value
    ∙ c.in_ok-keys.ensures.of_blocks i (omega (arith, hi, c.len.ensures, now.one_each)))
    firsts groups (subst (λ n. AreGroups keys n firsts groups) count c.in_ok-keys-2.ensures)
    (subst (λ (fs : List Formula). IsDag fs) c.dag-dag.ensures c.is_dag.ensures.ordered)
    c.cited_formulas_are_old.ensures.no_more small new
    (subst (λ (fs : List Formula). IsOnlyCited fs firsts small new) c.dag-dag.ensures
    (subst (λ ks. IsOnlyCited c.dag-dag.result.now ks small new) c.as_slice-2.ensures.value
    c.in_ok-small.ensures))
