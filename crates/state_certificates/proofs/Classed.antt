-- The classes of states with a formula for each.
--
-- certified      == groups of states by their formulas are a certificate
use Rattle.std.proofs.Common.{◌≡◌, ◌<◌, ℕ, List, length, false, refl, sym, ◌∙◌, ap, subst, inl, inr, true≢false, arith}
use Rattle.std.specs.Prelude.{◌↔◌, slice_index}
use Rattle.std.specs.Option.{option_map_or}
use Rattle.std.proofs.lemmas.Option.{slice_get_cases}
use Rattle.typing.specs.Contents.{Content}
use Rattle.typing.specs.Stable.{AreEquivalent}
use Rattle.formulas.specs.declared.formula.Formula.{Formula}
use Rattle.formulas.specs.Formulas.{IsDag}
use Rattle.formulas.specs.Truth.{holds}
use Rattle.satisfaction.specs.Satisfaction.{layers_of, holds_at, HoldsAt}
use Rattle.formula_builder.specs.Certified.{Certified}
use Rattle.formula_builder.specs.Cited.{IsOnlyCited}
use Rattle.formula_builder.specs.CitedLaws.{CitedFormulasAreNoMore}
use Rattle.state_certificates.specs.Certificates.{formula_of, AreCertificates}
use Rattle.state_certificates.specs.Groups.{group_at, AreGroups}
use Rattle.state_certificates.specs.Classed.{StandsIn, IsCertificate}
use Rattle.state_certificates.proofs.Cut.{kept_at, kept_fit, kept_writable}
use Rattle.state_certificates.proofs.Placed.{contained}

-- a formula holds at states alone
holds_inside :
    (c : Content) (dag : List Formula) (k i : ℕ) → HoldsAt c dag k i → i < length c.values
holds_inside c dag k i h = elim (slice_get_cases c.values i).1 [
  | inl found ↦ found.1
  | inr past ↦
      absurd (true≢false (sym h ∙ ap (λ o. option_map_or
      (λ v. holds (layers_of c.term c.denominator c.values) dag k (0, v)) o false) past.1))
]

module _
    (c : Content) (told : Certified) (are : AreCertificates c told) (keys : List ℕ)
    (of_states : (i : ℕ) → i < length c.values → slice_index keys i ≡ formula_of told i)
    (firsts : List ℕ) (groups : List (List ℕ))
    (grouped : AreGroups keys (length c.values) firsts groups) where
  -- states have one formula exactly where they are equivalent
  one_formula :
      (i j : ℕ) → i < length c.values → j < length c.values →
      (formula_of told i ≡ formula_of told j) ↔ AreEquivalent c.term c.values i j
  one_formula i j hi hj = (
    λ e. (are.exact.exactly i j hi hj).0
        (ap (λ k. holds_at c told.dag k j) e
        ∙ (are.exact.exactly j j hj hj).1 ((are.exact.blocks j j hj hj).0 refl)),
    λ e. ap (slice_index told.blocks) ((are.exact.blocks i j hi hj).1 e),
  )

  -- a state in a group has the group's formula
  key_of :
      (m i : ℕ) → m < length groups → StandsIn groups m i →
      (i < length c.values) × (formula_of told i ≡ slice_index firsts m)
  key_of m i h stands =
      let w = (grouped.exactly m i h).0 stands in (w.0, sym (of_states i w.0) ∙ w.1)

  -- and each state with this formula is there
  of_key :
      (m i : ℕ) → m < length groups → i < length c.values →
      formula_of told i ≡ slice_index firsts m → StandsIn groups m i
  of_key m i h hi e = (grouped.exactly m i h).1 (hi, of_states i hi ∙ e)

  -- the formula of a group is there
  pub key_there : (m : ℕ) → m < length groups → slice_index firsts m < length told.dag
  key_there m h =
      let (i, key) =
      key_of m (slice_index (group_at groups m) 0) h
      (contained (group_at groups m) 0 0 (grouped.in_order.some m h)) in
      subst (λ k. k < length told.dag) key
      (are.exact.there (slice_index (group_at groups m) 0) i)

  shared :
      (m i j : ℕ) → m < length groups → StandsIn groups m i →
      StandsIn groups m j ↔ AreEquivalent c.term c.values i j
  shared m i j h stands =
      let (hi, here) = key_of m i h stands in (
        λ also. let (hj, there) = key_of m j h also in
            (one_formula i j hi hj).0 (here ∙ sym there),
        λ e. of_key m j h e.1 (sym ((one_formula i j hi e.1).1 e) ∙ here),
      )

  module _
      (ordered : IsDag told.dag) (no_more : CitedFormulasAreNoMore) (small : List Formula)
      (new : List ℕ) (cut : IsOnlyCited told.dag firsts small new) where
    wanted : (m : ℕ) → m < length groups → m < length firsts
    wanted m h = omega (arith, h, grouped.one_each)

    -- the formula of a group holds at its states alone
    exactly :
        (m i : ℕ) → m < length groups →
        HoldsAt c small (slice_index new m) i ↔ StandsIn groups m i
    exactly m i h =
        let j : ℕ = slice_index (group_at groups m) 0 in
        let stands : StandsIn groups m j =
        contained (group_at groups m) 0 0 (grouped.in_order.some m h) in
        let (hj, key) = key_of m j h stands in
        let same : holds_at c small (slice_index new m) i
        ≡ holds_at c told.dag (formula_of told j) i =
        kept_at told.dag firsts small new cut c ordered m (wanted m h) i
        ∙ ap (λ k. holds_at c told.dag k i) (sym key) in (
          λ holds. let hi = holds_inside c small (slice_index new m) i holds in
              (shared m j i h stands).1 ((are.exact.exactly j i hj hi).0 (sym same ∙ holds)),
          λ also. let e = (shared m j i h stands).0 also in
              same ∙ (are.exact.exactly j i hj e.1).1 e,
        )

    -- groups of states by their formulas are a certificate
    pub certified : IsCertificate c small new groups
    certified = record {
      each = λ i h.
          let (m, l, e) = grouped.all i h in
          (m, l, of_key m i l h (sym (of_states i h) ∙ sym e));
      once = λ m l i hm hl here there.
          grouped.apart m l hm hl
          (sym (key_of m i hm here).1 ∙ (key_of l i hl there).1);
      shared = shared;
      in_order = grouped.in_order;
      one_each = cut.all_wanted ∙ grouped.one_each;
      there = λ m h. cut.there m (wanted m h);
      exactly = exactly;
      cited = cut.cited;
      ordered = cut.ordered;
      fit = kept_fit told.dag firsts small new cut c.term are.fit;
      writable = kept_writable told.dag firsts small new cut are.writable;
      few = omega (arith, no_more told.dag firsts small new cut, are.few);
    }
