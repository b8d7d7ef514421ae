-- The quotient by equivalence has no two equivalent states, is read back, and is its own quotient.
use Rattle.std.proofs.Common.{◌≡◌, ℕ, List, [], ◌∷◌, length, map, refl, ap, sym, subst, ◌∙◌, arith}
use Rattle.std.specs.Prelude.{IsTrue}
use Rattle.std.proofs.lemmas.List.{length-map}
use Rattle.std.specs.List.{list_all, AllZip}
use Rattle.std.proofs.lemmas.Bool.{and_parts, and_from}
use Rattle.functor_terms.specs.Terms.{Nodes}
use Rattle.fitting.specs.declared.fitted.Fitted.{Fitted}
use Rattle.typing.specs.declared.value.Value.{Value}
use Rattle.typing.specs.Contents.{Content}
use Rattle.typing.specs.Values.{states_below}
use Rattle.typing.specs.Fits.{fits}
use Rattle.typing.specs.Order.{is_normal}
use Rattle.typing.specs.Stable.{AreEquivalent}
use Rattle.quotient_writer.specs.Laws.{QuotientsAreMinimal, MinimalSystemsAreTheirOwnQuotients}
use Rattle.structure_parser.specs.Reads.{Reads, IsNormalForm}
use Rattle.structure_writer.specs.Text.{canonical}
use Rattle.structure_writer.specs.Spelled.{Spells, IsWellFormed}
use Rattle.structure_writer.specs.Laws.{TextsSpell, TextsAreReadBack, TextsAreOfFractions}
use Rattle.rescaling.specs.Rescaled.{SameFractions, rescaled}
use Rattle.rescaling.specs.Laws.{RescalingKeepsStates, SameFractionsSameEquivalence}
use Rattle.copar_run.specs.Minimal.{IsMinimised, IsMinimal}

-- where all normal forms are of values, they fit and are normal
forms-fit : (l : ℕ) (t : Nodes) (fs : List Fitted) (vs : List Value)
    → AllZip (IsNormalForm l t) fs vs
    → IsTrue (list_all (fits t 0) vs) × IsTrue (list_all (is_normal t 0) vs)
forms-fit l t [] [] all = (refl, refl)
forms-fit l t [] (v ∷ vs) all = absurd all
forms-fit l t (f ∷ fs) [] all = absurd all
forms-fit l t (f ∷ fs) (v ∷ vs) all =
    let rest = forms-fit l t fs vs all.1 in (
      and_from (fits t 0 v) (list_all (fits t 0) vs) all.0.fitting rest.0,
      and_from (is_normal t 0 v) (list_all (is_normal t 0) vs) all.0.normal rest.1,
    )

-- the coalgebra of these four
abbrev content : Nodes → List (List ℕ) → ℕ → List Value → Content
content term names denominator values =
    record { term = term; names = names; denominator = denominator; values = values }

-- contents with the same parts are one
same_content : (d e : Content) → d.term ≡ e.term → d.names ≡ e.names
    → d.denominator ≡ e.denominator → d.values ≡ e.values → d ≡ e
same_content d e a b c f =
    ap (λ t. content t d.names d.denominator d.values) a
    ∙ ap (λ n. content e.term n d.denominator d.values) b
    ∙ ap (λ n. content e.term e.names n d.values) c
    ∙ ap (λ v. content e.term e.names e.denominator v) f

-- states that are below a number in rescaled values are so in the values
below-kept : RescalingKeepsStates → (k : ℕ) (t : Nodes) (n : ℕ) (vs : List Value)
    → IsTrue (list_all (states_below n) (map (rescaled k t 0) vs))
    → IsTrue (list_all (states_below n) vs)
below-kept law k t n [] all = refl
below-kept law k t n (v ∷ vs) all =
    let both = and_parts (states_below n (rescaled k t 0 v))
    (list_all (states_below n) (map (rescaled k t 0) vs)) all in
    and_from (states_below n v) (list_all (states_below n) vs)
    (sym (law k t 0 n v) ∙ both.0) (below-kept law k t n vs both.1)

-- the source of a quotient: a name for each state, and states in range
pub record IsSource (c : Content) : Type 0 where
  pub one_each : length c.values ≡ length c.names
  pub in_range : IsTrue (list_all (states_below (length c.values)) c.values)

-- what is known of quotients and of texts
pub record MinimalityLaws : Type 0 where
  pub minimal : QuotientsAreMinimal
  pub own : MinimalSystemsAreTheirOwnQuotients
  pub spell : TextsSpell
  pub back : TextsAreReadBack
  pub fractions : TextsAreOfFractions
  pub equivalence : SameFractionsSameEquivalence
  pub states : RescalingKeepsStates

module _ (c : Content) (output : List ℕ) (made : IsMinimised c output) (is : IsSource c)
    (formed : IsWellFormed made.least) (laws : MinimalityLaws) where
  -- no two states of the quotient are equivalent
  no_two : (k l : ℕ) → AreEquivalent made.least.term made.least.values k l → k ≡ l
  no_two k l e =
      laws.minimal c.term c.names c.values made.labels
      (record {
        covers = made.classes.covers ∙ is.one_each;
        one_each = is.one_each;
        numbered = made.classes.numbered;
      })
      is.in_range (λ i j h. (made.classes.alike i j h.0 h.1).1 h) made.least.names
      made.least.values made.quotient.quotient k l
      (subst (λ t. AreEquivalent t made.least.values k l) made.quotient.same_term e)

  -- where the text is read, it denotes the quotient's fractions
  back : (e : Content) → Reads output e → SameFractions made.least e
  back e read = laws.back made.least e formed (subst (λ text. Reads text e) made.text read)

  module _ (e : Content) (read : Reads output e) where
    same : SameFractions made.least e
    same = back e read

    fit : IsTrue (list_all (fits e.term 0) e.values) × IsTrue (list_all (is_normal e.term 0)
        e.values)
    fit = forms-fit e.denominator e.term read.fitted e.values read.values

    -- no two states of what is read are equivalent
    apart : (k l : ℕ) → AreEquivalent e.term e.values k l → k ≡ l
    apart k l h =
        no_two k l ((laws.equivalence made.least e same formed.positive fit.0 k l).1 h)

    one_each : length e.values ≡ length e.names
    one_each =
        let image : length (map (rescaled same.factor made.least.term 0) e.values)
        ≡ length e.values = rw length-map refl in
        sym (ap length same.same_values ∙ image)
        ∙ made.quotient.quotient.one_each ∙ ap length (sym same.same_names)

    in_range : IsTrue (list_all (states_below (length e.values)) e.values)
    in_range =
        below-kept laws.states same.factor made.least.term (length e.values) e.values
        (subst (λ vs. IsTrue (list_all (states_below (length e.values)) vs)) same.same_values
        (subst (λ n. IsTrue (list_all (states_below n) made.least.values))
        (ap length (sym same.same_names) ∙ sym one_each) made.quotient.quotient.in_range))

    -- its own quotient is itself, and has the same text
    again : (other : List ℕ) → IsMinimised e other → other ≡ output
    again other least =
        let itself = laws.own e.term e.names e.values least.labels
        (record {
          covers = least.classes.covers ∙ one_each;
          one_each = one_each;
          numbered = least.classes.numbered;
        })
        (record { fitting = fit.0; normal = fit.1; in_range = in_range })
        (λ i j hi hj h. apart i j
        ((least.classes.alike i j (omega (arith, hi, least.classes.covers))
        (omega (arith, hj, least.classes.covers))).0 h))
        least.least.names least.least.values least.quotient.quotient in
        least.text
        ∙ ap canonical (same_content least.least e least.quotient.same_term itself.0
        least.quotient.same_denominator itself.1)
        ∙ laws.fractions made.least e same formed.positive fit.0 ∙ sym made.text

  -- all of this
  pub is_minimal : IsMinimal c output
  is_minimal = record {
    minimised = made;
    minimal = no_two;
    spelled = subst (λ text. Spells text made.least) (sym made.text)
        (laws.spell made.least formed);
    read_back = back;
    again = again-of;
  }
    where
      again-of : (e : Content) (other : List ℕ) → Reads output e → IsMinimised e other
          → other ≡ output
      again-of e other read least = again e read other least
