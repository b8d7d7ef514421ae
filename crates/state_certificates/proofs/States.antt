-- What is told of the sorted states holds of the states that they stand for.
--
-- root_truth       == a formula has one truth at a state and at its sorted state
-- alike            == states are in one block exactly where they are equivalent
-- states_told      == the formula of a state holds at exactly the states equivalent to it
-- told_apart       == so it tells the state apart from each other one
use Rattle.std.proofs.Common.{List, ◌≡◌, ◌+◌, ◌<◌, ◌==◌, ℕ, false, length, slice_get, Some, refl, sym, ◌∙◌, ap, subst, arith}
use Rattle.std.specs.Prelude.{◌↔◌, slice_index}
use Rattle.std.specs.Option.{option_map_or}
use Rattle.std.proofs.lemmas.Bool.{eq-eqb, eqb-true}
use Rattle.std.proofs.lemmas.Option.{slice_get_within}
use Rattle.functor_terms.specs.Terms.{IsTerm}
use Rattle.typing.specs.declared.value.Value.{Value}
use Rattle.typing.specs.Contents.{Content}
use Rattle.typing.specs.Stable.{AreEquivalent}
use Rattle.typing.proofs.StableLaws.{element}
use Rattle.sorted_systems.specs.Systems.{class_in, system_from}
use Rattle.edge_store.specs.Edges.{Graph}
use Rattle.decoding.specs.Decoded.{node_by, value_by}
use Rattle.layers.specs.Nest.{any_node, any_value}
use Rattle.layers.specs.Meanings.{shape_of, label_of}
use Rattle.layers.specs.declared.layers.Layers.{Layers}
use Rattle.refiner.specs.Recorded.{Answer}
use Rattle.structures.specs.Structures.{numbers_below}
use Rattle.desorting.specs.declared.system.System.{System}
use Rattle.desorting.specs.Desorted.{packed_system, IsDesorted}
use Rattle.desorting.specs.Laws.{GreatestIsEquivalence, ValuesAreOfLayers}
use Rattle.classes.specs.Refined.{IsRefined}
use Rattle.classes.proofs.Counting.{great}
use Rattle.formulas.specs.Truth.{holds}
use Rattle.formulas.proofs.TruthLaws.{holds-like}
use Rattle.satisfaction.specs.Satisfaction.{layers_of, holds_at, HoldsAt}
use Rattle.formula_builder.specs.SortedLayers.{sorted_layers, BlocksAreTold}
use Rattle.formula_builder.specs.Certified.{Certified}
use Rattle.state_certificates.specs.Certificates.{formula_of, StatesAreTold, TellApart}
use Rattle.state_certificates.proofs.Alike.{node, value, Stands, state_of, standing-likeness}
use Rattle.structures.proofs.WalkEnds.{number_at}

-- what is told over an interface, shapes and edges
abbrev pub Told : Certified → Layers → List ℕ → Graph ℕ → Type 0
Told cert i ss es =
    BlocksAreTold
    (node_by (shape_of i.shapes.items) (label_of i.shapes.items i.weights.items) any_node)
    (value_by (shape_of i.shapes.items) (label_of i.shapes.items i.weights.items)
    (any_value i.denominator)) (system_from 0 ss es.edges) cert.dag cert.blocks cert.block_of

module _
    (c : Content) (s : System) (desorted : IsDesorted c.term c.values c.denominator s)
    (values_of : ValuesAreOfLayers) (equivalence : GreatestIsEquivalence) (is_term : IsTerm c.term)
    (r : Answer) (refined : IsRefined s r) (cert : Certified) (blocks : cert.block_of ≡ r.block_of)
    (told : BlocksAreTold (node c.term c.denominator c.values s desorted values_of)
    (value c.term c.denominator c.values s desorted values_of) (packed_system s)
    cert.dag cert.blocks cert.block_of) where
  root : (i : ℕ) → i < length c.values → slice_index (numbers_below (length c.values)) i ≡ i
  root i h =
      number_at 0 (length c.values) i h ∙ (let zeroth : 0 + i ≡ i = omega arith in zeroth)

  -- state i has the sorted state i
  rooted :
      (i : ℕ) (v : Value) → slice_get c.values i ≡ Some v →
      Stands c.term c.denominator c.values s desorted values_of i (0, v)
  rooted i v at =
      subst (λ x. Stands c.term c.denominator c.values s desorted values_of x (0, v))
      (root i (slice_get_within c.values i v at)) (desorted.sorting.rooted i v at)

  in_system : (i : ℕ) → i < length c.values → i < length (packed_system s)
  in_system i h =
      let (v, at) = element c.values i h in
      let (o, is, nodes, values) = rooted i v at in
      let (a, here, same) = state_of c.term c.denominator c.values s desorted values_of i o is in
      slice_get_within (packed_system s) i a here

  -- a formula has one truth at a state and at its sorted state
  root_truth :
      (k : ℕ) → k < length cert.dag → (i : ℕ) → i < length c.values →
      holds (sorted_layers (node c.term c.denominator c.values s desorted values_of)
      (value c.term c.denominator c.values s desorted values_of) (packed_system s)) cert.dag k i
      ≡ holds_at c cert.dag k i
  root_truth k h i hi =
      let (v, at) = element c.values i hi in
      holds-like (sorted_layers (node c.term c.denominator c.values s desorted values_of)
      (value c.term c.denominator c.values s desorted values_of) (packed_system s))
      (layers_of c.term c.denominator c.values)
      (Stands c.term c.denominator c.values s desorted values_of)
      (standing-likeness c.term c.denominator c.values s desorted values_of) cert.dag told.ordered
      k h i (0, v) (rooted i v at)
      ∙ sym (ap (λ o. option_map_or
      (λ w. holds (layers_of c.term c.denominator c.values) cert.dag k (0, w)) o false) at)

  there : (i : ℕ) → i < length c.values → formula_of cert i < length cert.dag
  there i h = told.there i (in_system i h)

  -- states are in one block exactly where they are equivalent
  alike :
      (i j : ℕ) → i < length c.values → j < length c.values →
      (class_in cert.block_of i ≡ class_in cert.block_of j) ↔ AreEquivalent c.term c.values i j
  alike i j hi hj =
      subst (λ bs. (class_in bs i ≡ class_in bs j) ↔ AreEquivalent c.term c.values i j)
      (sym blocks)
      (subst (λ x. (class_in r.block_of x ≡ class_in r.block_of j)
      ↔ AreEquivalent c.term c.values i j) (root i hi)
      (subst (λ y. (class_in r.block_of (slice_index (numbers_below (length c.values)) i)
      ≡ class_in r.block_of y) ↔ AreEquivalent c.term c.values i j) (root j hj)
      (equivalence c.term c.values desorted.occurrences (numbers_below (length c.values)) is_term
      desorted.sorting r.block_of (great c s desorted r refined) i j hi hj)))

  -- the formula of a state holds at exactly the states that are equivalent to it
  block_truth :
      (i j : ℕ) → i < length c.values → j < length c.values →
      HoldsAt c cert.dag (formula_of cert i) j ↔ AreEquivalent c.term c.values i j
  block_truth i j hi hj =
      let same : holds_at c cert.dag (formula_of cert i) j
      ≡ (class_in cert.block_of j == class_in cert.block_of i) =
      sym (root_truth (formula_of cert i) (there i hi) j hj)
      ∙ told.exactly i j (in_system i hi) (in_system j hj) in (
        λ h. (alike i j hi hj).0
            (sym (eqb-true (class_in cert.block_of j) (class_in cert.block_of i)
            (sym same ∙ h))),
        λ equal. same
            ∙ eq-eqb (class_in cert.block_of j) (class_in cert.block_of i)
            (sym ((alike i j hi hj).1 equal)),
      )

  pub states_told : StatesAreTold c cert
  states_told = record { there = there; exactly = block_truth; blocks = alike }

  pub told_apart : TellApart c cert
  told_apart i j hi hj apart = (
    (block_truth i i hi hi).1 ((alike i i hi hi).0 refl),
    λ h. apart ((block_truth i j hi hj).0 h),
  )
