-- Truth of the formulas of a block, at the states of a system.
use Rattle.std.proofs.Common.{◌≡◌, ◌<◌, ◌==◌, ◌&&◌, ℕ, Bool, true, List, [], length, map, sym, ◌∙◌, ap, inl, inr, arith}
use Rattle.std.specs.Prelude.{All, slice_get, Some, Option, ◌↔◌}
use Rattle.std.specs.Option.{option_map_or}
use Rattle.std.proofs.lemmas.Bool.{eq-eqb, eqb-true, and_parts, and_from}
use Rattle.std.proofs.lemmas.Option.{slice_get_cases}
use Rattle.modalities.specs.declared.three.Three.{Three}
use Rattle.modalities.specs.declared.three.Three.TheVariants.{Trit}
use Rattle.sorted_systems.specs.Systems.{Sorted, IsState, HasValue}
use Rattle.formulas.specs.declared.formula.Formula.{Formula}
use Rattle.formulas.specs.declared.formula.Formula.TheVariants.{At}
use Rattle.formulas.specs.Formulas.{IsDag}
use Rattle.formulas.specs.Truth.{Layers, is_value, trit, holds}
use Rattle.formulas.proofs.TruthLaws.{is_value-tells, holds-by_cases}
use Rattle.formula_builder.specs.SortedLayers.{sorted_layers}
use Rattle.formula_builder.proofs.Lists.{map_all}

module _
    {Shape Label : Type 0} (node : Shape → ℕ) (value : Shape → List Label → List ℕ → Three)
    (system : List (Sorted Shape Label)) where
  abbrev layers : Layers ℕ
  layers = sorted_layers node value system

  -- formula k is there, and passes exactly the states that the test passes
  pub record Tells (dag : List Formula) (k : ℕ) (test : ℕ → Bool) : Type 0 where
    pub there : k < length dag
    pub exactly : (x : ℕ) → x < length system → holds (sorted_layers node value system) dag k x
        ≡ test x

  -- the state at a place
  pub state_at : (x : ℕ) → x < length system → (a : Sorted Shape Label) × IsState system x a
  state_at x h = elim (slice_get_cases system x).1 [
    | inl found ↦ (found.0, found.2)
    | inr past ↦ absurd (omega (arith, past.0))
  ]

  -- its node, what is below it, and its value
  pub node_is : (x : ℕ) (a : Sorted Shape Label) → IsState system x a →
      (sorted_layers node value system).node x ≡ node a.shape
  node_is x a at = ap (λ (o : Option (Sorted Shape Label)). option_map_or (λ b. node b.shape) o 0)
      at

  below_is : (x : ℕ) (a : Sorted Shape Label) → IsState system x a → layers.below x ≡ a.targets
  below_is x a at = ap (λ (o : Option (Sorted Shape Label)). option_map_or (λ b. b.targets) o []) at

  value_is :
      (x : ℕ) (a : Sorted Shape Label) → IsState system x a → (trits : List ℕ) →
      layers.value x trits ≡ value a.shape a.labels trits
  value_is x a at trits =
      ap (λ (o : Option (Sorted Shape Label)). option_map_or (λ b. value b.shape b.labels trits) o
      (Trit 0)) at

  module _ (in_range : (x : ℕ) (a : Sorted Shape Label) → IsState system x a →
      All (λ t. t < length system) a.targets) where
    -- a modality holds where the node and the value are
    pub modality_tells :
        (dag : List Formula) (ordered : IsDag dag) (k q : ℕ) (three : Three) (s c : ℕ) →
        slice_get dag k ≡ Some (At q three s c) → (trit_of : ℕ → ℕ) →
        ((t : ℕ) → t < length system → trit (holds layers dag s t) (holds layers dag c t)
        ≡ trit_of t) →
        (x : ℕ) → x < length system →
        (holds layers dag k x ≡ true)
        ↔ ((layers.node x ≡ q) × HasValue value system trit_of x three)
    modality_tells dag ordered k q three s c e trit_of trits x h =
        let (a, at) = state_at x h in
        let g : ℕ → ℕ = λ t. trit (holds layers dag s t) (holds layers dag c t) in
        let values : layers.value x (map g (layers.below x))
        ≡ value a.shape a.labels (map trit_of a.targets) =
        value_is x a at (map g (layers.below x))
        ∙ ap (λ ts. value a.shape a.labels (map g ts)) (below_is x a at)
        ∙ ap (value a.shape a.labels) (map_all g trit_of (λ t. t < length system) a.targets
        (in_range x a at) trits) in
        let cases : holds layers dag k x
        ≡ ((layers.node x == q) && is_value (layers.value x (map g (layers.below x))) three) =
        holds-by_cases layers dag ordered k (At q three s c) e x in (
          λ held. (let both =
              and_parts (layers.node x == q) (is_value (layers.value x (map g (layers.below x)))
              three) (sym cases ∙ held) in (
                eqb-true (layers.node x) q both.0,
                (
                  a,
                  at,
                  sym values
                      ∙ (is_value-tells (layers.value x (map g (layers.below x))) three).0
                      both.1,
                ),
              )),
          λ has. (let same : has.1.0 ≡ a = (let one : Some has.1.0 ≡ Some a = sym has.1.1 ∙ at in
              cc) in
              cases ∙ and_from (layers.node x == q)
              (is_value (layers.value x (map g (layers.below x))) three)
              (eq-eqb (layers.node x) q has.0)
              ((is_value-tells (layers.value x (map g (layers.below x))) three).1
              (values ∙ ap (λ (b : Sorted Shape Label). value b.shape b.labels
              (map trit_of b.targets)) (sym same) ∙ has.1.2))),
        )
