-- What a fitted tree is scaled to at a node, by what its children are scaled to.
use Rattle.std.proofs.Common.{◌≡◌, ℕ, zero, suc, ◌-◌, ◌<◌, List, [], ◌∷◌, length, map, Some, None, slice_get, refl, sym, ap, ◌∙◌, arith}
use Rattle.std.specs.Prelude.{if◌then◌else◌, ℤ}
use Rattle.std.proofs.lemmas.Option.{none-some, same_Some}
use Rattle.functor_terms.specs.declared.node.Node.{Node}
use Rattle.functor_terms.specs.declared.node.Node.TheVariants.{State, Constant, Naturals, Product, Sum, Power, Powerset, Bag, Distribution, Integers, Rationals}
use Rattle.functor_terms.specs.Terms.{Nodes, IsTerm, node_at, children_at}
use Rattle.functor_terms.proofs.Folds.{fold-at}
use Rattle.typing.specs.declared.value.Value.{Value}
use Rattle.typing.specs.declared.value.Value.TheVariants as value
use Rattle.fitting.specs.declared.fitted.Fitted.{Fitted}
use Rattle.fitting.specs.declared.fitted.Fitted.TheVariants as fitted
use Rattle.fitting.specs.declared.fitted.Fitted.TheViews.{outs-State, outs-Label, outs-OverBound, outs-Tuple, outs-Inj, outs-Set, outs-Weights}
use Rattle.fitting.specs.declared.fitted.Weight.{Weight}
use Rattle.fitting.specs.Scaling.{Scale, no_scale, scale_at, scaled_places, scaled_parts, scaled_entries, scaled_level, scaled_step, scaled}
use Rattle.typing.proofs.TermFacts.{not_zero}

-- behind the first child the others follow
pub scale_at-suc : (s : Scale) (ss : List Scale) (k : ℕ) → scale_at (s ∷ ss) (suc k) ≡ scale_at ss k
scale_at-suc s ss k = ap (λ b. if b then s else scale_at ss (suc k - 1)) (not_zero k)
    ∙ ap (scale_at ss) (let e : suc k - 1 ≡ k = omega arith in e)

module _ (g : ℕ → Scale) where
  -- how those at the k-th of some nodes are scaled
  pub scale_found : (qs : List ℕ) (k q : ℕ) → slice_get qs k ≡ Some q → scale_at (map g qs) k ≡ g q
  scale_found [] k q e = absurd (none-some q e)
  scale_found (r ∷ qs) zero q e = ap g (same_Some r q e)
  scale_found (r ∷ qs) (suc k) q e = scale_at-suc (g r) (map g qs) k ∙ scale_found qs k q e

  pub scale_none : (qs : List ℕ) (k : ℕ) → slice_get qs k ≡ None → scale_at (map g qs) k ≡ no_scale
  scale_none [] k e = refl
  scale_none (r ∷ qs) zero e = absurd (none-some r (sym e))
  scale_none (r ∷ qs) (suc k) e = scale_at-suc (g r) (map g qs) k ∙ scale_none qs k e

other_parts : (m : Node) (ss : List Scale) (fs : List Fitted) → (m ≡ Product → ⊥)
    → scaled_parts m ss fs ≡ map (scale_at ss 0) fs
other_parts Product ss fs other = absurd (other refl)
other_parts State ss fs other = refl
other_parts (Constant labels) ss fs other = refl
other_parts Naturals ss fs other = refl
other_parts Sum ss fs other = refl
other_parts (Power labels) ss fs other = refl
other_parts Powerset ss fs other = refl
other_parts Bag ss fs other = refl
other_parts Distribution ss fs other = refl
other_parts Integers ss fs other = refl
other_parts Rationals ss fs other = refl

module _ (l : ℕ) (t : Nodes) (is : IsTerm t) (p : ℕ) (h : p < length t) (m : Node)
    (e : m ≡ node_at t p) (f : Fitted) where
  abbrev ss : List Scale
  ss = map (scaled l t) (children_at t p)

  -- a node is scaled as its step says
  at_step : scaled_step l m ss f ≡ scaled l t p f
  at_step = ap (λ n. scaled_step l n ss f) e
      ∙ sym (ap (λ (s : Scale). s f) (fold-at no_scale (scaled_step l) t is p h))

  pub at_state : (i : ℕ) → f ≡ fitted.State i → value.State i ≡ scaled l t p f
  at_state i q = sym (ap (scaled_step l m ss) q ∙ ap (scaled_level l m ss) (outs-State i)) ∙ at_step

  pub at_label : (k : ℕ) → f ≡ fitted.Label k → value.Label k ≡ scaled l t p f
  at_label k q = sym (ap (scaled_step l m ss) q ∙ ap (scaled_level l m ss) (outs-Label k)) ∙ at_step

  pub at_over : f ≡ fitted.OverBound → value.Label 0 ≡ scaled l t p f
  at_over q = sym (ap (scaled_step l m ss) q ∙ ap (scaled_level l m ss) outs-OverBound) ∙ at_step

  pub at_places : (fs : List Fitted) (vs : List Value) → f ≡ fitted.Tuple fs → m ≡ Product
      → vs ≡ scaled_places ss 0 fs → value.Tuple vs ≡ scaled l t p f
  at_places fs vs q product made =
      ap value.Tuple made ∙ sym (ap (scaled_step l m ss) q
      ∙ ap (scaled_level l m ss) (outs-Tuple fs)
      ∙ ap (λ n. value.Tuple (scaled_parts n ss fs)) product) ∙ at_step

  pub at_parts : (fs : List Fitted) (vs : List Value) → f ≡ fitted.Tuple fs → (m ≡ Product → ⊥)
      → vs ≡ map (scale_at ss 0) fs → value.Tuple vs ≡ scaled l t p f
  at_parts fs vs q other made =
      ap value.Tuple made ∙ sym (ap (scaled_step l m ss) q
      ∙ ap (scaled_level l m ss) (outs-Tuple fs) ∙ ap value.Tuple (other_parts m ss fs other))
      ∙ at_step

  pub at_inner : (k : ℕ) (g : Fitted) (v : Value) → f ≡ fitted.Inj k g → v ≡ scale_at ss k g
      → value.Inj k v ≡ scaled l t p f
  at_inner k g v q made = ap (value.Inj k) made
      ∙ sym (ap (scaled_step l m ss) q ∙ ap (scaled_level l m ss) (outs-Inj k g)) ∙ at_step

  pub at_members : (fs : List Fitted) (vs : List Value) → f ≡ fitted.Set fs
      → vs ≡ map (scale_at ss 0) fs → value.Set vs ≡ scaled l t p f
  at_members fs vs q made = ap value.Set made
      ∙ sym (ap (scaled_step l m ss) q ∙ ap (scaled_level l m ss) (outs-Set fs)) ∙ at_step

  pub at_entries : (fs : List (Fitted × Weight)) (vs : List (Value × ℤ)) → f ≡ fitted.Weights fs
      → vs ≡ scaled_entries l m (scale_at ss 0) fs → value.Weights vs ≡ scaled l t p f
  at_entries fs vs q made = ap value.Weights made
      ∙ sym (ap (scaled_step l m ss) q ∙ ap (scaled_level l m ss) (outs-Weights fs)) ∙ at_step
