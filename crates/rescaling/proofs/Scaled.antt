-- The value of a fitted tree over a multiple of its denominator is its value, rescaled.
use Rattle.std.proofs.Common.{◌≡◌, ℕ, suc, ◌-◌, ◌*◌, ◌/◌, Bool, true, false, List, [], ◌∷◌, ◌++◌, map, refl, sym, ap, ◌∙◌, subst}
use Rattle.std.specs.Prelude.{ℤ, pos, negsuc, neg_ℤ, ◌*ℤ◌, ◌==◌, if◌then◌else◌}
use Rattle.std.specs.Int.{◌∣◌}
use Rattle.std.specs.List.{AllByRecursion, flat_map}
use Rattle.std.proofs.Math.Nat.{mul-div_assoc, mul_assoc, mul_comm, zero-mul}
use Rattle.functor_terms.specs.declared.node.Node.{Node}
use Rattle.functor_terms.specs.declared.node.Node.TheVariants.{State, Constant, Naturals, Product, Sum, Power, Powerset, Bag, Distribution, Integers, Rationals}
use Rattle.functor_terms.specs.Lists.{Zip3}
use Rattle.functor_terms.specs.Terms.{Nodes}
use Rattle.functor_terms.proofs.Folds.{fold-related3}
use Rattle.typing.specs.declared.value.Value.TheVariants as value
use Rattle.typing.specs.declared.value.Value.TheViews.{outs-State, outs-Label, outs-Tuple, outs-Inj, outs-Set, outs-Weights}
use Rattle.fitting.specs.declared.fitted.Fitted.{Fitted, Fitted-F, out-Fitted, fold_out-Fitted, map-Fitted}
use Rattle.fitting.specs.declared.fitted.Weight.{Weight}
use Rattle.fitting.specs.declared.fitted.Weight.TheVariants as weight
use Rattle.fitting.specs.Fitting.{has_fractions}
use Rattle.fitting.specs.Scaling.{Scale, no_scale, scale_at, scaled_weight, scaled_places, scaled_parts, scaled_entries, scaled_level, scaled_step, scaled, denominator_of, denominators_step, denominators}
use Rattle.fitting.proofs.FitSound.{scaled-suc}
use Rattle.rescaling.specs.Rescaled.{Rescale, no_rescale, rescale_at, rescaled_places, rescaled_parts, rescaled_weight, rescaled_entries, rescaled_level, rescaled_step, rescaled}
use Rattle.rescaling.proofs.Levels.{by_child}
use Rattle.fitting.proofs.ScaledFractions.{negative-times}

-- ---- weights

-- two factors one after the other
times-times : (z : ℤ) (b c : ℕ) → z *ℤ pos b *ℤ pos c ≡ z *ℤ pos (b * c)
times-times (pos a) b c = ap pos (mul_assoc a b c)
times-times (negsuc a) b c =
    negative-times (suc a * b) c ∙ ap (λ x. neg_ℤ (pos x)) (mul_assoc (suc a) b c)

-- the denominators in a list divide l
abbrev Divide : ℕ → List ℕ → Type 0
Divide l qs = AllByRecursion (λ q. q ∣ l) qs

module _ (k l : ℕ) where
  weight_scaled :
      (m : Node) (w : Weight) → Divide l (denominator_of w) →
      scaled_weight (k * l) m w ≡ rescaled_weight k m (scaled_weight l m w)
  weight_scaled m weight.OverBound all = by (has_fractions m)
    where
      by : (b : Bool) → pos 0 ≡ (if b then pos 0 *ℤ pos k else pos 0)
      by true = sym (ap pos (zero-mul k))
      by false = refl
  weight_scaled m (weight.Fraction n) all = by (has_fractions m)
    where
      by :
          (b : Bool) → (if b then n.p *ℤ pos (k * l / n.q) else n.p)
          ≡ (if b then (if b then n.p *ℤ pos (l / n.q) else n.p) *ℤ pos k
          else (if b then n.p *ℤ pos (l / n.q) else n.p))
      by true =
          ap (λ x. n.p *ℤ pos x) (mul-div_assoc n.q k all.0 ∙ mul_comm k (l / n.q))
          ∙ sym (times-times n.p (l / n.q) k)
      by false = refl

-- ---- denominators in parts

all_split :
    {X : Type 0} (P : X → Type 0) (xs ys : List X) → AllByRecursion P (xs ++ ys) →
    AllByRecursion P xs × AllByRecursion P ys
all_split P [] ys all = (tt, all)
all_split P (x ∷ xs) ys all =
    let rest = all_split P xs ys all.1 in ((all.0, rest.0), rest.1)

module _ (l : ℕ) where
  -- the denominators in a tree divide l
  abbrev pub IsOver : Fitted → Type 0
  IsOver f = AllByRecursion (λ q. q ∣ l) (denominators f)

  over_out :
      (f : Fitted) (x : Fitted-F Fitted) → out-Fitted f ≡ x → IsOver f →
      Divide l (denominators_step (map-Fitted Fitted (List ℕ) denominators x))
  over_out f x e h =
      subst (Divide l)
      (fold_out-Fitted (List ℕ) denominators_step f
      ∙ ap (λ (y : Fitted-F Fitted). denominators_step
      (map-Fitted Fitted (List ℕ) denominators y)) e) h

  parts_over :
      (fs : List Fitted) → Divide l (flat_map (λ q. q) (map denominators fs)) →
      AllByRecursion IsOver fs
  parts_over [] h = tt
  parts_over (f ∷ fs) h =
      let w = all_split (λ q. q ∣ l) (denominators f) (flat_map (λ q. q) (map denominators fs)) h in
      (w.0, parts_over fs w.1)

  abbrev named : List (Fitted × Weight) → List (List ℕ × Weight)
  named es = map (λ e. (denominators e.0, e.1)) es

  abbrev IsOverEntry : Fitted × Weight → Type 0
  IsOverEntry e = IsOver e.0 × Divide l (denominator_of e.1)

  entries_over :
      (es : List (Fitted × Weight)) →
      Divide l (flat_map (λ e. e.0 ++ denominator_of e.1) (named es)) →
      AllByRecursion IsOverEntry es
  entries_over [] h = tt
  entries_over (e ∷ es) h =
      let w = all_split (λ q. q ∣ l) (denominators e.0 ++ denominator_of e.1)
      (flat_map (λ e. e.0 ++ denominator_of e.1) (named es)) h in
      (all_split (λ q. q ∣ l) (denominators e.0) (denominator_of e.1) w.0, entries_over es w.1)

-- ---- values

module _ (k l : ℕ) where
  -- what one scaling gives is what the other gives, rescaled
  record Rescales (s o : Scale) (r : Rescale) : Type 0 where
    pub same : (f : Fitted) → IsOver l f → s f ≡ r (o f)

  none_rescales : Rescales no_scale no_scale no_rescale
  none_rescales = record { same = λ f h. refl }

  at_rescales :
      (ss os : List Scale) (rs : List Rescale) (j : ℕ) → Zip3 Rescales ss os rs →
      Rescales (scale_at ss j) (scale_at os j) (rescale_at rs j)
  at_rescales [] [] [] j z = none_rescales
  at_rescales [] [] (r ∷ rs) j z = absurd z
  at_rescales [] (o ∷ os) rs j z = absurd z
  at_rescales (s ∷ ss) [] rs j z = absurd z
  at_rescales (s ∷ ss) (o ∷ os) [] j z = absurd z
  at_rescales (s ∷ ss) (o ∷ os) (r ∷ rs) j z = by (j == 0) (at_rescales ss os rs (j - 1) z.1)
    where
      by :
          (b : Bool) →
          Rescales (scale_at ss (j - 1)) (scale_at os (j - 1)) (rescale_at rs (j - 1)) →
          Rescales (if b then s else scale_at ss (j - 1)) (if b then o else scale_at os (j - 1))
          (if b then r else rescale_at rs (j - 1))
      by true later = z.0
      by false later = later

  places_rescale :
      (ss os : List Scale) (rs : List Rescale) → Zip3 Rescales ss os rs → (fs : List Fitted) →
      AllByRecursion (IsOver l) fs →
      scaled_places ss 0 fs ≡ rescaled_places rs (scaled_places os 0 fs)
  places_rescale [] [] [] z fs h = refl
  places_rescale [] [] (r ∷ rs) z fs h = absurd z
  places_rescale [] (o ∷ os) rs z fs h = absurd z
  places_rescale (s ∷ ss) [] rs z fs h = absurd z
  places_rescale (s ∷ ss) (o ∷ os) [] z fs h = absurd z
  places_rescale (s ∷ ss) (o ∷ os) (r ∷ rs) z [] h = refl
  places_rescale (s ∷ ss) (o ∷ os) (r ∷ rs) z (f ∷ fs) h =
      (λ i. z.0.same f h.0 i
      ∷ (scaled-suc l 0 s ss 0 fs ∙ places_rescale ss os rs z.1 fs h.1) i)
      ∙ sym (ap (λ vs. r (o f) ∷ rescaled_places rs vs) (scaled-suc l 0 o os 0 fs))

  module _ (ss os : List Scale) (rs : List Rescale) (z : Zip3 Rescales ss os rs) where
    child_rescales :
        (fs : List Fitted) → AllByRecursion (IsOver l) fs →
        map (scale_at ss 0) fs ≡ by_child rs (map (scale_at os 0) fs)
    child_rescales [] h = refl
    child_rescales (f ∷ fs) h =
        λ i. (at_rescales ss os rs 0 z).same f h.0 i ∷ child_rescales fs h.1 i

    parts_rescale :
        (m : Node) (fs : List Fitted) → AllByRecursion (IsOver l) fs →
        scaled_parts m ss fs ≡ rescaled_parts m rs (scaled_parts m os fs)
    parts_rescale Product fs h = places_rescale ss os rs z fs h
    parts_rescale State fs h = child_rescales fs h
    parts_rescale (Constant labels) fs h = child_rescales fs h
    parts_rescale Naturals fs h = child_rescales fs h
    parts_rescale Sum fs h = child_rescales fs h
    parts_rescale (Power labels) fs h = child_rescales fs h
    parts_rescale Powerset fs h = child_rescales fs h
    parts_rescale Bag fs h = child_rescales fs h
    parts_rescale Distribution fs h = child_rescales fs h
    parts_rescale Integers fs h = child_rescales fs h
    parts_rescale Rationals fs h = child_rescales fs h

    entries_rescale :
        (m : Node) (es : List (Fitted × Weight)) → AllByRecursion (IsOverEntry l) es →
        scaled_entries (k * l) m (scale_at ss 0) es
        ≡ rescaled_entries k m (rescale_at rs 0) (scaled_entries l m (scale_at os 0) es)
    entries_rescale m [] h = refl
    entries_rescale m (e ∷ es) h =
        λ i. ((at_rescales ss os rs 0 z).same e.0 h.0.0 i, weight_scaled k l m e.1 h.0.1 i)
        ∷ entries_rescale m es h.1 i

    level_rescales :
        (m : Node) (f : Fitted) (x : Fitted-F Fitted) → out-Fitted f ≡ x → IsOver l f →
        scaled_level (k * l) m ss x ≡ rescaled_step k m rs (scaled_level l m os x)
    level_rescales m f (Fitted-F.State i) e h = sym (ap (rescaled_level k m rs) (outs-State i))
    level_rescales m f (Fitted-F.Label n) e h = sym (ap (rescaled_level k m rs) (outs-Label n))
    level_rescales m f Fitted-F.OverBound e h = sym (ap (rescaled_level k m rs) (outs-Label 0))
    level_rescales m f (Fitted-F.Tuple fs) e h =
        ap value.Tuple (parts_rescale m fs (parts_over l fs (over_out l f (Fitted-F.Tuple fs) e h)))
        ∙ sym (ap (rescaled_level k m rs) (outs-Tuple (scaled_parts m os fs)))
    level_rescales m f (Fitted-F.Inj j g) e h =
        ap (value.Inj j)
        ((at_rescales ss os rs j z).same g (over_out l f (Fitted-F.Inj j g) e h))
        ∙ sym (ap (rescaled_level k m rs) (outs-Inj j (scale_at os j g)))
    level_rescales m f (Fitted-F.Set fs) e h =
        ap value.Set (child_rescales fs (parts_over l fs (over_out l f (Fitted-F.Set fs) e h)))
        ∙ sym (ap (rescaled_level k m rs) (outs-Set (map (scale_at os 0) fs)))
    level_rescales m f (Fitted-F.Weights es) e h =
        ap value.Weights
        (entries_rescale m es (entries_over l es (over_out l f (Fitted-F.Weights es) e h)))
        ∙ sym (ap (rescaled_level k m rs) (outs-Weights (scaled_entries l m (scale_at os 0) es)))

  step_rescales :
      (m : Node) (ss os : List Scale) (rs : List Rescale) → Zip3 Rescales ss os rs →
      Rescales (scaled_step (k * l) m ss) (scaled_step l m os) (rescaled_step k m rs)
  step_rescales m ss os rs z = record {
    same = λ f h. level_rescales ss os rs z m f (out-Fitted f) refl h;
  }

  -- the value over a multiple is the value, rescaled
  pub scaled-rescaled :
      (t : Nodes) (p : ℕ) (f : Fitted) → IsOver l f →
      scaled (k * l) t p f ≡ rescaled k t p (scaled l t p f)
  scaled-rescaled t p =
      (fold-related3 Rescales no_scale no_scale no_rescale (scaled_step (k * l)) (scaled_step l)
      (rescaled_step k) none_rescales step_rescales t p).same
