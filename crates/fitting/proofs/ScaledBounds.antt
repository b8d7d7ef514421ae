-- The sums of scaled weights are within 2^106, where the lists are short and the denominator is
-- within its limit.
use Rattle.std.proofs.Common.{◌≡◌, ℕ, suc, ◌+◌, ◌-◌, ◌*◌, ◌/◌, ◌≤◌, ◌^◌, Bool, true, false, ◌&&◌, List, [], ◌∷◌, length, map, refl, sym, ap, ◌∙◌, subst, arith}
use Rattle.std.specs.Prelude.{◌==◌, if◌then◌else◌, nat_le, ℤ, pos, ◌*ℤ◌, unsigned_abs}
use Rattle.std.specs.List.{AllByRecursion, list_all}
use Rattle.std.proofs.Math.Nat.{div-le_self, mul-le-mul}
use Rattle.std.proofs.lemmas.Bool.{and_parts, and_from, leb-true, le-leb}
use Rattle.std.proofs.lemmas.Int.{unsigned_abs-mul}
use Rattle.std.proofs.lemmas.List.Sums.{sum_by-cons}
use Rattle.functor_terms.specs.declared.node.Node.{Node}
use Rattle.functor_terms.specs.declared.node.Node.TheVariants.{State, Constant, Naturals, Product, Sum, Power, Powerset, Bag, Distribution, Integers, Rationals}
use Rattle.functor_terms.specs.Terms.{Nodes}
use Rattle.functor_terms.proofs.Folds.{fold-all}
use Rattle.typing.specs.declared.value.Value.{Value}
use Rattle.typing.specs.declared.value.Value.TheVariants as value
use Rattle.typing.specs.declared.value.Value.TheViews.{outs-State, outs-Label, outs-Tuple, outs-Inj, outs-Set, outs-Weights}
use Rattle.typing.specs.Bounds.{is_within, absolute_sum}
use Rattle.typing.proofs.KeptWeights.{within_out, layer_within, within_tuple, within_set, within_inner, within_entries}
use Rattle.fitting.specs.declared.fitted.Fitted.{Fitted, Fitted-F, out-Fitted, fold_out-Fitted, map-Fitted}
use Rattle.fitting.specs.declared.fitted.Weight.{Weight}
use Rattle.fitting.specs.declared.fitted.Weight.TheVariants as weight
use Rattle.fitting.specs.Fitting.{has_fractions}
use Rattle.fitting.specs.Scaling.{is_numeral, numerals_step, are_numerals, lists_step, lists_within, Scale, no_scale, scale_at, scaled_weight, scaled_places, scaled_parts, scaled_entries, scaled_level, scaled_step, scaled}

-- the most entries of a list, and the most that their weights sum to
abbrev list_limit : ℕ
list_limit = 2 ^ 26

abbrev sum_limit : ℕ
sum_limit = 2 ^ 106

abbrev weight_limit : ℕ
weight_limit = 2 ^ 80

-- l is the denominator
module _ (l : ℕ) (bounded : l ≤ 2 ^ 40) where
  -- a scaled weight is at most 2^80
  weight_within : (m : Node) (c : Weight) → is_numeral c ≡ true
      → unsigned_abs (scaled_weight l m c) ≤ weight_limit
  weight_within m weight.OverBound h = omega arith
  weight_within m (weight.Fraction n) h =
      let p = and_parts (nat_le 1 n.q)
      (nat_le n.q (2 ^ 40) && nat_le (unsigned_abs n.p) (2 ^ 40)) h in
      let q = and_parts (nat_le n.q (2 ^ 40)) (nat_le (unsigned_abs n.p) (2 ^ 40)) p.1 in
      by (leb-true (unsigned_abs n.p) (2 ^ 40) q.1) (has_fractions m)
    where
      by : unsigned_abs n.p ≤ 2 ^ 40 → (b : Bool)
          → unsigned_abs (if b then n.p *ℤ pos (l / n.q) else n.p) ≤ weight_limit
      by small true =
          let quotient : l / n.q ≤ 2 ^ 40 = omega (arith, div-le_self l n.q, bounded) in
          let product : unsigned_abs n.p * (l / n.q) ≤ 2 ^ 40 * 2 ^ 40 =
          mul-le-mul small quotient in
          let same : unsigned_abs (n.p *ℤ pos (l / n.q)) ≡ unsigned_abs n.p * (l / n.q) =
          unsigned_abs-mul n.p (pos (l / n.q)) in
          subst (λ k. k ≤ weight_limit) (sym same) product
      by small false = omega (arith, small)

  -- so are those of a list, times their number
  sum_within :
      (m : Node) (s : Scale) (es : List (Fitted × Weight))
      → AllByRecursion (λ e. is_numeral e.1 ≡ true) es
      → absolute_sum (scaled_entries l m s es) ≤ length es * weight_limit
  sum_within m s [] all = omega arith
  sum_within m s (e ∷ es) all =
      let here = weight_within m e.1 all.0 in
      let rest = sum_within m s es all.1 in
      let sum = sum_by-cons (λ (w : Value × ℤ). unsigned_abs w.1) (s e.0, scaled_weight l m e.1)
      (scaled_entries l m s es) in
      omega (arith, here, rest, sum)

  abbrev IsGood : Fitted → Type 0
  IsGood f = (are_numerals f ≡ true) × (lists_within list_limit f ≡ true)

  -- what is good at every level is so in each part
  good_out :
      (f : Fitted) (x : Fitted-F Fitted) → out-Fitted f ≡ x → IsGood f
      → (numerals_step (map-Fitted Fitted Bool are_numerals x) ≡ true)
      × (lists_step list_limit (map-Fitted Fitted Bool (lists_within list_limit) x) ≡ true)
  good_out f x e h = (
    sym (fold_out-Fitted Bool numerals_step f
        ∙ ap (λ (y : Fitted-F Fitted). numerals_step (map-Fitted Fitted Bool are_numerals y)) e)
        ∙ h.0,
    sym (fold_out-Fitted Bool (lists_step list_limit) f
        ∙ ap (λ (y : Fitted-F Fitted). lists_step list_limit
        (map-Fitted Fitted Bool (lists_within list_limit) y)) e) ∙ h.1,
  )

  parts_good :
      (fs : List Fitted) → list_all (λ b. b) (map are_numerals fs) ≡ true
      → list_all (λ b. b) (map (lists_within list_limit) fs) ≡ true → AllByRecursion IsGood fs
  parts_good [] h k = tt
  parts_good (f ∷ fs) h k =
      let p = and_parts (are_numerals f) (list_all (λ b. b) (map are_numerals fs)) h in
      let q = and_parts (lists_within list_limit f)
      (list_all (λ b. b) (map (lists_within list_limit) fs)) k in
      ((p.0, q.0), parts_good fs p.1 q.1)

  abbrev numbered : List (Fitted × Weight) → List (Bool × Weight)
  numbered es = map (λ e. (are_numerals e.0, e.1)) es

  abbrev short : List (Fitted × Weight) → List (Bool × Weight)
  short es = map (λ e. (lists_within list_limit e.0, e.1)) es

  entries_good :
      (es : List (Fitted × Weight)) → list_all (λ e. e.0 && is_numeral e.1) (numbered es) ≡ true
      → list_all (λ e. e.0) (short es) ≡ true
      → AllByRecursion (λ e. IsGood e.0) es × AllByRecursion (λ e. is_numeral e.1 ≡ true) es
  entries_good [] h k = (tt, tt)
  entries_good (e ∷ es) h k =
      let p = and_parts (are_numerals e.0 && is_numeral e.1)
      (list_all (λ e. e.0 && is_numeral e.1) (numbered es)) h in
      let q = and_parts (lists_within list_limit e.0) (list_all (λ e. e.0) (short es)) k in
      let here = and_parts (are_numerals e.0) (is_numeral e.1) p.0 in
      let rest = entries_good es p.1 q.1 in
      (((here.0, q.0), rest.0), (here.1, rest.1))

  short_length : (es : List (Fitted × Weight)) → length (short es) ≡ length es
  short_length [] = refl
  short_length (e ∷ es) = ap suc (short_length es)

  -- what is good stays within the bound once it is scaled
  record IsSmall (s : Scale) : Type 0 where
    pub small : (f : Fitted) → IsGood f → is_within sum_limit (s f) ≡ true

  label_small : (k : ℕ) → is_within sum_limit (value.Label k) ≡ true
  label_small k = within_out sum_limit (value.Label k) ∙ ap (layer_within sum_limit) (outs-Label k)

  none_small : IsSmall no_scale
  none_small = record { small = λ f h. label_small 0 }

  at_small : (ss : List Scale) (k : ℕ) → AllByRecursion IsSmall ss → IsSmall (scale_at ss k)
  at_small [] k all = none_small
  at_small (s ∷ ss) k all = by (k == 0) (at_small ss (k - 1) all.1)
    where
      by : (o : Bool) → IsSmall (scale_at ss (k - 1))
          → IsSmall (if o then s else scale_at ss (k - 1))
      by true later = all.0
      by false later = later

  module _ (ss : List Scale) (all : AllByRecursion IsSmall ss) where
    list_small : (fs : List Fitted) → AllByRecursion IsGood fs
        → list_all (is_within sum_limit) (map (scale_at ss 0) fs) ≡ true
    list_small [] h = refl
    list_small (f ∷ fs) h =
        and_from (is_within sum_limit (scale_at ss 0 f))
        (list_all (is_within sum_limit) (map (scale_at ss 0) fs))
        ((at_small ss 0 all).small f h.0) (list_small fs h.1)

    places_small : (k : ℕ) (fs : List Fitted) → AllByRecursion IsGood fs
        → list_all (is_within sum_limit) (scaled_places ss k fs) ≡ true
    places_small k [] h = refl
    places_small k (f ∷ fs) h =
        and_from (is_within sum_limit (scale_at ss k f))
        (list_all (is_within sum_limit) (scaled_places ss (k + 1) fs))
        ((at_small ss k all).small f h.0) (places_small (k + 1) fs h.1)

    tuple_small : (m : Node) (fs : List Fitted) → AllByRecursion IsGood fs
        → list_all (is_within sum_limit) (scaled_parts m ss fs) ≡ true
    tuple_small Product fs h = places_small 0 fs h
    tuple_small State fs h = list_small fs h
    tuple_small (Constant labels) fs h = list_small fs h
    tuple_small Naturals fs h = list_small fs h
    tuple_small Sum fs h = list_small fs h
    tuple_small (Power labels) fs h = list_small fs h
    tuple_small Powerset fs h = list_small fs h
    tuple_small Bag fs h = list_small fs h
    tuple_small Distribution fs h = list_small fs h
    tuple_small Integers fs h = list_small fs h
    tuple_small Rationals fs h = list_small fs h

    entries_small :
        (m : Node) (es : List (Fitted × Weight)) → AllByRecursion (λ e. IsGood e.0) es
        → list_all (λ e. is_within sum_limit e.0) (scaled_entries l m (scale_at ss 0) es) ≡ true
    entries_small m [] h = refl
    entries_small m (e ∷ es) h =
        and_from (is_within sum_limit (scale_at ss 0 e.0))
        (list_all (λ e. is_within sum_limit e.0) (scaled_entries l m (scale_at ss 0) es))
        ((at_small ss 0 all).small e.0 h.0) (entries_small m es h.1)

    level_small : (m : Node) (f : Fitted) (x : Fitted-F Fitted) → out-Fitted f ≡ x → IsGood f
        → is_within sum_limit (scaled_level l m ss x) ≡ true
    level_small m f (Fitted-F.State i) o h = within_out sum_limit (value.State i)
        ∙ ap (layer_within sum_limit) (outs-State i)
    level_small m f (Fitted-F.Label k) o h = label_small k
    level_small m f Fitted-F.OverBound o h = label_small 0
    level_small m f (Fitted-F.Tuple fs) o h =
        let w = good_out f (Fitted-F.Tuple fs) o h in
        let vs : List Value = scaled_parts m ss fs in
        within_tuple sum_limit (value.Tuple vs) vs (outs-Tuple vs)
        (tuple_small m fs (parts_good fs w.0 w.1))
    level_small m f (Fitted-F.Inj k g) o h =
        let w = good_out f (Fitted-F.Inj k g) o h in
        let v : Value = scale_at ss k g in
        within_inner sum_limit (value.Inj k v) k v (outs-Inj k v) ((at_small ss k all).small g w)
    level_small m f (Fitted-F.Set fs) o h =
        let w = good_out f (Fitted-F.Set fs) o h in
        let vs : List Value = map (scale_at ss 0) fs in
        within_set sum_limit (value.Set vs) vs (outs-Set vs) (list_small fs (parts_good fs w.0 w.1))
    level_small m f (Fitted-F.Weights es) o h =
        let w = good_out f (Fitted-F.Weights es) o h in
        let vs : List (Value × ℤ) = scaled_entries l m (scale_at ss 0) es in
        let p = and_parts (list_all (λ e. e.0) (short es))
        (nat_le (length (short es)) list_limit) w.1 in
        let good = entries_good es w.0 p.0 in
        let count = leb-true (length (short es)) list_limit p.1 in
        let sum = sum_within m (scale_at ss 0) es good.1 in
        within_entries sum_limit (value.Weights vs) vs (outs-Weights vs) (entries_small m es good.0)
        (le-leb (absolute_sum vs) sum_limit (omega (arith, sum, count, short_length es)))

  step_small : (m : Node) (ss : List Scale) → AllByRecursion IsSmall ss
      → IsSmall (scaled_step l m ss)
  step_small m ss all = record { small = λ f h. level_small ss all m f (out-Fitted f) refl h }

-- the value of a fitted tree is within the bound
pub scaled-within :
    (l : ℕ) → l ≤ 2 ^ 40 → (t : Nodes) (p : ℕ) (f : Fitted) → are_numerals f ≡ true
    → lists_within (2 ^ 26) f ≡ true → is_within (2 ^ 106) (scaled l t p f) ≡ true
scaled-within l bounded t p f h k =
    (fold-all (IsSmall l bounded) no_scale (scaled_step l) (none_small l bounded)
    (step_small l bounded) t p).small f (h, k)
