-- The weights of two targets that are together one.
use Rattle.std.proofs.Common.{◌≡◌, ℕ, ◌+◌, ◌*◌, ◌/◌, ◌≤◌, true, ◌&&◌, List, [], ◌∷◌, ◌++◌, map, refl, ap, ◌∙◌, subst, arith}
use Rattle.std.specs.Prelude.{ℤ, pos}
use Rattle.std.specs.Int.{◌∣◌}
use Rattle.std.specs.List.{AllByRecursion}
use Rattle.std.specs.Ordering.{int_eq}
use Rattle.std.proofs.lemmas.Bool.Decides.{Decides-int_eq}
use Rattle.std.proofs.Math.Nat.{div-mul_cancel}
use Rattle.functor_terms.specs.declared.node.Node.TheVariants.{Product, Distribution}
use Rattle.functor_terms.specs.Terms.{Nodes}
use Rattle.weights.specs.Numerals.{numeral}
use Rattle.typing.specs.declared.value.Value.{Value}
use Rattle.typing.specs.declared.value.Value.TheVariants as value
use Rattle.typing.specs.declared.value.Value.TheViews.{outs-Tuple, outs-Weights}
use Rattle.typing.specs.Values.{parts_in, entries_in}
use Rattle.typing.specs.Bounds.{are_any, joint_weight, each_holds, entries_hold, sums_hold}
use Rattle.fitting.specs.declared.fitted.Fitted.{Fitted, Fitted-F}
use Rattle.fitting.specs.declared.fitted.Fitted.TheVariants as fitted
use Rattle.fitting.specs.declared.fitted.Fitted.TheViews as shown
use Rattle.fitting.specs.declared.fitted.Weight.{Weight}
use Rattle.fitting.specs.declared.fitted.Weight.TheVariants as weight
use Rattle.fitting.specs.Scaling.{denominators, scaled, scaled_level, scaled_entries, has_sums}
use Rattle.structure_writer.specs.Spelled.{DividesAll}
use Rattle.trial_texts.specs.declared.kind.TrialKind.TheVariants.{Chain}
use Rattle.trial_files.proofs.Terms.{term_of}
use Rattle.fitting.proofs.JoinLaws.{denominators_out}

abbrev t : Nodes
t = term_of Chain

-- a mark m, and the targets a and b with p/q and r/q
module _ (m a b p r q : ℕ) where
  abbrev es : List (Fitted × Weight)
  es =
      (fitted.State a, weight.Fraction (numeral (pos p) q))
      ∷ (fitted.State b, weight.Fraction (numeral (pos r) q)) ∷ []

  abbrev inner : Fitted
  inner = fitted.Weights es

  abbrev whole : Fitted
  whole = fitted.Tuple (fitted.Label m ∷ inner ∷ [])

  -- its denominators
  own : denominators whole ≡ q ∷ q ∷ []
  own =
      denominators_out whole (Fitted-F.Tuple (fitted.Label m ∷ inner ∷ []))
      (shown.outs-Tuple (fitted.Label m ∷ inner ∷ []))
      ∙ (λ i. label i ++ (weights i ++ []))
    where
      label : denominators (fitted.Label m) ≡ []
      label = denominators_out (fitted.Label m) (Fitted-F.Label m) (shown.outs-Label m)

      state : (i : ℕ) → denominators (fitted.State i) ≡ []
      state i = denominators_out (fitted.State i) (Fitted-F.State i) (shown.outs-State i)

      weights : denominators inner ≡ q ∷ q ∷ []
      weights =
          denominators_out inner (Fitted-F.Weights es) (shown.outs-Weights es)
          ∙ (λ i. (state a i ++ q ∷ []) ++ ((state b i ++ q ∷ []) ++ []))

  own_divides : (l : ℕ) → DividesAll l whole → q ∣ l
  own_divides l d = (subst (λ (qs : List ℕ). AllByRecursion (λ k. k ∣ l) qs) own d).0

  -- its entries over a denominator
  abbrev scaled_es : ℕ → List (Value × ℤ)
  scaled_es l = scaled_entries l Distribution (scaled l t 3) es

  inner_scaled : (l : ℕ) → scaled l t 2 inner ≡ value.Weights (scaled_es l)
  inner_scaled l = ap (scaled_level l Distribution (map (scaled l t) (3 ∷ [])))
      (shown.outs-Weights es)

  whole_scaled : (l : ℕ)
      → scaled l t 0 whole
      ≡ value.Tuple (scaled l t 1 (fitted.Label m) ∷ scaled l t 2 inner ∷ [])
  whole_scaled l =
      ap (scaled_level l Product (map (scaled l t) (1 ∷ 2 ∷ [])))
      (shown.outs-Tuple (fitted.Label m ∷ inner ∷ []))

  -- together they are one
  joint : (l : ℕ) → p + r ≡ q → q ∣ l → joint_weight Distribution (scaled_es l) ≡ pos l
  joint l one divides =
      let c : ℕ = l / q in
      let cancelled : c * q ≡ l = div-mul_cancel q divides in
      ap pos (spread p r c ∙ ap (λ n. c * n) one ∙ cancelled)
    where
      spread : (p r c : ℕ) → p * c + (r * c + 0) ≡ c * (p + r)
      spread p r c = omega arith

  inner_holds : (l : ℕ) → p + r ≡ q → q ∣ l → sums_hold are_any l t 2 (scaled l t 2 inner) ≡ true
  inner_holds l one divides =
      ap (sums_hold are_any l t 2) (inner_scaled l)
      ∙ ap (λ ws. are_any ws && int_eq (joint_weight Distribution ws) (pos l)
      && entries_hold (sums_hold are_any l t 3) ws) (ap entries_in (outs-Weights (scaled_es l)))
      ∙ ap (λ n. true && int_eq n (pos l) && true) (joint l one divides)
      ∙ ap (λ b. true && b && true) ((Decides-int_eq (pos l) (pos l)).1 refl)

  -- so the distribution has its sum over each denominator that they divide
  pub chance-sums : p + r ≡ q → (l : ℕ) → 1 ≤ l → DividesAll l whole → has_sums l t 0 whole ≡ true
  chance-sums one l some d =
      let vs : List Value = scaled l t 1 (fitted.Label m) ∷ scaled l t 2 inner ∷ [] in
      ap (sums_hold are_any l t 0) (whole_scaled l)
      ∙ ap (λ ws. each_holds (sums_hold are_any l t 1 ∷ sums_hold are_any l t 2 ∷ []) ws)
      (ap parts_in (outs-Tuple vs))
      ∙ ap (λ b. true && (b && true)) (inner_holds l one (own_divides l d))
