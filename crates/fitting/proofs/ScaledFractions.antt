-- A scaled weight is the same fraction, where the denominator is a multiple of its own.
use Rattle.std.proofs.Common.{◌≡◌, ℕ, zero, suc, ◌*◌, ◌/◌, sym, ap, ◌∙◌, arith}
use Rattle.std.specs.Prelude.{ℤ, pos, negsuc, neg_ℤ, ◌*ℤ◌, if◌then◌else◌}
use Rattle.std.proofs.Math.IntN.{pos-*ℤ-pos, negsuc-*ℤ-pos}
use Rattle.std.proofs.Math.Nat.{div-mul_cancel, mul_assoc}
use Rattle.fitting.specs.declared.fitted.Weight.TheVariants as weight
use Rattle.fitting.specs.Scaling.{scaled_weight}
use Rattle.fitting.specs.Laws.{WeightsKeepFractions}

-- a negative number times a natural one
pub negative-times : (x c : ℕ) → neg_ℤ (pos x) *ℤ pos c ≡ neg_ℤ (pos (x * c))
negative-times zero c =
    let none : 0 * c ≡ 0 = omega arith in
    pos-*ℤ-pos 0 c ∙ ap pos none ∙ sym (ap (λ x. neg_ℤ (pos x)) none)
negative-times (suc x) c = negsuc-*ℤ-pos x c

-- two factors one after the other
times-times : (z : ℤ) (b c : ℕ) → (z *ℤ pos b) *ℤ pos c ≡ z *ℤ pos (b * c)
times-times (pos a) b c =
    ap (λ y. y *ℤ pos c) (pos-*ℤ-pos a b) ∙ pos-*ℤ-pos (a * b) c ∙ ap pos (mul_assoc a b c)
    ∙ sym (pos-*ℤ-pos a (b * c))
times-times (negsuc a) b c =
    ap (λ y. y *ℤ pos c) (negsuc-*ℤ-pos a b) ∙ negative-times (suc a * b) c
    ∙ ap (λ x. neg_ℤ (pos x)) (mul_assoc (suc a) b c) ∙ sym (negsuc-*ℤ-pos a (b * c))

-- weights keep their fractions where they are scaled
pub weights-keep : WeightsKeepFractions
weights-keep l m n fractions divides =
    let scaled : scaled_weight l m (weight.Fraction n) ≡ n.p *ℤ pos (l / n.q) =
    ap (λ b. if b then n.p *ℤ pos (l / n.q) else n.p) fractions in
    ap (λ z. z *ℤ pos n.q) scaled ∙ times-times n.p (l / n.q) n.q
    ∙ ap (λ k. n.p *ℤ pos k) (div-mul_cancel n.q divides)
