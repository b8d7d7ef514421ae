-- Laws of the definitions, as statements. Each is the contract of a function that does nothing.
--
-- IsNormalForm t p v r       == r is the normal form of v at node p
-- RescalingKeepsEquality     == values are equal after rescaling exactly where they were before
-- RescalingKeepsOrder        == and compare as before; RescalingKeepsNormalValues,
--                               RescalingKeepsFits, RescalingKeepsStates, RescalingKeepsSums: the
--                               same of normal values, the form, the states and the sums
-- RescalingCommutes          == states may be relabelled before or after
-- RescalingTells             == values that are rescaled to one value are one value
-- ScaledValuesRescale        == the value of a tree over a multiple is its value, rescaled
-- NormalFormsRescale         == the normal form of a rescaled value is its normal form, rescaled
-- SameFractionsSameStability == with the same fractions, one list is stable exactly where the other
--                               is; SameFractionsSameEquivalence: and states are equivalent
-- LowestTermsStay            == in lowest terms a multiple of a weight over that of its denominator
--                               is the weight; RescaledWeightsStay: so is a rescaled weight
use Rattle.std.specs.Prelude.{◌≡◌, ◌↔◌, ℕ, ◌*◌, ◌≤◌, ℤ, pos, ◌*ℤ◌, true, List, IsTrue}
use Rattle.std.specs.Int.{◌∣◌}
use Rattle.std.specs.List.{AllByRecursion, list_all}
use Rattle.functor_terms.specs.declared.node.Node.{Node}
use Rattle.functor_terms.specs.Terms.{Nodes}
use Rattle.weights.specs.Fractions.{lowest_terms}
use Rattle.typing.specs.declared.value.Value.{Value}
use Rattle.typing.specs.Values.{relabelled, states_below}
use Rattle.typing.specs.Equality.{are_equal}
use Rattle.typing.specs.Bounds.{weights_hold}
use Rattle.typing.specs.Fits.{fits}
use Rattle.typing.specs.Order.{compare, is_normal}
use Rattle.typing.specs.Contents.{Content}
use Rattle.typing.specs.Stable.{IsStable, AreEquivalent}
use Rattle.fitting.specs.declared.fitted.Fitted.{Fitted}
use Rattle.fitting.specs.Fitting.{has_fractions}
use Rattle.fitting.specs.Scaling.{scaled, denominators}
use Rattle.rescaling.specs.Rescaled.{rescaled, rescaled_weight, SameFractions}

-- ---- values

-- values that fit a node are equal after rescaling exactly where they were before
abbrev pub RescalingKeepsEquality : Type 0
RescalingKeepsEquality =
    (k : ℕ) (t : Nodes) (p : ℕ) (u v : Value) → 1 ≤ k →
    IsTrue (fits t p u) → IsTrue (fits t p v) →
    are_equal t p (rescaled k t p u) (rescaled k t p v) ≡ are_equal t p u v

-- and they compare as they did before
abbrev pub RescalingKeepsOrder : Type 0
RescalingKeepsOrder =
    (k : ℕ) (t : Nodes) (p : ℕ) (u v : Value) → 1 ≤ k →
    IsTrue (fits t p u) → IsTrue (fits t p v) →
    compare t p (rescaled k t p u) (rescaled k t p v) ≡ compare t p u v

-- and are normal exactly where they were before
abbrev pub RescalingKeepsNormalValues : Type 0
RescalingKeepsNormalValues =
    (k : ℕ) (t : Nodes) (p : ℕ) (v : Value) → 1 ≤ k → IsTrue (fits t p v) →
    is_normal t p (rescaled k t p v) ≡ is_normal t p v

-- over k times the denominator, weights at bags and distributions are above 0, and those of each
-- distribution have their sum, exactly where it was so before
abbrev pub RescalingKeepsSums : Type 0
RescalingKeepsSums =
    (k l : ℕ) (t : Nodes) (p : ℕ) (v : Value) → 1 ≤ k → IsTrue (fits t p v) →
    weights_hold (k * l) t p (rescaled k t p v) ≡ weights_hold l t p v

-- any value fits exactly where it did before
abbrev pub RescalingKeepsFits : Type 0
RescalingKeepsFits =
    (k : ℕ) (t : Nodes) (p : ℕ) (v : Value) → fits t p (rescaled k t p v) ≡ fits t p v

-- and its states are below n exactly where they were
abbrev pub RescalingKeepsStates : Type 0
RescalingKeepsStates =
    (k : ℕ) (t : Nodes) (p n : ℕ) (v : Value) →
    states_below n (rescaled k t p v) ≡ states_below n v

-- the states of any value may be relabelled before or after
abbrev pub RescalingCommutes : Type 0
RescalingCommutes =
    (k : ℕ) (t : Nodes) (p : ℕ) (b : List ℕ) (v : Value) →
    relabelled b (rescaled k t p v) ≡ rescaled k t p (relabelled b v)

-- any values that are rescaled to one value are one value
abbrev pub RescalingTells : Type 0
RescalingTells =
    (k : ℕ) (t : Nodes) (p : ℕ) (u v : Value) → 1 ≤ k →
    rescaled k t p u ≡ rescaled k t p v → u ≡ v

-- ---- values of trees

-- where l is a multiple of the denominators of a fitted tree, its value over k times l is its value
-- over l, rescaled
abbrev pub ScaledValuesRescale : Type 0
ScaledValuesRescale =
    (k l : ℕ) (t : Nodes) (p : ℕ) (f : Fitted) → AllByRecursion (λ q. q ∣ l) (denominators f) →
    scaled (k * l) t p f ≡ rescaled k t p (scaled l t p f)

-- r fits node p, is normal, and is equal to v there
pub record IsNormalForm (t : Nodes) (p : ℕ) (v r : Value) : Type 0 where
  pub fitting : IsTrue (fits t p r)
  pub normal : IsTrue (is_normal t p r)
  pub equal : IsTrue (are_equal t p r v)

-- the normal form of a rescaled value is its normal form, rescaled
abbrev pub NormalFormsRescale : Type 0
NormalFormsRescale =
    (k : ℕ) (t : Nodes) (p : ℕ) (v r s : Value) → 1 ≤ k → IsTrue (fits t p v) →
    IsNormalForm t p v r → IsNormalForm t p (rescaled k t p v) s → s ≡ rescaled k t p r

-- ---- coalgebras

-- where d and e have the same fractions, a list is stable for d exactly where it is for e
abbrev pub SameFractionsSameStability : Type 0
SameFractionsSameStability =
    (d e : Content) → SameFractions d e → 1 ≤ d.denominator →
    IsTrue (list_all (fits e.term 0) e.values) →
    (b : List ℕ) → IsStable d.term d.values b ↔ IsStable e.term e.values b

-- and states are equivalent in d exactly where they are in e
abbrev pub SameFractionsSameEquivalence : Type 0
SameFractionsSameEquivalence =
    (d e : Content) → SameFractions d e → 1 ≤ d.denominator →
    IsTrue (list_all (fits e.term 0) e.values) →
    (i j : ℕ) → AreEquivalent d.term d.values i j ↔ AreEquivalent e.term e.values i j

-- ---- weights

-- a multiple of a weight over the same multiple of its denominator is the weight in lowest terms
abbrev pub LowestTermsStay : Type 0
LowestTermsStay =
    (w : ℤ) (l k : ℕ) → 1 ≤ l → 1 ≤ k →
    lowest_terms (w *ℤ pos k) (l * k) ≡ lowest_terms w l

-- where d and e have the same fractions, a weight of e and the weight of d that it is rescaled to
-- are one fraction in lowest terms, each over the denominator of its own coalgebra
abbrev pub RescaledWeightsStay : Type 0
RescaledWeightsStay =
    (d e : Content) (same : SameFractions d e) → 1 ≤ d.denominator →
    (m : Node) → has_fractions m ≡ true → (w : ℤ) →
    lowest_terms (rescaled_weight same.factor m w) d.denominator ≡ lowest_terms w e.denominator
