-- What a sorted state shows can be written.
--
-- value_writable     == the value of a structure that fits, by its bounds
use Rattle.std.proofs.Common.{◌≡◌, ◌<◌, ◌≤◌, ◌==◌, ◌^◌, ℕ, Bool, true, false, List, [], ◌∷◌, length, arith, All}
use Rattle.std.specs.Prelude.{ℤ, pos, ◌+ℤ◌, unsigned_abs, slice_index, nat_lt, if◌then◌else◌}
use Rattle.std.specs.List.{list_all}
use Rattle.std.proofs.lemmas.Bool.{and_parts, eqb-true, ltb-true, leb-true}
use Rattle.std.proofs.lemmas.List.Sums.{sum_by-cons}
use Rattle.weights.specs.Fractions.{lowest_terms}
use Rattle.weights.specs.FractionLaws.{lowest_terms-IsLowest, lowest_terms-smaller}
use Rattle.functor_terms.specs.declared.node.LabelSet.{LabelSet}
use Rattle.functor_terms.specs.declared.node.LabelSet.TheVariants.{Listed, Below}
use Rattle.functor_terms.specs.declared.node.Node.{Node}
use Rattle.functor_terms.specs.declared.node.Node.TheVariants.{State, Constant, Naturals, Product, Sum, Power, Powerset, Bag, Distribution, Integers, Rationals}
use Rattle.functor_terms.specs.Terms.{AreLabels, label_count}
use Rattle.typing.specs.declared.value.Value.{Value}
use Rattle.typing.specs.Values.{label, index, entries}
use Rattle.typing.specs.Equality.{the_sum}
use Rattle.typing.specs.Bounds.{is_within, absolute_sum}
use Rattle.typing.proofs.KeptWeights.{entries_within}
use Rattle.formulas.specs.Ranges.{IsWritableFraction, AreWritableSums, IsWritableValue}
use Rattle.formula_checker.specs.LayerValues.{joint_with, layer_value, members_of}
use Rattle.satisfaction.specs.Modalities.{is_trit, has_form}
use Rattle.state_certificates.proofs.TermNodes.{IsKnown}
use Rattle.typing.proofs.WeightSums.{triangle}

-- labels are from 1 to 65,536
label_bounds :
    (labels : LabelSet) → AreLabels labels → (0 < label_count labels) × (label_count labels ≤ 65536)
label_bounds (Listed words) h = (h.1, h.2)
label_bounds (Below n) h = (h.0, h.1)

-- the joint weight of a trit is no larger than all weights
joint_small :
    (es : List (Value × ℤ)) (g : List ℕ) (k : ℕ) →
    unsigned_abs (joint_with the_sum es g k) ≤ absolute_sum es
joint_small [] g k = omega arith
joint_small (e ∷ es) [] k = omega arith
joint_small (e ∷ es) (x ∷ g) k = by (x == k) (joint_small es g k)
  where
    by :
        (b : Bool) → unsigned_abs (joint_with the_sum es g k) ≤ absolute_sum es →
        unsigned_abs ((if b then e.1 else pos 0) +ℤ joint_with the_sum es g k)
        ≤ absolute_sum (e ∷ es)
    by true h =
        omega (
          arith,
          triangle e.1 (joint_with the_sum es g k),
          sum_by-cons (λ (w : Value × ℤ). unsigned_abs w.1) e es,
          h,
        )
    by false h =
        omega (
          arith,
          triangle (pos 0) (joint_with the_sum es g k),
          sum_by-cons (λ (w : Value × ℤ). unsigned_abs w.1) e es,
          h,
        )

-- a fraction in lowest terms
fraction_writable :
    (n : ℤ) (d : ℕ) → 1 ≤ d → d ≤ 2 ^ 40 → unsigned_abs n ≤ 2 ^ 106 →
    IsWritableFraction (lowest_terms n d)
fraction_writable n d some few small =
    let lowest = lowest_terms-IsLowest n d some in
    let smaller = lowest_terms-smaller n d in
    record {
      lowest = lowest.coprime;
      positive = lowest.positive;
      denominator = omega (arith, smaller.1, few);
      numerator = omega (arith, smaller.0, small);
    }

-- the three sums of a list of weights
sums_writable :
    (d : ℕ) → 1 ≤ d → d ≤ 2 ^ 40 → (v : Value) → is_within (2 ^ 106) v ≡ true → (g : List ℕ) →
    AreWritableSums (record {
      at_zero = lowest_terms (joint_with the_sum (entries v) g 0) d;
      at_one = lowest_terms (joint_with the_sum (entries v) g 1) d;
      at_two = lowest_terms (joint_with the_sum (entries v) g 2) d;
    })
sums_writable d some few v within g =
    let all : absolute_sum (entries v) ≤ 2 ^ 106 =
    leb-true (absolute_sum (entries v)) (2 ^ 106) (entries_within (2 ^ 106) v within).1 in
    let small : (k : ℕ) → unsigned_abs (joint_with the_sum (entries v) g k) ≤ 2 ^ 106 =
    λ k. omega (arith, joint_small (entries v) g k, all) in
    record {
      at_zero = fraction_writable (joint_with the_sum (entries v) g 0) d some few (small 0);
      at_one = fraction_writable (joint_with the_sum (entries v) g 1) d some few (small 1);
      at_two = fraction_writable (joint_with the_sum (entries v) g 2) d some few (small 2);
    }

-- the value of a structure that fits, by its bounds
pub value_writable :
    (d : ℕ) → 1 ≤ d → d ≤ 2 ^ 40 → (m : Node) (k : ℕ) → IsKnown m k → k ≤ 256 → (v : Value) →
    is_within (2 ^ 106) v ≡ true → (g : List ℕ) → All (λ x. x ≤ 2) g →
    has_form m k (layer_value d m v g) ≡ true → IsWritableValue (layer_value d m v g)
value_writable d some few State k known child v within g trits h =
    leb-true (slice_index g 0) 2 h
value_writable d some few (Constant labels) k known child v within g trits h =
    omega (
      arith,
      ltb-true (label v) (label_count labels) h,
      (label_bounds labels known.1).1,
    )
value_writable d some few Naturals k known child v within g trits h =
    leb-true (label v) (2 ^ 40) h
value_writable d some few Product k known child v within g trits h =
    let both = and_parts (length g == k) (list_all is_trit g) h in
    let size : length g ≡ k = eqb-true (length g) k both.0 in
    record {
      some = omega (arith, size, leb-true 2 k known.0);
      few = omega (arith, size, child);
      each = trits;
    }
value_writable d some few Sum k known child v within g trits h =
    let both = and_parts (nat_lt (index v) k) (is_trit (slice_index g 0)) h in (
      omega (arith, ltb-true (index v) k both.0, child),
      leb-true (slice_index g 0) 2 both.1,
    )
value_writable d some few (Power labels) k known child v within g trits h =
    let both = and_parts (length g == label_count labels) (list_all is_trit g) h in
    let size : length g ≡ label_count labels =
    eqb-true (length g) (label_count labels) both.0 in
    let bounds = label_bounds labels known.1 in
    record {
      some = omega (arith, size, bounds.0);
      few = omega (arith, size, bounds.1);
      each = trits;
    }
value_writable d some few Powerset k known child v within g trits h =
    ltb-true (members_of g) 8 h
value_writable d some few Bag k known child v within g trits h =
    sums_writable 1 (omega arith) (omega arith) v within g
value_writable d some few Distribution k known child v within g trits h =
    sums_writable d some few v within g
value_writable d some few Integers k known child v within g trits h =
    sums_writable 1 (omega arith) (omega arith) v within g
value_writable d some few Rationals k known child v within g trits h =
    sums_writable d some few v within g
