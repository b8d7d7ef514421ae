-- Which modalities the lines of an answer can say. No list of formulas asks for it.
--
-- IsTrit t                 == t is 0, 1 or 2
-- IsWritableFraction r     == in lowest terms, from 1 to 2^40 below and at most 2^106 above
-- AreWritableSums s        == each of the three sums is such a fraction
-- AreWritableTrits trits   == from 1 to 65,536 trits
-- IsWritableValue v        == the number, the trits or the sums of v are within the ranges
-- IsWritable f             == no modality, or one at a node below 256 with such a value
use Rattle.std.specs.Prelude.{ℕ, ◌<◌, ◌≤◌, ◌^◌, List, length, unsigned_abs}
use Rattle.std.specs.List.{All}
use Rattle.std.specs.Int.{IsGcd}
use Rattle.weights.specs.declared.ratio.Ratio.{Ratio}
use Rattle.modalities.specs.declared.sums.Sums.{Sums}
use Rattle.modalities.specs.declared.three.Three.{Three}
use Rattle.modalities.specs.declared.three.Three.TheVariants.{Label, Trit, Trits, Tagged, Members, Triple}
use Rattle.formulas.specs.declared.formula.Formula.{Formula}
use Rattle.formulas.specs.declared.formula.Formula.TheVariants.{True, Not, And, At}

-- the number is 0, 1 or 2
abbrev pub IsTrit : ℕ → Type 0
IsTrit t = t ≤ 2

-- The fraction is in lowest terms, its denominator is from 1 to 2^40, and its numerator is at most
-- 2^106, whatever its sign.
pub record IsWritableFraction (r : Ratio) : Type 0 where
  pub lowest : IsGcd (unsigned_abs r.p) r.q 1
  pub positive : 1 ≤ r.q
  pub denominator : r.q ≤ 2 ^ 40
  pub numerator : unsigned_abs r.p ≤ 2 ^ 106

-- each of the sums of 0, 1 and 2 is such a fraction
pub record AreWritableSums (s : Sums) : Type 0 where
  pub at_zero : IsWritableFraction s.at_zero
  pub at_one : IsWritableFraction s.at_one
  pub at_two : IsWritableFraction s.at_two

-- some trits, and at most 65,536
pub record AreWritableTrits (trits : List ℕ) : Type 0 where
  pub some : 1 ≤ length trits
  pub few : length trits ≤ 65536
  pub each : All IsTrit trits

-- A label is at most 2^40, a trit at most 2, the index of a part below 256, and a set has no member
-- above 2. Trits and sums are within the ranges above.
abbrev pub IsWritableValue : Three → Type 0
IsWritableValue (Label n) = n ≤ 2 ^ 40
IsWritableValue (Trit t) = IsTrit t
IsWritableValue (Trits trits) = AreWritableTrits trits
IsWritableValue (Tagged i t) = (i < 256) × IsTrit t
IsWritableValue (Members bits) = bits < 8
IsWritableValue (Triple sums) = AreWritableSums sums

-- a modality is at a node below 256, and its value is within the ranges
abbrev pub IsWritable : Formula → Type 0
IsWritable True = Unit {0}
IsWritable (Not i) = Unit {0}
IsWritable (And i j) = Unit {0}
IsWritable (At node value splitter coarse) = (node < 256) × IsWritableValue value
