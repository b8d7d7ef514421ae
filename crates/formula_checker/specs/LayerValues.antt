-- The value of one layer of a structure, when all that is known of each child is a number 0, 1 or
-- 2, its trit.
--
-- bit_of trits k             == 1 where the trit occurs
-- members_of trits           == the set of trits that occur: bit k is set exactly where k does
-- joint_with plus es g k     == the weights of the entries with trit k, joined by plus
-- weights_of m d es trits    == the joint weights of 0, 1 and 2 over d, in lowest terms
-- layer_value d m v trits    == the value of v at a node m, in a coalgebra with the denominator d
use Rattle.std.specs.Prelude.{ℕ, ℤ, pos, ◌+◌, ◌*◌, ◌==◌, if◌then◌else◌, List, [], ◌∷◌, slice_index}
use Rattle.std.specs.List.{list_any}
use Rattle.functor_terms.specs.declared.node.Node.{Node}
use Rattle.functor_terms.specs.declared.node.Node.TheVariants.{State, Constant, Naturals, Product, Sum, Power, Powerset, Bag, Distribution, Integers, Rationals}
use Rattle.typing.specs.declared.value.Value.{Value}
use Rattle.typing.specs.Values.{label, index, entries}
use Rattle.typing.specs.Equality.{plus_at}
use Rattle.weights.specs.Fractions.{lowest_terms}
use Rattle.modalities.specs.declared.three.Three.{Three}
use Rattle.modalities.specs.declared.three.Three.TheVariants as value
use Rattle.modalities.specs.Values.{triple}

-- 1 where the trit occurs, and else 0
abbrev pub bit_of : List ℕ → ℕ → ℕ
bit_of trits k = if list_any (λ x. x == k) trits then 1 else 0

-- the set of trits that occur: bit k is set exactly where k does
abbrev pub members_of : List ℕ → ℕ
members_of trits = bit_of trits 0 + 2 * bit_of trits 1 + 4 * bit_of trits 2

-- the weights of the entries with trit k, joined by plus
abbrev pub joint_with : (ℤ → ℤ → ℤ) → List (Value × ℤ) → List ℕ → ℕ → ℤ
joint_with plus [] trits k = pos 0
joint_with plus (e ∷ es) [] k = pos 0
joint_with plus (e ∷ es) (x ∷ trits) k =
    plus (if x == k then e.1 else pos 0) (joint_with plus es trits k)

-- the joint weights of the children with 0, 1 and 2, as fractions in lowest terms
abbrev pub weights_of : Node → ℕ → List (Value × ℤ) → List ℕ → Three
weights_of m d es trits =
    triple (lowest_terms (joint_with (plus_at m) es trits 0) d)
    (lowest_terms (joint_with (plus_at m) es trits 1) d)
    (lowest_terms (joint_with (plus_at m) es trits 2) d)

-- The value of the layer, with a trit for each child: the label; the trit of the one child; all
-- trits; the index and the trit; the set of the trits that occur; the weights of the children with
-- 0, 1 and 2. Weights of bags and integers are whole, the others are multiples of 1/d.
abbrev pub layer_value : ℕ → Node → Value → List ℕ → Three
layer_value d State v trits = value.Trit (slice_index trits 0)
layer_value d (Constant labels) v trits = value.Label (label v)
layer_value d Naturals v trits = value.Label (label v)
layer_value d Product v trits = value.Trits trits
layer_value d (Power labels) v trits = value.Trits trits
layer_value d Sum v trits = value.Tagged (index v) (slice_index trits 0)
layer_value d Powerset v trits = value.Members (members_of trits)
layer_value d Bag v trits = weights_of Bag 1 (entries v) trits
layer_value d Integers v trits = weights_of Integers 1 (entries v) trits
layer_value d Distribution v trits = weights_of Distribution d (entries v) trits
layer_value d Rationals v trits = weights_of Rationals d (entries v) trits
