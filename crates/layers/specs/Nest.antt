-- The sum of all interfaces: sets, bags, whole weights, fractions, distributions, and polynomial
-- layers, in this order.
--     AnyShape, AnyLabel                    a shape and a label of any of them
--     poly, in_bag, in_whole, in_scaled, in_dist, at_place, place_labels      those of one side
--     any_node, any_kin, any_fits, any_value, any_agree       what the sum means
use Rattle.std.specs.Prelude.{ℕ, ℤ, pos, ◌+ℤ◌, List, map}
use Rattle.modalities.specs.declared.three.Three.{Three}
use Rattle.iface.specs.declared.side.Side.{Side}
use Rattle.iface.specs.declared.side.Side.TheVariants.{Left, Right}
use Rattle.iface.specs.Structures.{Classed}
use Rattle.iface.specs.Sides.{node_of_side, kin_of_sides, fits_on_side, value_of_side, agree_of_sides}
use Rattle.powerset_iface.specs.declared.weight.SetShape.{SetShape}
use Rattle.powerset_iface.specs.Sets.{value_of_set, agree_of_sets}
use Rattle.monoid_iface.specs.declared.weight.GroupShape.{GroupShape}
use Rattle.monoid_iface.specs.Groups.{few_weights, value_of_group, agree_of_groups}
use Rattle.distribution_iface.specs.declared.weight.DistShape.{DistShape}
use Rattle.distribution_iface.specs.Dists.{few_weights_of_dist, value_of_dist, agree_of_dists}
use Rattle.polynomial_iface.specs.declared.weight.Form.{Form}
use Rattle.polynomial_iface.specs.declared.weight.PolyShape.{PolyShape}
use Rattle.polynomial_iface.specs.Polys.{numbers_from, fits_form, value_of_form, agree_of_forms}

-- a shape of sets, bags, whole weights, fractions, distributions, or polynomial structures
abbrev pub AnyShape : Type 0
AnyShape =
    Side SetShape
    (Side GroupShape (Side GroupShape (Side GroupShape (Side DistShape PolyShape))))

-- a label of one of them, in the same order
abbrev pub AnyLabel : Type 0
AnyLabel = Side (Unit {0}) (Side ℤ (Side ℤ (Side ℤ (Side ℤ ℕ))))

-- the shape of a polynomial structure
abbrev pub poly : ℕ → Form → AnyShape
poly p f = Right (Right (Right (Right (Right (record { node = p; form = f })))))

-- the labels on the sides of sets, bags, whole weights, fractions, distributions and places
abbrev pub in_bag : ℤ → AnyLabel
in_bag w = Right (Left w)

abbrev pub in_whole : ℤ → AnyLabel
in_whole w = Right (Right (Left w))

abbrev pub in_scaled : ℤ → AnyLabel
in_scaled w = Right (Right (Right (Left w)))

abbrev pub in_dist : ℤ → AnyLabel
in_dist w = Right (Right (Right (Right (Left w))))

abbrev pub at_place : ℕ → AnyLabel
at_place i = Right (Right (Right (Right (Right i))))

-- the labels of so many places
abbrev pub place_labels : ℕ → List AnyLabel
place_labels k = map at_place (numbers_from 0 k)

-- the sum of two weights
abbrev pub add : ℤ → ℤ → ℤ
add x y = x +ℤ y

-- the node of a shape
abbrev pub any_node : AnyShape → ℕ
any_node =
    node_of_side (λ (s : SetShape). s.node)
    (node_of_side (λ (s : GroupShape). s.node)
    (node_of_side (λ (s : GroupShape). s.node)
    (node_of_side (λ (s : GroupShape). s.node)
    (node_of_side (λ (s : DistShape). s.node) (λ (s : PolyShape). s.node)))))

-- two shapes stand on one side
abbrev pub any_kin : AnyShape → AnyShape → Type 0
any_kin =
    kin_of_sides (λ _ _. Unit {0})
    (kin_of_sides (λ _ _. Unit {0})
    (kin_of_sides (λ _ _. Unit {0})
    (kin_of_sides (λ _ _. Unit {0})
    (kin_of_sides (λ _ _. Unit {0}) (λ _ _. Unit {0})))))

-- the labels suit the shape
abbrev pub any_fits : AnyShape → List AnyLabel → Type 0
any_fits =
    fits_on_side (λ _ _. Unit {0})
    (fits_on_side (λ _ ls. few_weights (λ x. x) ls)
    (fits_on_side (λ _ ls. few_weights (λ x. x) ls)
    (fits_on_side (λ _ ls. few_weights (λ x. x) ls)
    (fits_on_side (λ _ ls. few_weights_of_dist ls)
    (λ s ls. fits_form s.form ls)))))

-- the value of a structure, with a trit for each edge, in a coalgebra with the denominator d
abbrev pub any_value : ℕ → AnyShape → List AnyLabel → List ℕ → Three
any_value d =
    value_of_side (λ _ _ trits. value_of_set trits)
    (value_of_side (λ _ ls trits. value_of_group (λ x. x) (pos 0) add 1 ls trits)
    (value_of_side (λ _ ls trits. value_of_group (λ x. x) (pos 0) add 1 ls trits)
    (value_of_side (λ _ ls trits. value_of_group (λ x. x) (pos 0) add d ls trits)
    (value_of_side (λ _ ls trits. value_of_dist d ls trits)
    (λ s _ trits. value_of_form s.form trits)))))

-- two structures are equal when each target is replaced by its class
abbrev pub any_agree : Classed AnyShape AnyLabel → Classed AnyShape AnyLabel → Type 0
any_agree =
    agree_of_sides agree_of_sets
    (agree_of_sides (agree_of_groups (pos 0) add)
    (agree_of_sides (agree_of_groups (pos 0) add)
    (agree_of_sides (agree_of_groups (pos 0) add)
    (agree_of_sides agree_of_dists agree_of_forms))))
