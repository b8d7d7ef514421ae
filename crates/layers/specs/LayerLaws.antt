-- The laws of the compact interface, from those of the sum.
use Rattle.std.specs.Prelude.{◌≡◌, ◌≤◌, ℕ, ℤ, pos, List, [], ◌∷◌, map, refl}
use Rattle.std.proofs.Common.{arith, ap, sym}
use Rattle.weights.specs.MonoidLaws.{integers_laws}
use Rattle.iface.specs.Structures.{IfaceLaws}
use Rattle.iface.specs.EitherLaws.{either_laws}
use Rattle.powerset_iface.specs.SetLaws.{set_laws}
use Rattle.monoid_iface.specs.GroupLaws.{group_laws}
use Rattle.monoid_iface.specs.Groups.{few_weights, value_of_group}
use Rattle.distribution_iface.specs.DistLaws.{dist_laws}
use Rattle.polynomial_iface.specs.PolyLaws.{poly_laws}
use Rattle.polynomial_iface.specs.Polys.{arity}
use Rattle.layers.specs.Nest.{any_node, any_kin, any_fits, any_value, any_agree, add}
use Rattle.layers.specs.NestLabels.{all_left, places_fit, bag_fit, whole_fit, scaled_fit, dist_fit, bag_labels, whole_labels, scaled_labels, dist_labels}
use Rattle.decoding.specs.Decoded.{node_by, kin_by, value_by, agree_by}
use Rattle.decoding.specs.Laws.{decoded_laws}
use Rattle.layers.specs.declared.shape.Kind.{Kind}
use Rattle.layers.specs.declared.shape.Kind.TheVariants as kind
use Rattle.layers.specs.declared.shape.LayerShape.{LayerShape}
use Rattle.layers.specs.Packing.{class_of}
use Rattle.layers.specs.Meanings.{shape_at, weight_at, side_of, label_by, fits_class, fits_layer, shape_of, label_of, value_of_class}

-- the laws of the sum, from those of its sides
pub any_laws :
    (d : ℕ) → 1 ≤ d → IfaceLaws any_node any_kin any_fits (any_value d) any_agree
any_laws d positive =
    let plain = group_laws (λ x. x) (pos 0) add integers_laws 1 (omega arith) in
    let scaled = group_laws (λ x. x) (pos 0) add integers_laws d positive in
    either_laws _ _ _ _ _ _ _ _ _ _ (set_laws (record {}))
    (either_laws _ _ _ _ _ _ _ _ _ _ plain
    (either_laws _ _ _ _ _ _ _ _ _ _ plain
    (either_laws _ _ _ _ _ _ _ _ _ _ scaled
    (either_laws _ _ _ _ _ _ _ _ _ _ (dist_laws d positive) (poly_laws (record {}))))))

-- labels that suit a class suit what they stand for
fits_side :
    (ws : List ℤ) (k : Kind) (p : ℕ) (ls : List ℕ) → fits_class ws (class_of k) ls →
    any_fits (side_of k p) (map (label_by ws k) ls)
fits_side ws kind.Set p ls fit = (all_left _ (λ _. tt) ls, tt)
fits_side ws kind.Bag p ls fit = bag_fit (weight_at ws) ls (λ xs. few_weights (λ x. x) xs) fit
fits_side ws kind.Whole p ls fit = whole_fit (weight_at ws) ls (λ xs. few_weights (λ x. x) xs) fit
fits_side ws kind.Scaled p ls fit =
    scaled_fit (weight_at ws) ls (λ xs. few_weights (λ x. x) xs) fit
fits_side ws kind.Dist p ls fit = dist_fit (weight_at ws) ls (λ xs. few_weights (λ x. x) xs) fit
fits_side ws (kind.Poly f) p ls fit = rw fit (places_fit (arity f) (arity f) refl)

-- the value in the sum is that of the class
pub class_value :
    (d : ℕ) (ws : List ℤ) (k : Kind) (p : ℕ) (ls ts : List ℕ) →
    value_of_class d ws (class_of k) ls ts ≡ any_value d (side_of k p) (map (label_by ws k) ls) ts
class_value d ws kind.Set p ls ts = refl
class_value d ws kind.Bag p ls ts =
    ap (λ xs. value_of_group (λ x. x) (pos 0) add 1 xs ts) (sym (bag_labels (weight_at ws) ls))
class_value d ws kind.Whole p ls ts =
    ap (λ xs. value_of_group (λ x. x) (pos 0) add 1 xs ts) (sym (whole_labels (weight_at ws) ls))
class_value d ws kind.Scaled p ls ts =
    ap (λ xs. value_of_group (λ x. x) (pos 0) add d xs ts) (sym (scaled_labels (weight_at ws) ls))
class_value d ws kind.Dist p ls ts =
    ap (λ xs. value_of_group (λ x. x) (pos 0) add d xs ts) (sym (dist_labels (weight_at ws) ls))
class_value d ws (kind.Poly f) p ls ts = refl

-- the laws of the compact interface
pub layer_laws :
    (shapes : List LayerShape) (ws : List ℤ) (d : ℕ) → 1 ≤ d →
    IfaceLaws (node_by (shape_of shapes) (label_of shapes ws) any_node)
    (kin_by (shape_of shapes) (label_of shapes ws) any_kin) (fits_layer shapes ws)
    (value_by (shape_of shapes) (label_of shapes ws) (any_value d))
    (agree_by (shape_of shapes) (label_of shapes ws) any_agree)
layer_laws shapes ws d positive =
    decoded_laws (shape_of shapes) (label_of shapes ws) any_node any_kin any_fits (any_value d)
    any_agree (fits_layer shapes ws)
    (λ s ls fit. fits_side ws (shape_at shapes s).kind (shape_at shapes s).node ls fit)
    (any_laws d positive)
