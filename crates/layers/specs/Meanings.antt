-- The meanings of the compact interface: those of the sum of all interfaces over what its numbers
-- stand for.
--     shape_at, weight_at, weights_at        the entries of the tables
--     side_of, label_by, shape_of, label_of  what shapes and labels stand for
--     class_at, form_of, over                how the weights of a shape are kept
--     fits_class, fits_layer                 the labels suit the shape
--     value_of_class, value_layer            the value
--     sums_of, places_of, wide_of, wide_toward, toward_layer      the weight
--     HasCell, Moves                         the weight of one structure before a move and after it
use Rattle.std.specs.Prelude.{◌≤◌, ℕ, ℤ, pos, nat_le, Bool, cond, List, map, slice_index_or}
use Rattle.modalities.specs.declared.three.Three.{Three}
use Rattle.iface.specs.Structures.{IsCell, IsUpdated}
use Rattle.iface.specs.declared.side.Side.TheVariants.{Left, Right}
use Rattle.polynomial_iface.specs.declared.weight.Form.{Form}
use Rattle.polynomial_iface.specs.declared.weight.Form.TheVariants as form
use Rattle.polynomial_iface.specs.Polys.{arity, fits_form, value_of_form}
use Rattle.powerset_iface.specs.Sets.{toward_of_set, value_of_set}
use Rattle.monoid_iface.specs.declared.weight.GroupWeight.{GroupWeight}
use Rattle.monoid_iface.specs.Groups.{few_weights, toward_of_group, value_of_group}
use Rattle.layers.specs.Nest.{AnyShape, AnyLabel, poly, at_place, in_bag, in_whole, in_scaled, in_dist, add}
use Rattle.layers.specs.declared.shape.Kind.{Kind}
use Rattle.layers.specs.declared.shape.Kind.TheVariants as kind
use Rattle.layers.specs.declared.shape.Class.{Class}
use Rattle.layers.specs.declared.shape.Class.TheVariants as class
use Rattle.layers.specs.declared.shape.LayerShape.{LayerShape}
use Rattle.layers.specs.declared.weight.SumsWeight.{SumsWeight}
use Rattle.layers.specs.declared.weight.Opened.{Opened}
use Rattle.layers.specs.declared.weight.Opened.TheVariants as opened
use Rattle.layers.specs.declared.weight.LayerWeight.{LayerWeight}
use Rattle.layers.specs.Bits.{bits_of}
use Rattle.layers.specs.Packing.{class_of, pack}

-- the shape with a number
abbrev pub shape_at : List LayerShape → ℕ → LayerShape
shape_at shapes s = slice_index_or shapes s (record { node = 0; kind = kind.Set })

-- the weight with a number
abbrev pub weight_at : List ℤ → ℕ → ℤ
weight_at weights l = slice_index_or weights l (pos 0)

-- a kind of layer at a node, in the sum
abbrev pub side_of : Kind → ℕ → AnyShape
side_of kind.Set p = Left (record { node = p })
side_of kind.Bag p = Right (Left (record { node = p }))
side_of kind.Whole p = Right (Right (Left (record { node = p })))
side_of kind.Scaled p = Right (Right (Right (Left (record { node = p }))))
side_of kind.Dist p = Right (Right (Right (Right (Left (record { node = p })))))
side_of (kind.Poly f) p = poly p f

-- a label of a kind of layer, in the sum
abbrev pub label_by : List ℤ → Kind → ℕ → AnyLabel
label_by weights kind.Set l = Left tt
label_by weights kind.Bag l = in_bag (weight_at weights l)
label_by weights kind.Whole l = in_whole (weight_at weights l)
label_by weights kind.Scaled l = in_scaled (weight_at weights l)
label_by weights kind.Dist l = in_dist (weight_at weights l)
label_by weights (kind.Poly f) l = at_place l

-- the form of a kind of layer
abbrev pub form_of : Class → Form
form_of class.Set = form.Constant 0
form_of (class.Sums b) = form.Constant 0
form_of (class.Form f) = f

-- what the shape with a number stands for
abbrev pub shape_of : List LayerShape → ℕ → AnyShape
shape_of shapes s = side_of (shape_at shapes s).kind (shape_at shapes s).node

-- what the label with a number stands for, at the shape with a number
abbrev pub label_of : List LayerShape → List ℤ → ℕ → ℕ → AnyLabel
label_of shapes weights s l = label_by weights (shape_at shapes s).kind l

-- how the weights of a shape are kept
abbrev pub class_at : List LayerShape → ℕ → Class
class_at shapes s = class_of (shape_at shapes s).kind

-- the weights with these numbers
abbrev pub weights_at : List ℤ → List ℕ → List ℤ
weights_at weights ls = map (weight_at weights) ls

-- labels that suit a class
abbrev pub fits_class : List ℤ → Class → List ℕ → Type 0
fits_class weights class.Set ls = Unit {0}
fits_class weights (class.Sums b) ls = few_weights (λ x. x) (weights_at weights ls)
fits_class weights (class.Form f) ls = fits_form f ls

-- the labels suit the shape with a number
abbrev pub fits_layer : List LayerShape → List ℤ → ℕ → List ℕ → Type 0
fits_layer shapes weights s ls = fits_class weights (class_at shapes s) ls

-- the denominator of sums
abbrev pub over : ℕ → Bool → ℕ
over d scaled = cond scaled d 1

-- the value of a class
abbrev pub value_of_class : ℕ → List ℤ → Class → List ℕ → List ℕ → Three
value_of_class d weights class.Set ls ts = value_of_set ts
value_of_class d weights (class.Sums b) ls ts =
    value_of_group (λ x. x) (pos 0) add (over d b) (weights_at weights ls) ts
value_of_class d weights (class.Form f) ls ts = value_of_form f ts

-- sums as a weight
abbrev pub sums_of : Bool → GroupWeight ℤ → SumsWeight
sums_of b w = record { scaled = b; outside = w.outside; inside = w.inside }

-- marks of so many places, as bits where they are at most 64
abbrev pub places_of : ℕ → ℕ → List Bool → Opened
places_of count s ms =
    cond (nat_le count 64)
    (opened.Places (record { shape = s; marks = bits_of ms }))
    (opened.Many (record { shape = s; marks = ms }))

-- the weight of a class, while it is worked on
abbrev pub wide_of : List ℤ → Class → ℕ → List ℕ → List Bool → Opened
wide_of weights class.Set s ls ms = opened.Set (toward_of_set ms)
wide_of weights (class.Sums b) s ls ms =
    opened.Sums (sums_of b (toward_of_group (pos 0) add (weights_at weights ls) ms))
wide_of weights (class.Form f) s ls ms = places_of (arity f) s ms

-- the weight of the shape with a number, while it is worked on
abbrev pub wide_toward : List LayerShape → List ℤ → ℕ → List ℕ → List Bool → Opened
wide_toward shapes weights s ls ms = wide_of weights (class_at shapes s) s ls ms

-- the weight of the shape with a number, in few bytes
abbrev pub toward_layer : List LayerShape → List ℤ → ℕ → List ℕ → List Bool → LayerWeight
toward_layer shapes weights s ls ms = pack (wide_toward shapes weights s ls ms)

-- the value of the shape with a number
abbrev pub value_layer : ℕ → List LayerShape → List ℤ → ℕ → List ℕ → List ℕ → Three
value_layer d shapes weights s ls ts = value_of_class d weights (class_at shapes s) ls ts

-- the weight is that of some structure towards a coarse block, and the moved labels are those of
-- its edges into a splitter within that block
abbrev pub HasCell : List LayerShape → List ℤ → Opened → List ℕ → Type 0
HasCell shapes weights weight moved =
    (s : ℕ) × (ls : List ℕ) × (ts : List ℕ) ×
    IsCell (fits_layer shapes weights) (wide_toward shapes weights) weight moved s ls ts

-- of each such structure, the rest and the part are the weights that the splitter leaves and takes,
-- with the value and the void value
abbrev pub Moves :
    ℕ → List LayerShape → List ℤ → Opened → List ℕ → Opened → Opened → Three → Three → Type 0
Moves d shapes weights weight moved rest part three void =
    (s : ℕ) (ls ts : List ℕ) →
    IsCell (fits_layer shapes weights) (wide_toward shapes weights) weight moved s ls ts →
    IsUpdated (value_layer d shapes weights) (wide_toward shapes weights) rest part three void
    s ls ts
