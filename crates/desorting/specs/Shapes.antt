-- The shape and the labels of a structure, over the sum of all interfaces.
--
-- shape_of, labels_of          those of a structure with so many children
-- sorted_of, sorted_system     structures as sorted states, with their shapes and labels
use Rattle.std.specs.Prelude.{ℕ, List, length, map}
use Rattle.functor_terms.specs.declared.node.Node.{Node}
use Rattle.functor_terms.specs.declared.node.Node.TheVariants.{State, Constant, Naturals, Product, Sum, Power, Powerset, Bag, Distribution, Integers, Rationals}
use Rattle.functor_terms.specs.Terms.{Nodes, node_at}
use Rattle.typing.specs.declared.value.Value.{Value}
use Rattle.typing.specs.Values.{label, index, parts, entries}
use Rattle.iface.specs.declared.side.Side.TheVariants.{Left, Right}
use Rattle.polynomial_iface.specs.declared.weight.Form.TheVariants as form
use Rattle.sorted_systems.specs.Systems.{Sorted}
use Rattle.layers.specs.Nest.{AnyShape, AnyLabel, poly, in_bag, in_whole, in_scaled, in_dist, place_labels}
use Rattle.structures.specs.Structures.{Occurrence}

-- the shape of a structure with k children
abbrev pub shape_of : Node → ℕ → Value → ℕ → AnyShape
shape_of State p v k = poly p form.Identity
shape_of (Constant labels) p v k = poly p (form.Constant (label v))
shape_of Naturals p v k = poly p (form.Constant (label v))
shape_of Product p v k = poly p (form.Places k)
shape_of Sum p v k = poly p (form.Tagged (index v))
shape_of (Power labels) p v k = poly p (form.Places k)
shape_of Powerset p v k = Left (record { node = p })
shape_of Bag p v k = Right (Left (record { node = p }))
shape_of Integers p v k = Right (Right (Left (record { node = p })))
shape_of Rationals p v k = Right (Right (Right (Left (record { node = p }))))
shape_of Distribution p v k = Right (Right (Right (Right (Left (record { node = p })))))

-- the labels of the edges of a structure with k children
abbrev pub labels_of : Node → Value → ℕ → List AnyLabel
labels_of Powerset v k = map (λ u. Left tt) (parts v)
labels_of Bag v k = map (λ e. in_bag e.1) (entries v)
labels_of Integers v k = map (λ e. in_whole e.1) (entries v)
labels_of Rationals v k = map (λ e. in_scaled e.1) (entries v)
labels_of Distribution v k = map (λ e. in_dist e.1) (entries v)
labels_of _ v k = place_labels k

-- a structure as a sorted state, with its shape and its labels
abbrev pub sorted_of : Nodes → Occurrence → Sorted AnyShape AnyLabel
sorted_of t o = record {
  shape = shape_of (node_at t o.node) o.node o.value (length o.targets);
  labels = labels_of (node_at t o.node) o.value (length o.targets);
  targets = o.targets;
}

-- structures as sorted states
abbrev pub sorted_system : Nodes → List Occurrence → List (Sorted AnyShape AnyLabel)
sorted_system t system = map (sorted_of t) system
