-- Shapes and labels as numbers in the tables of the compact interface.
--
-- kind_of, layer_shape       the kind of a layer, and the shape in the table
-- AreWeighed, AreLabelled    the numbers stand for weights; for the labels of a structure
-- AreBlocks                  what is said of each structure and of what it adds to a list
-- AreNumbered                the numbers of the shapes and labels of structures
use Rattle.std.specs.Prelude.{◌≡◌, ℕ, ℤ, List, length, map, slice_get, Some}
use Rattle.std.specs.List.{AllZip}
use Rattle.functor_terms.specs.declared.node.Node.{Node}
use Rattle.functor_terms.specs.declared.node.Node.TheVariants.{State, Constant, Naturals, Product, Sum, Power, Powerset, Bag, Distribution, Integers, Rationals}
use Rattle.functor_terms.specs.Terms.{Nodes, node_at}
use Rattle.typing.specs.declared.value.Value.{Value}
use Rattle.typing.specs.Values.{label, index, parts, entries}
use Rattle.typing.specs.Layers.{Place, leaves_of}
use Rattle.edge_store.specs.Edges.{chosen}
use Rattle.polynomial_iface.specs.declared.weight.Form.TheVariants as form
use Rattle.polynomial_iface.specs.Polys.{numbers_from}
use Rattle.layers.specs.declared.shape.Kind.{Kind}
use Rattle.layers.specs.declared.shape.Kind.TheVariants as kind
use Rattle.layers.specs.declared.shape.LayerShape.{LayerShape}
use Rattle.structures.specs.Structures.{sources_from}

-- the kind of the layer of a structure with k children
abbrev pub kind_of : Node → Value → ℕ → Kind
kind_of State v k = kind.Poly form.Identity
kind_of (Constant labels) v k = kind.Poly (form.Constant (label v))
kind_of Naturals v k = kind.Poly (form.Constant (label v))
kind_of Product v k = kind.Poly (form.Places k)
kind_of Sum v k = kind.Poly (form.Tagged (index v))
kind_of (Power labels) v k = kind.Poly (form.Places k)
kind_of Powerset v k = kind.Set
kind_of Bag v k = kind.Bag
kind_of Integers v k = kind.Whole
kind_of Rationals v k = kind.Scaled
kind_of Distribution v k = kind.Dist

-- the shape of a structure in the table
abbrev pub layer_shape : Nodes → Place → LayerShape
layer_shape t x =
    record { node = x.0; kind = kind_of (node_at t x.0) x.1 (length (leaves_of t x)) }

-- the weights of a value, in order
abbrev pub weights_in : Value → List ℤ
weights_in v = map (λ e. e.1) (entries v)

-- the numbers are those of weights in a table
abbrev pub AreWeighed : List ℤ → List ℤ → List ℕ → Type 0
AreWeighed table ws ys = AllZip (λ w y. slice_get table y ≡ Some w) ws ys

-- The numbers stand for the labels of a structure with k children: those of its weights, or its
-- places; the labels of a set say nothing.
abbrev pub AreLabelled : List ℤ → Node → Value → ℕ → List ℕ → Type 0
AreLabelled table Powerset v k ys = length ys ≡ length (parts v)
AreLabelled table Bag v k ys = AreWeighed table (weights_in v) ys
AreLabelled table Distribution v k ys = AreWeighed table (weights_in v) ys
AreLabelled table Integers v k ys = AreWeighed table (weights_in v) ys
AreLabelled table Rationals v k ys = AreWeighed table (weights_in v) ys
AreLabelled table _ v k ys = ys ≡ numbers_from 0 k

-- the same of a place
abbrev pub IsLabelled : Nodes → List ℤ → Place → List ℕ → Type 0
IsLabelled t table x ys = AreLabelled table (node_at t x.0) x.1 (length (leaves_of t x)) ys

-- each structure adds as many to a list as edges leave it, and R holds of what it adds
pub record AreBlocks
    {X : Type 0} (t : Nodes) (R : Place → List X → Type 0) (places : List Place) (xs : List X)
    : Type 0 where
  pub one_each : length xs ≡ length (sources_from t 0 places)
  pub each :
      (y : ℕ) (x : Place) → slice_get places y ≡ Some x →
      R x (chosen y (sources_from t 0 places) xs)

-- the numbers of the shapes and labels of structures, in tables of shapes and weights
pub record AreNumbered
    (t : Nodes) (shapes : List LayerShape) (table : List ℤ) (places : List Place)
    (numbers labels : List ℕ) : Type 0 where
  pub shaped : AllZip (λ x s. slice_get shapes s ≡ Some (layer_shape t x)) places numbers
  pub labelled : AreBlocks t (IsLabelled t table) places labels
