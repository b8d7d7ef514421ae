-- A sorted state and the structure that it stands for are alike.
--
-- leaves_within-children             == edges leave a structure at its children
-- leads                  == an edge and the child that it leads to have one trit
-- state_of               == the sorted state of an occurrence
-- standing-likeness      == what a number stands for is alike to it
use Rattle.std.proofs.Common.{◌≡◌, ◌<◌, ℕ, zero, suc, List, [], ◌∷◌, length, map, Option, Some, slice_get, refl, sym, ◌∙◌, ap, subst}
use Rattle.std.specs.Prelude.{slice_index, if◌then◌else◌}
use Rattle.std.specs.List.{AllZip, flat_map}
use Rattle.std.specs.Option.{option_map_or}
use Rattle.functor_terms.specs.declared.node.Node.{Node}
use Rattle.functor_terms.specs.declared.node.Node.TheVariants.{State, Constant, Naturals, Product, Sum, Power, Powerset, Bag, Distribution, Integers, Rationals}
use Rattle.functor_terms.specs.Terms.{Nodes, node_at}
use Rattle.modalities.specs.declared.three.Three.{Three}
use Rattle.modalities.specs.declared.three.Three.TheVariants.{Trit}
use Rattle.typing.specs.declared.value.Value.{Value}
use Rattle.typing.specs.Layers.{Place, children_of, is_state, is_state_at, root_at, kids}
use Rattle.typing.proofs.StableLaws.{element}
use Rattle.sorted_systems.specs.Systems.{Sorted, IsState}
use Rattle.decoding.specs.Decoded.{decoded_state, node_by, value_by}
use Rattle.layers.specs.Nest.{AnyShape, AnyLabel, any_node, any_value}
use Rattle.layers.specs.Meanings.{shape_of, label_of}
use Rattle.structures.specs.Structures.{Occurrence, StandsFor, LeadsBy, numbers_below}
use Rattle.desorting.specs.declared.system.System.{System}
use Rattle.desorting.specs.Shapes as shapes
use Rattle.desorting.specs.Shapes.{sorted_of}
use Rattle.desorting.specs.Desorted.{packed_system, IsDesorted}
use Rattle.desorting.specs.Laws.{ValuesAreOfLayers}
use Rattle.formulas.specs.Truth.{IsLikeness}
use Rattle.formula_checker.specs.LayerValues.{layer_value}
use Rattle.satisfaction.specs.Satisfaction.{layers_of}
use Rattle.formula_builder.specs.SortedLayers.{sorted_layers}
use Rattle.structures.proofs.Leaves.{leaves_within-children}
use Rattle.typing.proofs.MapLaws.{mapped_at}

-- an element of a map, from what it is of and back
pub map_at :
    {X Y : Type 0} (f : X → Y) (xs : List X) (i : ℕ) (x : X) → slice_get xs i ≡ Some x →
    slice_get (map f xs) i ≡ Some (f x)
map_at f [] i x e = absurd (cc e)
map_at f (y ∷ xs) zero x e = let same : y ≡ x = cc e in ap (λ z. Some (f z)) same
map_at f (y ∷ xs) (suc i) x e = map_at f xs i x e

-- lists of single elements, one after another
singles : (xs : List Place) → flat_map (λ y. y ∷ []) xs ≡ xs
singles [] = refl
singles (x ∷ xs) = ap (λ ys. x ∷ ys) (singles xs)

-- the node of a structure's shape
pub node_of_shape : (m : Node) (p : ℕ) (v : Value) (k : ℕ) → any_node (shapes.shape_of m p v k) ≡ p
node_of_shape State p v k = refl
node_of_shape (Constant labels) p v k = refl
node_of_shape Naturals p v k = refl
node_of_shape Product p v k = refl
node_of_shape Sum p v k = refl
node_of_shape (Power labels) p v k = refl
node_of_shape Powerset p v k = refl
node_of_shape Bag p v k = refl
node_of_shape Distribution p v k = refl
node_of_shape Integers p v k = refl
node_of_shape Rationals p v k = refl

module _
    (t : Nodes) (d : ℕ) (values : List Value) (s : System) (desorted : IsDesorted t values d s)
    (values_of : ValuesAreOfLayers) where
  abbrev pub node : ℕ → ℕ
  node =
      node_by (shape_of s.iface.shapes.items)
      (label_of s.iface.shapes.items s.iface.weights.items) any_node

  -- the value of a packed state
  abbrev pub value : ℕ → List ℕ → List ℕ → Three
  value =
      value_by (shape_of s.iface.shapes.items)
      (label_of s.iface.shapes.items s.iface.weights.items) (any_value s.iface.denominator)

  abbrev occurrences : List Occurrence
  occurrences = desorted.occurrences

  abbrev roots : List ℕ
  roots = numbers_below (length values)

  -- number x stands for the structure
  abbrev pub Stands : ℕ → Place → Type 0
  Stands x y = StandsFor desorted.occurrences x y.0 y.1

  -- a packed state read as one of any layer
  abbrev pub read : Sorted ℕ ℕ → Sorted AnyShape AnyLabel
  read =
      decoded_state (shape_of s.iface.shapes.items)
      (label_of s.iface.shapes.items s.iface.weights.items)

  -- the sorted state of an occurrence
  pub state_of :
      (x : ℕ) (o : Occurrence) → slice_get occurrences x ≡ Some o →
      (a : Sorted ℕ ℕ) × IsState (packed_system s) x a × (read a ≡ sorted_of t o)
  state_of x o at =
      mapped_at read (packed_system s) x (sorted_of t o)
      (ap (λ (l : List (Sorted AnyShape AnyLabel)). slice_get l x) desorted.system
      ∙ map_at (sorted_of t) occurrences x o at)

  module _
      (f : ℕ → ℕ) (g : Place → ℕ) (same : (a : ℕ) (b : Place) → Stands a b → f a ≡ g b) where
    -- an edge and the child that it leads to have one trit
    leads :
        (m : Node) (place : Place) (y : ℕ) → LeadsBy occurrences roots m place y →
        f y ≡ g (if is_state m then root_at values place else place)
    leads State place y (i, e, below, ri) =
        let (v, at) = element values i (subst (λ n. i < n) desorted.sorting.one_root below) in
        let root : root_at values place ≡ (0, v) =
        ap (λ (o : Option ℕ). option_map_or (λ j. option_map_or (λ w. (0, w)) (slice_get values j)
        place) o place) e
        ∙ ap (λ (o : Option Value). option_map_or (λ w. (0, w)) o place) at in
        ap f (sym ri) ∙ same (slice_index roots i) (0, v) (desorted.sorting.rooted i v at)
        ∙ ap g (sym root)
    leads (Constant labels) place y h = same y place h
    leads Naturals place y h = same y place h
    leads Product place y h = same y place h
    leads Sum place y h = same y place h
    leads (Power labels) place y h = same y place h
    leads Powerset place y h = same y place h
    leads Bag place y h = same y place h
    leads Distribution place y h = same y place h
    leads Integers place y h = same y place h
    leads Rationals place y h = same y place h

    -- so have all edges of a structure and its children
    all_lead :
        (places : List Place) (ys : List ℕ) →
        AllZip (λ place y. LeadsBy occurrences roots (node_at t place.0) place y) places ys →
        map f ys ≡ map g (map (λ y. if is_state_at t y then root_at values y else y) places)
    all_lead [] [] h = refl
    all_lead [] (y ∷ ys) h = absurd h
    all_lead (place ∷ places) [] h = absurd h
    all_lead (place ∷ places) (y ∷ ys) h =
        λ i. leads (node_at t place.0) place y h.0 i ∷ all_lead places ys h.1 i

    trits_are :
        (x : ℕ) (o : Occurrence) → slice_get occurrences x ≡ Some o →
        map f o.targets ≡ map g (kids t values (o.node, o.value))
    trits_are x o at =
        all_lead (children_of t (o.node, o.value)) o.targets
        (subst (λ (ps : List Place).
        AllZip (λ place y. LeadsBy occurrences roots (node_at t place.0) place y) ps o.targets)
        (leaves_within-children t (length t) (o.node, o.value)) (desorted.sorting.linked x o at))

  -- a sorted state and the structure that it stands for are alike
  pub standing-likeness :
      IsLikeness (sorted_layers node value (packed_system s)) (layers_of t d values) Stands
  standing-likeness = record {
    one_node = λ x y h. (
        let (o, at, nodes, values) = h in
        let (a, is, same) = state_of x o at in
        ap (λ (opt : Option (Sorted ℕ ℕ)). option_map_or (λ b. node b.shape) opt 0) is
        ∙ ap (λ (b : Sorted AnyShape AnyLabel). any_node b.shape) same
        ∙ node_of_shape (node_at t o.node) o.node o.value (length o.targets) ∙ nodes);
    one_value = λ x y h f g f_small g_small trits. (
        let (o, at, nodes, value_is) = h in
        let (a, is, same) = state_of x o at in
        ap (λ (opt : Option (Sorted ℕ ℕ)). option_map_or (λ b. value b.shape b.labels
        (map f (option_map_or (λ e. e.targets) opt []))) opt (Trit 0)) is
        ∙ ap (λ (b : Sorted AnyShape AnyLabel). any_value s.iface.denominator b.shape b.labels
        (map f b.targets)) same
        ∙ ap (λ n. any_value n (sorted_of t o).shape (sorted_of t o).labels (map f o.targets))
        desorted.denominator
        ∙ values_of d o.node (length o.targets) t o.value (map f o.targets)
        ∙ ap (layer_value d (node_at t o.node) o.value) (trits_are f g trits x o at)
        ∙ (λ i. layer_value d (node_at t (nodes i)) (value_is i)
        (map g (kids t values (nodes i, value_is i)))));
  }
