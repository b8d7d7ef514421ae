-- What the interfaces say of the shapes of structures, in terms of their values.
use Rattle.std.proofs.Common.{◌≡◌, ℕ, ◌+◌, Bool, true, false, ◌||◌, cond, List, [], ◌∷◌, length, map, refl, sym, ap, ◌∙◌, arith}
use Rattle.std.specs.Prelude.{ℤ, pos, ◌+ℤ◌, ◌*◌, ◌==◌, if◌then◌else◌, slice_index}
use Rattle.std.specs.List.{list_any}
use Rattle.std.proofs.lemmas.Int.{ints}
use Rattle.functor_terms.specs.declared.node.Node.{Node}
use Rattle.functor_terms.specs.declared.node.Node.TheVariants.{State, Constant, Naturals, Product, Sum, Power, Powerset, Bag, Distribution, Integers, Rationals}
use Rattle.typing.specs.declared.value.Value.{Value}
use Rattle.typing.specs.Values.{label, index, entries}
use Rattle.typing.specs.Layers.{child_places}
use Rattle.modalities.specs.declared.three.Three.TheVariants as value
use Rattle.iface.specs.declared.side.Side.{Side}
use Rattle.iface.specs.declared.side.Side.TheVariants.{Left, Right}
use Rattle.iface.specs.Structures.{Classed}
use Rattle.iface.specs.Sides.{node_of_side, agree_of_sides}
use Rattle.powerset_iface.specs.declared.weight.SetShape.{SetShape}
use Rattle.powerset_iface.specs.Sets.{agree_of_sets, has}
use Rattle.monoid_iface.specs.declared.weight.GroupShape.{GroupShape}
use Rattle.monoid_iface.specs.Groups.{agree_of_groups}
use Rattle.distribution_iface.specs.declared.weight.DistShape.{DistShape}
use Rattle.distribution_iface.specs.Dists.{agree_of_dists}
use Rattle.weights.specs.Fractions.{lowest_terms}
use Rattle.formula_checker.specs.LayerValues.{layer_value, joint_with, weights_of}
use Rattle.modalities.specs.Values.{triple}
use Rattle.typing.specs.Equality.{plus_at}
use Rattle.layers.specs.NestLabels.{bag_labels, whole_labels, scaled_labels, dist_labels}
use Rattle.polynomial_iface.specs.declared.weight.Form.{Form}
use Rattle.polynomial_iface.specs.declared.weight.Form.TheVariants as form
use Rattle.polynomial_iface.specs.declared.weight.PolyShape.{PolyShape}
use Rattle.polynomial_iface.specs.Polys.{agree_of_forms, first_trit}
use Rattle.weights.specs.Sums.{sum_if}
use Rattle.desorting.specs.Agreement.{AgreeAt}
use Rattle.layers.specs.Nest.{AnyShape, AnyLabel, add, any_node, any_agree, any_value}
use Rattle.desorting.specs.Shapes.{shape_of, labels_of}

-- structures that agree on one side have one node
sides_node : {A B L M : Type 0} (f : Classed A L → Classed A L → Type 0) (g : Classed B M
    → Classed B M → Type 0) (m : A → ℕ) (n : B → ℕ)
    → ((x y : Classed A L) → f x y → m x.shape ≡ m y.shape) → ((x y : Classed B M) → g x y
    → n x.shape ≡ n y.shape)
    → (x y : Classed (Side A B) (Side L M)) → agree_of_sides f g x y
    → node_of_side m n x.shape ≡ node_of_side m n y.shape
sides_node {A = A} {B = B} {L = L} {M = M} f g m n left right x y h = by x.shape x.labels x.classes
    y.shape y.labels y.classes h
  where
    by : (s : Side A B) (ls : List (Side L M)) (cs : List ℕ) (u : Side A B) (ms : List (Side L M))
        (ds : List ℕ) → agree_of_sides f g (record { shape = s; labels = ls; classes = cs })
        (record { shape = u; labels = ms; classes = ds }) → node_of_side m n s ≡ node_of_side m n u
    by (Left a) ls cs (Left b) ms ds h = left _ _ h
    by (Left a) ls cs (Right b) ms ds h = absurd h
    by (Right a) ls cs (Left b) ms ds h = absurd h
    by (Right a) ls cs (Right b) ms ds h = right _ _ h

set_node : (x y : Classed SetShape (Unit {0})) → agree_of_sets x y → x.shape.node ≡ y.shape.node
set_node x y h = h.0

group_node : (x y : Classed GroupShape ℤ) → agree_of_groups (pos 0) add x y
    → x.shape.node ≡ y.shape.node
group_node x y h = h.0

dist_node : (x y : Classed DistShape ℤ) → agree_of_dists x y → x.shape.node ≡ y.shape.node
dist_node x y h = h.0

form_node : (x y : Classed PolyShape ℕ) → agree_of_forms x y → x.shape.node ≡ y.shape.node
form_node x y h = h.0

-- structures that agree are of one node
pub one_node : (x y : Classed AnyShape AnyLabel) → any_agree x y
    → any_node x.shape ≡ any_node y.shape
one_node =
    sides_node agree_of_sets _ _ _ set_node
    (sides_node (agree_of_groups (pos 0) add) _ _ _ group_node
    (sides_node (agree_of_groups (pos 0) add) _ _ _ group_node
    (sides_node (agree_of_groups (pos 0) add) _ _ _ group_node
    (sides_node agree_of_dists agree_of_forms _ _ dist_node form_node))))

-- the node of a shape is the one that it was made of
pub node_is : (m : Node) (p : ℕ) (v : Value) (k : ℕ) → any_node (shape_of m p v k) ≡ p
node_is State p v k = refl
node_is (Constant labels) p v k = refl
node_is Naturals p v k = refl
node_is Product p v k = refl
node_is Sum p v k = refl
node_is (Power labels) p v k = refl
node_is Powerset p v k = refl
node_is Bag p v k = refl
node_is Distribution p v k = refl
node_is Integers p v k = refl
node_is Rationals p v k = refl

abbrev weights : List (Value × ℤ) → List ℤ
weights es = map (λ e. e.1) es

-- the weight of an entry
abbrev weight : Value × ℤ → ℤ
weight e = e.1

-- the structure of a value with the classes of its children
abbrev pub structure : Node → ℕ → Value → List ℕ → Classed AnyShape AnyLabel
structure m p v cs = record {
  shape = shape_of m p v (length cs);
  labels = labels_of m v
      (length cs);
  classes = cs;
}

none_left : (cs : List ℕ) → length cs ≡ 0 → cs ≡ []
none_left [] h = refl
none_left (c ∷ cs) h = absurd (omega arith)

labels_equal : (a b : ℕ) → ◌≡◌ {A = Form} (form.Constant a) (form.Constant b) → a ≡ b
labels_equal a b e = cc

tags_equal : (a b : ℕ) → ◌≡◌ {A = Form} (form.Tagged a) (form.Tagged b) → a ≡ b
tags_equal a b e = cc

sums_to : (us ws : List (Value × ℤ)) (cs ds : List ℕ) (ls ms : List ℤ) → ls ≡ weights us
    → ms ≡ weights ws
    → ((k : ℕ) → sum_if (pos 0) add (λ c. c == k) ls cs ≡ sum_if (pos 0) add (λ c. c == k) ms ds)
    → (k : ℕ) → sum_if (pos 0) add (λ c. c == k) (weights us) cs ≡ sum_if (pos 0) add
    (λ c. c == k) (weights ws) ds
sums_to us ws cs ds ls ms l m h k = sym (ap (λ x. sum_if (pos 0) add (λ c. c == k) x cs) l) ∙ h k
    ∙ ap (λ x. sum_if (pos 0) add (λ c. c == k) x ds) m

sums_from : (us ws : List (Value × ℤ)) (cs ds : List ℕ) (ls ms : List ℤ) → ls ≡ weights us
    → ms ≡ weights ws
    → ((k : ℕ) → sum_if (pos 0) add (λ c. c == k) (weights us) cs ≡ sum_if (pos 0) add (λ c. c == k)
    (weights ws) ds) → (k : ℕ) → sum_if (pos 0) add (λ c. c == k) ls cs ≡ sum_if (pos 0) add
    (λ c. c == k) ms ds
sums_from us ws cs ds ls ms l m h k = ap (λ x. sum_if (pos 0) add (λ c. c == k) x cs) l ∙ h k
    ∙ sym (ap (λ x. sum_if (pos 0) add (λ c. c == k) x ds) m)

module _ (qs : List ℕ) (p : ℕ) (v w : Value) (cs ds : List ℕ) where
  -- agreement by the interface is agreement of the values
  pub agree_to : (m : Node) → any_agree (structure m p v cs) (structure m p w ds)
      → AgreeAt m v w cs ds
  agree_to State h = h.2
  agree_to (Constant labels) h = labels_equal (label v) (label w) h.1
  agree_to Naturals h = labels_equal (label v) (label w) h.1
  agree_to Product h = h.2
  agree_to Sum h = (tags_equal (index v) (index w) h.1, h.2)
  agree_to (Power labels) h = h.2
  agree_to Powerset h = h.1
  agree_to Bag h = sums_to (entries v) (entries w) cs ds _ _ (bag_labels weight (entries v))
      (bag_labels weight (entries w)) h.1
  agree_to Integers h = sums_to (entries v) (entries w) cs ds _ _ (whole_labels weight (entries v))
      (whole_labels weight (entries w)) h.1
  agree_to Distribution h = sums_to (entries v) (entries w) cs ds _ _
      (dist_labels weight (entries v)) (dist_labels weight (entries w)) h.1
  agree_to Rationals h = sums_to (entries v) (entries w) cs ds _ _
      (scaled_labels weight (entries v)) (scaled_labels weight (entries w)) h.1

  -- classes that agree at the node agree in the structure
  pub agree_from : (m : Node) → length cs ≡ length (child_places m qs p v)
      → length ds ≡ length (child_places m qs p w) → AgreeAt m v w cs ds
      → any_agree (structure m p v cs) (structure m p w ds)
  agree_from State x y h = (refl, refl, h)
  agree_from (Constant labels) x y h = (
    refl,
    ap (λ n. form.Constant n) h,
    none_left cs x
        ∙ sym (none_left ds y),
  )
  agree_from Naturals x y h = (
    refl,
    ap (λ n. form.Constant n) h,
    none_left cs x
        ∙ sym (none_left ds y),
  )
  agree_from Product x y h = (refl, ap (λ l. form.Places (length l)) h, h)
  agree_from Sum x y h = (refl, ap (λ n. form.Tagged n) h.0, h.1)
  agree_from (Power labels) x y h = (refl, ap (λ l. form.Places (length l)) h, h)
  agree_from Powerset x y h = (refl, h)
  agree_from Bag x y h = (
    refl,
    sums_from (entries v) (entries w) cs ds _ _
        (bag_labels weight (entries v)) (bag_labels weight (entries w)) h,
  )
  agree_from Integers x y h = (
    refl,
    sums_from (entries v) (entries w) cs ds _ _
        (whole_labels weight (entries v)) (whole_labels weight (entries w)) h,
  )
  agree_from Distribution x y h = (
    refl,
    sums_from (entries v) (entries w) cs ds _ _
        (dist_labels weight (entries v)) (dist_labels weight (entries w)) h,
  )
  agree_from Rationals x y h = (
    refl,
    sums_from (entries v) (entries w) cs ds _ _
        (scaled_labels weight (entries v)) (scaled_labels weight (entries w)) h,
  )

-- the value by the interface is the value of the layer
first_is : (g : List ℕ) → first_trit g ≡ slice_index g 0
first_is [] = refl
first_is (x ∷ g) = refl

has_is : (k : ℕ) (g : List ℕ) → has k g ≡ list_any (λ x. x == k) g
has_is k [] = refl
has_is k (x ∷ g) = ap (λ b. x == k || b) (has_is k g)

bits_are : (a b c : Bool) → cond a 1 0 + cond b 2 0 + cond c 4 0 ≡ (if a then 1 else 0)
    + 2 * (if b then 1 else 0) + 4 * (if c then 1 else 0)
bits_are true true true = refl
bits_are true true false = refl
bits_are true false true = refl
bits_are true false false = refl
bits_are false true true = refl
bits_are false true false = refl
bits_are false false true = refl
bits_are false false false = refl

sum_is :
    (m : Node) (k : ℕ) (es : List (Value × ℤ)) (g : List ℕ) →
    sum_if (pos 0) add (λ c. c == k) (weights es) g ≡ joint_with (plus_at m) es g k
sum_is m k [] g = refl
sum_is m k (e ∷ es) [] = refl
sum_is m k (e ∷ es) (c ∷ g) = by (c == k) (sum_is m k es g)
  where
    by :
        (o : Bool) →
        sum_if (pos 0) add (λ c. c == k) (weights es) g ≡ joint_with (plus_at m) es g k →
        cond o (e.1 +ℤ sum_if (pos 0) add (λ c. c == k) (weights es) g)
        (sum_if (pos 0) add (λ c. c == k) (weights es) g)
        ≡ (if o then e.1 else pos 0) +ℤ joint_with (plus_at m) es g k
    by true h = ap (λ n. e.1 +ℤ n) h
    by false h = omega (arith, ints, h)

triple_is :
    (m : Node) (d : ℕ) (es : List (Value × ℤ)) (ls : List ℤ) (g : List ℕ) → ls ≡ weights es →
    triple (lowest_terms (sum_if (pos 0) add (λ c. c == 0) ls g) d)
    (lowest_terms (sum_if (pos 0) add (λ c. c == 1) ls g) d)
    (lowest_terms (sum_if (pos 0) add (λ c. c == 2) ls g) d)
    ≡ weights_of m d es g
triple_is m d es ls g e =
    let at :
    (k : ℕ) → sum_if (pos 0) add (λ c. c == k) ls g ≡ joint_with (plus_at m) es g k =
    λ k. ap (λ l. sum_if (pos 0) add (λ c. c == k) l g) e ∙ sum_is m k es g in
    λ i. triple (lowest_terms (at 0 i) d) (lowest_terms (at 1 i) d) (lowest_terms (at 2 i) d)

-- the value of a shape is that of the layer
pub value_is : (d : ℕ) (m : Node) (p : ℕ) (v : Value) (k : ℕ) (g : List ℕ)
    → any_value d (shape_of m p v k) (labels_of m v k) g ≡ layer_value d m v g
value_is d State p v k g = ap (λ n. value.Trit n) (first_is g)
value_is d (Constant labels) p v k g = refl
value_is d Naturals p v k g = refl
value_is d Product p v k g = refl
value_is d Sum p v k g = ap (λ n. value.Tagged (index v) n) (first_is g)
value_is d (Power labels) p v k g = refl
value_is d Powerset p v k g =
    ap (λ n. value.Members n) (bits_are (has 0 g) (has 1 g) (has 2 g)
    ∙ (λ i. (if has_is 0 g i then 1 else 0) + 2 * (if has_is 1 g i then 1 else 0)
    + 4 * (if has_is 2 g i then 1 else 0)))
value_is d Bag p v k g = triple_is Bag 1 (entries v) _ g (bag_labels weight (entries v))
value_is d Integers p v k g = triple_is Integers 1 (entries v) _ g (whole_labels weight (entries v))
value_is d Rationals p v k g = triple_is Rationals d (entries v) _ g
    (scaled_labels weight (entries v))
value_is d Distribution p v k g = triple_is Distribution d (entries v) _ g
    (dist_labels weight (entries v))
