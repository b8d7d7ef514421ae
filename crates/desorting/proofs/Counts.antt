-- One label for each child.
use Rattle.std.proofs.Common.{◌≡◌, ℕ, zero, suc, ◌+◌, ◌<◌, List, [], ◌∷◌, length, map, refl, sym, ap, ◌∙◌}
use Rattle.std.specs.Prelude.{ℤ}
use Rattle.std.specs.List.{zip}
use Rattle.iface.specs.declared.side.Side.TheVariants.{Left}
use Rattle.std.proofs.lemmas.List.{length-map}
use Rattle.functor_terms.specs.declared.node.Node.{Node}
use Rattle.functor_terms.specs.declared.node.Node.TheVariants.{State, Constant, Naturals, Product, Sum, Power, Powerset, Bag, Distribution, Integers, Rationals}
use Rattle.functor_terms.specs.Terms.{Nodes, IsTerm, node_at, children_at}
use Rattle.typing.specs.declared.value.Value.{Value}
use Rattle.typing.specs.Values.{index, inner, parts, entries}
use Rattle.typing.specs.Layers.{Place, at_child, weighed, child_places, leaves_of}
use Rattle.polynomial_iface.specs.Polys.{numbers_from}
use Rattle.layers.specs.Nest.{AnyLabel, in_bag, in_whole, in_scaled, in_dist, place_labels}
use Rattle.desorting.specs.Shapes.{labels_of}
use Rattle.structures.proofs.Arities.{HasOne, has_one}
use Rattle.structures.proofs.AtChild.{count_within}
use Rattle.structures.proofs.Leaves.{leaves-children}

-- as many numbers as asked for
pub length-numbers : (first k : ℕ) → length (numbers_from first k) ≡ k
length-numbers first zero = refl
length-numbers first (suc k) = ap suc (length-numbers (first + 1) k)

length-place_labels : (k : ℕ) → length (place_labels k) ≡ k
length-place_labels k = length-map (numbers_from 0 k) _ ∙ length-numbers 0 k

-- as many as stand at the first node
at_first :
    {X : Type 0} (qs : List ℕ) (us : List Value) (ls : List X) → 0 < length qs →
    length ls ≡ length us → length ls ≡ length (at_child qs 0 us)
at_first qs us ls one same = same ∙ count_within qs 0 us one

weighed_count :
    {X : Type 0} (qs : List ℕ) (v : Value) (f : Value × ℤ → X) → 0 < length qs →
    length (map f (entries v)) ≡ length (at_child qs 0 (weighed v))
weighed_count qs v f one =
    at_first qs (weighed v) (map f (entries v)) one
    (length-map (entries v) f ∙ sym (length-map (entries v) (λ (e : Value × ℤ). e.0)))

-- a value has a label for each child
pub labels_count :
    (m : Node) (qs : List ℕ) (p : ℕ) (v : Value) → HasOne m qs →
    length (labels_of m v (length (child_places m qs p v))) ≡ length (child_places m qs p v)
labels_count State qs p v one = length-place_labels 1
labels_count (Constant labels) qs p v one = refl
labels_count Naturals qs p v one = refl
labels_count Product qs p v one = length-place_labels (length (zip qs (parts v)))
labels_count Sum qs p v one =
    length-place_labels (length (at_child qs (index v) (inner v ∷ [])))
labels_count (Power labels) qs p v one = length-place_labels (length (at_child qs 0 (parts v)))
labels_count Powerset qs p v one =
    at_first qs (parts v) (map {B = AnyLabel} (λ u. Left tt) (parts v)) one
    (length-map (parts v) _)
labels_count Bag qs p v one = weighed_count qs v (λ e. in_bag e.1) one
labels_count Distribution qs p v one = weighed_count qs v (λ e. in_dist e.1) one
labels_count Integers qs p v one = weighed_count qs v (λ e. in_whole e.1) one
labels_count Rationals qs p v one = weighed_count qs v (λ e. in_scaled e.1) one

pub leaf_labels :
    (t : Nodes) (x : Place) → IsTerm t →
    length (labels_of (node_at t x.0) x.1 (length (leaves_of t x))) ≡ length (leaves_of t x)
leaf_labels t x is =
    ap (λ l. length (labels_of (node_at t x.0) x.1 (length l))) (leaves-children t x)
    ∙ labels_count (node_at t x.0) (children_at t x.0) x.0 x.1 (has_one t is x.0)
    ∙ sym (ap length (leaves-children t x))
