-- What the numbers of shapes and labels stand for.
use Rattle.std.proofs.Common.{◌≡◌, ℕ, ◌+◌, ◌<◌, ◌≤◌, ◌^◌, true, List, [], ◌∷◌, ◌++◌, length, map, take, Some, slice_get, refl, sym, ap, ◌∙◌, subst, arith}
use Rattle.std.specs.Prelude.{ℤ, pos}
use Rattle.std.proofs.lemmas.List.{length-map}
use Rattle.std.proofs.lemmas.Option.{get_or_from_slice_get}
use Rattle.std.proofs.lemmas.Slice.Zip.{AllZip-long}
use Rattle.functor_terms.specs.declared.node.Node.{Node}
use Rattle.functor_terms.specs.declared.node.Node.TheVariants.{State, Constant, Naturals, Product, Sum, Power, Powerset, Bag, Distribution, Integers, Rationals}
use Rattle.functor_terms.specs.Terms.{Nodes, IsTerm, node_at, children_at}
use Rattle.typing.specs.declared.value.Value.{Value}
use Rattle.typing.specs.Values.{index, inner, parts, entries}
use Rattle.typing.specs.Fits.{Check, fits_step}
use Rattle.typing.specs.Layers.{Place, at_child, weighed, child_places, leaves_of}
use Rattle.weights.specs.Sums.{size_of}
use Rattle.iface.specs.declared.side.Side.TheVariants.{Left}
use Rattle.polynomial_iface.specs.Polys.{numbers_from}
use Rattle.layers.specs.Nest.{AnyLabel, in_bag, in_whole, in_scaled, in_dist, at_place}
use Rattle.layers.specs.declared.shape.LayerShape.{LayerShape}
use Rattle.layers.specs.Packing.{class_of}
use Rattle.layers.specs.Tables.{Keeps}
use Rattle.layers.specs.Meanings.{weight_at, side_of, label_by, fits_class}
use Rattle.structures.proofs.Arities.{HasOne, has_one}
use Rattle.structures.proofs.AtChild.{at_child-within, count_within}
use Rattle.structures.proofs.Chosen.{take_next}
use Rattle.structures.proofs.Leaves.{leaves-children}
use Rattle.desorting.specs.Shapes.{shape_of, labels_of}
use Rattle.desorting.specs.Numbered.{kind_of, layer_shape, weights_in, AreWeighed, AreLabelled, IsLabelled, AreNumbered}
use Rattle.desorting.proofs.Counts.{length-numbers}
use Rattle.desorting.proofs.Blocks.{blocks_more, blocks_kept, zip_kept, zip_more}
use Rattle.desorting.proofs.BothWays.{sum_within}

-- the side of a kind is the shape that it was made of
pub side_is : (m : Node) (p : ℕ) (v : Value) (k : ℕ) → side_of (kind_of m v k) p ≡ shape_of m p v k
side_is State p v k = refl
side_is (Constant labels) p v k = refl
side_is Naturals p v k = refl
side_is Product p v k = refl
side_is Sum p v k = refl
side_is (Power labels) p v k = refl
side_is Powerset p v k = refl
side_is Bag p v k = refl
side_is Distribution p v k = refl
side_is Integers p v k = refl
side_is Rationals p v k = refl

-- a larger table says the same
weighed_kept :
    (old new : List ℤ) → Keeps old new → (ws : List ℤ) (ys : List ℕ) →
    AreWeighed old ws ys → AreWeighed new ws ys
weighed_kept old new kept ws ys h =
    zip_kept (λ w y. slice_get old y ≡ Some w) (λ w y. slice_get new y ≡ Some w)
    (λ w y e. kept y w e) ws ys h

-- one more weight has its number
pub weighed_step :
    (old new : List ℤ) → Keeps old new → (ws : List ℤ) (i : ℕ) (w : ℤ) →
    slice_get ws i ≡ Some w → (y : ℕ) → slice_get new y ≡ Some w → (ys : List ℕ) →
    AreWeighed old (take i ws) ys → AreWeighed new (take (i + 1) ws) (ys ++ y ∷ [])
weighed_step old new kept ws i w at y is ys h =
    subst (λ l. AreWeighed new l (ys ++ y ∷ [])) (sym (take_next ws i w at))
    (zip_more (λ w y. slice_get new y ≡ Some w) (take i ws) ys w y
    (weighed_kept old new kept (take i ws) ys h) is)

pub labelled_kept :
    (old new : List ℤ) → Keeps old new → (m : Node) (v : Value) (k : ℕ) (ys : List ℕ) →
    AreLabelled old m v k ys → AreLabelled new m v k ys
labelled_kept old new kept State v k ys h = h
labelled_kept old new kept (Constant labels) v k ys h = h
labelled_kept old new kept Naturals v k ys h = h
labelled_kept old new kept Product v k ys h = h
labelled_kept old new kept Sum v k ys h = h
labelled_kept old new kept (Power labels) v k ys h = h
labelled_kept old new kept Powerset v k ys h = h
labelled_kept old new kept Bag v k ys h = weighed_kept old new kept (weights_in v) ys h
labelled_kept old new kept Distribution v k ys h = weighed_kept old new kept (weights_in v) ys h
labelled_kept old new kept Integers v k ys h = weighed_kept old new kept (weights_in v) ys h
labelled_kept old new kept Rationals v k ys h = weighed_kept old new kept (weights_in v) ys h

module _ (table : List ℤ) (ys : List ℕ) where
  -- there is a label for each child
  places_count : (k : ℕ) → ys ≡ numbers_from 0 k → length ys ≡ k
  places_count k h = ap length h ∙ length-numbers 0 k

  weights_count :
      (qs : List ℕ) (v : Value) → 0 < length qs → AreWeighed table (weights_in v) ys →
      length ys ≡ length (at_child qs 0 (weighed v))
  weights_count qs v one h =
      AllZip-long (λ w y. slice_get table y ≡ Some w) (weights_in v) ys h
      ∙ length-map (entries v) (λ (e : Value × ℤ). e.1)
      ∙ sym (length-map (entries v) (λ (e : Value × ℤ). e.0))
      ∙ count_within qs 0 (weighed v) one

  labelled_count :
      (m : Node) (qs : List ℕ) (p : ℕ) (v : Value) → HasOne m qs →
      AreLabelled table m v (length (child_places m qs p v)) ys →
      length ys ≡ length (child_places m qs p v)
  labelled_count State qs p v one h = places_count 1 h
  labelled_count (Constant labels) qs p v one h = places_count 0 h
  labelled_count Naturals qs p v one h = places_count 0 h
  labelled_count Product qs p v one h = places_count (length (child_places Product qs p v)) h
  labelled_count Sum qs p v one h = places_count (length (child_places Sum qs p v)) h
  labelled_count (Power labels) qs p v one h =
      places_count (length (child_places (Power labels) qs p v)) h
  labelled_count Powerset qs p v one h = h ∙ count_within qs 0 (parts v) one
  labelled_count Bag qs p v one h = weights_count qs v one h
  labelled_count Distribution qs p v one h = weights_count qs v one h
  labelled_count Integers qs p v one h = weights_count qs v one h
  labelled_count Rationals qs p v one h = weights_count qs v one h

  pub one_label :
      (t : Nodes) → IsTerm t → (x : Place) → IsLabelled t table x ys →
      length ys ≡ length (leaves_of t x)
  one_label t is x h =
      let same = leaves-children t x in
      labelled_count (node_at t x.0) (children_at t x.0) x.0 x.1 (has_one t is x.0)
      (subst (λ l. AreLabelled table (node_at t x.0) x.1 (length l) ys) same h)
      ∙ sym (ap length same)

-- the weights with these numbers
weight_is : (table : List ℤ) (w : ℤ) (y : ℕ) → slice_get table y ≡ Some w → weight_at table y ≡ w
weight_is table w y e = get_or_from_slice_get table y w (pos 0) e

weighed_read :
    {X : Type 0} (f : ℤ → X) (table : List ℤ) (es : List (Value × ℤ)) (ys : List ℕ) →
    AreWeighed table (map (λ e. e.1) es) ys →
    map (λ l. f (weight_at table l)) ys ≡ map (λ e. f e.1) es
weighed_read f table [] [] h = refl
weighed_read f table [] (y ∷ ys) h = absurd h
weighed_read f table (e ∷ es) [] h = absurd h
weighed_read f table (e ∷ es) (y ∷ ys) h =
    λ i. f (weight_is table e.1 y h.0 i) ∷ weighed_read f table es ys h.1 i

members_read :
    (us : List Value) (ys : List ℕ) → length ys ≡ length us →
    map {B = AnyLabel} (λ y. Left tt) ys ≡ map {B = AnyLabel} (λ u. Left tt) us
members_read [] [] h = refl
members_read [] (y ∷ ys) h = absurd (omega (arith, h))
members_read (u ∷ us) [] h = absurd (omega (arith, h))
members_read (u ∷ us) (y ∷ ys) h = ap (λ l. Left tt ∷ l) (members_read us ys (omega (arith, h)))

module _ (table : List ℤ) (v : Value) (k : ℕ) (ys : List ℕ) where
  -- what the labels stand for
  pub labels_read :
      (m : Node) → AreLabelled table m v k ys →
      map (label_by table (kind_of m v k)) ys ≡ labels_of m v k
  labels_read State h = ap (map at_place) h
  labels_read (Constant labels) h = ap (map at_place) h
  labels_read Naturals h = ap (map at_place) h
  labels_read Product h = ap (map at_place) h
  labels_read Sum h = ap (map at_place) h
  labels_read (Power labels) h = ap (map at_place) h
  labels_read Powerset h = members_read (parts v) ys h
  labels_read Bag h = weighed_read in_bag table (entries v) ys h
  labels_read Distribution h = weighed_read in_dist table (entries v) ys h
  labels_read Integers h = weighed_read in_whole table (entries v) ys h
  labels_read Rationals h = weighed_read in_scaled table (entries v) ys h

  module _ (small : size_of (λ (x : ℤ). x) (map (λ e. e.1) (entries v)) ≤ 2 ^ 106) where
    few :
        AreWeighed table (weights_in v) ys →
        size_of (λ (x : ℤ). x) (map (weight_at table) ys) ≤ 2 ^ 106
    few h =
        subst (λ l. size_of (λ (x : ℤ). x) l ≤ 2 ^ 106)
        (sym (weighed_read (λ x. x) table (entries v) ys h)) small

    fixed : (n : ℕ) → k ≡ n → ys ≡ numbers_from 0 k → ys ≡ numbers_from 0 n
    fixed n e h = h ∙ ap (numbers_from 0) e

    -- they suit the kind of layer
    pub labels_fit :
        (qs : List ℕ) (p : ℕ) (m : Node) (f : ℕ → Check) → fits_step m (map f qs) v ≡ true →
        k ≡ length (child_places m qs p v) → AreLabelled table m v k ys →
        fits_class table (class_of (kind_of m v k)) ys
    labels_fit qs p State f fit e h = fixed 1 e h
    labels_fit qs p (Constant labels) f fit e h = fixed 0 e h
    labels_fit qs p Naturals f fit e h = fixed 0 e h
    labels_fit qs p Product f fit e h = h
    labels_fit qs p Sum f fit e h =
        let inside : index v < length qs =
        subst (λ n. index v < n) (length-map qs f) (sum_within (map f qs) v fit) in
        fixed 1 (e ∙ ap length (at_child-within qs (index v) (inner v ∷ []) inside)) h
    labels_fit qs p (Power labels) f fit e h = h
    labels_fit qs p Powerset f fit e h = tt
    labels_fit qs p Bag f fit e h = few h
    labels_fit qs p Distribution f fit e h = few h
    labels_fit qs p Integers f fit e h = few h
    labels_fit qs p Rationals f fit e h = few h

-- one more structure is numbered
module _
    (t : Nodes) (is : IsTerm t) (shapes more : List LayerShape) (table larger : List ℤ)
    (kept : Keeps shapes more) (kept_weights : Keeps table larger) where
  -- one more place is numbered
  pub numbered_step :
      (places : List Place) (i : ℕ) (x : Place) → slice_get places i ≡ Some x →
      (ss ls ss' ls' : List ℕ) → AreNumbered t shapes table (take i places) ss ls →
      (s : ℕ) × (ss' ≡ ss ++ s ∷ []) × (slice_get more s ≡ Some (layer_shape t x)) →
      (ys : List ℕ) × (ls' ≡ ls ++ ys) × IsLabelled t larger x ys →
      AreNumbered t more larger (take (i + 1) places) ss' ls'
  numbered_step places i x at ss ls ss' ls' before (s, are_s, is_s) (ys, are_l, is_l) =
      subst (λ l. AreNumbered t more larger (take (i + 1) places) ss' l) (sym are_l)
      (subst (λ l. AreNumbered t more larger (take (i + 1) places) l (ls ++ ys)) (sym are_s)
      (subst (λ l. AreNumbered t more larger l (ss ++ s ∷ []) (ls ++ ys))
      (sym (take_next places i x at))
      (record {
        shaped =
            zip_more (λ x s. slice_get more s ≡ Some (layer_shape t x)) (take i places) ss x s
            (zip_kept (λ x s. slice_get shapes s ≡ Some (layer_shape t x))
            (λ x s. slice_get more s ≡ Some (layer_shape t x))
            (λ x s e. kept s (layer_shape t x) e) (take i places) ss before.shaped) is_s;
        labelled =
            blocks_more t (IsLabelled t larger) (take i places) ls
            (blocks_kept t (IsLabelled t table) (IsLabelled t larger)
            (λ x ys h. labelled_kept table larger kept_weights (node_at t x.0) x.1
            (length (leaves_of t x)) ys h) (take i places) ls before.labelled) x ys
            (one_label larger ys t is x is_l) is_l;
      })))
