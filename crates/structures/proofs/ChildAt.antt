-- The child at a place, by the kind of node.
use Rattle.std.proofs.Common.{◌≡◌, ℕ, zero, suc, ◌<◌, min, List, [], ◌∷◌, length, map, Some, slice_get, ap, ◌∙◌, subst, ⊎_elim, arith}
use Rattle.std.specs.Prelude.{slice_index}
use Rattle.std.specs.List.{zip}
use Rattle.std.specs.Option.{option_map}
use Rattle.std.proofs.lemmas.List.{length-map}
use Rattle.std.proofs.lemmas.Option.{slice_get-map}
use Rattle.std.proofs.lemmas.Bool.{cases_lt}
use Rattle.functor_terms.specs.declared.node.Node.{Node}
use Rattle.functor_terms.specs.Terms.{Nodes, node_at, children_at}
use Rattle.typing.specs.declared.value.Value.{Value}
use Rattle.typing.specs.Layers.{Place, at_child, child_places, children_of}
use Rattle.structures.proofs.AtChild.{at_node, at_child-within, at_child-past}

module _ (t : Nodes) (p : ℕ) (v : Value) (m : Node) (is : node_at t p ≡ m) where
  -- what is known where the kind of the node is known
  pub of_kind : children_of t (p, v) ≡ child_places m (children_at t p) p v
  of_kind = ap (λ n. child_places n (children_at t p) p v) is

  pub inside_kind :
      (i : ℕ) → i < length (children_of t (p, v)) →
      i < length (child_places m (children_at t p) p v)
  inside_kind i h = subst (λ l. i < length l) of_kind h

  pub at_kind :
      (i : ℕ) (x : Place) → slice_get (child_places m (children_at t p) p v) i ≡ Some x →
      slice_get (children_of t (p, v)) i ≡ Some x
  at_kind i x h = ap (λ l. slice_get l i) of_kind ∙ h

-- an image of what stands at a place
image_at :
    {X Y : Type 0} (f : X → Y) (xs : List X) (i : ℕ) (x : X) → slice_get xs i ≡ Some x →
    slice_get (map f xs) i ≡ Some (f x)
image_at f xs i x h = slice_get-map f xs i ∙ ap (option_map f) h

module _ (qs : List ℕ) (k : ℕ) (us : List Value) (i : ℕ) (h : i < length (at_child qs k us)) where
  -- where something stands at the k-th node, there is such a node
  pub node_there : k < length qs
  node_there =
      ⊎_elim (λ (w : k < length qs). w)
      (λ w. absurd (omega (arith, h, ap length (at_child-past qs k us w)))) (cases_lt k (length qs))

  -- what stands at a child stands in the list
  pub value_there : i < length us
  value_there =
      let one : length (at_node (slice_index qs k) us) ≡ length us =
      length-map us (λ u. (slice_index qs k, u)) in
      omega (arith, h, ap length (at_child-within qs k us node_there), one)

  -- a value in a list stands at the child
  pub child_there :
      (u : Value) → slice_get us i ≡ Some u →
      slice_get (at_child qs k us) i ≡ Some (slice_index qs k, u)
  child_there u e =
      ap (λ l. slice_get l i) (at_child-within qs k us node_there)
      ∙ image_at (λ u. (slice_index qs k, u)) us i u e

-- a place of a zipped list is one of both
pub zip_inside :
    (qs : List ℕ) (us : List Value) (i : ℕ) → i < length (zip qs us) →
    (i < length qs) × (i < length us)
zip_inside [] us i h = absurd (omega arith)
zip_inside (q ∷ qs) [] i h = absurd (omega arith)
zip_inside (q ∷ qs) (u ∷ us) zero h = (omega arith, omega arith)
zip_inside (q ∷ qs) (u ∷ us) (suc i) h =
    let w = zip_inside qs us i (omega arith) in (omega (arith, w.0), omega (arith, w.1))

-- pairs are as many as the shorter list
pub zip_length :
    (qs : List ℕ) (us : List Value) → length (zip qs us) ≡ min (length qs) (length us)
zip_length [] us = omega arith
zip_length (q ∷ qs) [] = omega arith
zip_length (q ∷ qs) (u ∷ us) = omega (arith, zip_length qs us)

-- the part that stands beside a node
pub zip_at :
    (qs : List ℕ) (us : List Value) (i : ℕ) (u : Value) → i < length (zip qs us) →
    slice_get us i ≡ Some u → slice_get (zip qs us) i ≡ Some (slice_index qs i, u)
zip_at [] us i u h s = absurd (omega arith)
zip_at (r ∷ qs) [] i u h s = absurd (omega arith)
zip_at (r ∷ qs) (w ∷ us) zero u h s = ap (option_map (λ x. (r, x))) s
zip_at (r ∷ qs) (w ∷ us) (suc i) u h s = zip_at qs us i u (omega arith) s

-- what stands in a list of one value
pub alone_at :
    (u w : Value) (i : ℕ) → u ≡ w → i < length (u ∷ []) → slice_get (u ∷ []) i ≡ Some w
alone_at u w zero e h = ap Some e
alone_at u w (suc i) e h = absurd (omega arith)
