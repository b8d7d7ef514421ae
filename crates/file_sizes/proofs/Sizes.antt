-- How many values stand in a value at a node of a term, and that there are no more structures and
-- no more edges.
use Rattle.std.proofs.Common.{◌≡◌, ℕ, zero, suc, ◌+◌, ◌-◌, ◌^◌, ◌<◌, ◌≤◌, Bool, true, false, not, cond, List, [], ◌∷◌, length, map, Option, Some, None, slice_get, refl, sym, ap, ◌∙◌, true≢false, arith}
use Rattle.std.specs.Prelude.{◌==◌, if◌then◌else◌}
use Rattle.std.specs.List.{zip}
use Rattle.std.specs.Option.{option_map_or}
use Rattle.functor_terms.specs.declared.node.Node.{Node}
use Rattle.functor_terms.specs.declared.node.Node.TheVariants.{State, Constant, Naturals, Product, Sum, Power, Powerset, Bag, Distribution, Integers, Rationals}
use Rattle.functor_terms.specs.declared.node.Branch.{Branch}
use Rattle.functor_terms.specs.Terms.{Nodes, node_at, children_at, fold_within, fold}
use Rattle.typing.specs.declared.value.Value.{Value}
use Rattle.typing.specs.Values.{index, inner, parts}
use Rattle.typing.specs.Layers.{Place, at_child, weighed, child_places, children_of, leaves_of, layers_in, is_state, is_state_at, over_within, added, roots_of, structures_in, sorted_in, edges_in, AreFew}
use Rattle.structures.proofs.Leaves.{leaves-children}
use Rattle.structures.proofs.Sound.{true_state}

-- how many values stand in a value
abbrev pub Size : Type 0
Size = Value → ℕ

-- where nothing is looked at, each value counts as a state
abbrev pub no_size : ℕ → Size
no_size a v = a

-- the size at the k-th of some nodes, and none where there is no such node
abbrev pub size_at : List Size → ℕ → Size
size_at [] k v = 0
size_at (s ∷ ss) k v = (if k == 0 then s else size_at ss (k - 1)) v

-- the sum of sizes, each by its own place
abbrev pub sum_each : List Size → List Value → ℕ
sum_each [] vs = 0
sum_each (s ∷ ss) [] = 0
sum_each (s ∷ ss) (v ∷ vs) = s v + sum_each ss vs

-- the sum of the sizes of some values
abbrev pub sum_of : Size → List Value → ℕ
sum_of s [] = 0
sum_of s (v ∷ vs) = s v + sum_of s vs

-- a value and what stands in it, by the sizes at the children, where a state counts as a
abbrev pub size_step : ℕ → Node → List Size → Size
size_step a State ss v = a
size_step a (Constant labels) ss v = 1
size_step a Naturals ss v = 1
size_step a Product ss v = 1 + sum_each ss (parts v)
size_step a Sum ss v = 1 + size_at ss (index v) (inner v)
size_step a (Power labels) ss v = 1 + sum_of (size_at ss 0) (parts v)
size_step a Powerset ss v = 1 + sum_of (size_at ss 0) (parts v)
size_step a Bag ss v = 1 + sum_of (size_at ss 0) (weighed v)
size_step a Distribution ss v = 1 + sum_of (size_at ss 0) (weighed v)
size_step a Integers ss v = 1 + sum_of (size_at ss 0) (weighed v)
size_step a Rationals ss v = 1 + sum_of (size_at ss 0) (weighed v)

-- the size where at most n levels are looked at
abbrev pub size_within : ℕ → Nodes → ℕ → ℕ → Size
size_within a t n p = fold_within (no_size a) (size_step a) t n p

-- the size of a value at node p
abbrev pub size : ℕ → Nodes → ℕ → Size
size a t p = fold (no_size a) (size_step a) t p

-- a level by its node and its children
pub size-level :
    (a : ℕ) (t : Nodes) (n p : ℕ) (v : Value) →
    size_within a t (suc n) p v
    ≡ size_step a (node_at t p) (map (size_within a t n) (children_at t p)) v
size-level a t n p v = by (slice_get t p)
  where
    by : (o : Option Branch) →
        option_map_or (λ b. size_step a b.node (map (size_within a t n) b.children)) o (no_size a) v
        ≡ size_step a (option_map_or (λ b. b.node) o State)
        (map (size_within a t n) (option_map_or (λ b. b.children) o [])) v
    by None = refl
    by (Some b) = refl

-- S has the size at each node
module _ (S : ℕ → Size) where
  -- the sum of the sizes at some places
  abbrev over_places : List Place → ℕ
  over_places [] = 0
  over_places (y ∷ ys) = S y.0 y.1 + over_places ys

  one_node : (q : ℕ) (us : List Value) → over_places (map (λ u. (q, u)) us) ≡ sum_of (S q) us
  one_node q [] = refl
  one_node q (u ∷ us) = ap (λ k. S q u + k) (one_node q us)

  zeros : (us : List Value) → sum_of (λ v. 0) us ≡ 0
  zeros [] = refl
  zeros (u ∷ us) = let rest = zeros us in omega (arith, rest)

  first_child : (qs : List ℕ) (us : List Value) →
      over_places (at_child qs 0 us) ≡ sum_of (size_at (map S qs) 0) us
  first_child [] us = sym (zeros us)
  first_child (q ∷ qs) us = one_node q us

  some_child : (qs : List ℕ) (k : ℕ) (v : Value) →
      over_places (at_child qs k (v ∷ [])) ≡ size_at (map S qs) k v
  some_child [] k v = refl
  some_child (q ∷ qs) k v = by (k == 0) (some_child qs (k - 1) v)
    where
      by :
          (b : Bool) →
          over_places (at_child qs (k - 1) (v ∷ [])) ≡ size_at (map S qs) (k - 1) v →
          over_places (cond b (map (λ u. (q, u)) (v ∷ [])) (at_child qs (k - 1) (v ∷ [])))
          ≡ (cond b (S q) (size_at (map S qs) (k - 1))) v
      by true later = omega arith
      by false later = later

  each_child : (qs : List ℕ) (us : List Value) →
      over_places (zip qs us) ≡ sum_each (map S qs) us
  each_child [] us = refl
  each_child (q ∷ qs) [] = refl
  each_child (q ∷ qs) (u ∷ us) = ap (λ k. S q u + k) (each_child qs us)

  -- the children of a layer node and the node itself
  node_places : (a : ℕ) (m : Node) (qs : List ℕ) (p : ℕ) (v : Value) → is_state m ≡ false →
      1 + over_places (child_places m qs p v) ≡ size_step a m (map S qs) v
  node_places a State qs p v h = absurd (true≢false h)
  node_places a (Constant labels) qs p v h = omega arith
  node_places a Naturals qs p v h = omega arith
  node_places a Product qs p v h = ap (λ k. 1 + k) (each_child qs (parts v))
  node_places a Sum qs p v h = ap (λ k. 1 + k) (some_child qs (index v) (inner v))
  node_places a (Power labels) qs p v h = ap (λ k. 1 + k) (first_child qs (parts v))
  node_places a Powerset qs p v h = ap (λ k. 1 + k) (first_child qs (parts v))
  node_places a Bag qs p v h = ap (λ k. 1 + k) (first_child qs (weighed v))
  node_places a Distribution qs p v h = ap (λ k. 1 + k) (first_child qs (weighed v))
  node_places a Integers qs p v h = ap (λ k. 1 + k) (first_child qs (weighed v))
  node_places a Rationals qs p v h = ap (λ k. 1 + k) (first_child qs (weighed v))

  module _ (t : Nodes) (f : Place → ℕ) where
    -- what the layers among some places give
    layers_less : (ys : List Place) → ((y : Place) → f y ≤ S y.0 y.1) →
        added (map f (layers_in t ys)) ≤ over_places ys
    layers_less [] h = omega arith
    layers_less (y ∷ ys) h = by (is_state_at t y) (layers_less ys h)
      where
        by :
            (b : Bool) → added (map f (layers_in t ys)) ≤ over_places ys →
            added (map f (cond (not b) (y ∷ layers_in t ys) (layers_in t ys)))
            ≤ S y.0 y.1 + over_places ys
        by true rest = omega (arith, rest)
        by false rest = let here = h y in omega (arith, rest, here)

    -- the same where states count nothing
    layers_same :
        (ys : List Place) → ((y : Place) → is_state_at t y ≡ true → S y.0 y.1 ≡ 0) →
        ((y : Place) → is_state_at t y ≡ false → f y ≡ S y.0 y.1) →
        added (map f (layers_in t ys)) ≡ over_places ys
    layers_same [] none h = refl
    layers_same (y ∷ ys) none h = by (is_state_at t y) refl (layers_same ys none h)
      where
        by :
            (b : Bool) → is_state_at t y ≡ b →
            added (map f (layers_in t ys)) ≡ over_places ys →
            added (map f (cond (not b) (y ∷ layers_in t ys) (layers_in t ys)))
            ≡ S y.0 y.1 + over_places ys
        by true e rest = let here = none y e in omega (arith, rest, here)
        by false e rest = let here = h y e in omega (arith, rest, here)

    -- the same, and one more for each place
    places_same :
        (ys : List Place) → ((y : Place) → is_state_at t y ≡ true → S y.0 y.1 ≡ 1) →
        ((y : Place) → is_state_at t y ≡ false → f y + 1 ≡ S y.0 y.1) →
        length ys + added (map f (layers_in t ys)) ≡ over_places ys
    places_same [] one h = refl
    places_same (y ∷ ys) one h = by (is_state_at t y) refl (places_same ys one h)
      where
        by :
            (b : Bool) → is_state_at t y ≡ b →
            length ys + added (map f (layers_in t ys)) ≡ over_places ys →
            suc (length ys) + added (map f (cond (not b) (y ∷ layers_in t ys) (layers_in t ys)))
            ≡ S y.0 y.1 + over_places ys
        by true e rest = let here = one y e in omega (arith, rest, here)
        by false e rest = let here = h y e in omega (arith, rest, here)

-- a state has the size that states count
state_size : (a : ℕ) (t : Nodes) (n : ℕ) (x : Place) → is_state_at t x ≡ true →
    size_within a t n x.0 x.1 ≡ a
state_size a t zero x h = refl
state_size a t (suc n) x h =
    size-level a t n x.0 x.1
    ∙ ap (λ m. size_step a m (map (size_within a t n) (children_at t x.0)) x.1)
    (true_state (node_at t x.0) h)

-- the places below a structure are its children
module _
    (t : Nodes) (below_of : Place → List Place)
    (are : (x : Place) → below_of x ≡ children_of t x) where
  abbrev pub structures : ℕ → Place → ℕ
  structures n x = over_within 0 (λ y counts. 1 + added counts) below_of t n x

  abbrev pub edges : ℕ → Place → ℕ
  edges n x = over_within 0 (λ y counts. length (below_of y) + added counts) below_of t n x

  -- a structure at a State node has itself alone
  alone : (x : Place) → is_state_at t x ≡ true → below_of x ≡ x ∷ []
  alone x h =
      are x ∙ ap (λ m. child_places m (children_at t x.0) x.0 x.1) (true_state (node_at t x.0) h)

  no_layer : (x : Place) → is_state_at t x ≡ true → layers_in t (below_of x) ≡ []
  no_layer x h = ap (layers_in t) (alone x h) ∙ ap (λ b. cond (not b) (x ∷ []) []) h

  state_structures : (n : ℕ) (x : Place) → is_state_at t x ≡ true → structures (suc n) x ≡ 1
  state_structures n x h =
      let none : added (map (structures n) (layers_in t (below_of x))) ≡ 0 =
      ap (λ ys. added (map (structures n) ys)) (no_layer x h) in
      omega (arith, none)

  state_edges : (n : ℕ) (x : Place) → is_state_at t x ≡ true → edges (suc n) x ≡ 1
  state_edges n x h =
      let none : added (map (edges n) (layers_in t (below_of x))) ≡ 0 =
      ap (λ ys. added (map (edges n) ys)) (no_layer x h) in
      let single : length (below_of x) ≡ 1 = ap length (alone x h) in
      omega (arith, none, single)

  -- the places below a layer
  layer_places : (a n : ℕ) (x : Place) → is_state_at t x ≡ false →
      1 + over_places (size_within a t n) (below_of x) ≡ size_within a t (suc n) x.0 x.1
  layer_places a n x h =
      ap (λ ys. 1 + over_places (size_within a t n) ys) (are x)
      ∙ node_places (size_within a t n) a (node_at t x.0) (children_at t x.0) x.0 x.1 h
      ∙ sym (size-level a t n x.0 x.1)

  -- where states count nothing, a layer has its size in structures
  structures_are : (n : ℕ) (x : Place) → is_state_at t x ≡ false →
      structures n x ≡ size_within 0 t n x.0 x.1
  structures_are zero x h = refl
  structures_are (suc n) x h =
      let here = layer_places 0 n x h in
      let rest =
      layers_same (size_within 0 t n) t (structures n) (below_of x) (state_size 0 t n)
      (structures_are n) in
      omega (arith, here, rest)

  -- where states count, a layer has one edge less
  edges_are : (n : ℕ) (x : Place) → is_state_at t x ≡ false →
      edges n x + 1 ≡ size_within 1 t n x.0 x.1
  edges_are zero x h = refl
  edges_are (suc n) x h =
      let here = layer_places 1 n x h in
      let rest =
      places_same (size_within 1 t n) t (edges n) (below_of x) (state_size 1 t n)
      (edges_are n) in
      omega (arith, here, rest)

  few_structures : (n : ℕ) (x : Place) → structures n x ≤ size_within 1 t n x.0 x.1
  few_structures zero x = omega arith
  few_structures (suc n) x = by (few_structures n) (is_state_at t x) refl
    where
      by :
          ((y : Place) → structures n y ≤ size_within 1 t n y.0 y.1) → (b : Bool) →
          is_state_at t x ≡ b → structures (suc n) x ≤ size_within 1 t (suc n) x.0 x.1
      by less true h =
          let one = state_structures n x h in
          let two = state_size 1 t (suc n) x h in
          omega (arith, one, two)
      by less false h =
          let here = layer_places 1 n x h in
          let rest = layers_less (size_within 1 t n) t (structures n) (below_of x) less in
          omega (arith, here, rest)

  few_edges : (n : ℕ) (x : Place) → edges n x ≤ size_within 1 t n x.0 x.1
  few_edges zero x = omega arith
  few_edges (suc n) x = by (is_state_at t x) refl
    where
      by : (b : Bool) → is_state_at t x ≡ b → edges (suc n) x ≤ size_within 1 t (suc n) x.0 x.1
      by true h =
          let one = state_edges n x h in
          let two = state_size 1 t (suc n) x h in
          omega (arith, one, two)
      by false h = let here = edges_are (suc n) x h in omega (arith, here)

  -- a smaller value has no more structures
  pub fewer_structures : (n p : ℕ) (u v : Value) →
      size_within 0 t n p u ≤ size_within 0 t n p v → structures n (p, u) ≤ structures n (p, v)
  fewer_structures zero p u v h = omega arith
  fewer_structures (suc n) p u v h = by (is_state (node_at t p)) refl
    where
      by :
          (b : Bool) → is_state (node_at t p) ≡ b →
          structures (suc n) (p, u) ≤ structures (suc n) (p, v)
      by true e =
          let one = state_structures n (p, u) e in
          let two = state_structures n (p, v) e in
          omega (arith, one, two)
      by false e =
          let one = structures_are (suc n) (p, u) e in
          let two = structures_are (suc n) (p, v) e in
          omega (arith, one, two, h)

  -- and no more edges
  pub fewer_edges : (n p : ℕ) (u v : Value) →
      size_within 1 t n p u ≤ size_within 1 t n p v → edges n (p, u) ≤ edges n (p, v)
  fewer_edges zero p u v h = omega arith
  fewer_edges (suc n) p u v h = by (is_state (node_at t p)) refl
    where
      by :
          (b : Bool) → is_state (node_at t p) ≡ b →
          edges (suc n) (p, u) ≤ edges (suc n) (p, v)
      by true e =
          let one = state_edges n (p, u) e in
          let two = state_edges n (p, v) e in
          omega (arith, one, two)
      by false e =
          let one = edges_are (suc n) (p, u) e in
          let two = edges_are (suc n) (p, v) e in
          omega (arith, one, two, h)

over_roots : (t : Nodes) (f : Place → ℕ) (values : List Value) →
    ((v : Value) → f (0, v) ≤ size 1 t 0 v) →
    added (map f (roots_of values)) ≤ sum_of (size 1 t 0) values
over_roots t f [] h = omega arith
over_roots t f (v ∷ values) h =
    let here = h v in let rest = over_roots t f values h in omega (arith, here, rest)

-- so there are few structures and edges where the sizes are few
pub few_from_sizes :
    (t : Nodes) (values : List Value) → sum_of (size 1 t 0) values < 2 ^ 26 → AreFew t values
few_from_sizes t values h =
    let a = over_roots t (structures_in t) values
    (λ v. few_structures t (children_of t) (λ x. refl) (length t) (0, v)) in
    let b = over_roots t (sorted_in t) values
    (λ v. few_structures t (leaves_of t) (leaves-children t) (length t) (0, v)) in
    let c = over_roots t (edges_in t) values
    (λ v. few_edges t (leaves_of t) (leaves-children t) (length t) (0, v)) in
    record {
      structures = omega (arith, a, h);
      sorted = omega (arith, b, h);
      edges = omega (arith, c, h);
    }
