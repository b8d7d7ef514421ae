-- The layers of values: the structures in them, where the edges of a structure lead, and how many
-- there are.
--
-- Place                   == a structure: a value at a node
-- at_child qs k us        == the values us at the k-th of some nodes; none where there is none
-- weighed v               == the values that stand in a list of weights
-- child_places m qs p v   == the places of the children of v at node p, over its child nodes
-- children_of t x         == the places of the children of x, where a state stands for itself
-- kids t values x         == the children of x: at a State node the root structure of the state
-- leaves_of t x           == the places at which edges leave x and what is merged into it
-- structure_count t vs    == how many structures stand at layer nodes in the values
-- sorted_count t vs       == how many of them are merged into no other
-- edge_count t vs         == how many places at which edges leave these have
-- AreFew t vs             == each of the three numbers is below 2^26
use Rattle.std.specs.Prelude.{ℕ, zero, suc, ◌+◌, ◌-◌, ◌<◌, ◌==◌, ◌^◌, Bool, true, false, not, if◌then◌else◌, List, [], ◌∷◌, length, map, filter, slice_get}
use Rattle.std.specs.List.{zip, flat_map}
use Rattle.std.specs.Option.{option_map_or}
use Rattle.functor_terms.specs.declared.node.Node.{Node}
use Rattle.functor_terms.specs.declared.node.Node.TheVariants.{State, Constant, Naturals, Product, Sum, Power, Powerset, Bag, Distribution, Integers, Rationals}
use Rattle.functor_terms.specs.Terms.{Nodes, node_at, children_at}
use Rattle.typing.specs.declared.value.Value.{Value}
use Rattle.typing.specs.Values.{state, index, inner, parts, entries}

-- a structure: a value at a node
abbrev pub Place : Type 0
Place = ℕ × Value

-- the values us at the k-th of the nodes qs, and none where there is no such node
abbrev pub at_child : List ℕ → ℕ → List Value → List Place
at_child [] k us = []
at_child (q ∷ qs) k us = if k == 0 then map (λ u. (q, u)) us else at_child qs (k - 1) us

-- the values that stand in a list of weights
abbrev pub weighed : Value → List Value
weighed v = map (λ e. e.0) (entries v)

-- the places of the children of v at node p, which has the child nodes qs; a structure that is a
-- state has itself
abbrev pub child_places : Node → List ℕ → ℕ → Value → List Place
child_places State qs p v = (p, v) ∷ []
child_places (Constant labels) qs p v = []
child_places Naturals qs p v = []
child_places Product qs p v = zip qs (parts v)
child_places Sum qs p v = at_child qs (index v) (inner v ∷ [])
child_places (Power labels) qs p v = at_child qs 0 (parts v)
child_places Powerset qs p v = at_child qs 0 (parts v)
child_places Bag qs p v = at_child qs 0 (weighed v)
child_places Distribution qs p v = at_child qs 0 (weighed v)
child_places Integers qs p v = at_child qs 0 (weighed v)
child_places Rationals qs p v = at_child qs 0 (weighed v)

-- the places of the children of a structure, in order
abbrev pub children_of : Nodes → Place → List Place
children_of t x = child_places (node_at t x.0) (children_at t x.0) x.0 x.1

-- the node is a State node
abbrev pub is_state : Node → Bool
is_state State = true
is_state _ = false

-- the place is at a State node
abbrev pub is_state_at : Nodes → Place → Bool
is_state_at t x = is_state (node_at t x.0)

-- the root structure of the state that stands at a place; the place itself if there is none
abbrev pub root_at : List Value → Place → Place
root_at values x =
    option_map_or (λ i. option_map_or (λ v. (0, v)) (slice_get values i) x) (state x.1) x

-- the children of a structure, in order: at a State node the root structure of the state there
abbrev pub kids : Nodes → List Value → Place → List Place
kids t values x =
    map (λ y. if is_state_at t y then root_at values y else y) (children_of t x)

-- the root structures of some values
abbrev pub roots_of : List Value → List Place
roots_of values = map (λ v. (0, v)) values

-- a structure at the node belongs to the one above it. None does
abbrev pub is_merged : Nodes → ℕ → Bool
is_merged t p = false

module _ (t : Nodes) where
  -- the places at which edges leave a structure, where at most so many levels are merged into it
  abbrev pub leaves_within : ℕ → Place → List Place
  leaves_within zero x = children_of t x
  leaves_within (suc n) x =
      flat_map (λ y. if is_merged t y.0 then leaves_within n y else y ∷ []) (children_of t x)

  -- the places at which edges leave a structure and what is merged into it, in order
  abbrev pub leaves_of : Place → List Place
  leaves_of x = leaves_within (length t) x

  -- those of some places that are at layer nodes
  abbrev pub layers_in : List Place → List Place
  layers_in places = filter (λ x. not (is_state_at t x)) places

-- the sum of some numbers
abbrev pub added : List ℕ → ℕ
added [] = 0
added (n ∷ ns) = n + added ns

module _
    {A : Type 0} (other : A) (step : Place → List A → A) (below : Place → List Place)
    (t : Nodes) where
  -- what a structure gives where at most n levels are looked at, and `other` stands below them
  abbrev pub over_within : ℕ → Place → A
  over_within zero x = other
  over_within (suc n) x = step x (map (over_within n) (layers_in t (below x)))

  -- what a structure gives, by a step from it and what the structures below it give
  abbrev pub over_structures : Place → A
  over_structures x = over_within (length t) x

module _ (t : Nodes) where
  -- how many structures stand at layer nodes in a structure, itself one of them
  abbrev pub structures_in : Place → ℕ
  structures_in = over_structures 0 (λ y counts. 1 + added counts) (children_of t) t

  -- how many of them are merged into no other
  abbrev pub sorted_in : Place → ℕ
  sorted_in = over_structures 0 (λ y counts. 1 + added counts) (leaves_of t) t

  -- how many places at which edges leave these have
  abbrev pub edges_in : Place → ℕ
  edges_in =
      over_structures 0 (λ y counts. length (leaves_of t y) + added counts) (leaves_of t) t

  -- how many structures stand at layer nodes in the values, the roots among them
  abbrev pub structure_count : List Value → ℕ
  structure_count values = added (map structures_in (roots_of values))

  -- how many of them are merged into no other
  abbrev pub sorted_count : List Value → ℕ
  sorted_count values = added (map sorted_in (roots_of values))

  -- how many places at which edges leave these have
  abbrev pub edge_count : List Value → ℕ
  edge_count values = added (map edges_in (roots_of values))

  -- each of the three numbers is below 2^26
  pub record AreFew (values : List Value) : Type 0 where
    pub structures : structure_count values < 2 ^ 26
    pub sorted : sorted_count values < 2 ^ 26
    pub edges : edge_count values < 2 ^ 26
