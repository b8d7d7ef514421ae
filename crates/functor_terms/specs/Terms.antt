-- Functors as terms: lists of nodes in preorder, numbered from 0.
--
-- Nodes         == the nodes of a term, each with the places of its children
-- node_at       == the node with a number, `State` past the end
-- children_at   == the numbers of its children, none past the end
-- AreLabels     == from 1 to 65,536 labels, distinct names where they are listed
-- Part          == a term that may stand in a larger one: its nodes and its depth
-- over          == a node over the parts that are its children
-- IsPart        == built of nodes over parts, to a depth of at most n
-- placed        == children by their numbers, where they were given by how far behind they stand
-- IsTerm        == the nodes of a part within the bounds, with the numbers of their children
-- fold          == what a node gives, by one step for each node from what its children give
use Rattle.std.specs.Prelude.{◌≡◌, ℕ, zero, suc, ◌+◌, ◌<◌, ◌≤◌, max, List, [], ◌∷◌, length, map, slice_get, Option, Some, None, Bool, ◌&&◌, ◌==◌, nat_lt, nat_le, if◌then◌else◌, IsTrue}
use Rattle.std.specs.Char.{is_ascii_digit}
use Rattle.std.specs.List.{AllByRecursion, flat_map, list_all}
use Rattle.std.specs.Option.{option_map_or}
use Rattle.std.specs.Str.Parse.{digits_value}
use Rattle.functor_terms.specs.Words.{AreNames, place_of}
use Rattle.functor_terms.specs.declared.node.LabelSet.{LabelSet}
use Rattle.functor_terms.specs.declared.node.LabelSet.TheVariants.{Listed, Below}
use Rattle.functor_terms.specs.declared.node.Node.{Node}
use Rattle.functor_terms.specs.declared.node.Node.TheVariants.{State, Constant, Naturals, Product, Sum, Power}
use Rattle.functor_terms.specs.declared.node.Branch.{Branch}

-- the nodes of a term in preorder, each with the places of its children
abbrev pub Nodes : Type 0
Nodes = List Branch

-- the node with a number, and `State` past the end
abbrev pub node_at : Nodes → ℕ → Node
node_at t p = option_map_or (λ b. b.node) (slice_get t p) State

-- the numbers of its children, and none past the end
abbrev pub children_at : Nodes → ℕ → List ℕ
children_at t p = option_map_or (λ b. b.children) (slice_get t p) []

-- how many labels there are
abbrev pub label_count : LabelSet → ℕ
label_count (Listed words) = length words
label_count (Below n) = n

-- the word is decimal digits alone, and their value is below n
abbrev pub is_number_below : ℕ → List ℕ → Bool
is_number_below n word =
    nat_lt 0 (length word) && list_all is_ascii_digit word && nat_lt (digits_value 10 word) n

-- the value of such a word
abbrev pub number_below : ℕ → List ℕ → Option ℕ
number_below n word = if is_number_below n word then Some (digits_value 10 word) else None

-- the number of a label: the place of a listed word, the value of a number below n
abbrev pub label_number : LabelSet → List ℕ → Option ℕ
label_number (Listed words) word = place_of word words
label_number (Below n) word = number_below n word

-- the most labels that a constant or an exponent may have
abbrev pub label_limit : ℕ
label_limit = 65536

-- from 1 to 65,536 labels, distinct names where they are listed
abbrev pub AreLabels : LabelSet → Type 0
AreLabels (Listed words) = AreNames words × (0 < length words) × (length words ≤ label_limit)
AreLabels (Below n) = (0 < n) × (n ≤ label_limit)

-- the labels of the node, if it has labels, are labels
abbrev pub HasLabels : Node → Type 0
HasLabels (Constant labels) = AreLabels labels
HasLabels (Power labels) = AreLabels labels
HasLabels _ = Unit {0}

-- how many children a node may have: none, two or more of a chain, or else one
abbrev pub takes : Node → ℕ → Bool
takes State n = n == 0
takes (Constant labels) n = n == 0
takes Naturals n = n == 0
takes Product n = nat_le 2 n
takes Sum n = nat_le 2 n
takes _ n = n == 1

-- a node and the places of its children
abbrev pub branch : Node → List ℕ → Branch
branch node children = record { node = node; children = children }

-- A term that may stand in a larger one: its nodes in preorder, each with how far behind it its
-- children stand, and its depth.
abbrev pub Part : Type 0
Part = Nodes × ℕ

-- where parts begin, one behind another, the first n places behind their node
abbrev pub starts : ℕ → List Part → List ℕ
starts n [] = []
starts n (part ∷ parts) = n ∷ starts (n + length part.0) parts

-- the nodes of parts, one part behind another
abbrev pub nodes_of : List Part → Nodes
nodes_of parts = flat_map (λ part. part.0) parts

-- the greatest depth, and 0 of no part
abbrev pub deepest : List Part → ℕ
deepest [] = 0
deepest (part ∷ parts) = max part.1 (deepest parts)

-- a node over its children
abbrev pub over : Node → List Part → Part
over node parts = (branch node (starts 1 parts) ∷ nodes_of parts, deepest parts + 1)

-- a node with as many children as it takes, each of them a part of a depth below n
unfoldable pub IsPart : ℕ → Part → Type 0
IsPart zero part = ⊥
IsPart (suc n) part =
    (node : Node) × (parts : List Part) ×
    IsTrue (takes node (length parts)) × HasLabels node × AllByRecursion (IsPart n) parts ×
    (part ≡ over node parts)

-- the most nodes that a term may have
abbrev pub node_limit : ℕ
node_limit = 256

-- the greatest depth that a term may have
abbrev pub depth_limit : ℕ
depth_limit = 32

-- a part within the bounds of a term
pub record IsWithin (part : Part) : Type 0 where
  pub built : IsPart depth_limit part
  pub few : length part.0 ≤ node_limit

-- so few nodes, and so little depth, that a node may stand over the parts
pub record IsSmall (parts : List Part) : Type 0 where
  pub few : length (nodes_of parts) < node_limit
  pub shallow : deepest parts < depth_limit

-- the node may stand over the parts: it takes as many, its labels are labels, and they are small
pub record Stands (node : Node) (parts : List Part) : Type 0 where
  pub arity : IsTrue (takes node (length parts))
  pub labels : HasLabels node
  pub small : IsSmall parts

-- nodes of which the first has the number p, each with the numbers of its children
abbrev pub placed : ℕ → Nodes → Nodes
placed p [] = []
placed p (b ∷ nodes) =
    branch b.node (map (λ child. p + child) b.children) ∷ placed (p + 1) nodes

-- the nodes of a part within the bounds, each with the numbers of its children
pub record IsTerm (t : Nodes) : Type 0 where
  pub part : Part
  pub within : IsWithin part
  pub numbered : t ≡ placed 0 part.0

module _ {A : Type 0} (other : A) (step : Node → List A → A) (t : Nodes) where
  -- what node p gives where at most n levels are looked at, and `other` stands below them
  abbrev pub fold_within : ℕ → ℕ → A
  fold_within zero p = other
  fold_within (suc n) p =
      option_map_or (λ b. step b.node (map (fold_within n) b.children)) (slice_get t p) other

  -- what node p gives, by a step from the node and what its children give; a term has no more
  -- levels than nodes
  abbrev pub fold : ℕ → A
  fold p = fold_within (length t) p
