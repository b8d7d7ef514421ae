-- The canonical text of a term.
--
--     State         X
--     Constant      the number, or the words in braces with commas between them
--     Naturals      N
--     Powerset      P, a space and the child; Bag and Distribution the same with B and D
--     Integers      Z^( and the child and ); Rationals the same with Q
--     Power         the base, ^ and the exponent as a constant is written
--     Product       the parts with x between them, and spaces around it
--     Sum           the parts with + between them, and spaces around it
--
-- A child behind P, B or D is in parentheses if it is a power, a product or a sum. So is a base,
-- and a part of a product, if it is a product or a sum, and a part of a sum if it is a sum.
--
-- Shown            == a text and how loosely it binds
-- level_of         == how loosely the text of a node binds
-- within           == a text as it stands where no looser one may
-- label_text       == the text of labels
-- node_text        == the text of a node over those of its children
-- text_of_term     == the text of a term
-- TextsSpell       == the canonical text of a term spells it
use Rattle.std.specs.Prelude.{ℕ, List, [], ◌∷◌, ◌++◌, nat_le, codes, decimal, if◌then◌else◌}
use Rattle.std.specs.List.{join_by}
use Rattle.functor_terms.specs.Terms.{Nodes, IsTerm, fold}
use Rattle.functor_terms.specs.Grammar.{SpellsTerm}
use Rattle.functor_terms.specs.declared.node.LabelSet.{LabelSet}
use Rattle.functor_terms.specs.declared.node.LabelSet.TheVariants.{Listed, Below}
use Rattle.functor_terms.specs.declared.node.Node.{Node}
use Rattle.functor_terms.specs.declared.node.Node.TheVariants.{State, Constant, Naturals, Product, Sum, Power, Powerset, Bag, Distribution, Integers, Rationals}

-- a text, and how loosely it binds
pub record Shown : Type 0 where
  pub level : ℕ
  pub text : List ℕ

-- a text that binds so loosely
abbrev pub shown : ℕ → List ℕ → Shown
shown level text = record { level = level; text = text }

-- how loosely prefixes, weights and atoms bind
abbrev pub prefix_level : ℕ
prefix_level = 0

-- how loosely powers bind
abbrev pub power_level : ℕ
power_level = 1

-- how loosely products bind
abbrev pub product_level : ℕ
product_level = 2

-- how loosely sums bind
abbrev pub sum_level : ℕ
sum_level = 3

-- how loosely the text of a node binds
abbrev pub level_of : Node → ℕ
level_of (Power labels) = power_level
level_of Product = product_level
level_of Sum = sum_level
level_of _ = prefix_level

-- the text in parentheses
abbrev pub enclosed : List ℕ → List ℕ
enclosed text = codes "(" ++ text ++ codes ")"

-- a text as it stands where no text may bind more loosely: in parentheses if it does
abbrev pub within : ℕ → Shown → List ℕ
within level child = if nat_le child.level level then child.text else enclosed child.text

-- the text of labels: the number, or the words in braces
abbrev pub label_text : LabelSet → List ℕ
label_text (Below n) = decimal n
label_text (Listed words) = codes "{" ++ join_by (λ word. word) (codes ",") words ++ codes "}"

-- the text of the one child of a node
abbrev pub only : List Shown → Shown
only [] = shown prefix_level []
only (child ∷ children) = child

-- the text of a node over those of its children
abbrev pub node_text : Node → List Shown → List ℕ
node_text State children = codes "X"
node_text (Constant labels) children = label_text labels
node_text Naturals children = codes "N"
node_text Product children = join_by (within power_level) (codes " x ") children
node_text Sum children = join_by (within product_level) (codes " + ") children
node_text (Power labels) children =
    within power_level (only children) ++ codes "^" ++ label_text labels
node_text Powerset children = codes "P " ++ within prefix_level (only children)
node_text Bag children = codes "B " ++ within prefix_level (only children)
node_text Distribution children = codes "D " ++ within prefix_level (only children)
node_text Integers children = codes "Z^" ++ enclosed (only children).text
node_text Rationals children = codes "Q^" ++ enclosed (only children).text

-- a node as it is shown over its children
abbrev pub shown_over : Node → List Shown → Shown
shown_over node children = shown (level_of node) (node_text node children)

-- the text of the term below a node, with how loosely it binds
unfoldable pub shown_at : Nodes → ℕ → Shown
shown_at t p = fold (shown prefix_level []) shown_over t p

-- the canonical text of a term
abbrev pub text_of_term : Nodes → List ℕ
text_of_term t = (shown_at t 0).text

-- the canonical text of a term spells it
abbrev pub TextsSpell : Type 0
TextsSpell = (t : Nodes) → IsTerm t → SpellsTerm (text_of_term t) t
