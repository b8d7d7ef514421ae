-- What a functor line spells: a relation between its tokens and a term, by the grammar
--
--     sum      = product { "+" product }
--     product  = power { ( "x" | "×" | "*" ) power }
--     power    = prefix { "^" exponent }
--     exponent = digits | braces
--     prefix   = ( "P" | "B" | "D" ) prefix | weights | atom
--     weights  = ( "N" | "Z" | "Q" ) "^" "(" sum ")"
--     atom     = "X" | "N" | digits | braces | "(" sum ")"
--     braces   = "{" word { "," word } "}"
--
-- A chain of two or more products is one sum, and one of two or more powers is one product. A term
-- in parentheses is that term. `T^a^b` is the power by b of the power by a. At most 32 parentheses
-- are open at any place, those of weights among them.
--
-- prefix_of     == the node that a letter before another term stands for
-- weights_of    == the node that a letter before `^(` stands for
-- letter_of     == the node without children that a letter stands for
-- SpellsEach    == the tokens spell these in turn, with a sign between each two
-- SpellsLabels  == they spell the labels of a constant or an exponent
-- SpellsBase    == they spell weights or an atom; SpellsPrefix .. SpellsSum the other forms
-- SpellsInside  == they spell a term that may stand in n parentheses
-- SpellsTerm    == a text spells the term
-- OneTerm       == no text spells two terms; OnlyTerms == what a text spells is a term
use Rattle.std.specs.Prelude.{◌≡◌, ℕ, zero, suc, ◌≤◌, List, [], ◌∷◌, ◌++◌, length, Option, Some, None, ◌⊎◌}
use Rattle.std.specs.Str.Parse.{digits_value}
use Rattle.functor_terms.specs.Signs.{signs}
use Rattle.functor_terms.specs.Terms.{Nodes, Part, IsTerm, AreLabels, over, placed, node_limit, depth_limit}
use Rattle.functor_terms.specs.declared.node.LabelSet.{LabelSet}
use Rattle.functor_terms.specs.declared.node.LabelSet.TheVariants.{Listed, Below}
use Rattle.functor_terms.specs.declared.node.Node.{Node}
use Rattle.functor_terms.specs.declared.node.Node.TheVariants.{State, Constant, Naturals, Product, Sum, Power, Powerset, Bag, Distribution, Integers, Rationals}
use Rattle.functor_terms.specs.declared.sign.Sign.{Sign}
use Rattle.functor_terms.specs.declared.sign.Sign.TheVariants.{X, P, B, D, N, Z, Q, Plus, Times, Caret, Open, Close, OpenBrace, CloseBrace, Comma, Digits, Word}

-- the node that a letter before another term stands for
abbrev pub prefix_of : Sign → Option Node
prefix_of P = Some Powerset
prefix_of B = Some Bag
prefix_of D = Some Distribution
prefix_of _ = None

-- the node of weights that a letter before `^(` stands for
abbrev pub weights_of : Sign → Option Node
weights_of N = Some Bag
weights_of Z = Some Integers
weights_of Q = Some Rationals
weights_of _ = None

-- the node without children that a letter stands for by itself
abbrev pub letter_of : Sign → Option Node
letter_of X = Some State
letter_of N = Some Naturals
letter_of _ = None

-- how many parentheses may be open at any place
abbrev pub open_limit : ℕ
open_limit = 32

-- the tokens spell these in turn, one or more, with a sign between each two
abbrev pub SpellsEach : {A : Type 0} → Sign → (List Sign → A → Type 0) → List Sign → List A → Type 0
SpellsEach between Spells ts [] = ⊥
SpellsEach between Spells ts (x ∷ []) = Spells ts x
SpellsEach between Spells ts (x ∷ y ∷ xs) =
    (front : List Sign) × (rest : List Sign) × (ts ≡ front ++ between ∷ rest)
    × Spells front x × SpellsEach between Spells rest (y ∷ xs)

-- the tokens are this word
abbrev pub SpellsWord : List Sign → List ℕ → Type 0
SpellsWord ts word = ts ≡ Word word ∷ []

-- digits spell the numbers below theirs, and braces the words in them; they are labels
pub data SpellsLabels (ts : List Sign) (labels : LabelSet) : Type 0 where
  below :
      (digits : List ℕ) → ts ≡ Digits digits ∷ [] → labels ≡ Below (digits_value 10 digits)
      → AreLabels labels → SpellsLabels ts labels
  listed :
      (inner : List Sign) (words : List (List ℕ)) → ts ≡ OpenBrace ∷ inner ++ CloseBrace ∷ []
      → SpellsEach Comma SpellsWord inner words → labels ≡ Listed words → AreLabels labels
      → SpellsLabels ts labels

-- the tokens spell these exponents, each with a caret before it
abbrev pub SpellsExponents : List Sign → List LabelSet → Type 0
SpellsExponents ts [] = ts ≡ []
SpellsExponents ts (labels ∷ others) =
    (front : List Sign) × (rest : List Sign) × (ts ≡ Caret ∷ front ++ rest)
    × SpellsLabels front labels × SpellsExponents rest others

-- the base to the power of each exponent, one after another
abbrev pub powers : Part → List LabelSet → Part
powers base [] = base
powers base (labels ∷ others) = powers (over (Power labels) (base ∷ [])) others

-- one term, or the node over a chain of two or more of them
abbrev pub SpellsChain : Sign → Node → (List Sign → Part → Type 0) → List Sign → Part → Type 0
SpellsChain between node Spells ts part =
    Spells ts part
    ⊎ ((parts : List Part) × (2 ≤ length parts) × SpellsEach between Spells ts parts
    × (part ≡ over node parts))

module _ (Inside : List Sign → Part → Type 0) where
  -- weights over the term in their parentheses, or an atom
  pub data SpellsBase (ts : List Sign) (part : Part) : Type 0 where
    weights :
        (t : Sign) (node : Node) (inner : List Sign) (child : Part)
        → ts ≡ t ∷ Caret ∷ Open ∷ inner ++ Close ∷ [] → weights_of t ≡ Some node
        → Inside inner child → part ≡ over node (child ∷ []) → SpellsBase ts part
    letter :
        (t : Sign) (node : Node) → ts ≡ t ∷ [] → letter_of t ≡ Some node → part ≡ over node []
        → SpellsBase ts part
    constant :
        (labels : LabelSet) → SpellsLabels ts labels → part ≡ over (Constant labels) []
        → SpellsBase ts part
    group :
        (inner : List Sign) → ts ≡ Open ∷ inner ++ Close ∷ [] → Inside inner part
        → SpellsBase ts part

  -- weights or an atom, behind any number of prefixes
  abbrev pub SpellsPrefix : List Sign → Part → Type 0
  SpellsPrefix [] part = ⊥
  SpellsPrefix (t ∷ ts) part =
      SpellsBase (t ∷ ts) part
      ⊎ ((node : Node) × (child : Part) × (prefix_of t ≡ Some node) × SpellsPrefix ts child
      × (part ≡ over node (child ∷ [])))

  -- a term behind its prefixes, to the power of any number of exponents
  abbrev pub SpellsPower : List Sign → Part → Type 0
  SpellsPower ts part =
      (front : List Sign) × (rest : List Sign) × (base : Part) × (exponents : List LabelSet)
      × (ts ≡ front ++ rest) × SpellsPrefix front base × SpellsExponents rest exponents
      × (part ≡ powers base exponents)

  -- a power, or a product of powers
  abbrev pub SpellsProduct : List Sign → Part → Type 0
  SpellsProduct = SpellsChain Times Product SpellsPower

  -- a product, or a sum of products
  abbrev pub SpellsSum : List Sign → Part → Type 0
  SpellsSum = SpellsChain Plus Sum SpellsProduct

-- the tokens stand in parentheses, of which n may be open, and spell the term
unfoldable pub SpellsInside : ℕ → List Sign → Part → Type 0
SpellsInside zero ts part = ⊥
SpellsInside (suc n) ts part = SpellsSum (SpellsInside n) ts part

-- the text spells the term: its tokens spell a part of at most 256 nodes and a depth of at most 32,
-- whose nodes are numbered in preorder
pub record SpellsTerm (text : List ℕ) (t : Nodes) : Type 0 where
  pub part : Part
  pub spelled : SpellsSum (SpellsInside open_limit) (signs text) part
  pub shallow : part.1 ≤ depth_limit
  pub few : length part.0 ≤ node_limit
  pub numbered : t ≡ placed 0 part.0

-- no text spells two terms
abbrev pub OneTerm : Type 0
OneTerm = (text : List ℕ) (t u : Nodes) → SpellsTerm text t → SpellsTerm text u → t ≡ u

-- what a text spells is a term
abbrev pub OnlyTerms : Type 0
OnlyTerms = (text : List ℕ) (t : Nodes) → SpellsTerm text t → IsTerm t
