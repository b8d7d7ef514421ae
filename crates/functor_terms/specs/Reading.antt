-- Reading terms from tokens, from left to right: what the functions that read terms compute. Only
-- private clauses cite it. That it agrees with what a text spells is proved. A limit is tested
-- where it may first be passed, so what is read never grows past the limits.
--
-- Reads       == what stands at the front of tokens, and the tokens behind it
-- made_over   == a node over parts that are small enough
-- items_from  == items with a sign between each two, behind those that were read before
-- labels_at   == the labels of a constant or an exponent
-- powers_from == a base to the power of the exponents that follow
-- chain_at    == the only part of a chain, or the node over its parts
-- atom_at, base_at, prefix_at, power_at, product_at, sum_at == the forms of the grammar
-- inside_at   == what stands in parentheses
-- part_at     == the part that all the tokens spell
-- Gives       == a function answered what reading gives, unless memory ran out
use Rattle.std.specs.Prelude.{◌≡◌, ℕ, zero, suc, List, [], ◌∷◌, ◌++◌, length, Bool, ◌&&◌, not, nat_lt, nat_le, Option, Some, None, option_map, option_and_then, is_none, if◌then◌else◌, Result, Ok, Err}
use Rattle.std.specs.List.{list_all}
use Rattle.std.specs.Option.{option_map_or}
use Rattle.std.specs.Str.Parse.{digits_value}
use Rattle.file_cut.specs.Bytes.{is_word_byte}
use Rattle.file_cut.specs.Tokens.{is_inj}
use Rattle.functor_terms.specs.Words.{place_of}
use Rattle.functor_terms.specs.Terms.{Part, over, nodes_of, deepest, node_limit, depth_limit, label_limit}
use Rattle.functor_terms.specs.Signs.{is_plus, is_times, is_caret, is_open, is_close, is_comma, is_brace_end}
use Rattle.functor_terms.specs.Grammar.{prefix_of, weights_of, letter_of, open_limit}
use Rattle.functor_terms.specs.declared.fault.TermFault.{TermFault}
use Rattle.functor_terms.specs.declared.fault.TermFault.TheVariants.{Grammar, NoMemory}
use Rattle.functor_terms.specs.declared.node.LabelSet.{LabelSet}
use Rattle.functor_terms.specs.declared.node.LabelSet.TheVariants.{Listed, Below}
use Rattle.functor_terms.specs.declared.node.Node.{Node}
use Rattle.functor_terms.specs.declared.node.Node.TheVariants.{Constant, Product, Sum, Power}
use Rattle.functor_terms.specs.declared.sign.Sign.{Sign}
use Rattle.functor_terms.specs.declared.sign.Sign.TheVariants.{Open, OpenBrace, Digits, Word}

-- what stands at the front of the tokens, and the tokens behind it
abbrev pub Reads : Type 0 → Type 0
Reads A = List Sign → Option (A × List Sign)

-- the tokens behind the first, where that passes
abbrev pub behind_sign : (Sign → Bool) → List Sign → Option (List Sign)
behind_sign passes [] = None
behind_sign passes (t ∷ ts) = if passes t then Some ts else None

-- what was read, where a token that passes stands behind it
abbrev pub ended : {A : Type 0} → (Sign → Bool) → A → Reads A
ended passes x ts = option_map (λ rest. (x, rest)) (behind_sign passes ts)

-- the parts have so few nodes, and so little depth, that a node may stand over them
abbrev pub are_small : List Part → Bool
are_small parts =
    nat_lt (length (nodes_of parts)) node_limit && nat_lt (deepest parts) depth_limit

-- the node over parts that are small
abbrev pub made_over : Node → List Part → Reads Part
made_over node parts ts = if are_small parts then Some (over node parts, ts) else None

-- Items with a sign between each two: `item` reads one, `goes_on` says whether another follows, and
-- `joins` whether an item may come behind those before it.
module _ {A : Type 0} (item : Reads A) (goes_on : Sign → Bool) (joins : List A → A → Bool) where
  -- the items before and those that follow a sign, or the items before alone
  abbrev pub others_behind : List A → (List A → Reads (List A)) → Reads (List A)
  others_behind items others ts =
      option_map_or (others items) (behind_sign goes_on ts) (Some (items, ts))

  -- an item more behind those before it, and what follows
  abbrev pub joined_by : List A → A → (List A → Reads (List A)) → Reads (List A)
  joined_by before x others ts =
      if joins before x then others_behind (before ++ x ∷ []) others ts else None

  -- the items before and those that follow, at most n more
  unfoldable pub items_from : ℕ → List A → Reads (List A)
  items_from zero before ts = None
  items_from (suc n) before ts =
      option_and_then (λ p. joined_by before p.0 (items_from n) p.1) (item ts)

-- a word
abbrev pub word_at : Reads (List ℕ)
word_at (Word word ∷ ts) = Some (word, ts)
word_at _ = None

-- the bytes are a word other than `inj`
abbrev pub is_name : List ℕ → Bool
is_name word = nat_lt 0 (length word) && list_all is_word_byte word && not (is_inj word)

-- the word is a name, and none of the words before it
abbrev pub is_new_name : List (List ℕ) → List ℕ → Bool
is_new_name words word = is_name word && is_none (place_of word words)

-- distinct names with commas between them, at most 65,536
unfoldable pub words_at : Reads (List (List ℕ))
words_at ts = items_from word_at is_comma is_new_name label_limit [] ts

-- the words of braces, where their end stands behind them
abbrev pub braces_at : Reads LabelSet
braces_at ts = option_and_then (λ p. ended is_brace_end (Listed p.0) p.1) (words_at ts)

-- the numbers below n, where n is from 1 to 65,536
abbrev pub below_at : ℕ → Reads LabelSet
below_at n ts = if nat_lt 0 n && nat_le n label_limit then Some (Below n, ts) else None

-- the labels of a constant or an exponent
abbrev pub labels_at : Reads LabelSet
labels_at (Digits digits ∷ ts) = below_at (digits_value 10 digits) ts
labels_at (OpenBrace ∷ ts) = braces_at ts
labels_at _ = None

-- the base to the power of the exponent that stands at the front
abbrev pub raised : Part → Reads Part
raised base ts =
    option_and_then (λ p. made_over (Power p.0) (base ∷ []) p.1) (labels_at ts)

-- the base to the power of the exponents that follow, fewer than n
unfoldable pub powers_from : ℕ → Part → Reads Part
powers_from zero base ts = None
powers_from (suc n) base ts =
    option_map_or (λ behind. option_and_then (λ p. powers_from n p.0 p.1) (raised base behind))
    (behind_sign is_caret ts) (Some (base, ts))

-- the only part of a chain, or the node over its parts
abbrev pub chain_over : Node → List Part → Reads Part
chain_over node (part ∷ []) ts = Some (part, ts)
chain_over node parts ts = made_over node parts ts

-- the parts and one more have at most 256 nodes
abbrev pub is_few : List Part → Part → Bool
is_few parts part = nat_le (length (nodes_of (parts ++ part ∷ []))) node_limit

-- a chain of what `item` reads
abbrev pub chain_at : Node → (Sign → Bool) → Reads Part → Reads Part
chain_at node goes_on item ts =
    option_and_then (λ p. chain_over node p.0 p.1) (items_from item goes_on is_few node_limit [] ts)

-- the constant of labels
abbrev pub constant_at : Reads Part
constant_at ts = option_and_then (λ p. made_over (Constant p.0) [] p.1) (labels_at ts)

-- the tokens behind `^(`
abbrev pub behind_power : List Sign → Option (List Sign)
behind_power ts = option_and_then (behind_sign is_open) (behind_sign is_caret ts)

-- a node over what was read
abbrev pub over_read : Node → Option (Part × List Sign) → Option (Part × List Sign)
over_read node read = option_and_then (λ p. made_over node (p.0 ∷ []) p.1) read

-- `inside` reads what stands in parentheses
module _ (inside : Reads Part) where
  -- what stands behind `(`, up to its end
  abbrev pub group_at : Reads Part
  group_at ts = option_and_then (λ p. ended is_close p.0 p.1) (inside ts)

  -- weights over what stands behind their `^(`, up to its end
  abbrev pub weights_at : Node → Reads Part
  weights_at node ts = over_read node (group_at ts)

  -- an atom
  abbrev pub atom_at : Reads Part
  atom_at [] = None
  atom_at (Open ∷ ts) = group_at ts
  atom_at (t ∷ ts) =
      option_map_or (λ node. made_over node [] ts) (letter_of t) (constant_at (t ∷ ts))

  -- weights where a letter of weights stands before `^(`, and else an atom
  abbrev pub weighed :
      Option Node → Option (List Sign) → Option (Part × List Sign) → Option (Part × List Sign)
  weighed (Some node) (Some inner) atom = weights_at node inner
  weighed _ _ atom = atom

  -- weights or an atom
  abbrev pub base_at : Reads Part
  base_at [] = None
  base_at (t ∷ ts) = weighed (weights_of t) (behind_power ts) (atom_at (t ∷ ts))

-- `inside` reads what stands in parentheses where d more prefixes may stand
module _ (inside : ℕ → Reads Part) where
  -- weights or an atom behind prefixes, at most d
  unfoldable pub prefix_at : ℕ → Reads Part
  prefix_at d [] = None
  prefix_at zero (t ∷ ts) =
      option_map_or (λ node. None) (prefix_of t) (base_at (inside zero) (t ∷ ts))
  prefix_at (suc d) (t ∷ ts) =
      option_map_or (λ node. over_read node (prefix_at d ts)) (prefix_of t)
      (base_at (inside (suc d)) (t ∷ ts))

  -- a term behind its prefixes, and its exponents
  unfoldable pub power_at : ℕ → Reads Part
  power_at d ts = option_and_then (λ p. powers_from depth_limit p.0 p.1) (prefix_at d ts)

  -- a power, or a product of powers
  unfoldable pub product_at : ℕ → Reads Part
  product_at d ts = chain_at Product is_times (power_at d) ts

  -- a product, or a sum of products
  unfoldable pub sum_at : ℕ → Reads Part
  sum_at d ts = chain_at Sum is_plus (product_at d) ts

-- what stands in parentheses, of which n may be open, where d more prefixes may stand
unfoldable pub inside_at : ℕ → ℕ → Reads Part
inside_at zero d ts = None
inside_at (suc n) d ts = sum_at (inside_at n) d ts

-- what was read, where no token is left
abbrev pub whole : Option (Part × List Sign) → Option Part
whole None = None
whole (Some (part, [])) = Some part
whole (Some (part, t ∷ ts)) = None

-- the part that all the tokens spell
unfoldable pub part_at : List Sign → Option Part
part_at ts = whole (sum_at (inside_at open_limit) depth_limit ts)

-- a function answered what reading gives, with the tokens behind it, unless memory ran out
abbrev pub Gives : {A : Type 0} → Result (A × List Sign) TermFault → Option (A × List Sign) → Type 0
Gives (Ok found) read = read ≡ Some (found.0, found.1)
Gives (Err Grammar) read = read ≡ None
Gives (Err NoMemory) read = Unit {0}
