-- The canonical text of a coalgebra: the canonical text of its functor, a line feed, and for each
-- state in order its name, a colon, a space, the text of its structure and a line feed.
--
--     state     its name
--     label     the listed word, or the decimal number
--     product   the parts in parentheses
--     sum       `inj`, the index and the inner value, with spaces between them
--     power     entries `label: value` in label order, in braces
--     set       the elements in order, in braces
--     weights   entries `value: weight` in order, in braces; a weight in lowest terms
--
-- A comma and a space stand between parts, entries and elements.
--
-- text_at l names t p v == the text of the value v at node p; l is the common denominator
-- state_line name text  == the line of a state
-- canonical c           == the canonical text of a coalgebra
use Rattle.std.specs.Prelude.{ℕ, ◌+◌, ◌-◌, ◌==◌, ℤ, List, [], ◌∷◌, ◌++◌, map, codes, decimal, slice_get, unwrap_or, if◌then◌else◌}
use Rattle.std.specs.List.{join_by}
use Rattle.std.specs.Option.{option_map_or}
use Rattle.functor_terms.specs.declared.node.Node.{Node}
use Rattle.functor_terms.specs.declared.node.Node.TheVariants.{State, Constant, Naturals, Product, Sum, Power, Powerset, Bag, Distribution, Integers, Rationals}
use Rattle.functor_terms.specs.declared.node.LabelSet.{LabelSet}
use Rattle.functor_terms.specs.declared.node.LabelSet.TheVariants.{Listed, Below}
use Rattle.functor_terms.specs.Terms.{Nodes, children_at, fold}
use Rattle.functor_terms.specs.Text.{text_of_term}
use Rattle.weights.specs.Fractions.{lowest_terms}
use Rattle.weights.specs.FractionText.{text_of_fraction}
use Rattle.weights.specs.declared.ratio.Ratio.{Ratio}
use Rattle.typing.specs.declared.value.Value.{Value}
use Rattle.typing.specs.Values.{state, label, index, inner, parts, entries}
use Rattle.typing.specs.Contents.{Content}
use Rattle.fitting.specs.Fitting.{has_fractions}

-- how values at some node are written
abbrev pub Write : Type 0
Write = Value → List ℕ

-- where there is no such node, nothing is
abbrev pub no_write : Write
no_write v = []

-- how those at the k-th of some nodes are written
abbrev pub write_at : List Write → ℕ → Write
write_at [] k = no_write
write_at (w ∷ ws) k = if k == 0 then w else write_at ws (k - 1)

-- ---- words and numbers

-- the word with a number, and nothing past the end
abbrev pub word_at : List (List ℕ) → ℕ → List ℕ
word_at words k = unwrap_or (slice_get words k) []

-- the text of a label: its word, or its number
abbrev pub label_word : LabelSet → ℕ → List ℕ
label_word (Listed words) k = word_at words k
label_word (Below n) k = decimal k

-- the denominator that weights at a node are counted over, where l is the common one
abbrev pub denominator_at : ℕ → Node → ℕ
denominator_at l m = if has_fractions m then l else 1

-- the text of a fraction
abbrev pub ratio_text : Ratio → List ℕ
ratio_text r = text_of_fraction r.p r.q

-- the text of a weight at a node: its fraction in lowest terms
abbrev pub weight_text : ℕ → Node → ℤ → List ℕ
weight_text l m w = ratio_text (lowest_terms w (denominator_at l m))

-- ---- lists

-- texts with a comma and a space between each two
abbrev pub listed : List (List ℕ) → List ℕ
listed texts = join_by (λ text. text) (codes ", ") texts

-- an entry: two texts with a colon and a space between them
abbrev pub paired : List ℕ → List ℕ → List ℕ
paired first second = first ++ (codes ": " ++ second)

-- the texts of parts from place k on, each by its own place
abbrev pub part_texts : List Write → ℕ → List Value → List (List ℕ)
part_texts ws k [] = []
part_texts ws k (v ∷ vs) = write_at ws k v ∷ part_texts ws (k + 1) vs

-- the entries of a power from label k on
abbrev pub keyed_texts : LabelSet → Write → ℕ → List Value → List (List ℕ)
keyed_texts labels w k [] = []
keyed_texts labels w k (v ∷ vs) =
    paired (label_word labels k) (w v) ∷ keyed_texts labels w (k + 1) vs

-- the text of an entry of a weight list
abbrev pub entry_text : ℕ → Node → Write → Value × ℤ → List ℕ
entry_text l m w e = paired (w e.0) (weight_text l m e.1)

-- the texts of the entries of a weight list
abbrev pub entry_texts : ℕ → Node → Write → List (Value × ℤ) → List (List ℕ)
entry_texts l m w es = map (entry_text l m w) es

-- ---- terms

-- the text in parentheses
abbrev pub in_parentheses : List ℕ → List ℕ
in_parentheses text = codes "(" ++ (text ++ codes ")")

-- the text in braces
abbrev pub in_braces : List ℕ → List ℕ
in_braces text = codes "{" ++ (text ++ codes "}")

-- the text of a part of a sum
abbrev pub part_text : ℕ → List ℕ → List ℕ
part_text k text = codes "inj " ++ (decimal k ++ (codes " " ++ text))

-- the text of a weight list at a node
abbrev pub weights_text : ℕ → Node → List Write → Write
weights_text l m ws v = in_braces (listed (entry_texts l m (write_at ws 0) (entries v)))

-- how a node writes values, by how its children do
abbrev pub write_step : ℕ → List (List ℕ) → Node → List Write → Write
write_step l names State ws v = option_map_or (word_at names) (state v) []
write_step l names (Constant labels) ws v = label_word labels (label v)
write_step l names Naturals ws v = decimal (label v)
write_step l names Product ws v = in_parentheses (listed (part_texts ws 0 (parts v)))
write_step l names Sum ws v = part_text (index v) (write_at ws (index v) (inner v))
write_step l names (Power labels) ws v =
    in_braces (listed (keyed_texts labels (write_at ws 0) 0 (parts v)))
write_step l names Powerset ws v = in_braces (listed (map (write_at ws 0) (parts v)))
write_step l names Bag ws v = weights_text l Bag ws v
write_step l names Distribution ws v = weights_text l Distribution ws v
write_step l names Integers ws v = weights_text l Integers ws v
write_step l names Rationals ws v = weights_text l Rationals ws v

-- the text of a value at node p
abbrev pub text_at : ℕ → List (List ℕ) → Nodes → ℕ → Write
text_at l names t p = fold no_write (write_step l names) t p

-- how values at the children of node p are written
abbrev pub child_texts : ℕ → List (List ℕ) → Nodes → ℕ → List Write
child_texts l names t p = map (text_at l names t) (children_at t p)

-- ---- files

-- the line of a state with this name and this text of its structure
abbrev pub state_line : List ℕ → List ℕ → List ℕ
state_line name text = paired name text ++ codes "\n"

-- the lines of states with these names and values, in order
abbrev pub state_lines : Write → List (List ℕ) → List Value → List ℕ
state_lines w [] vs = []
state_lines w (name ∷ names) [] = []
state_lines w (name ∷ names) (v ∷ vs) = state_line name (w v) ++ state_lines w names vs

-- the functor's line, then the lines of all states
abbrev pub canonical : Content → List ℕ
canonical c =
    (text_of_term c.term ++ codes "\n")
    ++ state_lines (text_at c.denominator c.names c.term 0) c.names c.values
