-- What a text spells: a relation between whole lists of tokens and trees, by the grammar
--
--     line  = word ":" tree
--     tree  = word
--           | "(" tree ")"
--           | "(" tree "," tree { "," tree } ")"
--           | "inj" digits tree
--           | "{" "}"
--           | "{" entry { "," entry } "}"
--     entry = tree | tree ":" tree
--
-- The word `inj` is no word here. A tree in parentheses is that tree. Brackets and `inj` are open
-- until what they begin ends, and at most 64 are open at any place; empty braces open one too.
use Rattle.std.specs.Prelude.{◌≡◌, ◌≤◌, ◌++◌, ◌∷◌, ◌⊎◌, ℕ, zero, suc, List, [], length}
use Rattle.std.specs.Prelude.{Option, Some, None, IsTrue}
use Rattle.file_cut.specs.Bytes.{are_digits}
use Rattle.file_cut.specs.Tokens.{marks}
use Rattle.file_cut.specs.declared.mark.Mark.{Mark}
use Rattle.file_cut.specs.declared.mark.Mark.TheVariants.{Word, Inj, Open, Close}
use Rattle.file_cut.specs.declared.mark.Mark.TheVariants.{OpenBrace, CloseBrace, Comma, Colon}
use Rattle.file_cut.specs.declared.tree.Tree.{Tree}
use Rattle.file_cut.specs.declared.tree.Tree.TheVariants as tree
use Rattle.file_cut.specs.declared.tree.Entry.{Entry, roll-Entry}

-- the tokens spell these in turn, one or more, with a comma between each two
abbrev pub SpellsEach : {A : Type 0} → (List Mark → A → Type 0) → List Mark → List A → Type 0
SpellsEach Spells ts [] = ⊥
SpellsEach Spells ts (x ∷ []) = Spells ts x
SpellsEach Spells ts (x ∷ y ∷ xs) =
    (front : List Mark) × (rest : List Mark) × (ts ≡ front ++ Comma ∷ rest)
    × Spells front x × SpellsEach Spells rest (y ∷ xs)

-- the entry of these trees
abbrev pub entry : Tree → Option Tree → Entry
entry first second = roll-Entry (record { first = first; second = second })

module _ (Inside : List Mark → Tree → Type 0) where
  -- a tree, or two with a colon between them
  pub data SpellsEntry (ts : List Mark) (e : Entry) : Type 0 where
    alone : (first : Tree) → Inside ts first → e ≡ entry first None → SpellsEntry ts e
    paired :
        (front back : List Mark) (first second : Tree) → ts ≡ front ++ Colon ∷ back
        → Inside front first → Inside back second → e ≡ entry first (Some second)
        → SpellsEntry ts e

  -- the forms that open a bracket or an `inj`; the trees in them are spelled by `Inside`
  pub data SpellsOpen (ts : List Mark) (t : Tree) : Type 0 where
    same : (inner : List Mark) → ts ≡ Open ∷ inner ++ Close ∷ [] → Inside inner t → SpellsOpen ts t
    tuple :
        (inner : List Mark) (parts : List Tree) → ts ≡ Open ∷ inner ++ Close ∷ []
        → 2 ≤ length parts → SpellsEach Inside inner parts → t ≡ tree.Tuple parts
        → SpellsOpen ts t
    inj :
        (index : List ℕ) (inner : List Mark) (u : Tree) → ts ≡ Inj ∷ Word index ∷ inner
        → IsTrue (are_digits index) → Inside inner u → t ≡ tree.Inj index u
        → SpellsOpen ts t
    empty : ts ≡ OpenBrace ∷ CloseBrace ∷ [] → t ≡ tree.Braces [] → SpellsOpen ts t
    braces :
        (inner : List Mark) (entries : List Entry) → ts ≡ OpenBrace ∷ inner ++ CloseBrace ∷ []
        → SpellsEach SpellsEntry inner entries → t ≡ tree.Braces entries
        → SpellsOpen ts t

-- the tokens are one word, and the tree is that word
abbrev pub SpellsWord : List Mark → Tree → Type 0
SpellsWord ts t = (word : List ℕ) × (ts ≡ Word word ∷ []) × (t ≡ tree.Word word)

-- the tokens spell the tree, with at most n brackets and `inj` open at any place
unfoldable pub SpellsWithin : ℕ → List Mark → Tree → Type 0
SpellsWithin zero ts t = SpellsWord ts t
SpellsWithin (suc n) ts t = SpellsWord ts t ⊎ SpellsOpen (SpellsWithin n) ts t

-- how many brackets and `inj` may be open at any place
abbrev pub open_limit : ℕ
open_limit = 64

-- the text spells the tree
abbrev pub Spells : List ℕ → Tree → Type 0
Spells text t = SpellsWithin open_limit (marks text) t

-- the line is the head, a colon and the text of the tree
abbrev pub SpellsLine : List ℕ → List ℕ → Tree → Type 0
SpellsLine text head t =
    (rest : List Mark) × (marks text ≡ Word head ∷ Colon ∷ rest) × SpellsWithin open_limit rest t

-- no text spells two trees
abbrev pub OneTree : Type 0
OneTree = (text : List ℕ) (x y : Tree) → Spells text x → Spells text y → x ≡ y

-- no line has two heads or two trees
abbrev pub OneLine : Type 0
OneLine =
    (text head other : List ℕ) (x y : Tree)
    → SpellsLine text head x → SpellsLine text other y → (head ≡ other) × (x ≡ y)
