-- Reading trees from tokens, from left to right: what the functions that cut trees compute. Only
-- private clauses cite it. That it agrees with what a text spells is proved.
use Rattle.std.specs.Prelude.{◌≡◌, ◌++◌, ◌∷◌, ℕ, zero, suc, List, [], length, Option, Some, None}
use Rattle.std.specs.Prelude.{Result, Ok, Err, option_map, option_and_then, if◌then◌else◌}
use Rattle.file_cut.specs.Bytes.{are_digits}
use Rattle.file_cut.specs.Tokens.{marks}
use Rattle.file_cut.specs.Trees.{entry}
use Rattle.file_cut.specs.declared.fault.CutFault.{CutFault}
use Rattle.file_cut.specs.declared.fault.CutFault.TheVariants.{Grammar, NoMemory}
use Rattle.file_cut.specs.declared.mark.Ahead.{Ahead}
use Rattle.file_cut.specs.declared.mark.Mark.{Mark}
use Rattle.file_cut.specs.declared.mark.Mark.TheVariants.{Word, Inj, Open, Close}
use Rattle.file_cut.specs.declared.mark.Mark.TheVariants.{OpenBrace, CloseBrace, Comma, Colon}
use Rattle.file_cut.specs.declared.tree.Tree.{Tree}
use Rattle.file_cut.specs.declared.tree.Tree.TheVariants as tree
use Rattle.file_cut.specs.declared.tree.Entry.{Entry}

-- what stands at the front of the tokens, and the tokens behind it
abbrev pub Reads : Type 0 → Type 0
Reads A = List Mark → Option (A × List Mark)

-- f of what was read
abbrev pub made_of : {A B : Type 0} → (A → B) → Option (A × List Mark) → Option (B × List Mark)
made_of f read = option_map (λ p. (f p.0, p.1)) read

-- what a token behind an item of a list says
pub data Turn : Type 0 where
  another : Turn
  end : Turn
  wrong : Turn

-- in parentheses a comma goes on, and `)` ends
abbrev pub in_parens : Mark → Turn
in_parens Comma = another
in_parens Close = end
in_parens _ = wrong

-- in braces a comma goes on, and `}` ends
abbrev pub in_braces : Mark → Turn
in_braces Comma = another
in_braces CloseBrace = end
in_braces _ = wrong

-- an item before those that were read
abbrev pub with_first :
    {A : Type 0} → A → Option (List A × List Mark) → Option (List A × List Mark)
with_first x read = made_of (λ xs. x ∷ xs) read

-- items before those that were read
abbrev pub behind :
    {A : Type 0} → List A → Option (List A × List Mark) → Option (List A × List Mark)
behind xs read = made_of (λ ys. xs ++ ys) read

-- an item, and what the turn behind it says of the others
abbrev pub turned :
    {A : Type 0} → A → Reads (List A) → List Mark → Turn → Option (List A × List Mark)
turned x others ts another = with_first x (others ts)
turned x others ts end = Some (x ∷ [], ts)
turned x others ts wrong = None

-- an item, where the first token behind it says the turn
abbrev pub after_item : {A : Type 0} → (Mark → Turn) → A → Reads (List A) → Reads (List A)
after_item turn x others [] = None
after_item turn x others (t ∷ ts) = turned x others ts (turn t)

-- items with commas between them, at most n, and the bracket behind them
unfoldable pub items_within : {A : Type 0} → (Mark → Turn) → Reads A → ℕ → Reads (List A)
items_within turn item zero ts = None
items_within turn item (suc n) ts =
    option_and_then (λ p. after_item turn p.0 (items_within turn item n) p.1) (item ts)

-- items with commas between them, and the bracket behind them: there are no more than tokens
unfoldable pub items_at : {A : Type 0} → (Mark → Turn) → Reads A → Reads (List A)
items_at turn item ts = items_within turn item (length ts) ts

-- a word
abbrev pub word_at : Reads Tree
word_at (Word w ∷ ts) = Some (tree.Word w, ts)
word_at _ = None

-- one tree in parentheses is that tree, and more are a tuple
abbrev pub grouped : List Tree → Tree
grouped (t ∷ []) = t
grouped ts = tree.Tuple ts

module _ (inside : Reads Tree) where
  -- what stands behind `(`
  abbrev pub tuple_at : Reads Tree
  tuple_at ts = made_of grouped (items_at in_parens inside ts)

  -- what stands behind `inj`
  abbrev pub inj_at : Reads Tree
  inj_at (Word index ∷ ts) =
      if are_digits index then made_of (tree.Inj index) (inside ts) else None
  inj_at _ = None

  -- the entry of a tree, with another tree if a colon follows
  abbrev pub behind_first : Tree → Reads Entry
  behind_first first (Colon ∷ ts) = made_of (λ u. entry first (Some u)) (inside ts)
  behind_first first ts = Some (entry first None, ts)

  -- an entry of braces
  abbrev pub entry_at : Reads Entry
  entry_at ts = option_and_then (λ p. behind_first p.0 p.1) (inside ts)

  -- what stands behind `{`
  abbrev pub braces_at : Reads Tree
  braces_at (CloseBrace ∷ ts) = Some (tree.Braces [], ts)
  braces_at ts = made_of tree.Braces (items_at in_braces entry_at ts)

  -- a tree, where one more bracket or `inj` may open
  abbrev pub opened_at : Reads Tree
  opened_at (Open ∷ ts) = tuple_at ts
  opened_at (Inj ∷ ts) = inj_at ts
  opened_at (OpenBrace ∷ ts) = braces_at ts
  opened_at ts = word_at ts

-- a tree with at most n brackets and `inj` open at any place
unfoldable pub tree_at : ℕ → Reads Tree
tree_at zero = word_at
tree_at (suc n) = opened_at (tree_at n)

-- the mark that is cut already, before those of the bytes behind it
abbrev pub left_behind : Option Mark → List ℕ → List Mark
left_behind None rest = []
left_behind (Some mark) rest = mark ∷ marks rest

-- what the tokens are that are left of a text
abbrev pub left_of : Ahead → List Mark
left_of ahead = left_behind ahead.mark ahead.rest.now

-- a function answered what reading gives, with the tokens behind it, unless memory ran out
abbrev pub Gives : {A : Type 0} → Result (A × Ahead) CutFault → Option (A × List Mark) → Type 0
Gives (Ok found) read = read ≡ Some (found.0, left_of found.1)
Gives (Err Grammar) read = read ≡ None
Gives (Err NoMemory) read = Unit {0}
