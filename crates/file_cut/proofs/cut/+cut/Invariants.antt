use Rattle.std.proofs.Common.{◌≡◌, ◌+◌, ◌*◌, length}
use Rattle.file_cut.specs.Reading.{entry_at, tree_at, items_at, in_parens, in_braces, behind, left_of}
use Rattle.file_cut.proofs.cut.+cut.Given as goal

abbrev pub decreases-tree : goal.decreases-tree
decreases-tree l = 5 * l.room

abbrev pub decreases-entry : goal.decreases-entry
decreases-entry l = 5 * l.room + 1

abbrev pub decreases-parts : goal.decreases-parts
decreases-parts l = 5 * l.room + 2

abbrev pub decreases-entries : goal.decreases-entries
decreases-entries l = 5 * l.room + 2

abbrev pub decreases-tuple : goal.decreases-tuple
decreases-tuple l = 5 * l.room + 3

abbrev pub decreases-inj : goal.decreases-inj
decreases-inj l = 5 * l.room + 3

abbrev pub decreases-braces : goal.decreases-braces
decreases-braces l = 5 * l.room + 3

abbrev pub decreases-opened : goal.decreases-opened
decreases-opened l = 5 * l.room + 4

abbrev pub invariant-parts-parts : goal.invariant-parts-parts
invariant-parts-parts l = behind l.parts (items_at in_parens (tree_at l.room) (left_of l.left))
    ≡ items_at in_parens (tree_at l.room) (left_of l.fn.ahead)

abbrev pub decreases-parts-parts : goal.decreases-parts-parts
decreases-parts-parts l = length (left_of l.left)

abbrev pub invariant-entries-entries : goal.invariant-entries-entries
invariant-entries-entries l =
    behind l.entries (items_at in_braces (entry_at (tree_at l.room)) (left_of l.others))
    ≡ items_at in_braces (entry_at (tree_at l.room)) (left_of l.fn.ahead)

abbrev pub decreases-entries-entries : goal.decreases-entries-entries
decreases-entries-entries l = length (left_of l.others)
