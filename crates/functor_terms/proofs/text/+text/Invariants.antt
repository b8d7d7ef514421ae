use Rattle.std.proofs.Common.{◌≡◌, ◌+◌, ◌-◌, ◌*◌, ◌++◌, length, map, take}
use Rattle.std.specs.List.{join_by}
use Rattle.functor_terms.specs.Text.{shown_at, within}
use Rattle.functor_terms.proofs.text.+text.Given as goal

-- nodes go up, and at one node a function calls its helpers
abbrev pub decreases-push_within : goal.decreases-push_within
decreases-push_within l = 4 * (length l.term.now - l.p) + 3

abbrev pub decreases-push_over : goal.decreases-push_over
decreases-push_over l = 4 * (length l.term.now - l.p) + 2

abbrev pub decreases-push_behind : goal.decreases-push_behind
decreases-push_behind l = 4 * (length l.term.now - l.p) + 1

abbrev pub decreases-push_weights : goal.decreases-push_weights
decreases-push_weights l = 4 * (length l.term.now - l.p) + 1

abbrev pub decreases-push_child : goal.decreases-push_child
decreases-push_child l = 4 * (length l.term.now - l.p)

abbrev pub decreases-push_parts : goal.decreases-push_parts
decreases-push_parts l = 4 * (length l.term.now - l.p)

-- the children so far, joined
abbrev pub invariant-push_parts-loop-i : goal.invariant-push_parts-loop-i
invariant-push_parts-loop-i l =
    l.text.items ≡ l.initial.text.items
    ++ join_by (within l.level) l.separator (take l.i (map (shown_at l.term) l.children))
