use Rattle.std.proofs.Common.{◌≡◌, ◌+◌, ◌-◌, ◌*◌, ◌++◌, length, map, take}
use Rattle.structure_writer.specs.Text.{write_at, child_texts, listed, part_texts, keyed_texts, entry_texts}
use Rattle.structure_writer.proofs.values.+values.Given as goal

-- nodes go up, and at one node a function calls its helpers
abbrev pub decreases-push_value : goal.decreases-push_value
decreases-push_value l = 3 * (length l.term.now - l.p) + 2

abbrev pub decreases-push_tuple : goal.decreases-push_tuple
decreases-push_tuple l = 3 * (length l.term.now - l.p) + 1

abbrev pub decreases-push_inj : goal.decreases-push_inj
decreases-push_inj l = 3 * (length l.term.now - l.p) + 1

abbrev pub decreases-push_power : goal.decreases-push_power
decreases-push_power l = 3 * (length l.term.now - l.p) + 1

abbrev pub decreases-push_set : goal.decreases-push_set
decreases-push_set l = 3 * (length l.term.now - l.p) + 1

abbrev pub decreases-push_weights : goal.decreases-push_weights
decreases-push_weights l = 3 * (length l.term.now - l.p) + 1

abbrev pub decreases-push_child : goal.decreases-push_child
decreases-push_child l = 3 * (length l.term.now - l.p)

-- the texts so far, with commas between them
abbrev pub invariant-push_tuple-loop-k : goal.invariant-push_tuple-loop-k
invariant-push_tuple-loop-k l =
    l.text.items ≡ l.initial.text.items
    ++ listed (take l.k (part_texts (child_texts l.l l.names l.term l.p) 0 l.parts))

abbrev pub invariant-push_power-loop-k : goal.invariant-push_power-loop-k
invariant-push_power-loop-k l =
    l.text.items ≡ l.initial.text.items
    ++ listed (take l.k
    (keyed_texts l.labels (write_at (child_texts l.l l.names l.term l.p) 0) 0 l.parts))

abbrev pub invariant-push_set-loop-k : goal.invariant-push_set-loop-k
invariant-push_set-loop-k l =
    l.text.items ≡ l.initial.text.items
    ++ listed (take l.k (map (write_at (child_texts l.l l.names l.term l.p) 0) l.members))

abbrev pub invariant-push_weights-loop-k : goal.invariant-push_weights-loop-k
invariant-push_weights-loop-k l =
    l.text.items ≡ l.initial.text.items
    ++ listed (take l.k (entry_texts l.l l.node
    (write_at (child_texts l.l l.names l.term l.p) 0) l.entries))
