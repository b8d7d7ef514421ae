use Rattle.std.proofs.Common.{◌≡◌, map, take}
use Rattle.quotient_writer.specs.Blocks.{block_lines, name_of, first_states}
use Rattle.quotient_writer.proofs.block_list.blocks_text.Given as goal

-- the lines of the states so far
abbrev pub invariant-loop-i : goal.invariant-loop-i
invariant-loop-i l = l.text.items ≡ block_lines l.names
    (map (name_of l.names) (take l.i (first_states l.labels)))
