use Rattle.std.proofs.Common.{◌≡◌, ◌++◌, take}
use Rattle.std.specs.Prelude.{codes}
use Rattle.functor_terms.specs.Text.{text_of_term}
use Rattle.structure_writer.specs.Text.{text_at, state_lines}
use Rattle.structure_writer.proofs.writing.write_file.Given as goal

-- the lines of the states so far
abbrev pub invariant-loop-i : goal.invariant-loop-i
invariant-loop-i l =
    l.text.items ≡ (text_of_term l.c.term ++ codes "\n")
    ++ state_lines (text_at l.c.denominator l.c.names l.c.term 0) (take l.i l.c.names)
    (take l.i l.c.values.items)
