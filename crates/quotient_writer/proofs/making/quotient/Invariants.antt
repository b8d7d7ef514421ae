use Rattle.typing.specs.NormalForms.{IsRelabelledAt}
use Rattle.quotient_writer.proofs.Picks.{IsPicking}
use Rattle.quotient_writer.proofs.making.quotient.Given as goal

abbrev pub invariant-loop-i : goal.invariant-loop-i
invariant-loop-i l = IsPicking (IsRelabelledAt l.c.term l.labels 0) l.labels l.c.names
    l.c.values.items l.i l.names l.values.items
