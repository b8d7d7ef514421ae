use Rattle.std.proofs.Common.{take}
use Rattle.formula_builder.specs.Making.{book_of, ArePartsTold}
use Rattle.formula_builder.proofs.notes.Notes.tell_split.Given as goal

abbrev pub invariant-loop-part : goal.invariant-loop-part
invariant-loop-part l = record {
  told : ArePartsTold (book_of l.initial.self) (book_of l.self) l.node l.parent l.splitter l.coarse
      (take l.part-index l.split.parts.now);
}
