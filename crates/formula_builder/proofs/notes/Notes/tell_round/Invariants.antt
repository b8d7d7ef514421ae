use Rattle.std.proofs.Common.{take}
use Rattle.formula_builder.specs.Making.{book_of, round_seen, AreSplitsTold}
use Rattle.formula_builder.proofs.notes.Notes.tell_round.Given as goal

abbrev pub invariant-loop-k : goal.invariant-loop-k
invariant-loop-k l = record {
  told : AreSplitsTold (book_of l.initial.self) (book_of l.self) (round_seen l.round)
      (take l.k l.round.splits);
}
