use Rattle.std.proofs.Common.{refl}
use Rattle.formula_builder.specs.Making.{book_of}
use Rattle.formula_builder.proofs.Parts.{parts_step, part_room}
use Rattle.formula_builder.proofs.notes.Notes.tell_split.Goals as goal

pub loop-part-preserved : goal.loop-part-preserved
loop-part-preserved c = record {
  told = parts_step (book_of c.args.self.now) (book_of c.loop-part.self)
      (book_of c.tell_part.new.self) c.index-node.result.now c.index-parent.result.now
      c.args.splitter c.args.coarse c.args.split.now.parts.now c.args.split.now.parts.now refl
      c.loop-part.part-index c.part-item.result c.requires.tellable.apart c.loop-part-test.true
      c.part-item.is c.loop-part.invariant.told c.in_ok-tell_part.ensures.told;
}

pub tell_part-requires-clause-room : goal.tell_part-requires-clause-room
tell_part-requires-clause-room c =
    part_room (book_of c.args.self.now) (book_of c.loop-part.self) c.index-node.result.now
    c.index-parent.result.now c.args.splitter c.args.coarse c.args.split.now.parts.now
    c.args.split.now.parts.now refl c.loop-part.part-index c.requires.room c.loop-part-test.true
    c.loop-part.invariant.told
