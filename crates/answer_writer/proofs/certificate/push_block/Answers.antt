use Rattle.std.proofs.Common.{map}
use Rattle.answer_writer.specs.Lines.{name_of}
use Rattle.answer_writer.proofs.Pushed.{block_last}
use Rattle.answer_writer.proofs.certificate.push_block.Goals as goal

pub returns : goal.returns
returns c = record {
  line_is_last =
      block_last c.args.formula (map (name_of c.args.names.now) c.args.states.now)
      c.args.text.now.items c.extend_from_slice.new.self.items c.push_formula.new.text.items
      c.push_names.new.text.items c.push.new.self.items
      c.in_ok-extend_from_slice.ensures.items c.in_ok-push_formula.ensures.name_is_last
      c.in_ok-push_names.ensures.names_are_last c.in_ok-push.ensures.items;
}
