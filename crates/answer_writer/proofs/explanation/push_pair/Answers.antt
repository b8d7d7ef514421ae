use Rattle.std.proofs.Common.{◌++◌, ap, sym, ◌∙◌}
use Rattle.formula_text.specs.Texts.{line_text}
use Rattle.answer_writer.specs.Lines.{name_of, pair_line}
use Rattle.answer_writer.proofs.Pushed.{equivalent_last}
use Rattle.answer_writer.proofs.explanation.push_pair.Goals as goal

pub returns-in_ok-push-in-None : goal.returns-in_ok-push-in-None
returns-in_ok-push-in-None c = record {
  line_is_last =
      equivalent_last (name_of c.args.names.now c.args.pair.0)
      (name_of c.args.names.now c.args.pair.1) c.args.text.now.items
      c.extend_from_slice.new.self.items c.push_states.new.text.items c.push.new.self.items
      c.in_ok-extend_from_slice-in-None.ensures.items
      c.in_ok-push_states-in-None.ensures.names_are_last c.in_ok-push-in-None.ensures.items
      ∙ ap (λ v. c.args.text.now.items ++ line_text (pair_line c.args.names.now c.args.pair v))
      (sym c.in-None.is);
}
