use Rattle.std.proofs.Common.{◌≡◌, ◌++◌, drop}
use Rattle.formula_text.specs.Texts.{text_of_answers, lines_text}
use Rattle.answer_writer.specs.Lines.{pair_lines}
use Rattle.answer_writer.proofs.explanation.explanation_text.Given as goal

-- what is written, with the lines to come, is the whole
abbrev pub invariant-loop-k : goal.invariant-loop-k
invariant-loop-k l =
    l.text.items ++ lines_text (pair_lines l.names (drop l.k l.pairs) (drop l.k l.verdicts))
    ≡ text_of_answers l.dag (pair_lines l.names l.pairs l.verdicts)
