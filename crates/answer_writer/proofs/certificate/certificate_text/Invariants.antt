use Rattle.std.proofs.Common.{◌≡◌, ◌++◌, drop, map}
use Rattle.formula_text.specs.Texts.{text_of_answers, lines_text}
use Rattle.answer_writer.specs.Lines.{block_lines}
use Rattle.answer_writer.proofs.certificate.certificate_text.Given as goal

-- what is written, with the lines to come, is the whole
abbrev pub invariant-loop-k : goal.invariant-loop-k
invariant-loop-k l =
    l.text.items
    ++ lines_text (block_lines l.names (drop l.k l.formulas)
    (map (λ b. b.items) (drop l.k l.blocks)))
    ≡ text_of_answers l.dag (block_lines l.names l.formulas (map (λ b. b.items) l.blocks))
