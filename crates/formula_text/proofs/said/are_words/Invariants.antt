use Rattle.std.proofs.Common.{◌≡◌, drop, map}
use Rattle.std.specs.List.{list_all}
use Rattle.formula_text.specs.Answers.{is_word}
use Rattle.formula_text.proofs.said.are_words.Given as goal

-- the parts so far are words
abbrev pub invariant-loop-part : goal.invariant-loop-part
invariant-loop-part l =
    list_all is_word (map (λ part. part.now) l.parts)
    ≡ list_all is_word (map (λ part. part.now) (drop l.part-index l.parts))
