use Rattle.std.proofs.Common.{◌≡◌, map}
use Rattle.satisfaction.specs.Satisfaction.{holds_at}
use Rattle.truth_writer.proofs.TextLaws.{texts_between}
use Rattle.truth_writer.proofs.writing.put_lines.Given as goal

-- the states so far have the line of formula k
abbrev pub invariant-loop-i : goal.invariant-loop-i
invariant-loop-i l =
    l.texts
    ≡ texts_between (holds_at l.evaluator.content l.evaluator.dag) l.k l.i
    (map (λ w. w.now) l.words) l.numbers
