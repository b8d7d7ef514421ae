use Rattle.std.proofs.Common.{◌≡◌, ◌++◌, drop}
use Rattle.formula_text.specs.Values.{later_trits}
use Rattle.formula_text.proofs.writing.push_later_trits.Given as goal

-- what is written, with the trits to come, is the whole
abbrev pub invariant-loop-trit : goal.invariant-loop-trit
invariant-loop-trit l =
    l.text.items ++ later_trits (drop l.trit-index l.trits)
    ≡ l.initial.text.items ++ later_trits l.trits
