use Rattle.std.proofs.Common.{◌≡◌, ◌≤◌, drop}
use Rattle.weights.specs.Numerals.{number_after, number_of}
use Rattle.formula_text.proofs.numbers.number_below.Given as goal

-- the number of the digits so far, which is not over the bound
abbrev pub invariant-loop-digit : goal.invariant-loop-digit
invariant-loop-digit l =
    (number_after l.n (drop l.digit-index l.part) ≡ number_of l.part) × (l.n ≤ l.bound)
