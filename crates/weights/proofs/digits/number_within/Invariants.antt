use Rattle.std.proofs.Common.{◌≡◌, ◌≤◌, ◌^◌, drop, true}
use Rattle.std.specs.List.{list_all}
use Rattle.std.specs.Char.{is_ascii_digit}
use Rattle.weights.specs.Numerals.{number_after}
use Rattle.weights.proofs.digits.number_within.Given as goal

-- the number so far is within the bound, and what is left of the digits completes the whole number
abbrev pub invariant-loop-digit : goal.invariant-loop-digit
invariant-loop-digit l = record {
  small : l.number ≤ 2 ^ 40;
  digits : list_all is_ascii_digit (drop l.digit-index l.digits) ≡ true;
  completes : number_after l.number (drop l.digit-index l.digits) ≡ number_after l.fn.start
      l.digits;
}
