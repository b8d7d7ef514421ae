-- What the reading of a numeral computes on the way: numbers within the bound, and what is read of
-- two of them.
use Rattle.std.specs.Prelude.{ℕ, ◌^◌, nat_lt, nat_le, ◌&&◌, Bool, if◌then◌else◌, Option, Some, None, Result, Ok, Err}
use Rattle.weights.specs.Numerals.{signed, reduced}
use Rattle.weights.specs.declared.numeral.Numeral.{Numeral}
use Rattle.weights.specs.declared.fault.NumeralFault.{NumeralFault}
use Rattle.weights.specs.declared.fault.NumeralFault.TheVariants.{OverBound}

-- the number, if it is within the bound
abbrev pub bounded : ℕ → Option ℕ
bounded n = if nat_le n (2 ^ 40) then Some n else None

-- what is read of a numerator and a denominator, either of which may be over the bound
abbrev pub fraction_reading : Bool → Option ℕ → Option ℕ → Result Numeral NumeralFault
fraction_reading negative (Some n) (Some d) = Ok (reduced (signed negative n) d)
fraction_reading negative (Some n) None = Err (OverBound (negative && nat_lt 0 n))
fraction_reading negative None d = Err (OverBound negative)
