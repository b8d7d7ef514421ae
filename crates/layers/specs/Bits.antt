-- Lists of marks as the bits of a number.
--     bits_of, powers      the number with these marks as bits, and that with bits at these places
--     trits_of             2 where the second number has a bit, else 1 where the first has one
use Rattle.std.specs.Prelude.{ℕ, zero, suc, ◌+◌, ◌*◌, ◌/◌, ◌%◌, ◌^◌, ◌==◌, Bool, cond, List, [], ◌∷◌}

-- the number with a mark at each bit, the first mark at the lowest
abbrev pub bits_of : List Bool → ℕ
bits_of [] = 0
bits_of (m ∷ ms) = cond m 1 0 + 2 * bits_of ms

-- the number with a bit at each of these places
abbrev pub powers : List ℕ → ℕ
powers [] = 0
powers (p ∷ ps) = 2 ^ p + powers ps

-- so many trits: 2 where the second number has a bit, else 1 where the first has one
abbrev pub trits_of : ℕ → ℕ → ℕ → List ℕ
trits_of zero ones twos = []
trits_of (suc count) ones twos =
    cond (twos % 2 == 1) 2 (cond (ones % 2 == 1) 1 0) ∷ trits_of count (ones / 2) (twos / 2)
