-- The order of values: by kind, then by number, then by trits, then by sums.
--     kind_of, number_of, trits_of, sums_of      what a value has of each
--     none, no_sums                              what a value has that has no sums
--     ratio_cmp, sums_cmp, three_cmp             the orders of fractions, sums and values
use Rattle.std.specs.Prelude.{ℕ, pos, List, [], ◌∷◌}
use Rattle.std.specs.Ordering.{nat_cmp, int_cmp, on, then_cmp}
use Rattle.std.specs.declared.cmp.Ordering.{Ordering}
use Rattle.std.specs.Cmp.Lexicographic.{slice_cmp}
use Rattle.weights.specs.declared.ratio.Ratio.{Ratio}
use Rattle.modalities.specs.declared.sums.Sums.{Sums}
use Rattle.modalities.specs.declared.three.Three.{Three}
use Rattle.modalities.specs.declared.three.Three.TheVariants.{Label, Trit, Trits, Tagged, Members, Triple}

-- the kinds in order
abbrev pub kind_of : Three → ℕ
kind_of (Label n) = 0
kind_of (Trit t) = 1
kind_of (Trits ts) = 2
kind_of (Tagged i t) = 3
kind_of (Members bits) = 4
kind_of (Triple sums) = 5

-- the number of a constant, a summand or a set, and 0 of the others
abbrev pub number_of : Three → ℕ
number_of (Label n) = n
number_of (Trit t) = 0
number_of (Trits ts) = 0
number_of (Tagged i t) = i
number_of (Members bits) = bits
number_of (Triple sums) = 0

-- the trits of a value, in order
abbrev pub trits_of : Three → List ℕ
trits_of (Label n) = []
trits_of (Trit t) = t ∷ []
trits_of (Trits ts) = ts
trits_of (Tagged i t) = t ∷ []
trits_of (Members bits) = []
trits_of (Triple sums) = []

-- the fraction of a value that has none
abbrev pub none : Ratio
none = record { p = pos 0; q = 1 }

-- the sums of a value that has none
abbrev pub no_sums : Sums
no_sums = record { at_zero = none; at_one = none; at_two = none }

-- the sums of a structure with weights, and of others none
abbrev pub sums_of : Three → Sums
sums_of (Label n) = no_sums
sums_of (Trit t) = no_sums
sums_of (Trits ts) = no_sums
sums_of (Tagged i t) = no_sums
sums_of (Members bits) = no_sums
sums_of (Triple sums) = sums

-- fractions by numerator, then by denominator
abbrev pub ratio_cmp : Ratio → Ratio → Ordering
ratio_cmp = then_cmp (on (λ r. r.p) int_cmp) (on (λ r. r.q) nat_cmp)

-- sums by those of 0, then of 1, then of 2
abbrev pub sums_cmp : Sums → Sums → Ordering
sums_cmp =
    then_cmp (on (λ s. s.at_zero) ratio_cmp)
    (then_cmp (on (λ s. s.at_one) ratio_cmp) (on (λ s. s.at_two) ratio_cmp))

-- values by kind, number, trits and sums
abbrev pub three_cmp : Three → Three → Ordering
three_cmp =
    then_cmp (on kind_of nat_cmp)
    (then_cmp (on number_of nat_cmp)
    (then_cmp (on trits_of (slice_cmp nat_cmp))
    (on sums_of sums_cmp)))
