-- Values by their parts.
--     triple        the value with these three sums
use Rattle.weights.specs.declared.ratio.Ratio.{Ratio}
use Rattle.modalities.specs.declared.three.Three.{Three}
use Rattle.modalities.specs.declared.three.Three.TheVariants.{Triple}

-- the value with these sums of the weights of 0, 1 and 2
abbrev pub triple : Ratio → Ratio → Ratio → Three
triple zeros ones twos = Triple (record { at_zero = zeros; at_one = ones; at_two = twos })
