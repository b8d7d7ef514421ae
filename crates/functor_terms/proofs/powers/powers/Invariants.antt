use Rattle.std.proofs.Common.{◌≡◌}
use Rattle.functor_terms.specs.Terms.{depth_limit}
use Rattle.functor_terms.specs.Reading.{powers_from}
use Rattle.functor_terms.proofs.powers.powers.Given as goal

-- the exponents that are left give the same
abbrev pub invariant-powers : goal.invariant-powers
invariant-powers l = powers_from l.room l.power l.left
    ≡ powers_from depth_limit l.fn.base l.fn.ahead

abbrev pub decreases-powers : goal.decreases-powers
decreases-powers l = l.room
