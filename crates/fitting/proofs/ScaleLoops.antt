-- What loops over the entries of a fitted weight list say.
use Rattle.std.proofs.Common.{ℕ, List, map, Bool}
use Rattle.fitting.specs.declared.fitted.Fitted.{Fitted}
use Rattle.fitting.specs.declared.fitted.Weight.{Weight}
use Rattle.fitting.specs.Scaling.{over_bound, lists_within}

-- whether each entry is over a bound
abbrev pub overs : List (Fitted × Weight) → List (Bool × Weight)
overs es = map (λ e. (over_bound e.0, e.1)) es

-- whether each has short lists
abbrev pub short_lists : ℕ → List (Fitted × Weight) → List (Bool × Weight)
short_lists n es = map (λ e. (lists_within n e.0, e.1)) es
