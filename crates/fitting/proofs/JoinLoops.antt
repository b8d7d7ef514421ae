-- What loops over the entries of a fitted weight list join.
use Rattle.std.proofs.Common.{ℕ, List, ◌++◌, map}
use Rattle.std.specs.List.{flat_map}
use Rattle.fitting.specs.declared.fitted.Fitted.{Fitted}
use Rattle.fitting.specs.declared.fitted.Weight.{Weight}
use Rattle.fitting.specs.Scaling.{denominators, denominator_of}

-- the denominators of each entry
abbrev pub with_denominators : List (Fitted × Weight) → List (List ℕ × Weight)
with_denominators es = map (λ e. (denominators e.0, e.1)) es

-- all denominators of the entries
abbrev pub entry_denominators : List (Fitted × Weight) → List ℕ
entry_denominators es = flat_map (λ e. e.0 ++ denominator_of e.1) (with_denominators es)

-- all denominators of some values
abbrev pub list_denominators : List Fitted → List ℕ
list_denominators fs = flat_map (λ qs. qs) (map denominators fs)
