-- The values of a coalgebra are in bounds.
use Rattle.std.proofs.Common.{◌≡◌, ◌^◌, true, List, [], ◌∷◌, refl}
use Rattle.std.specs.List.{list_all}
use Rattle.std.proofs.lemmas.Bool.{and_parts, and_from}
use Rattle.typing.specs.declared.value.Value.{Value}
use Rattle.typing.specs.Bounds.{is_within, is_bounded}
use Rattle.typing.proofs.Within.{each_bounded}

-- weights within 2^106 are within 2^126
pub all-bounded : (vs : List Value) → list_all (is_within (2 ^ 106)) vs ≡ true
    → list_all is_bounded vs ≡ true
all-bounded [] h = refl
all-bounded (v ∷ vs) h =
    and_from (is_bounded v) (list_all is_bounded vs) (each_bounded (v ∷ vs) h 0 v refl)
    (all-bounded vs (and_parts (is_within (2 ^ 106) v) (list_all (is_within (2 ^ 106)) vs) h).1)
