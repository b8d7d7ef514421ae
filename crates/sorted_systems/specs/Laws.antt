-- What is said of greatest stable labellings, and holds.
--     GreatestLabellingsAgree      two of one system refine each other
use Rattle.std.specs.Prelude.{ℕ, List}
use Rattle.iface.specs.Structures.{Classed}
use Rattle.sorted_systems.specs.Systems.{Sorted, IsGreatestStable, Refines}

-- two greatest stable labellings of one system refine each other
abbrev pub GreatestLabellingsAgree :
    {Shape Label : Type 0} → (Classed Shape Label → Classed Shape Label → Type 0) → Type 0
GreatestLabellingsAgree {Shape} {Label} agree =
    (system : List (Sorted Shape Label)) (s b : List ℕ) →
    IsGreatestStable agree system s → IsGreatestStable agree system b →
    Refines system s b × Refines system b s
