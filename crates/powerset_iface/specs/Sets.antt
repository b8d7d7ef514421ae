-- The meanings of the interface of finite sets.
--     has, SameSet                                which numbers are in a list
--     some_outside, marked                        a place is not marked; how many are
--     members_of, value_of_set                    the set of the trits that occur
--     toward_of_set, agree_of_sets                the weight of a set, and when two sets agree
use Rattle.std.specs.Prelude.{◌≡◌, ◌+◌, ℕ, suc, ◌==◌, Bool, true, false, ◌||◌, not, cond, List, [], ◌∷◌}
use Rattle.modalities.specs.declared.three.Three.{Three}
use Rattle.modalities.specs.declared.three.Three.TheVariants.{Members}
use Rattle.iface.specs.Structures.{Classed}
use Rattle.powerset_iface.specs.declared.weight.SetShape.{SetShape}
use Rattle.powerset_iface.specs.declared.weight.SetWeight.{SetWeight}

-- a number is in a list
abbrev pub has : ℕ → List ℕ → Bool
has c [] = false
has c (x ∷ xs) = x == c || has c xs

-- the same numbers are in both
abbrev pub SameSet : List ℕ → List ℕ → Type 0
SameSet xs ys = (c : ℕ) → has c xs ≡ has c ys

-- some place is not marked
abbrev pub some_outside : List Bool → Bool
some_outside [] = false
some_outside (m ∷ ms) = not m || some_outside ms

-- the number of marked places
abbrev pub marked : List Bool → ℕ
marked [] = 0
marked (true ∷ ms) = suc (marked ms)
marked (false ∷ ms) = marked ms

-- the trits that occur, as bits: bit i is set where i does
abbrev pub members_of : List ℕ → ℕ
members_of trits = cond (has 0 trits) 1 0 + cond (has 1 trits) 2 0 + cond (has 2 trits) 4 0

-- the value of a set is the set of the trits that occur
abbrev pub value_of_set : List ℕ → Three
value_of_set trits = Members (members_of trits)

-- the weight is whether a place is not marked, and the number of marked places
abbrev pub toward_of_set : List Bool → SetWeight
toward_of_set marks = record { outside = some_outside marks; inside = marked marks }

-- two sets agree where their nodes are equal, and the same classes occur in both
abbrev pub agree_of_sets :
    {Label : Type 0} → Classed SetShape Label → Classed SetShape Label → Type 0
agree_of_sets x y = (x.shape.node ≡ y.shape.node) × SameSet x.classes y.classes
