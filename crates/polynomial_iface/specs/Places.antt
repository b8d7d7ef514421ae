-- The trits that marks and moved places make.
--     mark_trit                     1 where marked, else 0
--     head_is, after_place          the next moved place, and those after a place
--     trits_from                    the trits of the places from a first one on
use Rattle.std.specs.Prelude.{◌+◌, ℕ, ◌==◌, Bool, false, cond, drop, List, [], ◌∷◌}

-- 1 where marked, else 0
abbrev pub mark_trit : Bool → ℕ
mark_trit mark = cond mark 1 0

-- the first of the moved places is this one
abbrev pub head_is : ℕ → List ℕ → Bool
head_is at [] = false
head_is at (p ∷ ps) = p == at

-- the moved places after this one
abbrev pub after_place : ℕ → List ℕ → List ℕ
after_place at ps = drop (cond (head_is at ps) 1 0) ps

-- 2 at a moved place, else 1 where marked and 0 where not; the places count from the second number
abbrev pub trits_from : List Bool → ℕ → List ℕ → List ℕ
trits_from [] at moved = []
trits_from (m ∷ ms) at moved =
    cond (head_is at moved) 2 (mark_trit m) ∷ trits_from ms (at + 1) (after_place at moved)
