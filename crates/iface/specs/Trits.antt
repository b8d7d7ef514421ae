-- Lists of trits beside the places of a structure. A trit is 2 at a place that leads into the
-- splitter, 1 at one that leads into the rest of the coarse block, and 0 elsewhere.
--     AreTrits, each                           lists of trits
--     picked                                   the labels at the places with trit 2
--     in_coarse, in_rest, in_splitter          a mark for each place
--     without_splitter                         the trits where the splitter counts as the rest
use Rattle.std.specs.Prelude.{◌≤◌, ℕ, ◌==◌, nat_le, Bool, cond, List, [], ◌∷◌, map, min}

-- each is 0, 1 or 2
abbrev pub AreTrits : List ℕ → Type 0
AreTrits [] = Unit {0}
AreTrits (t ∷ ts) = (t ≤ 2) × AreTrits ts

-- the same trit at each place
abbrev pub each : {X : Type 0} → ℕ → List X → List ℕ
each t [] = []
each t (x ∷ xs) = t ∷ each t xs

-- the labels at the places with trit 2, in order
abbrev pub picked : {X : Type 0} → List X → List ℕ → List X
picked [] ts = []
picked (x ∷ xs) [] = []
picked (x ∷ xs) (t ∷ ts) = cond (t == 2) (x ∷ picked xs ts) (picked xs ts)

-- the places in the coarse block: those with trit 1 or 2
abbrev pub in_coarse : List ℕ → List Bool
in_coarse ts = map (λ t. nat_le 1 t) ts

-- the places in the rest of the coarse block: those with trit 1
abbrev pub in_rest : List ℕ → List Bool
in_rest ts = map (λ t. t == 1) ts

-- the places in the splitter: those with trit 2
abbrev pub in_splitter : List ℕ → List Bool
in_splitter ts = map (λ t. t == 2) ts

-- 1 in the coarse block, and 0 elsewhere
abbrev pub without_splitter : List ℕ → List ℕ
without_splitter ts = map (λ t. min 1 t) ts
