-- Lists side by side.
--
-- Zip3 R xs ys zs  == the lists are of one length, and R holds at each place
use Rattle.std.specs.Prelude.{List, [], ◌∷◌}

-- the lists are of one length, and R holds at each place
abbrev pub Zip3 : {A B C : Type 0} → (A → B → C → Type 0) → List A → List B → List C → Type 0
Zip3 R [] [] [] = Unit {0}
Zip3 R (x ∷ xs) (y ∷ ys) (z ∷ zs) = R x y z × Zip3 R xs ys zs
Zip3 R _ _ _ = ⊥
