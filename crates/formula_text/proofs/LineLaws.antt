-- Which lists of parts are no body.
use Rattle.std.proofs.Common.{◌≡◌, ℕ, List, [], ◌∷◌, length, map, None, refl, arith}
use Rattle.std.specs.Prelude.{◌≢◌}
use Rattle.formula_text.specs.Answers.{body_of}

-- a body has one part, two, three or five
pub body_of-other :
    {X : Type 0} (k : ℕ) (f : X → List ℕ) (xs : List X) →
    length xs ≢ 1 → length xs ≢ 2 → length xs ≢ 3 → length xs ≢ 5 → None ≡ body_of k (map f xs)
body_of-other k f [] a b c d = refl
body_of-other k f (x ∷ []) a b c d = absurd (omega arith)
body_of-other k f (x ∷ y ∷ []) a b c d = absurd (omega arith)
body_of-other k f (x ∷ y ∷ z ∷ []) a b c d = absurd (omega arith)
body_of-other k f (x ∷ y ∷ z ∷ u ∷ []) a b c d = refl
body_of-other k f (x ∷ y ∷ z ∷ u ∷ v ∷ []) a b c d = absurd (omega arith)
body_of-other k f (x ∷ y ∷ z ∷ u ∷ v ∷ w ∷ xs) a b c d = refl
