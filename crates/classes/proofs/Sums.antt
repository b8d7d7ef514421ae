-- Sums over lists that are mapped, and sums of ones.
use Rattle.std.proofs.Common.{◌≡◌, ℕ, List, [], ◌∷◌, length, map, sum_by, refl, arith}
use Rattle.std.proofs.lemmas.List.Sums.{sum_by-cons}
use Rattle.structures.specs.Structures.{Occurrence}

-- a sum over images is a sum of the function behind
pub sum_by-map :
    {X Y : Type 0} (g : Y → ℕ) (f : X → Y) (xs : List X) →
    sum_by g (map f xs) ≡ sum_by (λ x. g (f x)) xs
sum_by-map g f [] = refl
sum_by-map g f (x ∷ xs) =
    let rest = sum_by-map g f xs in
    let one = sum_by-cons g (f x) (map f xs) in
    let two = sum_by-cons (λ y. g (f y)) x xs in
    omega (arith, rest, one, two)

-- ones sum to the length
pub sum_by-one : {X : Type 0} (xs : List X) → sum_by (λ (x : X). 1) xs ≡ length xs
sum_by-one [] = refl
sum_by-one {X} (x ∷ xs) =
    let rest = sum_by-one xs in
    let one = sum_by-cons (λ (y : X). 1) x xs in
    omega (arith, rest, one)

-- one for each target of each occurrence is the number of edges
pub ones_of_targets :
    (os : List Occurrence) →
    sum_by (λ (o : Occurrence). sum_by (λ (y : ℕ). 1) o.targets) os
    ≡ sum_by (λ (o : Occurrence). length o.targets) os
ones_of_targets [] = refl
ones_of_targets (o ∷ os) =
    let rest = ones_of_targets os in
    let here = sum_by-one o.targets in
    let one = sum_by-cons (λ (o : Occurrence). sum_by (λ (y : ℕ). 1) o.targets) o os in
    let two = sum_by-cons (λ (o : Occurrence). length o.targets) o os in
    omega (arith, rest, here, one, two)
