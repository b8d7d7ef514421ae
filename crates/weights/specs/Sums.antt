-- Sums of weights. Each weight has a class, and a test picks the classes whose weights are added.
use Rattle.std.specs.Prelude.{ℕ, ◌+◌, ℤ, unsigned_abs, Bool, if◌then◌else◌, List, [], ◌∷◌}

-- the sum of the weights whose class passes the test
abbrev pub sum_if : {E : Type 0} → E → (E → E → E) → (ℕ → Bool) → List E → List ℕ → E
sum_if zero add test [] classes = zero
sum_if zero add test (x ∷ xs) [] = zero
sum_if zero add test (x ∷ xs) (c ∷ cs) =
    if test c then add x (sum_if zero add test xs cs) else sum_if zero add test xs cs

-- the sum of the absolute values of the weights' numbers
abbrev pub size_of : {E : Type 0} → (E → ℤ) → List E → ℕ
size_of number [] = 0
size_of number (x ∷ xs) = unsigned_abs (number x) + size_of number xs
