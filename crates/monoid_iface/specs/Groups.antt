-- The meanings of the interface of weights in a group.
--     few_weights                       the absolute weights of one structure are in bounds
--     total, sum_marked                 the sum of all labels, and of those at marked places
--     value_of_sums, value_of_group     the value with three sums; those of the labels with 0, 1, 2
--     toward_of_group, agree_of_groups  the sums outside and inside; when two structures agree
use Rattle.std.specs.Prelude.{◌≡◌, ◌≤◌, ◌^◌, ℕ, ℤ, ◌==◌, Bool, not, cond, List, [], ◌∷◌, map}
use Rattle.modalities.specs.declared.three.Three.{Three}
use Rattle.modalities.specs.Values.{triple}
use Rattle.iface.specs.Structures.{Classed}
use Rattle.weights.specs.Sums.{sum_if, size_of}
use Rattle.weights.specs.Fractions.{lowest_terms}
use Rattle.monoid_iface.specs.declared.weight.GroupShape.{GroupShape}
use Rattle.monoid_iface.specs.declared.weight.GroupWeight.{GroupWeight}

-- the absolute weights sum to at most 2^106
abbrev pub few_weights : {E : Type 0} → (E → ℤ) → List E → Type 0
few_weights number labels = size_of number labels ≤ 2 ^ 106

-- the sum of all labels
abbrev pub total : {E : Type 0} → E → (E → E → E) → List E → E
total none add [] = none
total none add (x ∷ xs) = add x (total none add xs)

-- the sum of the labels at marked places
abbrev pub sum_marked : {E : Type 0} → E → (E → E → E) → List E → List Bool → E
sum_marked none add [] ms = none
sum_marked none add (x ∷ xs) [] = none
sum_marked none add (x ∷ xs) (m ∷ ms) =
    cond m (add x (sum_marked none add xs ms)) (sum_marked none add xs ms)

-- the sum of the labels at unmarked places, and that at marked ones
abbrev pub toward_of_group :
    {E : Type 0} → E → (E → E → E) → List E → List Bool → GroupWeight E
toward_of_group none add labels marks = record {
  outside = sum_marked none add labels (map not marks);
  inside = sum_marked none add labels marks;
}

module _ {E : Type 0} (number : E → ℤ) (none : E) (add : E → E → E) (denominator : ℕ) where
  -- the value with these sums, as numbers over the denominator in lowest terms
  abbrev pub value_of_sums : E → E → E → Three
  value_of_sums zeros ones twos = triple
      (lowest_terms (number zeros) denominator)
      (lowest_terms (number ones) denominator)
      (lowest_terms (number twos) denominator)

  -- the sums of the labels with 0, 1 and 2
  abbrev pub value_of_group : List E → List ℕ → Three
  value_of_group labels trits = value_of_sums
      (sum_if none add (λ t. t == 0) labels trits)
      (sum_if none add (λ t. t == 1) labels trits)
      (sum_if none add (λ t. t == 2) labels trits)

-- the nodes are equal, and each class has the same sum in both
abbrev pub agree_of_groups :
    {E : Type 0} → E → (E → E → E) → Classed GroupShape E → Classed GroupShape E → Type 0
agree_of_groups none add x y =
    (x.shape.node ≡ y.shape.node) ×
    ((k : ℕ) →
    sum_if none add (λ c. c == k) x.labels x.classes
    ≡ sum_if none add (λ c. c == k) y.labels y.classes)
