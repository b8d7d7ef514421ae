-- What the steps of the plain program answer. No promise of a public call speaks of these words.
--
-- child_test t p k     == equality at the k-th child of node p
-- have_equal t p us vs == each of us has an equal element among vs
-- agree_at t p us vs   == entries have the same total in us and in vs
-- are_like t n u ls vs == each of vs that has the label n is equal to u
-- all_alike            == the same for each value and its label
-- first_place t vs u   == the place of the first of vs that is equal to u
use Rattle.std.specs.Prelude.{ℕ, ℤ, Bool, true, ◌&&◌, ◌==◌, if◌then◌else◌, List, [], ◌∷◌, map}
use Rattle.std.specs.List.{list_all, position_or_len}
use Rattle.std.specs.Ordering.{int_eq}
use Rattle.functor_terms.specs.Terms.{Nodes, children_at}
use Rattle.typing.specs.declared.value.Value.{Value}
use Rattle.typing.specs.Equality.{Test, test_at, are_equal, has, total, the_sum}

-- equality at the k-th child of node p
abbrev pub child_test : Nodes → ℕ → ℕ → Test
child_test t p k = test_at (map (are_equal t) (children_at t p)) k

-- each of us has an equal element among vs, at the first child
abbrev pub have_equal : Nodes → ℕ → List Value → List Value → Bool
have_equal t p us vs = list_all (has (child_test t p 0) vs) us

-- the sum of the weights of the entries that are equal to a at the first child
abbrev pub total_at : Nodes → ℕ → List (Value × ℤ) → Value → ℤ
total_at t p es a = total the_sum (child_test t p 0) es a

-- each of these elements has the same total in us and in vs
abbrev pub agree_at : Nodes → ℕ → List (Value × ℤ) → List (Value × ℤ) → List (Value × ℤ) → Bool
agree_at t p us vs es = list_all (λ e. int_eq (total_at t p us e.0) (total_at t p vs e.0)) es

-- each of vs that has the label n is equal to u
abbrev pub are_like : Nodes → ℕ → Value → List ℕ → List Value → Bool
are_like t n u [] vs = true
are_like t n u (l ∷ ls) [] = true
are_like t n u (l ∷ ls) (v ∷ vs) =
    (if n == l then are_equal t 0 u v else true) && are_like t n u ls vs

-- each of us is equal to those of vs that have its label
abbrev pub all_alike : Nodes → List ℕ → List Value → List ℕ → List Value → Bool
all_alike t [] us bs vs = true
all_alike t (l ∷ ls) [] bs vs = true
all_alike t (l ∷ ls) (u ∷ us) bs vs = are_like t l u bs vs && all_alike t ls us bs vs

-- the place of the first of vs that is equal to u
abbrev pub first_place : Nodes → List Value → Value → ℕ
first_place t vs u = position_or_len (λ v. are_equal t 0 v u) vs
