-- When a value has the form that a term gives.
--
-- fits t p v   == v has the form of node p, and its parts fit the children of p: a state number; a
--                 label below the number of labels; one part for each place; a part of the sum that
--                 is there; a set; a weight list
-- Check        == a test of one value
use Rattle.std.specs.Prelude.{ℕ, ◌-◌, ◌^◌, Bool, true, false, ◌&&◌, ◌==◌, nat_lt, nat_le, if◌then◌else◌, List, [], ◌∷◌, length}
use Rattle.std.specs.List.{list_all}
use Rattle.functor_terms.specs.declared.node.Node.{Node}
use Rattle.functor_terms.specs.declared.node.Node.TheVariants.{State, Constant, Naturals, Product, Sum, Power, Powerset, Bag, Distribution, Integers, Rationals}
use Rattle.functor_terms.specs.Terms.{Nodes, fold, label_count}
use Rattle.typing.specs.declared.value.Value.{Value, Value-F, out-Value}

-- a test of one value
abbrev pub Check : Type 0
Check = Value → Bool

-- no value passes
abbrev pub no_check : Check
no_check v = false

-- the k-th of some checks
abbrev pub check_at : List Check → ℕ → Check
check_at [] k = no_check
check_at (f ∷ fs) k = if k == 0 then f else check_at fs (k - 1)

-- one part for each place, which passes the place's check
abbrev pub each_fits : List Check → List Value → Bool
each_fits [] [] = true
each_fits [] (v ∷ vs) = false
each_fits (f ∷ fs) [] = false
each_fits (f ∷ fs) (v ∷ vs) = f v && each_fits fs vs

-- what a node asks of one level of a value
abbrev pub fits_level : Node → List Check → Value-F Value → Bool
fits_level State fs (Value-F.State i) = true
fits_level (Constant labels) fs (Value-F.Label n) = nat_lt n (label_count labels)
fits_level Naturals fs (Value-F.Label n) = nat_le n (2 ^ 40)
fits_level Product fs (Value-F.Tuple vs) = each_fits fs vs
fits_level Sum fs (Value-F.Inj k v) = check_at fs k v
fits_level (Power labels) fs (Value-F.Tuple vs) =
    (length vs == label_count labels) && list_all (check_at fs 0) vs
fits_level Powerset fs (Value-F.Set vs) = list_all (check_at fs 0) vs
fits_level Bag fs (Value-F.Weights es) = list_all (λ e. check_at fs 0 e.0) es
fits_level Distribution fs (Value-F.Weights es) = list_all (λ e. check_at fs 0 e.0) es
fits_level Integers fs (Value-F.Weights es) = list_all (λ e. check_at fs 0 e.0) es
fits_level Rationals fs (Value-F.Weights es) = list_all (λ e. check_at fs 0 e.0) es
fits_level _ _ _ = false

-- the same of the value itself
abbrev pub fits_step : Node → List Check → Check
fits_step m fs v = fits_level m fs (out-Value v)

-- the value fits the term at node p
abbrev pub fits : Nodes → ℕ → Check
fits t p = fold no_check fits_step t p
