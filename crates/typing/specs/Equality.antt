-- When two values are equal at a node of a term.
--
-- are_equal t p u v   == u and v are equal at node p of the term t: equal states and labels; places
--                        each by its own child; sets with equal members both ways; weights with
--                        equal totals at each element, where an absent element has the total 0
-- total plus e ws a   == the weights of those entries of ws that are equal to a, joined by plus
-- plus_at m           == how node m joins weights
use Rattle.std.specs.Prelude.{ℕ, ℤ, pos, ◌+ℤ◌, Bool, true, false, ◌&&◌, ◌==◌, nat_eq, ◌-◌, if◌then◌else◌, List, [], ◌∷◌, ◌++◌}
use Rattle.std.specs.List.{list_all, list_any}
use Rattle.std.specs.Ordering.{int_eq}
use Rattle.std.specs.Cmp.Lexicographic.{pointwise}
use Rattle.std.specs.Option.{option_eq}
use Rattle.functor_terms.specs.declared.node.Node.{Node}
use Rattle.functor_terms.specs.declared.node.Node.TheVariants.{State, Constant, Naturals, Product, Sum, Power, Powerset, Bag, Distribution, Integers, Rationals}
use Rattle.functor_terms.specs.Terms.{Nodes, fold}
use Rattle.typing.specs.declared.value.Value.{Value}
use Rattle.typing.specs.Values.{state, label, index, inner, parts, entries}

-- a test of two values
abbrev pub Test : Type 0
Test = Value → Value → Bool

-- any two values pass
abbrev pub no_test : Test
no_test u v = true

-- the k-th of some tests
abbrev pub test_at : List Test → ℕ → Test
test_at [] k = no_test
test_at (e ∷ es) k = if k == 0 then e else test_at es (k - 1)

-- as many parts as places are compared, each place by its own test
abbrev pub each_place : List Test → List Value → List Value → Bool
each_place [] us vs = true
each_place (e ∷ es) [] [] = true
each_place (e ∷ es) [] (v ∷ vs) = false
each_place (e ∷ es) (u ∷ us) [] = false
each_place (e ∷ es) (u ∷ us) (v ∷ vs) = e u v && each_place es us vs

-- some element is equal to a
abbrev pub has : Test → List Value → Value → Bool
has e us a = list_any (λ u. e u a) us

-- each element of either has an equal element in the other
abbrev pub same_members : Test → List Value → List Value → Bool
same_members e us vs = list_all (has e vs) us && list_all (has e us) vs

-- the weights of the entries that are equal to a, joined by plus; 0 where there is none
abbrev pub total : (ℤ → ℤ → ℤ) → Test → List (Value × ℤ) → Value → ℤ
total plus e [] a = pos 0
total plus e (w ∷ ws) a = plus (if e w.0 a then w.1 else pos 0) (total plus e ws a)

-- each element of either has the same total in both
abbrev pub same_totals : (ℤ → ℤ → ℤ) → Test → List (Value × ℤ) → List (Value × ℤ) → Bool
same_totals plus e us vs =
    list_all (λ w. int_eq (total plus e us w.0) (total plus e vs w.0)) (us ++ vs)

-- the sum of two weights
abbrev pub the_sum : ℤ → ℤ → ℤ
the_sum m n = m +ℤ n

-- how a node joins weights: bags, distributions and the two kinds of weights by their sum
abbrev pub plus_at : Node → ℤ → ℤ → ℤ
plus_at m = the_sum

-- the sum of the weights of the entries that are equal to a
abbrev pub weight_of : Test → List (Value × ℤ) → Value → ℤ
weight_of = total the_sum

-- each element of either has the same sum in both
abbrev pub same_weights : Test → List (Value × ℤ) → List (Value × ℤ) → Bool
same_weights = same_totals the_sum

-- how two values compare at a node, by the tests at its children
abbrev pub eq_step : Node → List Test → Test
eq_step State es u v = option_eq nat_eq (state u) (state v)
eq_step (Constant labels) es u v = label u == label v
eq_step Naturals es u v = label u == label v
eq_step Product es u v = each_place es (parts u) (parts v)
eq_step (Power labels) es u v = pointwise (test_at es 0) (parts u) (parts v)
eq_step Sum es u v = (index u == index v) && test_at es (index u) (inner u) (inner v)
eq_step Powerset es u v = same_members (test_at es 0) (parts u) (parts v)
eq_step Bag es u v = same_totals (plus_at Bag) (test_at es 0) (entries u) (entries v)
eq_step Distribution es u v =
    same_totals (plus_at Distribution) (test_at es 0) (entries u) (entries v)
eq_step Integers es u v = same_totals (plus_at Integers) (test_at es 0) (entries u) (entries v)
eq_step Rationals es u v = same_totals (plus_at Rationals) (test_at es 0) (entries u) (entries v)

-- the two values are equal at node p of the term
abbrev pub are_equal : Nodes → ℕ → Test
are_equal t p = fold no_test eq_step t p
