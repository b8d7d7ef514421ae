-- Bounds and sums of the weights in a value.
--
-- is_within m v          == the absolute weights of each one structure in v sum to at most m
-- is_bounded v           == they sum to at most 2^126, so that no sum of them wraps in 128 bits
-- sums_hold pass d t p v == weight lists at bags and distributions pass a test, and the weights of
--                           each distribution sum to d, the common denominator
-- weights_hold d t p v   == weights at bags and distributions are above 0, and those of each
--                           distribution sum to d
use Rattle.std.specs.Prelude.{ℕ, ℤ, pos, ◌^◌, Bool, true, not, ◌&&◌, nat_le, int_lt, unsigned_abs, List, [], ◌∷◌}
use Rattle.std.specs.List.{list_all, sum_by}
use Rattle.std.specs.Ordering.{int_eq}
use Rattle.functor_terms.specs.declared.node.Node.{Node}
use Rattle.functor_terms.specs.declared.node.Node.TheVariants.{State, Constant, Naturals, Product, Sum, Power, Powerset, Bag, Distribution, Integers, Rationals}
use Rattle.functor_terms.specs.Terms.{Nodes, fold}
use Rattle.typing.specs.declared.value.Value.{Value, Value-F, fold-Value}
use Rattle.typing.specs.Values.{index, inner, parts, entries}
use Rattle.typing.specs.Equality.{plus_at}
use Rattle.typing.specs.Fits.{Check, check_at}

-- the sum of the absolute weights
abbrev pub absolute_sum : {A : Type 0} → List (A × ℤ) → ℕ
absolute_sum es = sum_by (λ e. unsigned_abs e.1) es

-- one level of `is_within`
abbrev pub within_step : ℕ → Value-F Bool → Bool
within_step m (Value-F.State i) = true
within_step m (Value-F.Label n) = true
within_step m (Value-F.Tuple bs) = list_all (λ b. b) bs
within_step m (Value-F.Inj k b) = b
within_step m (Value-F.Set bs) = list_all (λ b. b) bs
within_step m (Value-F.Weights es) = list_all (λ e. e.0) es && nat_le (absolute_sum es) m

-- the absolute weights of each one structure sum to at most m
abbrev pub is_within : ℕ → Value → Bool
is_within m = fold-Value Bool (within_step m)

-- they sum to at most 2^126, so that no sum of them wraps in 128 bits
abbrev pub is_bounded : Value → Bool
is_bounded = is_within (2 ^ 126)

-- each weight is above 0
abbrev pub are_positive : List (Value × ℤ) → Bool
are_positive es = list_all (λ e. int_lt (pos 0) e.1) es

-- no weight is below 0
abbrev pub are_from_zero : List (Value × ℤ) → Bool
are_from_zero es = list_all (λ e. not (int_lt e.1 (pos 0))) es

-- any weights pass
abbrev pub are_any : List (Value × ℤ) → Bool
are_any es = true

-- all weights, joined as the node joins them
abbrev pub joint_weight : Node → List (Value × ℤ) → ℤ
joint_weight m [] = pos 0
joint_weight m (e ∷ es) = plus_at m e.1 (joint_weight m es)

-- each place passes the check of its child, as far as there are children
abbrev pub each_holds : List Check → List Value → Bool
each_holds [] vs = true
each_holds (f ∷ fs) [] = true
each_holds (f ∷ fs) (v ∷ vs) = f v && each_holds fs vs

-- each element of a weight list passes
abbrev pub entries_hold : Check → List (Value × ℤ) → Bool
entries_hold f es = list_all (λ e. f e.0) es

-- what a node asks of weights, by what its children ask; the lists of bags and distributions pass
-- the test, and d is the common denominator
abbrev pub sums_step : (List (Value × ℤ) → Bool) → ℕ → Node → List Check → Check
sums_step pass d State fs v = true
sums_step pass d (Constant labels) fs v = true
sums_step pass d Naturals fs v = true
sums_step pass d Product fs v = each_holds fs (parts v)
sums_step pass d Sum fs v = check_at fs (index v) (inner v)
sums_step pass d (Power labels) fs v = list_all (check_at fs 0) (parts v)
sums_step pass d Powerset fs v = list_all (check_at fs 0) (parts v)
sums_step pass d Bag fs v = pass (entries v) && entries_hold (check_at fs 0) (entries v)
sums_step pass d Distribution fs v =
    pass (entries v) && int_eq (joint_weight Distribution (entries v)) (pos d)
    && entries_hold (check_at fs 0) (entries v)
sums_step pass d Integers fs v = entries_hold (check_at fs 0) (entries v)
sums_step pass d Rationals fs v = entries_hold (check_at fs 0) (entries v)

-- the same where weights at bags and distributions are above 0
abbrev pub weights_step : ℕ → Node → List Check → Check
weights_step = sums_step are_positive

-- any value passes
abbrev pub any_weights : Check
any_weights v = true

-- weight lists at bags and distributions pass the test, and the weights of each distribution sum
-- to d
abbrev pub sums_hold : (List (Value × ℤ) → Bool) → ℕ → Nodes → ℕ → Check
sums_hold pass d t p = fold any_weights (sums_step pass d) t p

-- weights at bags and distributions are above 0, and those of each distribution sum to d
abbrev pub weights_hold : ℕ → Nodes → ℕ → Check
weights_hold = sums_hold are_positive
