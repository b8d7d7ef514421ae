-- What a value holds, and values with their states relabelled.
--
-- state, label, index, inner, parts, entries  == what stands at the top of a value
-- relabelled b v     == the value v with each state number i replaced by b[i]; nothing is merged
-- states_below n v   == each state number in v is below n
use Rattle.std.specs.Prelude.{ℕ, ℤ, List, [], slice_index, Option, Some, None, Bool, true, nat_lt}
use Rattle.std.specs.List.{list_all}
use Rattle.typing.specs.declared.value.Value.{Value, Value-F, out-Value, roll-Value, fold-Value}
use Rattle.typing.specs.declared.value.Value.TheVariants as value

-- the state at the top of a value, of which the inner values are of type A
abbrev pub state_in : {A : Type 0} → Value-F A → Option ℕ
state_in (Value-F.State i) = Some i
state_in _ = None

-- the label there, or 0
abbrev pub label_in : {A : Type 0} → Value-F A → ℕ
label_in (Value-F.Label n) = n
label_in _ = 0

-- the index of a part of a sum, or 0
abbrev pub index_in : {A : Type 0} → Value-F A → ℕ
index_in (Value-F.Inj k v) = k
index_in _ = 0

-- the value in a part of a sum, or `other`
abbrev pub inner_in : {A : Type 0} → A → Value-F A → A
inner_in other (Value-F.Inj k v) = v
inner_in other _ = other

-- the parts of a tuple or the members of a set, or none
abbrev pub parts_in : {A : Type 0} → Value-F A → List A
parts_in (Value-F.Tuple vs) = vs
parts_in (Value-F.Set vs) = vs
parts_in _ = []

-- the entries of a weight list, or none
abbrev pub entries_in : {A : Type 0} → Value-F A → List (A × ℤ)
entries_in (Value-F.Weights es) = es
entries_in _ = []

-- the state that a value is, if it is one
abbrev pub state : Value → Option ℕ
state v = state_in (out-Value v)

-- the label that it is, or 0
abbrev pub label : Value → ℕ
label v = label_in (out-Value v)

-- which part of a sum it is of, or 0
abbrev pub index : Value → ℕ
index v = index_in (out-Value v)

-- the value in that part, or the value itself
abbrev pub inner : Value → Value
inner v = inner_in v (out-Value v)

-- the parts of a tuple, in order of its places, or the members of a set
abbrev pub parts : Value → List Value
parts v = parts_in (out-Value v)

-- the values in a weight list, each with its weight
abbrev pub entries : Value → List (Value × ℤ)
entries v = entries_in (out-Value v)

-- one level of `relabelled`
abbrev pub relabelled_step : List ℕ → Value-F Value → Value
relabelled_step b (Value-F.State i) = value.State (slice_index b i)
relabelled_step b v = roll-Value v

-- the value with each state number i replaced by b[i]; nothing is merged
abbrev pub relabelled : List ℕ → Value → Value
relabelled b = fold-Value Value (relabelled_step b)

-- one level of `states_below`
abbrev pub below_step : ℕ → Value-F Bool → Bool
below_step n (Value-F.State i) = nat_lt i n
below_step n (Value-F.Label k) = true
below_step n (Value-F.Tuple bs) = list_all (λ b. b) bs
below_step n (Value-F.Inj k b) = b
below_step n (Value-F.Set bs) = list_all (λ b. b) bs
below_step n (Value-F.Weights es) = list_all (λ e. e.0) es

-- each state number in the value is below n
abbrev pub states_below : ℕ → Value → Bool
states_below n = fold-Value Bool (below_step n)
