-- What replacing states does to each part of a value.
use Rattle.std.proofs.Common.{◌≡◌, ℕ, zero, suc, Bool, true, List, [], ◌∷◌, map, slice_get, refl, sym, ap, ◌∙◌}
use Rattle.std.specs.Prelude.{ℤ, slice_index, nat_lt}
use Rattle.std.specs.Prelude.{Some, unwrap_or, ◌<◌}
use Rattle.std.specs.Option.{option_map}
use Rattle.std.proofs.lemmas.Bool.{ltb-true}
use Rattle.std.specs.List.{list_all}
use Rattle.std.proofs.lemmas.List.Folds.{list_all-map}
use Rattle.std.proofs.lemmas.Option.{none-some, same_Some}
use Rattle.typing.specs.declared.value.Value.{Value, Value-F, out-Value, fold_out-Value, map-Value, out-roll-Value}
use Rattle.typing.specs.declared.value.Value.TheViews.{outs-State}
use Rattle.typing.specs.Values.{index_in, inner_in, parts_in, entries_in, label_in, state_in, label, state, index, inner, parts, entries, relabelled_step, relabelled, below_step, states_below}

-- one level after the replacement
abbrev pub mapped : List ℕ → Value-F Value → Value-F Value
mapped b (Value-F.State i) = Value-F.State (slice_index b i)
mapped b (Value-F.Label n) = Value-F.Label n
mapped b (Value-F.Tuple vs) = Value-F.Tuple (map (relabelled b) vs)
mapped b (Value-F.Inj k v) = Value-F.Inj k (relabelled b v)
mapped b (Value-F.Set vs) = Value-F.Set (map (relabelled b) vs)
mapped b (Value-F.Weights es) = Value-F.Weights (map (λ e. (relabelled b e.0, e.1)) es)

step_out : (b : List ℕ) (x : Value-F Value)
    → out-Value (relabelled_step b (map-Value Value Value (relabelled b) x)) ≡ mapped b x
step_out b (Value-F.State i) = outs-State (slice_index b i)
step_out b (Value-F.Label n) = out-roll-Value (mapped b (Value-F.Label n))
step_out b (Value-F.Tuple vs) = out-roll-Value (mapped b (Value-F.Tuple vs))
step_out b (Value-F.Inj k v) = out-roll-Value (mapped b (Value-F.Inj k v))
step_out b (Value-F.Set vs) = out-roll-Value (mapped b (Value-F.Set vs))
step_out b (Value-F.Weights es) = out-roll-Value (mapped b (Value-F.Weights es))

-- relabelling, layer by layer
pub out_map : (b : List ℕ) (v : Value) → out-Value (relabelled b v) ≡ mapped b (out-Value v)
out_map b v = ap out-Value (fold_out-Value Value (relabelled_step b) v) ∙ step_out b (out-Value v)

-- so each part is what the replacement gives of the part
pub parts_map : (b : List ℕ) (v : Value) → parts (relabelled b v) ≡ map (relabelled b) (parts v)
parts_map b v = ap parts_in (out_map b v) ∙ by (out-Value v)
  where
    by : (x : Value-F Value) → parts_in (mapped b x) ≡ map (relabelled b) (parts_in x)
    by (Value-F.Tuple vs) = refl
    by (Value-F.Set vs) = refl
    by (Value-F.State i) = refl
    by (Value-F.Label n) = refl
    by (Value-F.Inj k v) = refl
    by (Value-F.Weights es) = refl

-- relabelling keeps the index
pub index_map : (b : List ℕ) (v : Value) → index (relabelled b v) ≡ index v
index_map b v = ap index_in (out_map b v) ∙ by (out-Value v)
  where
    by : (x : Value-F Value) → index_in (mapped b x) ≡ index_in x
    by (Value-F.Tuple vs) = refl
    by (Value-F.Set vs) = refl
    by (Value-F.State i) = refl
    by (Value-F.Label n) = refl
    by (Value-F.Inj k v) = refl
    by (Value-F.Weights es) = refl

-- relabelling goes into an injection
pub inner_map : (b : List ℕ) (v : Value) → inner (relabelled b v) ≡ relabelled b (inner v)
inner_map b v = ap (inner_in (relabelled b v)) (out_map b v) ∙ by (out-Value v)
  where
    by : (x : Value-F Value) → inner_in (relabelled b v) (mapped b x) ≡ relabelled b (inner_in v x)
    by (Value-F.Tuple vs) = refl
    by (Value-F.Set vs) = refl
    by (Value-F.State i) = refl
    by (Value-F.Label n) = refl
    by (Value-F.Inj k w) = refl
    by (Value-F.Weights es) = refl

-- relabelling keeps the weights and relabels the elements
pub entries_map : (b : List ℕ) (v : Value)
    → entries (relabelled b v) ≡ map (λ e. (relabelled b e.0, e.1)) (entries v)
entries_map b v = ap entries_in (out_map b v) ∙ by (out-Value v)
  where
    by : (x : Value-F Value) → entries_in (mapped b x) ≡ map (λ e. (relabelled b e.0, e.1))
        (entries_in x)
    by (Value-F.Tuple vs) = refl
    by (Value-F.Set vs) = refl
    by (Value-F.State i) = refl
    by (Value-F.Label n) = refl
    by (Value-F.Inj k v) = refl
    by (Value-F.Weights es) = refl

-- relabelling keeps labels
pub label_map : (b : List ℕ) (v : Value) → label (relabelled b v) ≡ label v
label_map b v = ap label_in (out_map b v) ∙ by (out-Value v)
  where
    by : (x : Value-F Value) → label_in (mapped b x) ≡ label_in x
    by (Value-F.Tuple vs) = refl
    by (Value-F.Set vs) = refl
    by (Value-F.State i) = refl
    by (Value-F.Label n) = refl
    by (Value-F.Inj k v) = refl
    by (Value-F.Weights es) = refl

-- a state gets its label
pub state_map : (b : List ℕ) (v : Value)
    → state (relabelled b v) ≡ option_map (slice_index b) (state v)
state_map b v = ap state_in (out_map b v) ∙ by (out-Value v)
  where
    by : (x : Value-F Value) → state_in (mapped b x) ≡ option_map (slice_index b) (state_in x)
    by (Value-F.Tuple vs) = refl
    by (Value-F.Set vs) = refl
    by (Value-F.State i) = refl
    by (Value-F.Label n) = refl
    by (Value-F.Inj k v) = refl
    by (Value-F.Weights es) = refl

-- What is below n in a value is so in each part.
abbrev pub layer_below : ℕ → Value-F Value → Bool
layer_below n x = below_step n (map-Value Value Bool (states_below n) x)

-- the bound on states, layer by layer
pub below_out : (n : ℕ) (v : Value) → states_below n v ≡ layer_below n (out-Value v)
below_out n v = fold_out-Value Bool (below_step n) v

-- the states in the parts are below the bound
pub parts_below : (n : ℕ) (v : Value) → states_below n v ≡ true
    → list_all (states_below n) (parts v) ≡ true
parts_below n v h = by (out-Value v) (sym (below_out n v) ∙ h)
  where
    by : (x : Value-F Value) → layer_below n x ≡ true
        → list_all (states_below n) (parts_in x) ≡ true
    by (Value-F.Tuple vs) h = sym (list_all-map (λ b. b) (states_below n) vs) ∙ h
    by (Value-F.Set vs) h = sym (list_all-map (λ b. b) (states_below n) vs) ∙ h
    by (Value-F.State i) h = refl
    by (Value-F.Label k) h = refl
    by (Value-F.Inj k v) h = refl
    by (Value-F.Weights es) h = refl

-- the states in an injection's value are below the bound
pub inner_below : (n : ℕ) (v : Value) → states_below n v ≡ true → states_below n (inner v) ≡ true
inner_below n v h = by (out-Value v) (sym (below_out n v) ∙ h)
  where
    by : (x : Value-F Value) → layer_below n x ≡ true → states_below n (inner_in v x) ≡ true
    by (Value-F.Tuple vs) e = h
    by (Value-F.Set vs) e = h
    by (Value-F.State i) e = h
    by (Value-F.Label k) e = h
    by (Value-F.Inj k v) e = e
    by (Value-F.Weights es) e = h

-- the states in the elements of weights are below the bound
pub entries_below : (n : ℕ) (v : Value) → states_below n v ≡ true
    → list_all (λ e. states_below n e.0) (entries v) ≡ true
entries_below n v h = by (out-Value v) (sym (below_out n v) ∙ h)
  where
    by : (x : Value-F Value) → layer_below n x ≡ true
        → list_all (λ e. states_below n e.0) (entries_in x) ≡ true
    by (Value-F.Tuple vs) h = refl
    by (Value-F.Set vs) h = refl
    by (Value-F.State i) h = refl
    by (Value-F.Label k) h = refl
    by (Value-F.Inj k v) h = refl
    by (Value-F.Weights es) h = sym (list_all-map (λ (e : Bool × ℤ). e.0)
        (λ (e : Value × ℤ). (states_below n e.0, e.1)) es) ∙ h

-- a state is below the bound
pub state_within : (n : ℕ) (v : Value) → states_below n v ≡ true → (i : ℕ) → state v ≡ Some i
    → i < n
state_within n v h = by (out-Value v) (sym (below_out n v) ∙ h)
  where
    by : (x : Value-F Value) → layer_below n x ≡ true → (i : ℕ) → state_in x ≡ Some i → i < n
    by (Value-F.State j) h i e = ltb-true i n (sym (ap (λ o. nat_lt (unwrap_or o 0) n) e) ∙ h)
    by (Value-F.Tuple vs) h i e = absurd (none-some i e)
    by (Value-F.Set vs) h i e = absurd (none-some i e)
    by (Value-F.Label k) h i e = absurd (none-some i e)
    by (Value-F.Inj k v) h i e = absurd (none-some i e)
    by (Value-F.Weights es) h i e = absurd (none-some i e)

-- an element of images is the image of one
pub mapped_at : {X Y : Type 0} (f : X → Y) (xs : List X) (i : ℕ) (y : Y)
    → slice_get (map f xs) i ≡ Some y → (x : X) × (slice_get xs i ≡ Some x) × (f x ≡ y)
mapped_at f [] i y e = absurd (none-some y e)
mapped_at f (x ∷ xs) zero y e = (x, refl, same_Some (f x) y e)
mapped_at f (x ∷ xs) (suc i) y e = mapped_at f xs i y e
