-- What is in bounds in a value is so in each part.
use Rattle.std.proofs.Common.{◌≡◌, ℕ, Bool, true, List, map, refl, sym, ◌∙◌}
use Rattle.std.specs.Prelude.{ℤ, nat_le}
use Rattle.std.specs.List.{list_all}
use Rattle.std.proofs.lemmas.Bool.{and_parts}
use Rattle.std.proofs.lemmas.List.Folds.{list_all-map}
use Rattle.typing.specs.declared.value.Value.{Value, Value-F, out-Value, map-Value, fold_out-Value}
use Rattle.typing.specs.Values.{parts, inner, entries, parts_in, inner_in, entries_in}
use Rattle.typing.specs.Bounds.{within_step, is_within, absolute_sum}

-- whether a layer is within the bound
abbrev pub layer_within : ℕ → Value-F Value → Bool
layer_within m x = within_step m (map-Value Value Bool (is_within m) x)

-- the bound, layer by layer
pub within_out : (m : ℕ) (v : Value) → is_within m v ≡ layer_within m (out-Value v)
within_out m v = fold_out-Value Bool (within_step m) v

-- the parts of a value are within the bound
pub parts_within : (m : ℕ) (v : Value) → is_within m v ≡ true
    → list_all (is_within m) (parts v) ≡ true
parts_within m v h = by (out-Value v) (sym (within_out m v) ∙ h)
  where
    by : (x : Value-F Value) → layer_within m x ≡ true → list_all (is_within m) (parts_in x) ≡ true
    by (Value-F.Tuple vs) h = sym (list_all-map (λ b. b) (is_within m) vs) ∙ h
    by (Value-F.Set vs) h = sym (list_all-map (λ b. b) (is_within m) vs) ∙ h
    by (Value-F.State i) h = refl
    by (Value-F.Label k) h = refl
    by (Value-F.Inj k v) h = refl
    by (Value-F.Weights es) h = refl

-- the value in an injection is within the bound
pub inner_within : (m : ℕ) (v : Value) → is_within m v ≡ true → is_within m (inner v) ≡ true
inner_within m v h = by (out-Value v) (sym (within_out m v) ∙ h)
  where
    by : (x : Value-F Value) → layer_within m x ≡ true → is_within m (inner_in v x) ≡ true
    by (Value-F.Tuple vs) e = h
    by (Value-F.Set vs) e = h
    by (Value-F.State i) e = h
    by (Value-F.Label k) e = h
    by (Value-F.Inj k v) e = e
    by (Value-F.Weights es) e = h

-- entries with a test for their values
abbrev pub tested : ℕ → List (Value × ℤ) → List (Bool × ℤ)
tested m es = map (λ e. (is_within m e.0, e.1)) es

-- the elements of weights are within the bound
pub entries_within : (m : ℕ) (v : Value) → is_within m v ≡ true
    → list_all (λ e. is_within m e.0) (entries v) ≡ true
entries_within m v h = by (out-Value v) (sym (within_out m v) ∙ h)
  where
    by : (x : Value-F Value) → layer_within m x ≡ true
        → list_all (λ e. is_within m e.0) (entries_in x) ≡ true
    by (Value-F.Tuple vs) h = refl
    by (Value-F.Set vs) h = refl
    by (Value-F.State i) h = refl
    by (Value-F.Label k) h = refl
    by (Value-F.Inj k v) h = refl
    by (Value-F.Weights es) h =
        sym (list_all-map (λ (e : Bool × ℤ). e.0) (λ (e : Value × ℤ). (is_within m e.0, e.1)) es)
        ∙ (and_parts (list_all (λ (e : Bool × ℤ). e.0) (tested m es))
        (nat_le (absolute_sum (tested m es)) m) h).0
