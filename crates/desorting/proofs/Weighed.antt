-- The weights of a value that is in bounds are.
use Rattle.std.proofs.Common.{◌≡◌, ℕ, ◌≤◌, ◌+◌, Bool, true, List, [], ◌∷◌, map, refl, sym, ap, ◌∙◌, subst, arith}
use Rattle.std.specs.Prelude.{ℤ, nat_le, unsigned_abs}
use Rattle.std.specs.List.{list_all}
use Rattle.std.proofs.lemmas.Bool.{and_parts, leb-true}
use Rattle.std.proofs.lemmas.List.Sums.{sum_by-cons}
use Rattle.typing.specs.declared.value.Value.{Value, Value-F, out-Value}
use Rattle.typing.specs.Values.{entries, entries_in}
use Rattle.typing.specs.Bounds.{is_within, absolute_sum}
use Rattle.weights.specs.Sums.{size_of}
use Rattle.structures.proofs.Bounded.{layer_within, within_out, tested}

size-tested : (m : ℕ) (es : List (Value × ℤ)) → size_of (λ (x : ℤ). x) (map (λ e. e.1) es)
    ≡ absolute_sum (tested m es)
size-tested m [] = refl
size-tested m (e ∷ es) =
    ap (λ k. unsigned_abs e.1 + k) (size-tested m es)
    ∙ sym (sum_by-cons (λ (e : Bool × ℤ). unsigned_abs e.1) (is_within m e.0, e.1) (tested m es))

-- the weights of a value are within its bound
pub weights_within : (m : ℕ) (v : Value) → is_within m v ≡ true
    → size_of (λ (x : ℤ). x) (map (λ e. e.1) (entries v)) ≤ m
weights_within m v h = by (out-Value v) (sym (within_out m v) ∙ h)
  where
    by : (x : Value-F Value) → layer_within m x ≡ true
        → size_of (λ (x : ℤ). x) (map (λ e. e.1) (entries_in x)) ≤ m
    by (Value-F.Tuple vs) h = omega arith
    by (Value-F.Set vs) h = omega arith
    by (Value-F.State i) h = omega arith
    by (Value-F.Label k) h = omega arith
    by (Value-F.Inj k v) h = omega arith
    by (Value-F.Weights es) h =
        let sum = leb-true (absolute_sum (tested m es)) m
        (and_parts (list_all (λ (e : Bool × ℤ). e.0) (tested m es))
        (nat_le (absolute_sum (tested m es)) m) h).1 in
        subst (λ n. n ≤ m) (sym (size-tested m es)) sum
