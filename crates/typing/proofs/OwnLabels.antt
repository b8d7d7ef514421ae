-- A list that gives each state itself, as 0, 1, 2 and so on, changes no value.
use Rattle.std.proofs.Common.{◌≡◌, ℕ, zero, suc, ◌+◌, ◌<◌, Bool, true, List, [], ◌∷◌, map, length, refl, sym, ap, ◌∙◌, subst, arith}
use Rattle.std.specs.Prelude.{ℤ, nat_lt, slice_index, EachIndex}
use Rattle.std.specs.List.{list_all}
use Rattle.std.proofs.lemmas.Bool.{and_parts, and_from, ltb-true, lt-ltb}
use Rattle.typing.specs.declared.value.Value.{Value, Value-F, out-Value, roll-Value, map-Value, ind-Value, out-roll-Value}
use Rattle.typing.specs.Values.{relabelled, states_below}
use Rattle.typing.proofs.MapLaws.{mapped, out_map, below_out, layer_below}
use Rattle.typing.proofs.NormalLaws.{same_value}

-- 0, 1, 2 and so on
abbrev pub count_from : ℕ → ℕ → List ℕ
count_from k zero = []
count_from k (suc m) = k ∷ count_from (suc k) m

-- the i-th number that is counted up
pub count_at : (k m i : ℕ) → i < m → slice_index (count_from k m) i ≡ k + i
count_at k zero i h = absurd (omega arith)
count_at k (suc m) zero h = omega arith
count_at k (suc m) (suc i) h = count_at (suc k) m i (omega arith) ∙ omega arith

-- the bound on states of a layer that is rolled up
pub at_level : (n : ℕ) (x : Value-F Value) → states_below n (roll-Value x) ≡ true
    → layer_below n x ≡ true
at_level n x h = ap (layer_below n) (sym (out-roll-Value x)) ∙ sym (below_out n (roll-Value x)) ∙ h

-- relabelling a layer that is rolled up
pub mapped_roll : (b : List ℕ) (x : Value-F Value)
    → out-Value (relabelled b (roll-Value x)) ≡ mapped b x
mapped_roll b x = out_map b (roll-Value x) ∙ ap (mapped b) (out-roll-Value x)

-- entries with their values replaced, and with tests for their values
abbrev pub onto : List ℕ → List (Value × ℤ) → List (Value × ℤ)
onto b ws = map (λ e. (relabelled b e.0, e.1)) ws

-- each entry with whether its element passes
abbrev pub tested : ℕ → List (Value × ℤ) → List (Bool × ℤ)
tested n ws = map (λ e. (states_below n e.0, e.1)) ws

-- whether each entry passes
abbrev pub all_pass : List (Bool × ℤ) → Bool
all_pass ws = list_all (λ c. c.0) ws

-- entries without their proofs
abbrev pub without : (P : Value → Type 0) → List (((v : Value) × P v) × ℤ) → List (Value × ℤ)
without P ys = map (λ e. (e.0.0, e.1)) ys

-- a list that gives each state itself changes no value
module _ (n : ℕ) (f : List ℕ) (itself : (i : ℕ) → i < n → slice_index f i ≡ i) where
  abbrev IsKept : Value → Type 0
  IsKept v = states_below n v ≡ true → relabelled f v ≡ v

  kept_list : (ys : List ((v : Value) × IsKept v))
      → list_all (λ c. c) (map (states_below n) (map (λ e. e.0) ys)) ≡ true
      → map (relabelled f) (map (λ e. e.0) ys) ≡ map (λ e. e.0) ys
  kept_list [] h = refl
  kept_list (e ∷ ys) h = let p = and_parts (states_below n e.0)
      (list_all (λ c. c) (map (states_below n) (map (λ e. e.0) ys))) h in
      λ i. e.1 p.0 i ∷ kept_list ys p.1 i

  kept_entries : (ys : List (((v : Value) × IsKept v) × ℤ))
      → all_pass (tested n (without IsKept ys)) ≡ true
      → onto f (without IsKept ys) ≡ without IsKept ys
  kept_entries [] h = refl
  kept_entries (e ∷ ys) h = let p = and_parts (states_below n e.0.0)
      (all_pass (tested n (without IsKept ys))) h in λ i. (e.0.1 p.0 i, e.1) ∷ kept_entries ys p.1 i

  kept_level : (y : Value-F ((v : Value) × IsKept v))
      → layer_below n (map-Value ((v : Value) × IsKept v) Value (λ e. e.0) y) ≡ true
      → mapped f (map-Value ((v : Value) × IsKept v) Value (λ e. e.0) y)
      ≡ map-Value ((v : Value) × IsKept v) Value (λ e. e.0) y
  kept_level (Value-F.State i) h = ap Value-F.State (itself i (ltb-true i n h))
  kept_level (Value-F.Label k) h = refl
  kept_level (Value-F.Tuple ys) h = ap Value-F.Tuple (kept_list ys h)
  kept_level (Value-F.Inj k e) h = ap (Value-F.Inj k) (e.1 h)
  kept_level (Value-F.Set ys) h = ap Value-F.Set (kept_list ys h)
  kept_level (Value-F.Weights ys) h = ap Value-F.Weights (kept_entries ys h)

  -- a value whose states get their own numbers stays
  pub kept : (v : Value) → states_below n v ≡ true → relabelled f v ≡ v
  kept = ind-Value IsKept (λ x y is h.
      same_value (relabelled f (roll-Value x)) (roll-Value x)
      (mapped_roll f x ∙ subst (λ (z : Value-F Value). layer_below n z ≡ true → mapped f z ≡ z) is
      (kept_level y) (at_level n x h) ∙ sym (out-roll-Value x)))

-- each number of a list that counts is below its length
pub own-below :
    (own : List ℕ) → EachIndex own (λ i. slice_index own i ≡ i)
    → list_all (λ i. nat_lt i (length own)) own ≡ true
own-below own is =
    by 0 own (length own) (λ i h. let e : slice_index own i ≡ 0 + i = is i h ∙ omega arith in e)
    (omega arith)
  where
    by :
        (k : ℕ) (xs : List ℕ) (n : ℕ) → ((i : ℕ) → i < length xs → slice_index xs i ≡ k + i)
        → k + length xs ≡ n → list_all (λ i. nat_lt i n) xs ≡ true
    by k [] n h e = refl
    by k (x ∷ xs) n h e =
        let here : x ≡ k + 0 = h 0 (omega arith) in
        and_from (nat_lt x n) (list_all (λ i. nat_lt i n) xs) (lt-ltb x n (omega arith))
        (by (k + 1) xs n (λ i below.
        let next : slice_index (x ∷ xs) (suc i) ≡ k + suc i = h (suc i) (omega arith) in
        next ∙ omega arith) (omega arith))
