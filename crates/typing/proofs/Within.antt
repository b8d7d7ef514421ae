-- Values within a bound are within each larger one.
use Rattle.std.proofs.Common.{◌≡◌, ℕ, ◌≤◌, ◌+◌, ◌^◌, Bool, true, List, [], ◌∷◌, map, refl, sym, ap, ◌∙◌, subst, arith, Some, slice_get, length}
use Rattle.std.specs.Prelude.{ℤ, nat_le, unsigned_abs}
use Rattle.std.specs.List.{list_all}
use Rattle.std.proofs.lemmas.Bool.{and_parts, and_from, leb-true, le-leb}
use Rattle.std.proofs.lemmas.List.Sums.{sum_by-cons}
use Rattle.typing.specs.declared.value.Value.{Value, Value-F, roll-Value, map-Value, ind-Value, out-roll-Value, fold_out-Value}
use Rattle.typing.specs.Values.{states_below}
use Rattle.typing.specs.Bounds.{within_step, is_within, is_bounded, absolute_sum}
use Rattle.typing.proofs.StableLaws.{each_of}

-- one level of a value
abbrev layer_within : ℕ → Value-F Value → Bool
layer_within m x = within_step m (map-Value Value Bool (is_within m) x)

at_level : (m : ℕ) (x : Value-F Value) → is_within m (roll-Value x) ≡ layer_within m x
at_level m x = fold_out-Value Bool (within_step m) (roll-Value x)
    ∙ ap (layer_within m) (out-roll-Value x)

-- entries with a test for their values
abbrev tested : ℕ → List (Value × ℤ) → List (Bool × ℤ)
tested m ws = map (λ e. (is_within m e.0, e.1)) ws

abbrev without : (P : Value → Type 0) → List (((v : Value) × P v) × ℤ) → List (Value × ℤ)
without P ys = map (λ e. (e.0.0, e.1)) ys

-- which the sum of their weights does not see
sum_tested : (m : ℕ) (ws : List (Value × ℤ)) → absolute_sum (tested m ws) ≡ absolute_sum ws
sum_tested m [] = refl
sum_tested m (w ∷ ws) =
    sum_by-cons (λ (e : Bool × ℤ). unsigned_abs e.1) (is_within m w.0, w.1) (tested m ws)
    ∙ ap (λ k. unsigned_abs w.1 + k) (sum_tested m ws)
    ∙ sym (sum_by-cons (λ (e : Value × ℤ). unsigned_abs e.1) w ws)

module _ (m n : ℕ) (up : m ≤ n) where
  abbrev GoesUp : Value → Type 0
  GoesUp v = is_within m v ≡ true → is_within n v ≡ true

  up_list : (ys : List ((v : Value) × GoesUp v))
      → list_all (λ c. c) (map (is_within m) (map (λ e. e.0) ys)) ≡ true
      → list_all (λ c. c) (map (is_within n) (map (λ e. e.0) ys)) ≡ true
  up_list [] h = refl
  up_list (e ∷ ys) h =
      let p = and_parts (is_within m e.0)
      (list_all (λ c. c) (map (is_within m) (map (λ e. e.0) ys))) h in
      and_from (is_within n e.0) (list_all (λ c. c) (map (is_within n) (map (λ e. e.0) ys)))
      (e.1 p.0) (up_list ys p.1)

  up_entries : (ys : List (((v : Value) × GoesUp v) × ℤ))
      → list_all (λ c. c.0) (tested m (without GoesUp ys)) ≡ true
      → list_all (λ c. c.0) (tested n (without GoesUp ys)) ≡ true
  up_entries [] h = refl
  up_entries (e ∷ ys) h =
      let p = and_parts (is_within m e.0.0) (list_all (λ c. c.0) (tested m (without GoesUp ys)))
      h in
      and_from (is_within n e.0.0) (list_all (λ c. c.0) (tested n (without GoesUp ys))) (e.0.1 p.0)
      (up_entries ys p.1)

  up_sum : (ws : List (Value × ℤ)) → nat_le (absolute_sum (tested m ws)) m ≡ true
      → nat_le (absolute_sum (tested n ws)) n ≡ true
  up_sum ws h = le-leb (absolute_sum (tested n ws)) n
      (omega (
        arith,
        up,
        leb-true (absolute_sum (tested m ws)) m h,
        sum_tested m ws,
        sum_tested n
            ws,
      ))

  up_level : (y : Value-F ((v : Value) × GoesUp v))
      → layer_within m (map-Value ((v : Value) × GoesUp v) Value (λ e. e.0) y) ≡ true
      → layer_within n (map-Value ((v : Value) × GoesUp v) Value (λ e. e.0) y) ≡ true
  up_level (Value-F.State i) h = refl
  up_level (Value-F.Label k) h = refl
  up_level (Value-F.Tuple ys) h = up_list ys h
  up_level (Value-F.Inj k e) h = e.1 h
  up_level (Value-F.Set ys) h = up_list ys h
  up_level (Value-F.Weights ys) h =
      let ws : List (Value × ℤ) = without GoesUp ys in
      let p = and_parts (list_all (λ (c : Bool × ℤ). c.0) (tested m ws))
      (nat_le (absolute_sum (tested m ws)) m) h in
      and_from (list_all (λ (c : Bool × ℤ). c.0) (tested n ws)) (nat_le (absolute_sum (tested n ws))
      n) (up_entries ys p.0) (up_sum ws p.1)

  -- what is within a bound is within a greater one
  pub within_more : (v : Value) → is_within m v ≡ true → is_within n v ≡ true
  within_more = ind-Value GoesUp (λ x y is h.
      at_level n x ∙ subst (λ (z : Value-F Value). layer_within m z ≡ true
      → layer_within n z ≡ true) is (up_level y) (sym (at_level m x) ∙ h))

-- so each structure of a coalgebra may be relabelled
pub each_bounded : (values : List Value) → list_all (is_within (2 ^ 106)) values ≡ true
    → (i : ℕ) (v : Value) → slice_get values i ≡ Some v → is_bounded v ≡ true
each_bounded values h i v at = within_more (2 ^ 106) (2 ^ 126) (leb-true (2 ^ 106) (2 ^ 126) refl) v
    (each_of (is_within (2 ^ 106)) values h i v at)

-- the states in the structures of a coalgebra are its states
pub each_below : (values : List Value) (n : ℕ) → length values ≡ n
    → list_all (states_below n) values ≡ true → list_all (states_below (length values)) values
    ≡ true
each_below values n e h = subst (λ k. list_all (states_below k) values ≡ true) (sym e) h
