-- The bound on weights goes on to the parts of a value, and stays where states are relabelled.
use Rattle.std.proofs.Common.{◌≡◌, ℕ, ◌≤◌, ◌^◌, ◌+◌, Bool, true, ◌&&◌, List, [], ◌∷◌, map, refl, sym, ap, ◌∙◌, subst, arith}
use Rattle.std.specs.Prelude.{ℤ, unsigned_abs, nat_le}
use Rattle.std.specs.List.{list_all}
use Rattle.std.proofs.lemmas.Bool.{and_parts, and_from, leb-true}
use Rattle.std.proofs.lemmas.List.Folds.{list_all-map}
use Rattle.std.proofs.lemmas.List.Sums.{sum_by-cons}
use Rattle.typing.specs.declared.value.Value.{Value, Value-F, out-Value, roll-Value, map-Value, ind-Value, out-roll-Value}
use Rattle.typing.specs.Values.{parts, parts_in, inner, inner_in, entries, entries_in, relabelled}
use Rattle.typing.specs.Bounds.{within_step, is_bounded, absolute_sum}
use Rattle.typing.proofs.MapLaws.{mapped, out_map}
use Rattle.typing.proofs.ReadyLaws.{bounded_out}

-- one level of a value in bounds
abbrev pub layer_bounded : Value-F Value → Bool
layer_bounded x = within_step (2 ^ 126) (map-Value Value Bool is_bounded x)

-- entries with tests for their values
abbrev pub tested : List (Value × ℤ) → List (Bool × ℤ)
tested ws = map (λ e. (is_bounded e.0, e.1)) ws

-- whether each entry passes
abbrev pub all_pass : List (Bool × ℤ) → Bool
all_pass ws = list_all (λ c. c.0) ws

sum_tested : (ws : List (Value × ℤ)) → absolute_sum (tested ws) ≡ absolute_sum ws
sum_tested [] = refl
sum_tested (w ∷ ws) =
    sum_by-cons (λ (e : Bool × ℤ). unsigned_abs e.1) (is_bounded w.0, w.1) (tested ws)
    ∙ ap (λ n. unsigned_abs w.1 + n) (sum_tested ws)
    ∙ sym (sum_by-cons (λ (e : Value × ℤ). unsigned_abs e.1) w ws)

-- the parts of a bounded value are bounded
pub parts_bounded : (v : Value) → is_bounded v ≡ true → list_all is_bounded (parts v) ≡ true
parts_bounded v h = by (out-Value v) (sym (bounded_out v) ∙ h)
  where
    by : (x : Value-F Value) → layer_bounded x ≡ true → list_all is_bounded (parts_in x) ≡ true
    by (Value-F.Tuple vs) h = sym (list_all-map (λ b. b) is_bounded vs) ∙ h
    by (Value-F.Set vs) h = sym (list_all-map (λ b. b) is_bounded vs) ∙ h
    by (Value-F.State i) h = refl
    by (Value-F.Label k) h = refl
    by (Value-F.Inj k v) h = refl
    by (Value-F.Weights es) h = refl

pub inner_bounded : (v : Value) → is_bounded v ≡ true → is_bounded (inner v) ≡ true
inner_bounded v h = by (out-Value v) (sym (bounded_out v) ∙ h)
  where
    by : (x : Value-F Value) → layer_bounded x ≡ true → is_bounded (inner_in v x) ≡ true
    by (Value-F.Tuple vs) e = h
    by (Value-F.Set vs) e = h
    by (Value-F.State i) e = h
    by (Value-F.Label k) e = h
    by (Value-F.Inj k v) e = e
    by (Value-F.Weights es) e = h

-- the elements of bounded weights are bounded
pub entries_bounded : (v : Value) → is_bounded v ≡ true → list_all (λ e. is_bounded e.0) (entries v)
    ≡ true
entries_bounded v h = by (out-Value v) (sym (bounded_out v) ∙ h)
  where
    by : (x : Value-F Value) → layer_bounded x ≡ true
        → list_all (λ e. is_bounded e.0) (entries_in x) ≡ true
    by (Value-F.Tuple vs) h = refl
    by (Value-F.Set vs) h = refl
    by (Value-F.State i) h = refl
    by (Value-F.Label k) h = refl
    by (Value-F.Inj k v) h = refl
    by (Value-F.Weights es) h =
        sym (list_all-map (λ (e : Bool × ℤ). e.0) (λ (e : Value × ℤ). (is_bounded e.0, e.1)) es)
        ∙ (and_parts (all_pass (tested es)) (nat_le (absolute_sum (tested es)) (2 ^ 126)) h).0

-- the absolute weights of a bounded value have a sum within its bound
pub entries_within : (v : Value) → is_bounded v ≡ true → absolute_sum (entries v) ≤ 2 ^ 126
entries_within v h = by (out-Value v) (sym (bounded_out v) ∙ h)
  where
    by : (x : Value-F Value) → layer_bounded x ≡ true → absolute_sum (entries_in x) ≤ 2 ^ 126
    by (Value-F.Tuple vs) h = omega arith
    by (Value-F.Set vs) h = omega arith
    by (Value-F.State i) h = omega arith
    by (Value-F.Label k) h = omega arith
    by (Value-F.Inj k v) h = omega arith
    by (Value-F.Weights es) h =
        subst (λ k. k ≤ 2 ^ 126) (sum_tested es)
        (leb-true _ _ (and_parts (all_pass (tested es)) (nat_le (absolute_sum (tested es))
        (2 ^ 126)) h).1)

-- relabelling keeps every weight
module _ (b : List ℕ) where
  abbrev IsKept : Value → Type 0
  IsKept v = is_bounded (relabelled b v) ≡ is_bounded v

  -- entries with their values relabelled
  abbrev onto : List (Value × ℤ) → List (Value × ℤ)
  onto ws = map (λ e. (relabelled b e.0, e.1)) ws

  -- entries without what is known of them
  abbrev without : List (((v : Value) × IsKept v) × ℤ) → List (Value × ℤ)
  without ys = map (λ e. (e.0.0, e.1)) ys

  kept_list : (ys : List ((v : Value) × IsKept v))
      → list_all (λ c. c) (map is_bounded (map (relabelled b) (map (λ e. e.0) ys)))
      ≡ list_all (λ c. c) (map is_bounded (map (λ e. e.0) ys))
  kept_list [] = refl
  kept_list (e ∷ ys) = λ i. e.1 i && kept_list ys i

  kept_entries : (ys : List (((v : Value) × IsKept v) × ℤ))
      → all_pass (tested (onto (without ys))) ≡ all_pass (tested (without ys))
  kept_entries [] = refl
  kept_entries (e ∷ ys) = λ i. e.0.1 i && kept_entries ys i

  kept_sum : (ws : List (Value × ℤ)) → absolute_sum (tested (onto ws)) ≡ absolute_sum (tested ws)
  kept_sum [] = refl
  kept_sum (w ∷ ws) =
      sum_by-cons (λ (e : Bool × ℤ). unsigned_abs e.1) (is_bounded (relabelled b w.0), w.1)
      (tested (onto ws))
      ∙ ap (λ n. unsigned_abs w.1 + n) (kept_sum ws)
      ∙ sym (sum_by-cons (λ (e : Bool × ℤ). unsigned_abs e.1) (is_bounded w.0, w.1) (tested ws))

  kept_level : (y : Value-F ((v : Value) × IsKept v))
      → layer_bounded (mapped b (map-Value ((v : Value) × IsKept v) Value (λ e. e.0) y))
      ≡ layer_bounded (map-Value ((v : Value) × IsKept v) Value (λ e. e.0) y)
  kept_level (Value-F.State i) = refl
  kept_level (Value-F.Label k) = refl
  kept_level (Value-F.Tuple ys) = kept_list ys
  kept_level (Value-F.Inj k e) = e.1
  kept_level (Value-F.Set ys) = kept_list ys
  kept_level (Value-F.Weights ys) = λ i. kept_entries ys i && nat_le (kept_sum (without ys) i)
      (2 ^ 126)

  pub bounded_kept : (v : Value) → is_bounded (relabelled b v) ≡ is_bounded v
  bounded_kept = ind-Value IsKept (λ x y is.
      bounded_out (relabelled b (roll-Value x))
      ∙ ap layer_bounded (out_map b (roll-Value x) ∙ ap (mapped b) (out-roll-Value x))
      ∙ subst (λ (z : Value-F Value). layer_bounded (mapped b z) ≡ layer_bounded z) is
      (kept_level y)
      ∙ sym (bounded_out (roll-Value x) ∙ ap layer_bounded (out-roll-Value x)))

  -- relabelled values of a list are bounded
  pub all_kept : (vs : List Value) → list_all is_bounded vs ≡ true
      → list_all is_bounded (map (relabelled b) vs) ≡ true
  all_kept [] h = refl
  all_kept (v ∷ vs) h =
      let p = and_parts (is_bounded v) (list_all is_bounded vs) h in
      and_from (is_bounded (relabelled b v)) (list_all is_bounded (map (relabelled b) vs))
      (bounded_kept v ∙ p.0) (all_kept vs p.1)

-- the first and the others of a list in bounds
pub first_of : {X : Type 0} (test : X → Bool) (x : X) (xs : List X) → list_all test (x ∷ xs) ≡ true
    → test x ≡ true
first_of test x xs h = (and_parts (test x) (list_all test xs) h).0

pub rest_of : {X : Type 0} (test : X → Bool) (x : X) (xs : List X) → list_all test (x ∷ xs) ≡ true
    → list_all test xs ≡ true
rest_of test x xs h = (and_parts (test x) (list_all test xs) h).1
