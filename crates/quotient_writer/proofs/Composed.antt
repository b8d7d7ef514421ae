-- One replacement of states after another.
use Rattle.std.proofs.Common.{◌≡◌, ℕ, zero, suc, ◌<◌, true, List, [], ◌∷◌, map, length, refl, sym, ap, ◌∙◌, subst, arith}
use Rattle.std.specs.Prelude.{ℤ, nat_lt, slice_index}
use Rattle.std.specs.List.{list_all}
use Rattle.std.proofs.lemmas.Bool.{and_parts, and_from, ltb-true}
use Rattle.std.proofs.lemmas.List.{get_or-map}
use Rattle.functor_terms.specs.Terms.{Nodes}
use Rattle.typing.specs.declared.value.Value.{Value, Value-F, roll-Value, map-Value, ind-Value}
use Rattle.typing.specs.Values.{relabelled, states_below}
use Rattle.typing.specs.Equality.{are_equal}
use Rattle.typing.proofs.MapLaws.{mapped, out_map, below_out, layer_below}
use Rattle.typing.proofs.NormalLaws.{same_value}
use Rattle.typing.proofs.Coarser.{eq-coarser}
use Rattle.typing.proofs.OwnLabels.{count_from, count_at, at_level, mapped_roll, onto, tested, all_pass, without, kept}

-- b and then s, and where the states go
module _ (m : ℕ) (b s : List ℕ) (goes : list_all (λ i. nat_lt i m) b ≡ true) where
  -- the composition of the two lists
  abbrev pub through : List ℕ
  through = map (slice_index s) b

  abbrev IsMoved : Value → Type 0
  IsMoved v = states_below (length b) v ≡ true
      → (relabelled s (relabelled b v) ≡ relabelled through v) × (states_below m (relabelled b v)
      ≡ true)

  abbrev n : ℕ
  n = length b

  through_at : (i : ℕ) → i < n → slice_index s (slice_index b i) ≡ slice_index through i
  through_at i h = sym (get_or-map (slice_index s) b i 0 0 h)

  goes_at : (i : ℕ) → i < n → nat_lt (slice_index b i) m ≡ true
  goes_at i h = by b i h goes
    where
      by : (c : List ℕ) (i : ℕ) → i < length c → list_all (λ j. nat_lt j m) c ≡ true
          → nat_lt (slice_index c i) m ≡ true
      by [] i h a = absurd (omega arith)
      by (x ∷ xs) zero h a = (and_parts (nat_lt x m) (list_all (λ j. nat_lt j m) xs) a).0
      by (x ∷ xs) (suc i) h a = by xs i (omega arith)
          (and_parts (nat_lt x m) (list_all (λ j. nat_lt j m) xs) a).1

  moved_list : (ys : List ((v : Value) × IsMoved v))
      → list_all (λ c. c) (map (states_below n) (map (λ e. e.0) ys)) ≡ true
      → (map (relabelled s) (map (relabelled b) (map (λ e. e.0) ys)) ≡ map (relabelled through)
      (map (λ e. e.0) ys))
      × (list_all (λ c. c) (map (states_below m) (map (relabelled b) (map (λ e. e.0) ys)))
      ≡ true)
  moved_list [] h = (refl, refl)
  moved_list (e ∷ ys) h =
      let p = and_parts (states_below n e.0)
      (list_all (λ c. c) (map (states_below n) (map (λ e. e.0) ys))) h in
      let rest = moved_list ys p.1 in
      let first = e.1 p.0 in (
        (λ i. first.0 i ∷ rest.0 i),
        and_from (states_below m (relabelled b e.0))
            (list_all (λ c. c) (map (states_below m) (map (relabelled b) (map (λ e. e.0) ys))))
            first.1 rest.1,
      )

  moved_entries : (ys : List (((v : Value) × IsMoved v) × ℤ))
      → all_pass (tested n (without IsMoved ys)) ≡ true
      → (onto s (onto b (without IsMoved ys)) ≡ onto through (without IsMoved ys))
      × (all_pass (tested m (onto b (without IsMoved ys))) ≡ true)
  moved_entries [] h = (refl, refl)
  moved_entries (e ∷ ys) h =
      let p = and_parts (states_below n e.0.0) (all_pass (tested n (without IsMoved ys))) h in
      let rest = moved_entries ys p.1 in
      let first = e.0.1 p.0 in (
        (λ i. (first.0 i, e.1) ∷ rest.0 i),
        and_from (states_below m (relabelled b e.0.0))
            (all_pass (tested m (onto b (without IsMoved ys)))) first.1 rest.1,
      )

  abbrev inside : Value-F ((v : Value) × IsMoved v) → Value-F Value
  inside y = map-Value ((v : Value) × IsMoved v) Value (λ e. e.0) y

  moved_level : (y : Value-F ((v : Value) × IsMoved v)) → layer_below n (inside y) ≡ true
      → (mapped s (mapped b (inside y)) ≡ mapped through (inside y))
      × (layer_below m (mapped b (inside y)) ≡ true)
  moved_level (Value-F.State i) h = let k = ltb-true i n h in
      (ap Value-F.State (through_at i k), goes_at i k)
  moved_level (Value-F.Label k) h = (refl, refl)
  moved_level (Value-F.Tuple ys) h = let w = moved_list ys h in (ap Value-F.Tuple w.0, w.1)
  moved_level (Value-F.Inj k e) h = let w = e.1 h in (ap (Value-F.Inj k) w.0, w.1)
  moved_level (Value-F.Set ys) h = let w = moved_list ys h in (ap Value-F.Set w.0, w.1)
  moved_level (Value-F.Weights ys) h = let w = moved_entries ys h in (ap Value-F.Weights w.0, w.1)

  -- a value is moved by two lists as by their composition
  pub moved : (v : Value) → IsMoved v
  moved = ind-Value IsMoved (λ x y is h.
      let w = subst (λ (z : Value-F Value). layer_below n z ≡ true
      → (mapped s (mapped b z) ≡ mapped through z) × (layer_below m (mapped b z) ≡ true)) is
      (moved_level y) (at_level n x h) in (
        same_value (relabelled s (relabelled b (roll-Value x))) (relabelled through (roll-Value x))
            (out_map s (relabelled b (roll-Value x)) ∙ ap (mapped s) (mapped_roll b x) ∙ w.0
            ∙ sym (mapped_roll through x)),
        below_out m (relabelled b (roll-Value x)) ∙ ap (layer_below m) (mapped_roll b x) ∙ w.1,
      ))

-- equal values stay equal under a replacement
pub equal-moved : (t : Nodes) (p : ℕ) (s : List ℕ) (u v : Value) → states_below (length s) u ≡ true
    → states_below (length s) v ≡ true → are_equal t p u v ≡ true
    → are_equal t p (relabelled s u) (relabelled s v) ≡ true
equal-moved t p s u v hu hv h =
    let f : List ℕ = count_from 0 (length s) in
    let itself : (i : ℕ) → i < length s → slice_index f i ≡ i = λ i k. count_at 0 (length s) i k
    ∙ omega arith in
    eq-coarser (length s) f s (λ i j hi hj e. ap (slice_index s) (sym (itself i hi) ∙ e
    ∙ itself j hj)) t p u v hu hv
    ((λ i. are_equal t p (kept (length s) f itself u hu i) (kept (length s) f itself v hv i))
    ∙ h)
