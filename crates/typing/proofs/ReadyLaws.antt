-- What may be relabelled may be so in each part.
use Rattle.std.proofs.Common.{◌≡◌, ℕ, ◌≤◌, ◌^◌, ◌+◌, Bool, true, ◌&&◌, List, [], ◌∷◌, map, length, refl, sym, ap, ◌∙◌, subst, true≢false}
use Rattle.std.specs.Prelude.{ℤ, unsigned_abs, nat_le, ◌==◌}
use Rattle.std.specs.List.{list_all, sum_by, AllZip}
use Rattle.std.proofs.lemmas.Bool.{and_parts, and_from, leb-true}
use Rattle.std.proofs.lemmas.List.Folds.{list_all-map}
use Rattle.std.proofs.lemmas.List.Sums.{sum_by-cons}
use Rattle.functor_terms.specs.declared.node.Node.{Node}
use Rattle.functor_terms.specs.declared.node.Node.TheVariants.{State, Constant, Naturals, Product, Sum, Power, Powerset, Bag, Distribution, Integers, Rationals}
use Rattle.typing.specs.declared.value.Value.{Value, Value-F, out-Value, fold_out-Value, map-Value}
use Rattle.typing.specs.Values.{states_below}
use Rattle.typing.specs.Fits.{Check, check_at, each_fits, fits_level}
use Rattle.functor_terms.specs.Terms.{label_count}
use Rattle.typing.specs.NormalForms.{is_ready, each_ready}
use Rattle.typing.specs.Bounds.{within_step, is_bounded}
use Rattle.typing.proofs.MapLaws.{below_out, layer_below}
use Rattle.typing.proofs.Canonical.{all_both}

abbrev layer_bounded : Value-F Value → Bool
layer_bounded x = within_step (2 ^ 126) (map-Value Value Bool is_bounded x)

-- bounds, layer by layer
pub bounded_out : (v : Value) → is_bounded v ≡ layer_bounded (out-Value v)
bounded_out v = fold_out-Value Bool (within_step (2 ^ 126)) v

-- what is known of a level of a value that may be relabelled
pub record IsReadyLevel (n : ℕ) (x : Value-F Value) : Type 0 where
  pub below : layer_below n x ≡ true
  pub bounded : layer_bounded x ≡ true

-- what is ready passes the check
pub ready_check : (n : ℕ) (x : Check) (v : Value) → is_ready n x v ≡ true → x v ≡ true
ready_check n x v h = (and_parts (x v) (states_below n v && is_bounded v) h).0

-- a layer of what is ready
pub ready_level : (n : ℕ) (x : Check) (v : Value) (y : Value-F Value) → out-Value v ≡ y
    → is_ready n x v ≡ true → IsReadyLevel n y
ready_level n x v y o h =
    let p = and_parts (states_below n v) (is_bounded v)
    (and_parts (x v) (states_below n v && is_bounded v) h).1 in
    record {
      below = ap (layer_below n) (sym o) ∙ sym (below_out n v)
          ∙ p.0;
      bounded = ap layer_bounded (sym o) ∙ sym (bounded_out v) ∙ p.1;
    }

-- what fits, within the bounds, is ready
pub ready_from : (n : ℕ) (x : Check) (v : Value) → x v ≡ true → states_below n v ≡ true
    → is_bounded v ≡ true → is_ready n x v ≡ true
ready_from n x v a b c = and_from (x v) (states_below n v && is_bounded v) a
    (and_from (states_below n v) (is_bounded v) b c)

all_ready : (n : ℕ) (x : Check) (vs : List Value) → list_all x vs ≡ true
    → list_all (λ b. b) (map (states_below n) vs) ≡ true
    → list_all (λ b. b) (map is_bounded vs) ≡ true → list_all (is_ready n x) vs ≡ true
all_ready n x vs a b c =
    all_both x (λ v. states_below n v && is_bounded v) vs a (all_both (states_below n) is_bounded vs
    (sym (list_all-map (λ b. b) (states_below n) vs)
    ∙ b) (sym (list_all-map (λ b. b) is_bounded vs) ∙ c))

pub places_ready : (n : ℕ) (xs : List Check) (vs : List Value) → each_fits xs vs ≡ true
    → list_all (λ b. b) (map (states_below n) vs) ≡ true
    → list_all (λ b. b) (map is_bounded vs) ≡ true → each_ready n xs vs ≡ true
places_ready n [] [] a b c = refl
places_ready n [] (v ∷ vs) a b c = a
places_ready n (x ∷ xs) [] a b c = a
places_ready n (x ∷ xs) (v ∷ vs) a b c =
    let p = and_parts (x v) (each_fits xs vs) a in
    let q = and_parts (states_below n v) (list_all (λ b. b) (map (states_below n) vs)) b in
    let r = and_parts (is_bounded v) (list_all (λ b. b) (map is_bounded vs)) c in
    and_from (is_ready n x v) (each_ready n xs vs) (ready_from n x v p.0 q.0 r.0)
    (places_ready n xs vs p.1 q.1 r.1)

module _ (n : ℕ) (xs : List Check) where
  -- the members of a set are ready
  pub set_ready : (m : Node) (vs : List Value) → fits_level m xs (Value-F.Set vs) ≡ true
      → IsReadyLevel n (Value-F.Set vs) → list_all (is_ready n (check_at xs 0)) vs ≡ true
  set_ready Powerset vs h r = all_ready n (check_at xs 0) vs h r.below r.bounded
  set_ready State vs h r = absurd (true≢false (sym h))
  set_ready (Constant labels) vs h r = absurd (true≢false (sym h))
  set_ready Naturals vs h r = absurd (true≢false (sym h))
  set_ready Product vs h r = absurd (true≢false (sym h))
  set_ready Sum vs h r = absurd (true≢false (sym h))
  set_ready (Power labels) vs h r = absurd (true≢false (sym h))
  set_ready Bag vs h r = absurd (true≢false (sym h))
  set_ready Distribution vs h r = absurd (true≢false (sym h))
  set_ready Integers vs h r = absurd (true≢false (sym h))
  set_ready Rationals vs h r = absurd (true≢false (sym h))

  -- the parts of a power are ready for its child
  pub power_ready : (m : Node) (vs : List Value) → fits_level m xs (Value-F.Tuple vs) ≡ true
      → (m ≡ Product → ⊥) → IsReadyLevel n (Value-F.Tuple vs)
      → list_all (is_ready n (check_at xs 0)) vs ≡ true
  power_ready (Power labels) vs h k r = all_ready n (check_at xs 0) vs
      (and_parts (length vs == label_count labels) (list_all (check_at xs 0) vs) h).1 r.below
      r.bounded
  power_ready Product vs h k r = absurd (k refl)
  power_ready State vs h k r = absurd (true≢false (sym h))
  power_ready (Constant labels) vs h k r = absurd (true≢false (sym h))
  power_ready Naturals vs h k r = absurd (true≢false (sym h))
  power_ready Sum vs h k r = absurd (true≢false (sym h))
  power_ready Powerset vs h k r = absurd (true≢false (sym h))
  power_ready Bag vs h k r = absurd (true≢false (sym h))
  power_ready Distribution vs h k r = absurd (true≢false (sym h))
  power_ready Integers vs h k r = absurd (true≢false (sym h))
  power_ready Rationals vs h k r = absurd (true≢false (sym h))

  -- the parts of a product are ready in their places
  pub product_ready : (vs : List Value) → fits_level Product xs (Value-F.Tuple vs) ≡ true
      → IsReadyLevel n (Value-F.Tuple vs) → each_ready n xs vs ≡ true
  product_ready vs h r = places_ready n xs vs h r.below r.bounded

  -- the value of an injection is ready for its child
  pub sum_ready : (m : Node) (k : ℕ) (v : Value) → fits_level m xs (Value-F.Inj k v) ≡ true
      → IsReadyLevel n (Value-F.Inj k v) → is_ready n (check_at xs k) v ≡ true
  sum_ready Sum k v h r = ready_from n (check_at xs k) v h r.below r.bounded
  sum_ready State k v h r = absurd (true≢false (sym h))
  sum_ready (Constant labels) k v h r = absurd (true≢false (sym h))
  sum_ready Naturals k v h r = absurd (true≢false (sym h))
  sum_ready Product k v h r = absurd (true≢false (sym h))
  sum_ready (Power labels) k v h r = absurd (true≢false (sym h))
  sum_ready Powerset k v h r = absurd (true≢false (sym h))
  sum_ready Bag k v h r = absurd (true≢false (sym h))
  sum_ready Distribution k v h r = absurd (true≢false (sym h))
  sum_ready Integers k v h r = absurd (true≢false (sym h))
  sum_ready Rationals k v h r = absurd (true≢false (sym h))

  entries_ready : (es : List (Value × ℤ)) → list_all (λ e. check_at xs 0 e.0) es ≡ true
      → IsReadyLevel n (Value-F.Weights es) → list_all (λ e. is_ready n (check_at xs 0) e.0) es
      ≡ true
  entries_ready es h r =
      let bounded = (and_parts (list_all (λ (e : Bool × ℤ). e.0)
      (map (λ (e : Value × ℤ). (is_bounded e.0, e.1)) es))
      (nat_le (sum_by (λ (e : Bool × ℤ). unsigned_abs e.1)
      (map (λ (e : Value × ℤ). (is_bounded e.0, e.1)) es)) (2 ^ 126)) r.bounded).0 in
      all_both (λ (e : Value × ℤ). check_at xs 0 e.0) (λ e. states_below n e.0 && is_bounded e.0) es
      h
      (all_both (λ (e : Value × ℤ). states_below n e.0) (λ e. is_bounded e.0) es
      (sym (list_all-map (λ (e : Bool × ℤ). e.0) (λ (e : Value × ℤ). (states_below n e.0, e.1)) es)
      ∙ r.below)
      (sym (list_all-map (λ (e : Bool × ℤ). e.0) (λ (e : Value × ℤ). (is_bounded e.0, e.1)) es)
      ∙ bounded))

  -- the elements of weights are ready
  pub weights_ready : (m : Node) (es : List (Value × ℤ))
      → fits_level m xs (Value-F.Weights es) ≡ true → IsReadyLevel n (Value-F.Weights es)
      → list_all (λ e. is_ready n (check_at xs 0) e.0) es ≡ true
  weights_ready Bag es h r = entries_ready es h r
  weights_ready Distribution es h r = entries_ready es h r
  weights_ready Integers es h r = entries_ready es h r
  weights_ready Rationals es h r = entries_ready es h r
  weights_ready State es h r = absurd (true≢false (sym h))
  weights_ready (Constant labels) es h r = absurd (true≢false (sym h))
  weights_ready Naturals es h r = absurd (true≢false (sym h))
  weights_ready Product es h r = absurd (true≢false (sym h))
  weights_ready Sum es h r = absurd (true≢false (sym h))
  weights_ready (Power labels) es h r = absurd (true≢false (sym h))
  weights_ready Powerset es h r = absurd (true≢false (sym h))

-- the bound on a weight list, and on one with the same weights
sum_of-map : {X Y : Type 0} (f : Y → ℕ) (g : X → Y) (xs : List X)
    → sum_by f (map g xs) ≡ sum_by (λ x. f (g x)) xs
sum_of-map f g [] = refl
sum_of-map f g (x ∷ xs) = sum_by-cons f (g x) (map g xs) ∙ ap (λ n. f (g x) + n) (sum_of-map f g xs)
    ∙ sym (sum_by-cons (λ x. f (g x)) x xs)

-- the absolute weights of what is ready have a sum within its bound
pub weights_bound : (n : ℕ) (es : List (Value × ℤ)) → IsReadyLevel n (Value-F.Weights es)
    → sum_by (λ e. unsigned_abs e.1) es ≤ 2 ^ 126
weights_bound n es r =
    let h = (and_parts (list_all (λ (e : Bool × ℤ). e.0)
    (map (λ (e : Value × ℤ). (is_bounded e.0, e.1)) es))
    (nat_le (sum_by (λ (e : Bool × ℤ). unsigned_abs e.1)
    (map (λ (e : Value × ℤ). (is_bounded e.0, e.1)) es)) (2 ^ 126)) r.bounded).1 in
    subst (λ k. k ≤ 2 ^ 126) (sum_of-map (λ (e : Bool × ℤ). unsigned_abs e.1)
    (λ (e : Value × ℤ). (is_bounded e.0, e.1)) es) (leb-true _ _ h)

-- lists with the same weights have the same absolute sum
pub bound_kept : (R : Value × ℤ → Value × ℤ → Type 0) → ((v r : Value × ℤ) → R v r → r.1 ≡ v.1)
    → (vs rs : List (Value × ℤ)) → AllZip R vs rs
    → sum_by (λ e. unsigned_abs e.1) rs ≡ sum_by (λ e. unsigned_abs e.1) vs
bound_kept R k [] [] z = refl
bound_kept R k [] (r ∷ rs) z = absurd z
bound_kept R k (v ∷ vs) [] z = absurd z
bound_kept R k (v ∷ vs) (r ∷ rs) z =
    sum_by-cons (λ (e : Value × ℤ). unsigned_abs e.1) r rs
    ∙ (λ i. unsigned_abs (k v r z.0 i) + bound_kept R k vs rs z.1 i)
    ∙ sym (sum_by-cons (λ (e : Value × ℤ). unsigned_abs e.1) v vs)
