-- Weaker tests of weight lists, and weaker checks of values by them.
use Rattle.std.proofs.Common.{◌≡◌, ℕ, ◌-◌, Bool, true, false, not, ◌&&◌, List, [], ◌∷◌, refl, sym, ap, true≢false, arith}
use Rattle.std.specs.Prelude.{ℤ, pos, negsuc, ◌==◌, nat_lt, int_lt, if◌then◌else◌}
use Rattle.std.specs.List.{list_all, AllZip}
use Rattle.std.specs.Ordering.{int_eq}
use Rattle.std.proofs.lemmas.Bool.{and_parts, and_from}
use Rattle.std.proofs.lemmas.Bool.Decides.{nat_tests}
use Rattle.functor_terms.specs.declared.node.Node.{Node}
use Rattle.functor_terms.specs.declared.node.Node.TheVariants.{State, Constant, Naturals, Product, Sum, Power, Powerset, Bag, Distribution, Integers, Rationals}
use Rattle.functor_terms.specs.Terms.{Nodes}
use Rattle.functor_terms.proofs.Folds.{fold-related}
use Rattle.typing.specs.declared.value.Value.{Value}
use Rattle.typing.specs.Values.{index, inner, parts, entries}
use Rattle.typing.specs.Bounds.{are_positive, are_from_zero, joint_weight, each_holds, entries_hold, sums_step, any_weights, sums_hold}
use Rattle.typing.specs.Fits.{Check, check_at}
use Rattle.typing.proofs.Coarser.{all_where}

none_below : (n : ℕ) → nat_lt n 0 ≡ false
none_below n = grind (arith, nat_tests)

above_not_below : (z : ℤ) → int_lt (pos 0) z ≡ true → not (int_lt z (pos 0)) ≡ true
above_not_below (pos n) h = ap not (none_below n)
above_not_below (negsuc n) h = absurd (true≢false (sym h))

-- weights above 0 are not below it
pub positive-from_zero :
    (es : List (Value × ℤ)) → are_positive es ≡ true → are_from_zero es ≡ true
positive-from_zero es h =
    all_where (λ (e : Value × ℤ). int_lt (pos 0) e.1) (λ (e : Value × ℤ). not (int_lt e.1 (pos 0)))
    es h (λ e k. above_not_below e.1 k)

-- what passes the one check passes the other
abbrev Weaker : Check → Check → Type 0
Weaker f g = (v : Value) → f v ≡ true → g v ≡ true

at_weaker :
    (fs gs : List Check) (k : ℕ) → AllZip Weaker fs gs → Weaker (check_at fs k) (check_at gs k)
at_weaker [] [] k z = λ v h. h
at_weaker [] (g ∷ gs) k z = absurd z
at_weaker (f ∷ fs) [] k z = absurd z
at_weaker (f ∷ fs) (g ∷ gs) k z = by (k == 0) (at_weaker fs gs (k - 1) z.1)
  where
    by :
        (o : Bool) → Weaker (check_at fs (k - 1)) (check_at gs (k - 1))
        → Weaker (if o then f else check_at fs (k - 1)) (if o then g else check_at gs (k - 1))
    by true later = z.0
    by false later = later

places_weaker :
    (fs gs : List Check) → AllZip Weaker fs gs → (vs : List Value)
    → each_holds fs vs ≡ true → each_holds gs vs ≡ true
places_weaker [] [] z vs h = refl
places_weaker [] (g ∷ gs) z vs h = absurd z
places_weaker (f ∷ fs) [] z vs h = absurd z
places_weaker (f ∷ fs) (g ∷ gs) z [] h = refl
places_weaker (f ∷ fs) (g ∷ gs) z (v ∷ vs) h =
    let p = and_parts (f v) (each_holds fs vs) h in
    and_from (g v) (each_holds gs vs) (z.0 v p.0) (places_weaker fs gs z.1 vs p.1)

module _ (pass other : List (Value × ℤ) → Bool)
    (weaker : (es : List (Value × ℤ)) → pass es ≡ true → other es ≡ true) (d : ℕ) where
  module _ (fs gs : List Check) (z : AllZip Weaker fs gs) where
    list_weaker : (vs : List Value) → list_all (check_at fs 0) vs ≡ true
        → list_all (check_at gs 0) vs ≡ true
    list_weaker vs h = all_where (check_at fs 0) (check_at gs 0) vs h (at_weaker fs gs 0 z)

    entries_weaker :
        (es : List (Value × ℤ)) → entries_hold (check_at fs 0) es ≡ true
        → entries_hold (check_at gs 0) es ≡ true
    entries_weaker es h =
        all_where (λ (e : Value × ℤ). check_at fs 0 e.0) (λ (e : Value × ℤ). check_at gs 0 e.0) es h
        (λ e k. at_weaker fs gs 0 z e.0 k)

    step_weaker : (m : Node) → Weaker (sums_step pass d m fs) (sums_step other d m gs)
    step_weaker State v h = refl
    step_weaker (Constant labels) v h = refl
    step_weaker Naturals v h = refl
    step_weaker Product v h = places_weaker fs gs z (parts v) h
    step_weaker Sum v h = at_weaker fs gs (index v) z (inner v) h
    step_weaker (Power labels) v h = list_weaker (parts v) h
    step_weaker Powerset v h = list_weaker (parts v) h
    step_weaker Bag v h =
        let p = and_parts (pass (entries v)) (entries_hold (check_at fs 0) (entries v)) h in
        and_from (other (entries v)) (entries_hold (check_at gs 0) (entries v))
        (weaker (entries v) p.0) (entries_weaker (entries v) p.1)
    step_weaker Distribution v h =
        let sums : Bool = int_eq (joint_weight Distribution (entries v)) (pos d) in
        let p = and_parts (pass (entries v) && sums) (entries_hold (check_at fs 0) (entries v)) h in
        let q = and_parts (pass (entries v)) sums p.0 in
        and_from (other (entries v) && sums) (entries_hold (check_at gs 0) (entries v))
        (and_from (other (entries v)) sums (weaker (entries v) q.0) q.1)
        (entries_weaker (entries v) p.1)
    step_weaker Integers v h = entries_weaker (entries v) h
    step_weaker Rationals v h = entries_weaker (entries v) h

  -- sums that hold by one test of weight lists hold by a weaker one
  pub sums-weaker :
      (t : Nodes) (p : ℕ) (v : Value) → sums_hold pass d t p v ≡ true
      → sums_hold other d t p v ≡ true
  sums-weaker t p =
      fold-related Weaker any_weights any_weights (sums_step pass d) (sums_step other d)
      (λ v h. h) (λ m fs gs z. step_weaker fs gs z m) t p
