-- Rescaling keeps the signs of weights, and over the larger denominator their sums.
use Rattle.std.proofs.Common.{◌≡◌, ℕ, ◌-◌, ◌*◌, ◌≤◌, Bool, true, false, ◌&&◌, List, [], ◌∷◌, refl, sym, ap, ◌∙◌}
use Rattle.std.specs.Prelude.{ℤ, pos, ◌+ℤ◌, int_lt, ◌==◌, if◌then◌else◌}
use Rattle.std.specs.List.{list_all}
use Rattle.std.specs.Ordering.{int_eq}
use Rattle.std.proofs.Math.Nat.{mul_comm}
use Rattle.std.proofs.lemmas.List.Folds.{list_all-map}
use Rattle.functor_terms.specs.declared.node.Node.{Node}
use Rattle.functor_terms.specs.declared.node.Node.TheVariants.{State, Constant, Naturals, Product, Sum, Power, Powerset, Bag, Distribution, Integers, Rationals}
use Rattle.functor_terms.specs.Lists.{Zip3}
use Rattle.functor_terms.specs.Terms.{Nodes}
use Rattle.functor_terms.proofs.Folds.{fold-related3}
use Rattle.typing.specs.declared.value.Value.{Value}
use Rattle.typing.specs.Values.{index, inner, parts, entries}
use Rattle.typing.specs.Bounds.{are_positive, joint_weight, each_holds, entries_hold, weights_step, any_weights, weights_hold}
use Rattle.typing.specs.Fits.{Check, check_at, fits}
use Rattle.rescaling.specs.Rescaled.{Rescale, no_rescale, rescale_at, rescaled_places, rescaled_weight, rescaled_entries, rescaled}
use Rattle.rescaling.proofs.Numbers.{weight-keeps}
use Rattle.rescaling.proofs.Levels.{by_child, all_same}
use Rattle.rescaling.proofs.ByNode.{formed_step, formed, tuple_parts, set_parts, inj_index, inj_inner, weights_entries, rescaled-formed}

-- what the second check says of a value, the first says of what it becomes
record KeepsSums (a b : Check) (n : Rescale) : Type 0 where
  pub same : (v : Value) → a (n v) ≡ b v

at_sums :
    (xs ys : List Check) (ns : List Rescale) (k : ℕ) → Zip3 KeepsSums xs ys ns →
    KeepsSums (check_at xs k) (check_at ys k) (rescale_at ns k)
at_sums [] [] [] k z = record { same = λ v. refl }
at_sums [] [] (n ∷ ns) k z = absurd z
at_sums [] (y ∷ ys) ns k z = absurd z
at_sums (x ∷ xs) [] ns k z = absurd z
at_sums (x ∷ xs) (y ∷ ys) [] k z = absurd z
at_sums (x ∷ xs) (y ∷ ys) (n ∷ ns) k z = by (k == 0) (at_sums xs ys ns (k - 1) z.1)
  where
    by :
        (b : Bool) → KeepsSums (check_at xs (k - 1)) (check_at ys (k - 1)) (rescale_at ns (k - 1)) →
        KeepsSums (if b then x else check_at xs (k - 1)) (if b then y else check_at ys (k - 1))
        (if b then n else rescale_at ns (k - 1))
    by true later = z.0
    by false later = later

places_sums :
    (xs ys : List Check) (ns : List Rescale) → Zip3 KeepsSums xs ys ns → (vs : List Value) →
    each_holds xs (rescaled_places ns vs) ≡ each_holds ys vs
places_sums [] [] [] z vs = refl
places_sums [] [] (n ∷ ns) z vs = absurd z
places_sums [] (y ∷ ys) ns z vs = absurd z
places_sums (x ∷ xs) [] ns z vs = absurd z
places_sums (x ∷ xs) (y ∷ ys) [] z vs = absurd z
places_sums (x ∷ xs) (y ∷ ys) (n ∷ ns) z [] = refl
places_sums (x ∷ xs) (y ∷ ys) (n ∷ ns) z (v ∷ vs) =
    λ i. z.0.same v i && places_sums xs ys ns z.1 vs i

module _ (k l : ℕ) (some : 1 ≤ k) where
  -- weights over the two denominators
  module _ (m : Node) (n : Rescale) where
    abbrev weighed : List (Value × ℤ) → List (Value × ℤ)
    weighed es = rescaled_entries k m n es

    positive_same : (es : List (Value × ℤ)) → are_positive (weighed es) ≡ are_positive es
    positive_same [] = refl
    positive_same (e ∷ es) =
        let keeps = weight-keeps k m some in
        let here = ap (λ x. int_lt x (rescaled_weight k m e.1)) (sym keeps.none)
        ∙ keeps.below (pos 0) e.1 in
        λ i. here i && positive_same es i

    joint_same :
        (es : List (Value × ℤ)) →
        joint_weight Distribution (weighed es)
        ≡ rescaled_weight k m (joint_weight Distribution es)
    joint_same [] = sym (weight-keeps k m some).none
    joint_same (e ∷ es) =
        ap (λ x. rescaled_weight k m e.1 +ℤ x) (joint_same es)
        ∙ sym ((weight-keeps k m some).sums e.1 (joint_weight Distribution es))

  -- a whole is rescaled to the whole
  whole_same :
      (n : Rescale) (es : List (Value × ℤ)) →
      int_eq (joint_weight Distribution (rescaled_entries k Distribution n es)) (pos (k * l))
      ≡ int_eq (joint_weight Distribution es) (pos l)
  whole_same n es =
      (λ i. int_eq (joint_same Distribution n es i) (pos (mul_comm k l i)))
      ∙ (weight-keeps k Distribution some).equal (joint_weight Distribution es) (pos l)

  module _ (xs ys : List Check) (ns : List Rescale) (z : Zip3 KeepsSums xs ys ns) where
    child_sums :
        (vs : List Value) → list_all (check_at xs 0) (by_child ns vs) ≡ list_all (check_at ys 0) vs
    child_sums vs =
        list_all-map (check_at xs 0) (rescale_at ns 0) vs
        ∙ all_same (λ v. check_at xs 0 (rescale_at ns 0 v)) (check_at ys 0) vs
        (at_sums xs ys ns 0 z).same

    entries_sums :
        (m : Node) (es : List (Value × ℤ)) →
        entries_hold (check_at xs 0) (rescaled_entries k m (rescale_at ns 0) es)
        ≡ entries_hold (check_at ys 0) es
    entries_sums m [] = refl
    entries_sums m (e ∷ es) = λ i. (at_sums xs ys ns 0 z).same e.0 i && entries_sums m es i

    -- the entries of what a node of weights makes
    abbrev made : Node → Value → List (Value × ℤ)
    made m v = rescaled_entries k m (rescale_at ns 0) (entries v)

    node_sums :
        (m : Node) (v : Value) →
        weights_step (k * l) m xs (formed_step k m ns v) ≡ weights_step l m ys v
    node_sums State v = refl
    node_sums (Constant labels) v = refl
    node_sums Naturals v = refl
    node_sums Product v =
        ap (each_holds xs) (tuple_parts (rescaled_places ns (parts v)))
        ∙ places_sums xs ys ns z (parts v)
    node_sums Sum v =
        let x : Value = rescale_at ns (index v) (inner v) in
        (λ i. check_at xs (inj_index (index v) x i) (inj_inner (index v) x i))
        ∙ (at_sums xs ys ns (index v) z).same (inner v)
    node_sums (Power labels) v =
        ap (list_all (check_at xs 0)) (tuple_parts (by_child ns (parts v))) ∙ child_sums (parts v)
    node_sums Powerset v =
        ap (list_all (check_at xs 0)) (set_parts (by_child ns (parts v))) ∙ child_sums (parts v)
    node_sums Bag v =
        let out = weights_entries (made Bag v) in
        (λ i. are_positive (out i) && entries_hold (check_at xs 0) (out i))
        ∙ (λ i. positive_same Bag (rescale_at ns 0) (entries v) i && entries_sums Bag (entries v) i)
    node_sums Distribution v =
        let out = weights_entries (made Distribution v) in
        (λ i. are_positive (out i)
        && int_eq (joint_weight Distribution (out i)) (pos (k * l))
        && entries_hold (check_at xs 0) (out i))
        ∙ (λ i. positive_same Distribution (rescale_at ns 0) (entries v) i
        && whole_same (rescale_at ns 0) (entries v) i
        && entries_sums Distribution (entries v) i)
    node_sums Integers v =
        ap (entries_hold (check_at xs 0)) (weights_entries (made Integers v))
        ∙ entries_sums Integers (entries v)
    node_sums Rationals v =
        ap (entries_hold (check_at xs 0)) (weights_entries (made Rationals v))
        ∙ entries_sums Rationals (entries v)

  step_sums :
      (m : Node) (xs ys : List Check) (ns : List Rescale) → Zip3 KeepsSums xs ys ns →
      KeepsSums (weights_step (k * l) m xs) (weights_step l m ys) (formed_step k m ns)
  step_sums m xs ys ns z = record { same = node_sums xs ys ns z m }

  formed-sums : (t : Nodes) (p : ℕ) (v : Value) →
      weights_hold (k * l) t p (formed k t p v) ≡ weights_hold l t p v
  formed-sums t p =
      (fold-related3 KeepsSums any_weights any_weights no_rescale (weights_step (k * l))
      (weights_step l) (formed_step k) (record { same = λ v. refl }) step_sums t p).same

  -- a value that fits has its sums over the larger denominator exactly where it had them before
  pub rescaled-sums :
      (t : Nodes) (p : ℕ) (v : Value) → fits t p v ≡ true →
      weights_hold (k * l) t p (rescaled k t p v) ≡ weights_hold l t p v
  rescaled-sums t p v h =
      ap (weights_hold (k * l) t p) (rescaled-formed k t p v h) ∙ formed-sums t p v
