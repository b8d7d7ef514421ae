-- The laws of the interface of weights in a group.
--     value_tells          the value tells the three sums
--     start_law, split_law, merged      the laws, for sums
--     group_laws           the laws
use Rattle.std.specs.Prelude.{◌≡◌, ◌≢◌, ◌≤◌, ◌^◌, ◌*◌, ℕ, ℤ, ◌==◌, Bool, true, false, cond, List, [], ◌∷◌, length, map, refl}
use Rattle.std.proofs.Common.{sym, ◌∙◌, ap, subst, inl, inr, arith}
use Rattle.std.proofs.lemmas.Bool.Decides.{nat_tests, eqb_tells}
use Rattle.modalities.specs.declared.three.Three.{Three}
use Rattle.modalities.specs.Order.{sums_of}
use Rattle.iface.specs.Structures.{Classed, IfaceLaws, joined, three_way}
use Rattle.iface.specs.Trits.{each}
use Rattle.weights.specs.Monoids.{MonoidLaws}
use Rattle.weights.specs.Fractions.{lowest_terms}
use Rattle.weights.specs.FractionLaws.{same_from_lowest_terms}
use Rattle.weights.specs.Sums.{sum_if}
use Rattle.weights.specs.SumLaws.{sums_merge, sum_if-map, sum_if-same}
use Rattle.monoid_iface.specs.declared.weight.GroupShape.{GroupShape}
use Rattle.monoid_iface.specs.Groups.{few_weights, value_of_group, agree_of_groups}

two_test : (a b : Bool) → (cond a 2 (cond b 1 0) == 2) ≡ a
two_test true b = refl
two_test false true = refl
two_test false false = refl

one_test : (old new c : ℕ) → old ≢ new → (three_way old new c == 1) ≡ (c == old)
one_test old new c ne = grind (arith, nat_tests)

joined_test : (old new k c : ℕ) → k ≢ old → k ≢ new → (joined old new c == k) ≡ (c == k)
joined_test old new k c not_old not_new = grind (arith, nat_tests)

module _
    {E : Type 0} (number : E → ℤ) (none : E) (add : E → E → E) (laws : MonoidLaws number none add)
    (denominator : ℕ) (positive : 1 ≤ denominator) where
  abbrev value : List E → List ℕ → Three
  value labels trits = value_of_group number none add denominator labels trits

  abbrev sum_at : (ℕ → Bool) → List E → List ℕ → E
  sum_at test labels classes = sum_if none add test labels classes

  -- each class has the same sum in both
  abbrev SameSums : List E → List ℕ → List E → List ℕ → Type 0
  SameSums xs cs ys ds = (k : ℕ) → sum_at (λ c. c == k) xs cs ≡ sum_at (λ c. c == k) ys ds

  -- a fraction in lowest terms tells its sum
  told : (a b : E) → lowest_terms (number a) denominator ≡ lowest_terms (number b) denominator
      → a ≡ b
  told a b e = laws.told a b (same_from_lowest_terms _ _ denominator positive e)

  -- the value tells the sums of 1 and of 2
  value_tells :
      (xs ys : List E) (ts us : List ℕ) → value xs ts ≡ value ys us →
      (sum_at (λ t. t == 1) xs ts ≡ sum_at (λ t. t == 1) ys us)
      × (sum_at (λ t. t == 2) xs ts ≡ sum_at (λ t. t == 2) ys us)
  value_tells xs ys ts us e =
      (told _ _ (ap (λ v. (sums_of v).at_one) e), told _ _ (ap (λ v. (sums_of v).at_two) e))

  -- the sum at a class where all targets have one class
  sum-constant :
      (class k : ℕ) (xs : List E) (cs : List ℕ) → length cs ≡ length xs →
      sum_at (λ c. c == k) xs (map (λ _. class) cs)
      ≡ cond (class == k) (sum_at (λ t. t == 2) xs (each 2 xs)) none
  sum-constant class k [] [] e =
      elim (class == k) as (λ b. none ≡ cond b none none) [ true ↦ refl | false ↦ refl ]
  sum-constant class k [] (c ∷ cs) e = absurd (omega arith)
  sum-constant class k (x ∷ xs) [] e = absurd (omega arith)
  sum-constant class k (x ∷ xs) (c ∷ cs) e =
      rw (sum-constant class k xs cs (omega arith))
      (step (class == k) x (sum_at (λ t. t == 2) xs (each 2 xs)))
    where
      step :
          (b : Bool) (x s : E) →
          cond b (add x (cond b s none)) (cond b s none) ≡ cond b (add x s) none
      step true x s = refl
      step false x s = refl

  start_law :
      (x y : Classed GroupShape E) (class : ℕ) → length x.classes ≡ length x.labels →
      length y.classes ≡ length y.labels →
      value x.labels (each 2 x.labels) ≡ value y.labels (each 2 y.labels) →
      SameSums x.labels (map (λ _. class) x.classes) y.labels (map (λ _. class) y.classes)
  start_law x y class fx fy same k =
      sum-constant class k x.labels x.classes fx
      ∙ ap (λ s. cond (class == k) s none)
      (value_tells x.labels y.labels (each 2 x.labels) (each 2 y.labels) same).1
      ∙ sym (sum-constant class k y.labels y.classes fy)

  -- the sums that a value tells, where a new class is split off an old one
  at_two :
      (old new : ℕ) (xs : List E) (cs : List ℕ) →
      sum_at (λ t. t == 2) xs (map (three_way old new) cs) ≡ sum_at (λ c. c == new) xs cs
  at_two old new xs cs =
      sum_if-map none add (λ t. t == 2) (three_way old new) xs cs
      ∙ sum_if-same none add _ _ (λ c. two_test (c == new) (c == old)) xs cs

  at_one :
      (old new : ℕ) → old ≢ new → (xs : List E) (cs : List ℕ) →
      sum_at (λ t. t == 1) xs (map (three_way old new) cs) ≡ sum_at (λ c. c == old) xs cs
  at_one old new ne xs cs =
      sum_if-map none add (λ t. t == 1) (three_way old new) xs cs
      ∙ sum_if-same none add _ _ (λ c. one_test old new c ne) xs cs

  at_other :
      (old new k : ℕ) → k ≢ old → k ≢ new → (xs : List E) (cs : List ℕ) →
      sum_at (λ c. c == k) xs (map (joined old new) cs) ≡ sum_at (λ c. c == k) xs cs
  at_other old new k not_old not_new xs cs =
      sum_if-map none add (λ c. c == k) (joined old new) xs cs
      ∙ sum_if-same none add _ _ (λ c. joined_test old new k c not_old not_new) xs cs

  split_law :
      (old new : ℕ) (xs ys : List E) (cs ds : List ℕ) → old ≢ new →
      SameSums xs (map (joined old new) cs) ys (map (joined old new) ds) →
      value xs (map (three_way old new) cs) ≡ value ys (map (three_way old new) ds) →
      SameSums xs cs ys ds
  split_law old new xs ys cs ds apart same values k =
      let told = value_tells xs ys (map (three_way old new) cs) (map (three_way old new) ds)
      values in
      elim (eqb_tells k new) [
        | inl is_new ↦
            subst (λ n. sum_at (λ c. c == n) xs cs ≡ sum_at (λ c. c == n) ys ds) (sym is_new.1)
            (sym (at_two old new xs cs) ∙ told.1 ∙ at_two old new ys ds)
        | inr not_new ↦ elim (eqb_tells k old) [
          | inl is_old ↦
              subst (λ n. sum_at (λ c. c == n) xs cs ≡ sum_at (λ c. c == n) ys ds) (sym is_old.1)
              (sym (at_one old new apart xs cs) ∙ told.0 ∙ at_one old new apart ys ds)
          | inr not_old ↦
              sym (at_other old new k not_old.1 not_new.1 xs cs) ∙ same k
              ∙ at_other old new k not_old.1 not_new.1 ys ds
        ]
      ]

  -- merged classes have the same sums
  merged :
      (x y : Classed GroupShape E) (f : ℕ → ℕ) → few_weights number x.labels →
      few_weights number y.labels → SameSums x.labels x.classes y.labels y.classes →
      SameSums x.labels (map f x.classes) y.labels (map f y.classes)
  merged x y f hx hy same k =
      sum_if-map none add (λ c. c == k) f x.labels x.classes
      ∙ sums_merge number none add laws x.labels y.labels x.classes y.classes (omega (arith, hx))
      (omega (arith, hy)) same (λ c. f c == k)
      ∙ sym (sum_if-map none add (λ c. c == k) f y.labels y.classes)

  pub group_laws :
      IfaceLaws {Shape = GroupShape} {Label = E} (λ shape. shape.node) (λ _ _. Unit {0})
      (λ _ labels. few_weights number labels)
      (λ _ labels trits. value_of_group number none add denominator labels trits)
      (agree_of_groups none add)
  group_laws = record {
    start = λ x y class fx fy kin same_node same.
        (same_node, start_law x y class fx.one_each fy.one_each same);
    splits = λ x y old new apart fx fy agree same.
        (agree.0, split_law old new x.labels y.labels x.classes y.classes apart agree.1 same);
    merges = λ x y f fx fy agree. (agree.0, merged x y f fx.fit fy.fit agree.1);
    one_node = λ x y fx fy agree. agree.0;
    one_value = λ x y h numbering fx fy agree.
        let same = merged x y h fx.fit fy.fit agree.1 in rw (same 0, same 1, same 2) refl;
  }
