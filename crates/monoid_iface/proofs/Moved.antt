-- Sums of a list so far and of what is left, and what a move makes of a weight.
use Rattle.std.proofs.Common.{◌≡◌, ◌+◌, ◌*◌, ◌≤◌, ◌^◌, ℕ, zero, suc, ℤ, Bool, true, false, cond, List, [], ◌∷◌, min, refl, sym, ◌∙◌, ap, arith}
use Rattle.std.specs.Prelude.{unsigned_abs, nat_le, not, map, ◌&&◌, ◌||◌, ◌==◌, ◌≢◌}
use Rattle.std.proofs.lemmas.Bool.Decides.{nat_tests}
use Rattle.modalities.specs.declared.three.Three.{Three}
use Rattle.iface.specs.Trits.{AreTrits, each, picked, in_coarse, without_splitter}
use Rattle.iface.specs.Structures.{IsUpdated}
use Rattle.weights.specs.Monoids.{MonoidLaws, Undoes}
use Rattle.weights.specs.MonoidLaws.{associates_within, undone_within}
use Rattle.weights.specs.Sums.{size_of, sum_if}
use Rattle.weights.specs.SumLaws.{sum_if-or, size-sum_if, sum_if-map, sum_if-never}
use Rattle.monoid_iface.specs.declared.weight.GroupShape.{GroupShape}
use Rattle.monoid_iface.specs.declared.weight.GroupWeight.{GroupWeight}
use Rattle.monoid_iface.specs.Groups.{total, sum_marked, toward_of_group, value_of_sums, value_of_group}

module _
    {E : Type 0} (number : E → ℤ) (none : E) (add : E → E → E) (laws : MonoidLaws number none add)
  where
    abbrev size : List E → ℕ
    size xs = size_of number xs

    abbrev number_size : E → ℕ
    number_size x = unsigned_abs (number x)

    abbrev sum_at : (ℕ → Bool) → List E → List ℕ → E
    sum_at test xs ts = sum_if none add test xs ts

    none_size : number_size none ≡ 0
    none_size = ap unsigned_abs laws.zero_is

    pub size-total : (xs : List E) → size xs ≤ 2 ^ 126 → number_size (total none add xs) ≤ size xs
    size-total [] h = rw laws.zero_is (omega arith)
    size-total (x ∷ xs) h =
        let tail : number_size (total none add xs) ≤ size xs = size-total xs (omega arith) in
        omega (arith, laws.bounded x (total none add xs) (omega (arith, tail)), tail)

    -- the sum so far, and what is left
    pub record IsSoFar (sum : E) (rest all : List E) : Type 0 where
      pub told : add sum (total none add rest) ≡ total none add all
      pub small : number_size sum + size rest ≤ size all

    -- the sum of no element so far
    pub so_far_none : (xs : List E) → 3 * size xs ≤ 2 ^ 126 → IsSoFar none xs xs
    so_far_none xs h =
        let bound : number_size (total none add xs) ≤ size xs = size-total xs (omega arith) in
        record {
          told =
              laws.commutes none (total none add xs) (omega (arith, bound, none_size))
              ∙ laws.neutral (total none add xs) (omega (arith, bound, none_size));
          small = omega (arith, none_size);
        }

    -- one element more of a sum so far
    pub so_far_more :
        (sum x : E) (rest all : List E) → 3 * size all ≤ 2 ^ 126 →
        IsSoFar sum (x ∷ rest) all → IsSoFar (add sum x) rest all
    so_far_more sum x rest all h so =
        let bound : number_size (total none add rest) ≤ size rest =
        size-total rest (omega (arith, so.small)) in
        let bounded : number_size (add sum x) ≤ number_size sum + number_size x =
        laws.bounded sum x (omega (arith, so.small)) in
        record {
          told =
              associates_within number none add laws sum x (total none add rest)
              (omega (arith, so.small, bound))
              ∙ so.told;
          small = omega (arith, so.small, bounded);
        }

    pub so_far_all :
        (sum : E) (all : List E) → 3 * size all ≤ 2 ^ 126 → IsSoFar sum [] all →
        sum ≡ total none add all
    so_far_all sum all h so =
        sym (laws.neutral sum (omega (arith, so.small, none_size))) ∙ so.told

    -- sums by marks and by picked labels are sums by tests of trits
    marked-if :
        (f : ℕ → Bool) (xs : List E) (ts : List ℕ) →
        sum_marked none add xs (map f ts) ≡ sum_at f xs ts
    marked-if f [] ts = refl
    marked-if f (x ∷ xs) [] = refl
    marked-if f (x ∷ xs) (t ∷ ts) = rw (marked-if f xs ts) refl

    unmarked-if :
        (f : ℕ → Bool) (xs : List E) (ts : List ℕ) →
        sum_marked none add xs (map not (map f ts)) ≡ sum_at (λ t. not (f t)) xs ts
    unmarked-if f [] ts = refl
    unmarked-if f (x ∷ xs) [] = refl
    unmarked-if f (x ∷ xs) (t ∷ ts) = rw (unmarked-if f xs ts) refl

    total-picked :
        (xs : List E) (ts : List ℕ) →
        total none add (picked xs ts) ≡ sum_at (λ t. t == 2) xs ts
    total-picked [] ts = refl
    total-picked (x ∷ xs) [] = refl
    total-picked (x ∷ xs) (t ∷ ts) =
        let later : List E = picked xs ts in
        let sum : E = sum_at (λ u. u == 2) xs ts in
        let tail : total none add later ≡ sum = total-picked xs ts in
        elim (t == 2) as (λ b. total none add (cond b (x ∷ later) later) ≡ cond b (add x sum) sum) [
          | true ↦ ap (add x) tail
          | false ↦ tail
        ]

    size-picked : (xs : List E) (ts : List ℕ) → size (picked xs ts) ≤ size xs
    size-picked [] ts = omega arith
    size-picked (x ∷ xs) [] = omega arith
    size-picked (x ∷ xs) (t ∷ ts) =
        let later : List E = picked xs ts in
        let tail : size later ≤ size xs = size-picked xs ts in
        elim (t == 2) as (λ b. size (cond b (x ∷ later) later) ≤ number_size x + size xs) [
          | true ↦ omega (arith, tail)
          | false ↦ omega (arith, tail)
        ]

    -- sums by tests that say the same of trits
    on_trits :
        (p q : ℕ → Bool) → p 0 ≡ q 0 → p 1 ≡ q 1 → p 2 ≡ q 2 →
        (xs : List E) (ts : List ℕ) → AreTrits ts → sum_at p xs ts ≡ sum_at q xs ts
    on_trits p q a b c [] ts trits = refl
    on_trits p q a b c (x ∷ xs) [] trits = refl
    on_trits p q a b c (x ∷ xs) (zero ∷ ts) trits =
        rw (a, on_trits p q a b c xs ts trits.1) refl
    on_trits p q a b c (x ∷ xs) (suc zero ∷ ts) trits =
        rw (b, on_trits p q a b c xs ts trits.1) refl
    on_trits p q a b c (x ∷ xs) (suc (suc zero) ∷ ts) trits =
        rw (c, on_trits p q a b c xs ts trits.1) refl
    on_trits p q a b c (x ∷ xs) (suc (suc (suc t)) ∷ ts) trits = absurd (omega arith)

    total-all : (xs : List E) → total none add xs ≡ sum_marked none add xs (map (λ _. true) xs)
    total-all [] = refl
    total-all (x ∷ xs) = ap (add x) (total-all xs)

    none-all : (xs : List E) → sum_marked none add xs (map not (map (λ _. true) xs)) ≡ none
    none-all [] = refl
    none-all (x ∷ xs) = none-all xs

    total-two : (xs : List E) → total none add xs ≡ sum_at (λ t. t == 2) xs (each 2 xs)
    total-two [] = refl
    total-two (x ∷ xs) = ap (add x) (total-two xs)

    none-two :
        (k : ℕ) → (2 == k) ≡ false → (xs : List E) → sum_at (λ t. t == k) xs (each 2 xs) ≡ none
    none-two k h [] = refl
    none-two k h (x ∷ xs) = rw h (none-two k h xs)

    -- the weight towards all states, and the value where each target is 2
    module _
        (xs : List E) (inside outside : E) (inside_is : inside ≡ total none add xs)
        (outside_is : outside ≡ none) where
      -- the first weight of a group is the definition's
      pub all_weight :
          ◌≡◌ {A = GroupWeight E} (record { outside = outside; inside = inside })
          (toward_of_group none add xs (map (λ _. true) xs))
      all_weight = rw (inside_is, outside_is, none-all xs, total-all xs) refl

      -- the first value of a group is the definition's
      pub all_value :
          (d : ℕ) (three : Three) → three ≡ value_of_sums number none add d outside outside inside →
          three ≡ value_of_group number none add d xs (each 2 xs)
      all_value d three e =
          rw (e, inside_is, outside_is, none-two 0 refl xs, none-two 1 refl xs, total-two xs) refl

    -- the labels of a cell that move
    module _
        (sub : E → E → E) (undoes : Undoes number add sub) (xs : List E) (ts : List ℕ)
        (trits : AreTrits ts) (few : size xs ≤ 2 ^ 106) (weight : GroupWeight E) (moved : List E)
        (weight_is : weight ≡ toward_of_group none add xs (in_coarse ts))
        (moved_is : moved ≡ picked xs ts) where
      inside_is : weight.inside ≡ sum_at (λ t. nat_le 1 t) xs ts
      inside_is =
          ap (λ (w : GroupWeight E). w.inside) weight_is ∙ marked-if (λ t. nat_le 1 t) xs ts

      outside_is : weight.outside ≡ sum_at (λ t. not (nat_le 1 t)) xs ts
      outside_is =
          ap (λ (w : GroupWeight E). w.outside) weight_is ∙ unmarked-if (λ t. nat_le 1 t) xs ts

      part_is : total none add moved ≡ sum_at (λ t. t == 2) xs ts
      part_is = ap (total none add) moved_is ∙ total-picked xs ts

      -- three times the size of what moves fits 127 bits
      pub small_moved : 3 * size moved ≤ 2 ^ 126
      small_moved = rw moved_is (omega (arith, size-picked xs ts, few))

      small_if : (p : ℕ → Bool) → number_size (sum_at p xs ts) ≤ 2 ^ 106
      small_if p =
          omega (arith, size-sum_if number none add laws p xs ts (omega (arith, few)), few)

      -- the sum inside is within its bound
      pub small_inside : number_size weight.inside ≤ 2 ^ 106
      small_inside = rw inside_is (small_if (λ t. nat_le 1 t))

      -- the sum outside is within its bound
      pub small_outside : number_size weight.outside ≤ 2 ^ 106
      small_outside = rw outside_is (small_if (λ t. not (nat_le 1 t)))

      -- the sum of what moves is within its bound
      pub small_part : number_size (total none add moved) ≤ 2 ^ 106
      small_part = rw part_is (small_if (λ t. t == 2))

      never : (b c t : ℕ) → b ≢ c → ((t == b) && (t == c)) ≡ false
      never b c t ne = grind (arith, nat_tests)

      inside_parts : weight.inside ≡ add (sum_at (λ t. t == 1) xs ts) (sum_at (λ t. t == 2) xs ts)
      inside_parts =
          inside_is
          ∙ on_trits (λ t. nat_le 1 t) (λ t. (t == 1) || (t == 2)) refl refl refl xs ts trits
          ∙ sum_if-or number none add laws (λ t. t == 1) (λ t. t == 2)
          (λ t. never 1 2 t (λ e. absurd (omega (arith, e)))) xs ts (omega (arith, few))

      pub rest_of : sub weight.inside (total none add moved) ≡ sum_at (λ t. t == 1) xs ts
      rest_of =
          rw (inside_parts, part_is)
          (undone_within number none add sub laws undoes (sum_at (λ t. t == 1) xs ts)
          (sum_at (λ t. t == 2) xs ts)
          (omega (arith, small_if (λ t. t == 1), small_if (λ t. t == 2))))

      -- the sum of what stays is within its bound
      pub small_rest : number_size (sub weight.inside (total none add moved)) ≤ 2 ^ 106
      small_rest = rw rest_of (small_if (λ t. t == 1))

      -- the sum outside, and that of the labels with one trit of the coarse block
      with_outside :
          (k : ℕ) → ((t : ℕ) → (not (nat_le 1 t) && (t == k)) ≡ false) → (p : ℕ → Bool) →
          p 0 ≡ (not (nat_le 1 0) || (0 == k)) → p 1 ≡ (not (nat_le 1 1) || (1 == k)) →
          p 2 ≡ (not (nat_le 1 2) || (2 == k)) →
          add weight.outside (sum_at (λ t. t == k) xs ts) ≡ sum_at p xs ts
      with_outside k apart p a b c =
          rw outside_is
          (sym (on_trits p (λ t. not (nat_le 1 t) || (t == k)) a b c xs ts trits
          ∙ sum_if-or number none add laws (λ t. not (nat_le 1 t)) (λ t. t == k) apart xs ts
          (omega (arith, few))))

      apart_two : (t : ℕ) → (not (nat_le 1 t) && (t == 2)) ≡ false
      apart_two t = grind (arith, nat_tests)

      apart_one : (t : ℕ) → (not (nat_le 1 t) && (t == 1)) ≡ false
      apart_one t = grind (arith, nat_tests)

      same_weight :
          (a b c d : E) → a ≡ c → b ≡ d →
          ◌≡◌ {A = GroupWeight E} (record { outside = a; inside = b })
          (record { outside = c; inside = d })
      same_weight a b c d p q = rw (p, q) refl

      same_value :
          (d : ℕ) (a b c x y z : E) → a ≡ x → b ≡ y → c ≡ z →
          value_of_sums number none add d a b c ≡ value_of_sums number none add d x y z
      same_value d a b c x y z p q r = rw (p, q, r) refl

      zeros : weight.outside ≡ sum_at (λ t. t == 0) xs ts
      zeros =
          outside_is ∙ on_trits (λ t. not (nat_le 1 t)) (λ t. t == 0) refl refl refl xs ts trits

      void_at :
          (k : ℕ) → sum_at (λ t. min 1 t == k) xs ts ≡ sum_at (λ t. t == k) xs (without_splitter ts)
      void_at k = sym (sum_if-map none add (λ t. t == k) (λ t. min 1 t) xs ts)

      -- what is made of the sum of the labels that move
      module _
          (part rest other others : E) (part_e : part ≡ total none add moved)
          (rest_e : rest ≡ sub weight.inside part) (other_e : other ≡ add weight.outside part)
          (others_e : others ≡ add weight.outside rest) where
        rest_now : rest ≡ sum_at (λ t. t == 1) xs ts
        rest_now = rest_e ∙ ap (sub weight.inside) part_e ∙ rest_of

        part_now : part ≡ sum_at (λ t. t == 2) xs ts
        part_now = part_e ∙ part_is

        -- sums whose part has moved are the weights and values of an update
        pub updated :
            (d : ℕ) (nothing : E) → nothing ≡ none → (three void : Three) →
            three ≡ value_of_sums number none add d weight.outside rest part →
            void ≡ value_of_sums number none add d weight.outside weight.inside nothing →
            (shape : GroupShape) →
            IsUpdated (λ _ labels trits. value_of_group number none add d labels trits)
            (λ _ labels marks. toward_of_group none add labels marks)
            (record { outside = other; inside = rest }) (record { outside = others; inside = part })
            three void shape xs ts
        updated d nothing nothing_e three void three_e void_e shape = record {
          rest_is = same_weight _ _ _ _
              (other_e ∙ ap (add weight.outside) part_now
              ∙ with_outside 2 apart_two (λ t. not (t == 1)) refl refl refl
              ∙ sym (unmarked-if (λ t. t == 1) xs ts))
              (rest_now ∙ sym (marked-if (λ t. t == 1) xs ts));
          part_is = same_weight _ _ _ _
              (others_e ∙ ap (add weight.outside) rest_now
              ∙ with_outside 1 apart_one (λ t. not (t == 2)) refl refl refl
              ∙ sym (unmarked-if (λ t. t == 2) xs ts))
              (part_now ∙ sym (marked-if (λ t. t == 2) xs ts));
          three_is = three_e ∙ same_value d _ _ _ _ _ _ zeros rest_now part_now;
          void_is =
              void_e
              ∙ same_value d _ _ _ _ _ _
              (zeros ∙ on_trits (λ t. t == 0) (λ t. min 1 t == 0) refl refl refl xs ts trits
              ∙ void_at 0)
              (inside_is
              ∙ on_trits (λ t. nat_le 1 t) (λ t. min 1 t == 1) refl refl refl xs ts trits
              ∙ void_at 1)
              (nothing_e ∙ sym (sum_if-never none add xs ts)
              ∙ on_trits (λ _. false) (λ t. min 1 t == 2) refl refl refl xs ts trits ∙ void_at 2);
        }
