-- The greatest stable list, and what follows for equivalence.
use Rattle.std.proofs.Common.{◌≡◌, ℕ, zero, suc, ◌+◌, ◌<◌, ◌≤◌, Bool, true, false, List, [], ◌∷◌, length, Some, slice_get, refl, sym, ap, ◌∙◌, subst, true≢false, arith}
use Rattle.std.specs.Prelude.{slice_index, ◌*◌}
use Rattle.std.specs.Cmp.{IsEquivalence}
use Rattle.std.specs.List.{list_all}
use Rattle.std.specs.Option.{option_map}
use Rattle.std.proofs.lemmas.Cmp.{on_equiv}
use Rattle.std.proofs.lemmas.Bool.{and_parts}
use Rattle.std.proofs.lemmas.List.{length-map, length-replicate}
use Rattle.std.proofs.Common.{replicate}
use Rattle.std.proofs.lemmas.Slice.Eq.{bytes_eq-Decides}
use Rattle.std.specs.Str.{bytes_eq}
use Rattle.std.proofs.lemmas.Option.{slice_get-map, get_or_from_slice_get, same_Some, slice_get_within}
use Rattle.functor_terms.specs.Terms.{Nodes}
use Rattle.typing.specs.declared.value.Value.{Value}
use Rattle.typing.specs.Values.{relabelled, states_below}
use Rattle.typing.specs.Equality.{Test, are_equal}
use Rattle.typing.specs.Stable.{IsStable, AreEquivalent, IsFirst, Refines, first_equal, regrouped}
use Rattle.typing.proofs.EqualityLaws.{eq-equivalence}
use Rattle.typing.proofs.Coarser.{eq-coarser}
use Rattle.typing.proofs.FirstPlaces.{first_of-le, first_of-same, first_of-at, first_of-equal, total, sum_grows, sum_bounded}

-- an element in a range
pub element : {X : Type 0} (xs : List X) (i : ℕ) → i < length xs
    → (x : X) × (slice_get xs i ≡ Some x)
element [] i h = absurd (omega arith)
element (x ∷ xs) zero h = (x, refl)
element (x ∷ xs) (suc i) h = element xs i (omega arith)

-- what a test says of each element
pub each_of : {X : Type 0} (p : X → Bool) (xs : List X) → list_all p xs ≡ true → (i : ℕ) (x : X)
    → slice_get xs i ≡ Some x → p x ≡ true
each_of p [] h i x e = absurd (omega (arith, slice_get_within [] i x e))
each_of p (y ∷ ys) h zero x e = ap p (sym (same_Some y x e)) ∙ (and_parts (p y) (list_all p ys) h).0
each_of p (y ∷ ys) h (suc i) x e = each_of p ys (and_parts (p y) (list_all p ys) h).1 i x e

module _ (t : Nodes) (values : List Value) where
  -- two structures under a list
  unfoldable pub under : List ℕ → Test
  under b u v = are_equal t 0 (relabelled b u) (relabelled b v)

  under-equivalence : (b : List ℕ) → IsEquivalence (under b)
  unfolding under
  under-equivalence b = on_equiv (relabelled b) (eq-equivalence t 0)

  -- A labelling with which a round may begin: each state's number is the least state of its class,
  -- every stable list refines it,
  -- and states whose structures are equal under it are in one class.
  pub record IsRound (b : List ℕ) : Type 0 where
    pub covers : length b ≡ length values
    pub least : (i j : ℕ) → i < length values → j < length values
        → slice_index b i ≡ slice_index b j → slice_index b i ≤ j
    pub itself : (i : ℕ) → i < length values → slice_index b (slice_index b i) ≡ slice_index b i
    pub above : (s : List ℕ) → IsStable t values s → Refines s b
    pub settled : (i j : ℕ) (u v : Value) → slice_get values i ≡ Some u
        → slice_get values j ≡ Some v → under b u v ≡ true → slice_index b i ≡ slice_index b j

  module _ (within : list_all (states_below (length values)) values ≡ true) where
    states_of : (i : ℕ) (u : Value) → slice_get values i ≡ Some u
        → states_below (length values) u ≡ true
    states_of = each_of (states_below (length values)) values within

    -- what is equal under a list is so under each list that it refines
    pub under_coarser : (b c : List ℕ) → length c ≡ length values → Refines b c
        → (i j : ℕ) (u v : Value) → slice_get values i ≡ Some u → slice_get values j ≡ Some v
        → under b u v ≡ true → under c u v ≡ true
    unfolding under
    under_coarser b c l r i j u v at at' h =
        eq-coarser (length values) b c (λ k m bk bm e. r k m (subst (λ n. k < n) (sym l) bk)
        (subst (λ n. m < n) (sym l) bm) e) t 0 u v (states_of i u at) (states_of j v at') h

    regrouped_at : (b : List ℕ) (i : ℕ) (u : Value) → slice_get values i ≡ Some u
        → slice_index (regrouped t values b) i ≡ first_equal t values b u
    regrouped_at b i u at =
        get_or_from_slice_get (regrouped t values b) i (first_equal t values b u) 0
        (slice_get-map (first_equal t values b) values i
        ∙ ap (option_map (first_equal t values b)) at)

    pub regrouped_length : (b : List ℕ) → length (regrouped t values b) ≡ length values
    regrouped_length b = rw length-map

    -- one class after the round exactly where the structures are equal
    pub regrouped_equal : (b : List ℕ) (i j : ℕ) (u v : Value) → slice_get values i ≡ Some u
        → slice_get values j ≡ Some v
        → slice_index (regrouped t values b) i ≡ slice_index (regrouped t values b) j
        → under b u v ≡ true
    unfolding under
    regrouped_equal b i j u v at at' h = first_of-equal (under b) (under-equivalence b) values i j u
        v at at' (sym (regrouped_at b i u at) ∙ h ∙ regrouped_at b j v at')

    pub regrouped_same : (b : List ℕ) (i j : ℕ) (u v : Value) → slice_get values i ≡ Some u
        → slice_get values j ≡ Some v → under b u v ≡ true
        → slice_index (regrouped t values b) i ≡ slice_index (regrouped t values b) j
    unfolding under
    regrouped_same b i j u v at at' h = regrouped_at b i u at
        ∙ first_of-same (under b) (under-equivalence b) values u v h ∙ sym (regrouped_at b j v at')

    module _ (b : List ℕ) (is : IsRound b) where
      -- the round splits classes, and joins none
      refines : Refines (regrouped t values b) b
      refines i j hi hj h =
          let (u, at) = element values i (subst (λ n. i < n) is.covers hi) in
          let (v, at') = element values j (subst (λ n. j < n) is.covers hj) in
          is.settled i j u v at at' (regrouped_equal b i j u v at at' h)

      next_least : (i j : ℕ) → i < length values → j < length values
          → slice_index (regrouped t values b) i ≡ slice_index (regrouped t values b) j
          → slice_index (regrouped t values b) i ≤ j
      unfolding under
      next_least i j hi hj h =
          let (u, at) = element values i hi in
          let (v, at') = element values j hj in
          subst (λ n. n ≤ j) (sym (regrouped_at b i u at))
          (first_of-le (under b) (under-equivalence b) values i j u v at'
          (regrouped_equal b i j u v at at' h))

      next_itself : (i : ℕ) → i < length values
          → slice_index (regrouped t values b) (slice_index (regrouped t values b) i) ≡ slice_index
          (regrouped t values b) i
      unfolding under
      next_itself i hi =
          let (u, at) = element values i hi in
          let (w, at', same) = first_of-at (under b) (under-equivalence b) values i u at in
          let place : slice_index (regrouped t values b) i ≡ first_equal t values b u = regrouped_at
          b i u at in
          ap (slice_index (regrouped t values b)) place
          ∙ regrouped_same b (first_equal t values b u) i w u at' at same

      next_above : (s : List ℕ) → IsStable t values s → Refines s (regrouped t values b)
      unfolding under
      next_above s stable i j hi hj h =
          let bi : i < length values = subst (λ n. i < n) (regrouped_length b) hi in
          let bj : j < length values = subst (λ n. j < n) (regrouped_length b) hj in
          let (u, at) = element values i bi in
          let (v, at') = element values j bj in
          regrouped_same b i j u v at at' (under_coarser s b is.covers (is.above s stable) i j u v
          at at' (stable.equal i j u v at at' h))

      next_settled : (i j : ℕ) (u v : Value) → slice_get values i ≡ Some u
          → slice_get values j ≡ Some v → under (regrouped t values b) u v ≡ true
          → slice_index (regrouped t values b) i ≡ slice_index (regrouped t values b) j
      next_settled i j u v at at' h = regrouped_same b i j u v at at'
          (under_coarser (regrouped t values b) b is.covers refines i j u v at at' h)

      -- the next list of a round is made by its rule
      pub next-IsRound : IsRound (regrouped t values b)
      next-IsRound = record {
        covers = regrouped_length b;
        least = next_least;
        itself = next_itself;
        above = next_above;
        settled = next_settled;
      }

      -- where the round splits a class, the sum of the numbers grows
      pub next_grows : (regrouped t values b ≡ b → ⊥) → total b < total (regrouped t values b)
      next_grows differ = sum_grows b (regrouped t values b) (is.covers ∙ sym (regrouped_length b))
          grows (λ e. differ (sym e))
        where
          grows : (i : ℕ) → i < length b → slice_index b i ≤ slice_index (regrouped t values b) i
          grows i h =
              let hi : i < length values = subst (λ n. i < n) is.covers h in
              let below : slice_index (regrouped t values b) i ≤ i = next_least i i hi hi refl in
              let hf : slice_index (regrouped t values b) i < length values = omega arith in
              let inside : (k : ℕ) → k < length values
              → k < length b = λ k w. subst (λ n. k < n) (sym is.covers) w in
              is.least i (slice_index (regrouped t values b) i) hi hf
              (sym (refines (slice_index (regrouped t values b) i) i
              (inside (slice_index (regrouped t values b) i) hf) (inside i hi)
              (next_itself i hi)))

      -- and it stays below the square of the number of states
      pub total_bounded : total b ≤ length values * length values
      total_bounded = subst (λ n. total b ≤ n * length values) is.covers
          (sum_bounded (length values) b (λ i h. let w = is.least i i (subst (λ n. i < n) is.covers
          h) (subst (λ n. i < n) is.covers h) refl in omega (arith, w, is.covers)))

      -- a round that splits nothing leaves a stable list
      pub round-stable : regrouped t values b ≡ b → IsStable t values b
      unfolding under
      round-stable e = record {
        covers = is.covers;
        equal = λ i j u v at at' h. regrouped_equal b i
            j u v at at' (subst (λ l. slice_index l i ≡ slice_index l j) (sym e) h);
      }

      -- and each state's number is then the first state that is equivalent to it
      pub round-first : IsStable t values b → (i : ℕ) → i < length values
          → IsFirst t values i (slice_index b i)
      round-first stable i hi =
          let below : slice_index b i ≤ i = is.least i i hi hi refl in
          record {
            equivalent = (
              hi,
              (let w : slice_index b i < length values = omega arith in
                  w),
              b,
              stable,
              sym (is.itself i hi),
            );
            least = λ j q. let (hi', hj, s, stable', same) = q in
                is.least i j hi hj (is.above s stable' i j (subst (λ n. i < n) (sym is.covers) hi)
                (subst (λ n. j < n) (sym is.covers) hj) same);
          }

    zeros : (n i : ℕ) → slice_index (replicate n 0) i ≡ 0
    zeros zero i = refl
    zeros (suc n) zero = refl
    zeros (suc n) (suc i) = zeros n i

    -- one class is such a labelling
    pub start-IsRound : (b : List ℕ) → length b ≡ length values → ((i : ℕ) → slice_index b i ≡ 0)
        → IsRound b
    start-IsRound b covers zero_at = record {
      covers = covers;
      least = λ i j hi hj h. omega (arith, zero_at i);
      itself = λ i hi. zero_at (slice_index b i) ∙ sym (zero_at i);
      above = λ s stable i j hi hj h. zero_at i ∙ sym (zero_at j);
      settled = λ i j u v at at' h. zero_at i ∙ sym (zero_at j);
    }

    pub zeros_round : IsRound (replicate (length values) 0)
    zeros_round = start-IsRound (replicate (length values) 0) (length-replicate (length values) 0)
        (zeros (length values))

    -- so some labelling is stable, and every stable list refines it
    fixed : (k : ℕ) (b : List ℕ) → IsRound b → length values * length values < total b + k
        → (r : List ℕ) × IsRound r × (regrouped t values r ≡ r)
    fixed zero b is h = absurd (omega (arith, total_bounded b is))
    fixed (suc k) b is h = by (bytes_eq (regrouped t values b) b) refl
        (λ e. fixed k (regrouped t values b) (next-IsRound b is) (omega (arith, next_grows b is e)))
      where
        by : (o : Bool) → bytes_eq (regrouped t values b) b ≡ o → ((regrouped t values b ≡ b → ⊥)
            → (r : List ℕ) × IsRound r × (regrouped t values r ≡ r))
            → (r : List ℕ) × IsRound r × (regrouped t values r ≡ r)
        by true e later = (b, is, (bytes_eq-Decides (regrouped t values b) b).0 e)
        by false e later = later
            (λ same. true≢false (sym ((bytes_eq-Decides (regrouped t values b) b).1 same) ∙ e))

    pub greatest : (r : List ℕ) × IsRound r × IsStable t values r
    greatest =
        let n : ℕ = length values in
        let (r, is, same) = fixed (suc (n * n)) (replicate n 0) (start-IsRound (replicate n 0)
        (length-replicate n 0) (zeros n)) (omega arith) in
        (r, is, round-stable r is same)

    -- equivalence of states is an equivalence
    pub equivalent-refl : (i : ℕ) → i < length values → AreEquivalent t values i i
    equivalent-refl i h = let (r, is, stable) = greatest in (h, h, r, stable, refl)

    pub equivalent-symm : (i j : ℕ) → AreEquivalent t values i j → AreEquivalent t values j i
    equivalent-symm i j q = let (hi, hj, b, stable, same) = q in (hj, hi, b, stable, sym same)

    -- equivalence is transitive
    pub equivalent-trans : (i j k : ℕ) → AreEquivalent t values i j → AreEquivalent t values j k
        → AreEquivalent t values i k
    equivalent-trans i j k p q =
        let (hi, hj, b, stable, same) = p in
        let (hj', hk, c, stable', same') = q in
        let (r, is, stable_r) = greatest in
        let inside : (m : ℕ) → m < length values
        → m < length r = λ m w. subst (λ n. m < n) (sym is.covers) w in (
          hi,
          hk,
          r,
          stable_r,
          is.above b stable i j (inside i hi) (inside j hj) same
              ∙ is.above c stable' j k (inside j hj) (inside k hk) same',
        )
