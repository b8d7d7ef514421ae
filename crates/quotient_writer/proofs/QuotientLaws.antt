-- The quotient as a homomorphic image, and what is minimal about it.
use Rattle.std.proofs.Common.{◌≡◌, ℕ, zero, suc, ◌+◌, ◌<◌, Bool, true, false, List, [], ◌∷◌, length, Some, slice_get, refl, sym, ap, ◌∙◌, subst, arith}
use Rattle.std.specs.Prelude.{nat_lt, slice_index, ◌==◌, if◌then◌else◌}
use Rattle.std.specs.List.{list_all, AllZip}
use Rattle.std.proofs.lemmas.Bool.{ltb-true, eqb-true}
use Rattle.std.proofs.lemmas.List.{length-map, get_or-map}
use Rattle.std.proofs.lemmas.Option.{get_or_from_slice_get, none-some, same_Some, slice_get_within}
use Rattle.functor_terms.specs.Terms.{Nodes}
use Rattle.typing.specs.declared.value.Value.{Value}
use Rattle.typing.specs.Values.{relabelled, states_below}
use Rattle.typing.specs.Equality.{are_equal}
use Rattle.typing.specs.Fits.{fits}
use Rattle.typing.specs.Order.{is_normal}
use Rattle.typing.specs.Stable.{IsStable, AreEquivalent}
use Rattle.typing.specs.NormalForms.{IsRelabelledAt}
use Rattle.typing.proofs.EqualityLaws.{eq-equivalence}
use Rattle.typing.proofs.NormalLaws.{normal_unique}
use Rattle.typing.proofs.StableLaws.{element, each_of}
use Rattle.quotient_writer.specs.Quotient.{numbers_from, picked_from, picked, IsQuotient}
use Rattle.quotient_writer.proofs.Picks.{numbers_below, end-one_each, end-fitting, end-normal, end-in_range}
use Rattle.quotient_writer.proofs.Composed.{through, moved, equal-moved}

-- what is picked stands at a state of its class
pub picked_at : {X : Type 0} (n : ℕ) (b : List ℕ) (xs : List X) (p : ℕ) (x : X)
    → slice_get (picked_from n b xs) p ≡ Some x
    → (j : ℕ) × (slice_get b j ≡ Some (n + p)) × (slice_get xs j ≡ Some x)
picked_at n [] xs p x e = absurd (none-some x e)
picked_at n (k ∷ b) [] p x e = absurd (none-some x e)
picked_at n (k ∷ b) (y ∷ xs) p x e = by (k == n) refl p e (λ q g. picked_at (suc n) b xs q x g)
    (λ q g. picked_at n b xs q x g)
  where
    by : (o : Bool) → (k == n) ≡ o → (p : ℕ)
        → slice_get (if o then y ∷ picked_from (suc n) b xs else picked_from n b xs) p ≡ Some x
        → ((q : ℕ) → slice_get (picked_from (suc n) b xs) q ≡ Some x
        → (j : ℕ) × (slice_get b j ≡ Some (suc n + q)) × (slice_get xs j ≡ Some x))
        → ((q : ℕ) → slice_get (picked_from n b xs) q ≡ Some x
        → (j : ℕ) × (slice_get b j ≡ Some (n + q)) × (slice_get xs j ≡ Some x))
        → (j : ℕ) × (slice_get (k ∷ b) j ≡ Some (n + p)) × (slice_get (y ∷ xs) j ≡ Some x)
    by true q zero e new old = (
      0,
      ap Some (let w : k ≡ n + 0 = omega (arith, eqb-true k n q) in
          w),
      e,
    )
    by true q (suc p) e new old = let (j, at, is) = new p e in
        (suc j, at ∙ ap Some (let w : suc n + p ≡ n + suc p = omega arith in w), is)
    by false q p e new old = let (j, at, is) = old p e in (suc j, at, is)

-- the pair at a place
zip_at : (R : Value → Value → Type 0) (vs rs : List Value) (k : ℕ) (r : Value) → AllZip R vs rs
    → slice_get rs k ≡ Some r → (v : Value) × (slice_get vs k ≡ Some v) × R v r
zip_at R [] [] k r z e = absurd (none-some r e)
zip_at R [] (s ∷ rs) k r z e = absurd z
zip_at R (v ∷ vs) [] k r z e = absurd z
zip_at R (v ∷ vs) (s ∷ rs) zero r z e = (v, refl, subst (R v) (same_Some s r e) z.0)
zip_at R (v ∷ vs) (s ∷ rs) (suc k) r z e = zip_at R vs rs k r z.1 e

same_lists : {X : Type 0} (xs ys : List X) → length xs ≡ length ys
    → ((k : ℕ) (x y : X) → slice_get xs k ≡ Some x → slice_get ys k ≡ Some y → x ≡ y) → xs ≡ ys
same_lists [] [] l h = refl
same_lists [] (y ∷ ys) l h = absurd (omega arith)
same_lists (x ∷ xs) [] l h = absurd (omega arith)
same_lists (x ∷ xs) (y ∷ ys) l h = λ i. h 0 x y refl refl i ∷ same_lists xs ys (omega arith)
    (λ k x y a b. h (suc k) x y a b) i

index_of : (b : List ℕ) (j k : ℕ) → slice_get b j ≡ Some k → slice_index b j ≡ k
index_of b j k e = get_or_from_slice_get b j k 0 e

module _ (t : Nodes) (names : List (List ℕ)) (values : List Value) (b : List ℕ) (covers : length b
    ≡ length names) (one_each : length values ≡ length names) (numbered : numbers_from 0 b ≡ true)
  where
    -- with a stable list, what quotient makes is the quotient
    pub made-IsQuotient : (ns : List (List ℕ)) (vs : List Value) → IsStable t values b
        → (ns ≡ picked b names) × AllZip (IsRelabelledAt t b 0) (picked b values) vs
        → IsQuotient t names values b ns vs
    made-IsQuotient ns vs stable done = record {
      first_names = done.0;
      one_each = end-one_each t b names values covers one_each numbered ns vs done;
      fitting = end-fitting t b names values covers one_each numbered ns vs done;
      normal = end-normal t b names values covers one_each numbered ns vs done;
      in_range = end-in_range t b names values covers one_each numbered ns vs done;
      equal = λ i u v at at'.
          let (w, where_w, c) = zip_at (IsRelabelledAt t b 0) (picked b values) vs (slice_index b i) v
          done.1 at' in
          let (j, label, here) = picked_at 0 b values (slice_index b i) w where_w in
          let same : slice_index b i ≡ slice_index b j = sym (index_of b j (0 + slice_index b i) label
          ∙ omega arith) in
          let is = eq-equivalence t 0 in
          let first : are_equal t 0 (relabelled b u) (relabelled b w) ≡ true = stable.equal i j u w at
          here same in
          is.congr (relabelled b u) (relabelled b w) v first ∙ is.symm (relabelled b w) v ∙ c.equal;
    }

    -- each class has a state
    state_of : (ns : List (List ℕ)) (k : ℕ) → ns ≡ picked b names → k < length ns
        → (j : ℕ) × (j < length values) × (slice_index b j ≡ k)
    state_of ns k e h =
        let (x, at) = element (picked b names) k (subst (λ (l : List (List ℕ)). k < length l) e h) in
        let (j, label, here) = picked_at 0 b names k x at in (
          j,
          (let w : j < length values = omega (arith, slice_get_within names j x here, one_each) in
              w),
          index_of b j (0 + k) label ∙ omega arith,
        )

    -- the quotient is determined
    pub determined : (ns ns' : List (List ℕ)) (vs vs' : List Value)
        → IsQuotient t names values b ns vs → IsQuotient t names values b ns' vs'
        → (ns ≡ ns') × (vs ≡ vs')
    determined ns ns' vs vs' q q' =
        let same : ns ≡ ns' = q.first_names ∙ sym q'.first_names in (
          same,
          same_lists vs vs' (q.one_each ∙ ap length same ∙ sym q'.one_each) (λ k v v' at at'.
              let (j, inside, label) = state_of ns k q.first_names
              (omega (arith, slice_get_within vs k v at, q.one_each)) in
              let (u, here) = element values j inside in
              let is = eq-equivalence t 0 in
              let x = q.equal j u v here (subst (λ n. slice_get vs n ≡ Some v) (sym label) at) in
              let y = q'.equal j u v' here (subst (λ n. slice_get vs' n ≡ Some v') (sym label) at') in
              normal_unique t 0 v v' (each_of (fits t 0) vs q.fitting k v at)
              (each_of (fits t 0) vs' q'.fitting k v' at') (each_of (is_normal t 0) vs q.normal k
              v at) (each_of (is_normal t 0) vs' q'.normal k v' at')
              (sym (is.congr (relabelled b u) v v' x) ∙ y)),
        )

    -- where the labels are those of equivalence, no two states of the quotient are equivalent
    module _ (within : list_all (states_below (length values)) values ≡ true) (ns : List (List ℕ))
        (vs : List Value) (q : IsQuotient t names values b ns vs) where
      below : list_all (λ k. nat_lt k (length ns)) b ≡ true
      below = subst (λ (n : ℕ). list_all (λ k. nat_lt k n) b ≡ true)
          (let e : 0 + length (picked b names) ≡ length ns = omega (arith, ap length q.first_names) in
          e) (numbers_below 0 b names covers numbered)

      label_inside : (i : ℕ) → i < length b → slice_index b i < length vs
      label_inside i h =
          let (k, at) = element b i h in
          let w = ltb-true k (length ns) (each_of (λ k. nat_lt k (length ns)) b below i k at) in
          omega (arith, w, index_of b i k at, q.one_each)

      pulled_back : (s : List ℕ) → IsStable t vs s → IsStable t values (through (length ns) b s below)
      pulled_back s stable = record {
        covers = rw length-map (covers ∙ sym one_each);
        equal = λ i j u v at at' e.
            let hi : i < length b = omega (arith, covers, one_each, slice_get_within values i u at) in
            let hj : j < length b = omega (arith, covers, one_each, slice_get_within values j v at') in
            let (d, at_d) = element vs (slice_index b i) (label_inside i hi) in
            let (f, at_f) = element vs (slice_index b j) (label_inside j hj) in
            let same : slice_index s (slice_index b i) ≡ slice_index s (slice_index b j) =
            sym (get_or-map (slice_index s) b i 0 0 hi) ∙ e
            ∙ get_or-map (slice_index s) b j 0 0 hj in
            let middle : are_equal t 0 (relabelled s d) (relabelled s f) ≡ true = stable.equal
            (slice_index b i) (slice_index b j) d f at_d at_f same in
            let long : length ns ≡ length s = sym q.one_each ∙ sym stable.covers in
            let u_below : states_below (length b) u ≡ true = subst (λ n. states_below n u ≡ true)
            (one_each ∙ sym covers) (each_of (states_below (length values)) values within i u
            at) in
            let v_below : states_below (length b) v ≡ true = subst (λ n. states_below n v ≡ true)
            (one_each ∙ sym covers) (each_of (states_below (length values)) values within j v
            at') in
            let mu = moved (length ns) b s below u u_below in
            let mv = moved (length ns) b s below v v_below in
            let in_s : (w : Value) → states_below (length ns) w ≡ true
            → states_below (length s) w ≡ true = λ w h. subst (λ n. states_below n w ≡ true) long
            h in
            let one = equal-moved t 0 s (relabelled b u) d (in_s (relabelled b u) mu.1)
            (in_s d (each_of (states_below (length ns)) vs q.in_range (slice_index b i) d at_d))
            (q.equal i u d at at_d) in
            let two = equal-moved t 0 s (relabelled b v) f (in_s (relabelled b v) mv.1)
            (in_s f (each_of (states_below (length ns)) vs q.in_range (slice_index b j) f at_f))
            (q.equal j v f at' at_f) in
            let is = eq-equivalence t 0 in
            let x : Value = relabelled s (relabelled b u) in
            let y : Value = relabelled s (relabelled b v) in
            let whole : are_equal t 0 x y ≡ true = is.congr x (relabelled s d) y one
            ∙ is.congr (relabelled s d) (relabelled s f) y middle ∙ is.symm (relabelled s f) y
            ∙ two in
            sym (λ k. are_equal t 0 (mu.0 k) (mv.0 k)) ∙ whole;
      }

      pub minimal : ((i j : ℕ) → AreEquivalent t values i j → slice_index b i ≡ slice_index b j)
          → (k l : ℕ) → AreEquivalent t vs k l → k ≡ l
      minimal joins k l e =
          let (hk, hl, s, stable, same) = e in
          let (i, in_i, label_i) = state_of ns k q.first_names (omega (arith, hk, q.one_each)) in
          let (j, in_j, label_j) = state_of ns l q.first_names (omega (arith, hl, q.one_each)) in
          let hi : i < length b = omega (arith, covers, one_each, in_i) in
          let hj : j < length b = omega (arith, covers, one_each, in_j) in
          let one : slice_index (through (length ns) b s below) i ≡ slice_index
          (through (length ns) b s below) j =
          get_or-map (slice_index s) b i 0 0 hi ∙ ap (slice_index s) label_i ∙ same
          ∙ sym (ap (slice_index s) label_j) ∙ sym (get_or-map (slice_index s) b j 0 0 hj) in
          sym label_i ∙ joins i j (
            in_i,
            in_j,
            through (length ns) b s below,
            pulled_back s stable,
            one,
          ) ∙ label_j
