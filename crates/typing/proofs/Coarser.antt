-- What is equal under a list is equal under each coarser list.
use Rattle.std.proofs.Common.{◌≡◌, ℕ, ◌-◌, ◌<◌, Bool, true, false, ◌&&◌, List, [], ◌∷◌, ◌++◌, map, Option, Some, None, refl, sym, ap, ◌∙◌, true≢false, ⊎_elim}
use Rattle.std.specs.Prelude.{ℤ, pos, ◌+ℤ◌, ◌==◌, nat_eq, if◌then◌else◌, slice_index}
use Rattle.std.specs.Option.{option_map, option_eq}
use Rattle.std.specs.Cmp.{IsEquivalence}
use Rattle.std.specs.Cmp.Lexicographic.{pointwise}
use Rattle.std.specs.List.{list_all, AllZip, AllByRecursion}
use Rattle.std.specs.Ordering.{int_eq}
use Rattle.std.proofs.lemmas.Bool.{and_parts, and_from, or_cases, eqb-true, eq-eqb, or_left, or_right}
use Rattle.std.proofs.lemmas.Bool.Decides.{Decides-int_eq}
use Rattle.std.proofs.lemmas.Cmp.{on_equiv}
use Rattle.std.proofs.lemmas.List.Folds.{list_all-map}
use Rattle.functor_terms.specs.declared.node.Node.{Node}
use Rattle.functor_terms.specs.declared.node.Node.TheVariants.{State, Constant, Naturals, Product, Sum, Power, Powerset, Bag, Distribution, Integers, Rationals}
use Rattle.functor_terms.specs.Terms.{Nodes}
use Rattle.functor_terms.proofs.Folds.{fold-related}
use Rattle.typing.specs.declared.value.Value.{Value}
use Rattle.typing.specs.Values.{state, label, index, inner, parts, entries, relabelled, states_below}
use Rattle.typing.specs.Equality.{Test, no_test, test_at, each_place, has, same_members, weight_of, same_weights, eq_step, are_equal}
use Rattle.typing.proofs.Tests.{no_test-equivalence, same_weights-Decides}
use Rattle.typing.proofs.EqualityLaws.{eq_step-equivalence}
use Rattle.typing.proofs.MapLaws.{parts_map, index_map, inner_map, entries_map, label_map, state_map, parts_below, inner_below, entries_below, state_within}
use Rattle.typing.proofs.Weights.{coarser_sums}

-- the entries of a weight list with their states replaced
abbrev moved : List ℕ → List (Value × ℤ) → List (Value × ℤ)
moved b ws = map (λ w. (relabelled b w.0, w.1)) ws

-- a weight under relabelling is that of the test that relabels
pub weight_of-moved : (e : Test) (b : List ℕ) (ws : List (Value × ℤ)) (a : Value)
    → weight_of e (moved b ws) (relabelled b a) ≡ weight_of
    (λ x y. e (relabelled b x) (relabelled b y)) ws a
weight_of-moved e b [] a = refl
weight_of-moved e b (w ∷ ws) a =
    ap (λ k. (if e (relabelled b w.0) (relabelled b a) then w.1 else pos 0) +ℤ k)
    (weight_of-moved e b ws a)

map-append' : {X Y : Type 0} (f : X → Y) (xs ys : List X) → map f xs ++ map f ys ≡ map f (xs ++ ys)
map-append' f [] ys = refl
map-append' f (x ∷ xs) ys = ap (λ l. f x ∷ l) (map-append' f xs ys)

-- what follows from a test of all holds of all
pub all_where : {X : Type 0} (d p : X → Bool) (xs : List X) → list_all d xs ≡ true
    → ((x : X) → d x ≡ true → p x ≡ true) → list_all p xs ≡ true
all_where d p [] h k = refl
all_where d p (x ∷ xs) h k = let q = and_parts (d x) (list_all d xs) h in
    and_from (p x) (list_all p xs) (k x q.0) (all_where d p xs q.1 k)

module _ (n : ℕ) (b c : List ℕ) (coarser : (i j : ℕ) → i < n → j < n
    → slice_index b i ≡ slice_index b j → slice_index c i ≡ slice_index c j) where
  -- what e says under b, f says under c
  pub record Carries (e f : Test) : Type 0 where
    pub finer_is : IsEquivalence e
    pub coarser_is : IsEquivalence f
    pub says : (u v : Value) → states_below n u ≡ true → states_below n v ≡ true
        → e (relabelled b u) (relabelled b v) ≡ true → f (relabelled c u) (relabelled c v) ≡ true

  no_test-carries : Carries no_test no_test
  no_test-carries = record {
    finer_is = no_test-equivalence;
    coarser_is = no_test-equivalence;
    says
        = λ u v hu hv h. refl;
  }

  test_at-carries : (es fs : List Test) (k : ℕ) → AllZip Carries es fs
      → Carries (test_at es k) (test_at fs k)
  test_at-carries [] [] k h = no_test-carries
  test_at-carries [] (f ∷ fs) k h = absurd h
  test_at-carries (e ∷ es) [] k h = absurd h
  test_at-carries (e ∷ es) (f ∷ fs) k h = by (k == 0) (test_at-carries es fs (k - 1) h.1)
    where
      by : (o : Bool) → Carries (test_at es (k - 1)) (test_at fs (k - 1))
          → Carries (if o then e else test_at es (k - 1)) (if o then f else test_at fs (k - 1))
      by true later = h.0
      by false later = later

  finer_all : (es fs : List Test) → AllZip Carries es fs → AllByRecursion IsEquivalence es
  finer_all [] [] h = tt
  finer_all [] (f ∷ fs) h = absurd h
  finer_all (e ∷ es) [] h = absurd h
  finer_all (e ∷ es) (f ∷ fs) h = (h.0.finer_is, finer_all es fs h.1)

  coarser_all : (es fs : List Test) → AllZip Carries es fs → AllByRecursion IsEquivalence fs
  coarser_all [] [] h = tt
  coarser_all [] (f ∷ fs) h = absurd h
  coarser_all (e ∷ es) [] h = absurd h
  coarser_all (e ∷ es) (f ∷ fs) h = (h.0.coarser_is, coarser_all es fs h.1)

  same_states : (u v : Value) → states_below n u ≡ true → states_below n v ≡ true
      → option_eq nat_eq (state (relabelled b u)) (state (relabelled b v)) ≡ true
      → option_eq nat_eq (state (relabelled c u)) (state (relabelled c v)) ≡ true
  same_states u v hu hv h =
      let g = sym (λ i. option_eq nat_eq (state_map b u i) (state_map b v i)) ∙ h in
      (λ i. option_eq nat_eq (state_map c u i) (state_map c v i))
      ∙ by (state u) (state v) (state_within n u hu) (state_within n v hv) g
    where
      by : (x y : Option ℕ) → ((i : ℕ) → x ≡ Some i → i < n) → ((i : ℕ) → y ≡ Some i → i < n)
          → option_eq nat_eq (option_map (slice_index b) x) (option_map (slice_index b) y) ≡ true
          → option_eq nat_eq (option_map (slice_index c) x) (option_map (slice_index c) y) ≡ true
      by None None p q g = refl
      by None (Some j) p q g = absurd (true≢false (sym g))
      by (Some i) None p q g = absurd (true≢false (sym g))
      by (Some i) (Some j) p q g = eq-eqb (slice_index c i) (slice_index c j)
          (coarser i j (p i refl) (q j refl) (eqb-true (slice_index b i) (slice_index b j) g))

  same_labels : (u v : Value) → (label (relabelled b u) == label (relabelled b v)) ≡ true
      → (label (relabelled c u) == label (relabelled c v)) ≡ true
  same_labels u v h = (λ i. label_map c u i == label_map c v i)
      ∙ sym (λ i. label_map b u i == label_map b v i) ∙ h

  each_carries : (es fs : List Test) (us vs : List Value) → AllZip Carries es fs
      → list_all (states_below n) us ≡ true → list_all (states_below n) vs ≡ true
      → each_place es (map (relabelled b) us) (map (relabelled b) vs) ≡ true
      → each_place fs (map (relabelled c) us) (map (relabelled c) vs) ≡ true
  each_carries [] [] us vs r hu hv h = refl
  each_carries [] (f ∷ fs) us vs r hu hv h = absurd r
  each_carries (e ∷ es) [] us vs r hu hv h = absurd r
  each_carries (e ∷ es) (f ∷ fs) [] [] r hu hv h = refl
  each_carries (e ∷ es) (f ∷ fs) [] (v ∷ vs) r hu hv h = absurd (true≢false (sym h))
  each_carries (e ∷ es) (f ∷ fs) (u ∷ us) [] r hu hv h = absurd (true≢false (sym h))
  each_carries (e ∷ es) (f ∷ fs) (u ∷ us) (v ∷ vs) r hu hv h =
      let pu = and_parts (states_below n u) (list_all (states_below n) us) hu in
      let pv = and_parts (states_below n v) (list_all (states_below n) vs) hv in
      let p = and_parts (e (relabelled b u) (relabelled b v)) (each_place es (map (relabelled b) us)
      (map (relabelled b) vs)) h in
      and_from (f (relabelled c u) (relabelled c v)) (each_place fs (map (relabelled c) us)
      (map (relabelled c) vs)) (r.0.says u v pu.0 pv.0 p.0) (each_carries es fs us vs r.1 pu.1
      pv.1 p.1)

  module _ (e f : Test) (r : Carries e f) where
    every_carries : (us vs : List Value) → list_all (states_below n) us ≡ true
        → list_all (states_below n) vs ≡ true
        → pointwise e (map (relabelled b) us) (map (relabelled b) vs) ≡ true
        → pointwise f (map (relabelled c) us) (map (relabelled c) vs) ≡ true
    every_carries [] [] hu hv h = refl
    every_carries [] (v ∷ vs) hu hv h = absurd (true≢false (sym h))
    every_carries (u ∷ us) [] hu hv h = absurd (true≢false (sym h))
    every_carries (u ∷ us) (v ∷ vs) hu hv h =
        let pu = and_parts (states_below n u) (list_all (states_below n) us) hu in
        let pv = and_parts (states_below n v) (list_all (states_below n) vs) hv in
        let p = and_parts (e (relabelled b u) (relabelled b v)) (pointwise e (map (relabelled b) us)
        (map (relabelled b) vs)) h in
        and_from (f (relabelled c u) (relabelled c v)) (pointwise f (map (relabelled c) us)
        (map (relabelled c) vs)) (r.says u v pu.0 pv.0 p.0) (every_carries us vs pu.1 pv.1 p.1)

    has_carries : (us : List Value) (a : Value) → list_all (states_below n) us ≡ true
        → states_below n a ≡ true
        → has e (map (relabelled b) us) (relabelled b a) ≡ true
        → has f (map (relabelled c) us) (relabelled c a) ≡ true
    has_carries [] a hu ha h = absurd (true≢false (sym h))
    has_carries (u ∷ us) a hu ha h =
        let pu = and_parts (states_below n u) (list_all (states_below n) us) hu in
        ⊎_elim (λ here. or_left (f (relabelled c u) (relabelled c a)) (has f (map (relabelled c) us)
        (relabelled c a)) (r.says u a pu.0 ha here))
        (λ later. or_right (f (relabelled c u) (relabelled c a)) (has f (map (relabelled c) us)
        (relabelled c a)) (has_carries us a pu.1 ha later))
        (or_cases (e (relabelled b u) (relabelled b a)) (has e (map (relabelled b) us)
        (relabelled b a)) h)

    covered_carries : (us vs : List Value) → list_all (states_below n) us ≡ true
        → list_all (states_below n) vs ≡ true
        → list_all (has e (map (relabelled b) vs)) (map (relabelled b) us) ≡ true
        → list_all (has f (map (relabelled c) vs)) (map (relabelled c) us) ≡ true
    covered_carries [] vs hu hv h = refl
    covered_carries (u ∷ us) vs hu hv h =
        let pu = and_parts (states_below n u) (list_all (states_below n) us) hu in
        let p = and_parts (has e (map (relabelled b) vs) (relabelled b u))
        (list_all (has e (map (relabelled b) vs)) (map (relabelled b) us)) h in
        and_from (has f (map (relabelled c) vs) (relabelled c u))
        (list_all (has f (map (relabelled c) vs)) (map (relabelled c) us))
        (has_carries vs u hv pu.0 p.0) (covered_carries us vs pu.1 hv p.1)

    members_carry : (us vs : List Value) → list_all (states_below n) us ≡ true
        → list_all (states_below n) vs ≡ true
        → same_members e (map (relabelled b) us) (map (relabelled b) vs) ≡ true
        → same_members f (map (relabelled c) us) (map (relabelled c) vs) ≡ true
    members_carry us vs hu hv h =
        let p = and_parts (list_all (has e (map (relabelled b) vs)) (map (relabelled b) us))
        (list_all (has e (map (relabelled b) us)) (map (relabelled b) vs)) h in
        and_from (list_all (has f (map (relabelled c) vs)) (map (relabelled c) us))
        (list_all (has f (map (relabelled c) us)) (map (relabelled c) vs))
        (covered_carries us vs hu hv p.0) (covered_carries vs us hv hu p.1)

    weights_carry : (us vs : List (Value × ℤ)) → list_all (λ w. states_below n w.0) us ≡ true
        → list_all (λ w. states_below n w.0) vs ≡ true
        → same_weights e (moved b us) (moved b vs) ≡ true
        → same_weights f (moved c us) (moved c vs) ≡ true
    weights_carry us vs hu hv h =
        let E : Test = λ x y. e (relabelled b x) (relabelled b y) in
        let F : Test = λ x y. f (relabelled c x) (relabelled c y) in
        let finer : (a : Value)
        → weight_of E us a ≡ weight_of E vs a = λ a. sym (weight_of-moved e b us a)
        ∙ (same_weights-Decides e r.finer_is (moved b us) (moved b vs)).0 h (relabelled b a)
        ∙ weight_of-moved e b vs a in
        let sums : (a : Value) → weight_of F us a ≡ weight_of F vs a = coarser_sums E F
        (on_equiv (relabelled b) r.finer_is) (on_equiv (relabelled c) r.coarser_is)
        (states_below n) r.says us vs hu hv finer in
        let same : (a : Value) → weight_of f (moved c us) (relabelled c a) ≡ weight_of f
        (moved c vs) (relabelled c a) = λ a. weight_of-moved f c us a ∙ sums a
        ∙ sym (weight_of-moved f c vs a) in
        let test : Value × ℤ
        → Bool = λ w. int_eq (weight_of f (moved c us) w.0) (weight_of f (moved c vs) w.0) in
        ap (list_all test) (map-append' (λ w. (relabelled c w.0, w.1)) us vs)
        ∙ list_all-map test (λ w. (relabelled c w.0, w.1)) (us ++ vs)
        ∙ every (us ++ vs) (λ w. (Decides-int_eq (weight_of f (moved c us) (relabelled c w.0))
        (weight_of f (moved c vs) (relabelled c w.0))).1 (same w.0))
      where
        every : {p : Value × ℤ → Bool} (ws : List (Value × ℤ)) → ((w : Value × ℤ) → p w ≡ true)
            → list_all p ws ≡ true
        every [] k = refl
        every {p = p} (w ∷ ws) k = and_from (p w) (list_all p ws) (k w) (every ws k)

  says_parts : (F G : List Value → List Value → Bool)
      → ((us vs : List Value) → list_all (states_below n) us ≡ true
      → list_all (states_below n) vs ≡ true → F (map (relabelled b) us) (map (relabelled b) vs)
      ≡ true → G (map (relabelled c) us) (map (relabelled c) vs) ≡ true)
      → (u v : Value) → states_below n u ≡ true → states_below n v ≡ true
      → F (parts (relabelled b u)) (parts (relabelled b v)) ≡ true
      → G (parts (relabelled c u)) (parts (relabelled c v)) ≡ true
  says_parts F G k u v hu hv h = (λ i. G (parts_map c u i) (parts_map c v i))
      ∙ k (parts u) (parts v) (parts_below n u hu) (parts_below n v hv)
      (sym (λ i. F (parts_map b u i) (parts_map b v i)) ∙ h)

  says_entries : (e f : Test) → Carries e f → (u v : Value) → states_below n u ≡ true
      → states_below n v ≡ true
      → same_weights e (entries (relabelled b u)) (entries (relabelled b v)) ≡ true
      → same_weights f (entries (relabelled c u)) (entries (relabelled c v)) ≡ true
  says_entries e f r u v hu hv h = (λ i. same_weights f (entries_map c u i) (entries_map c v i))
      ∙ weights_carry e f r (entries u) (entries v) (entries_below n u hu) (entries_below n v hv)
      (sym (λ i. same_weights e (entries_map b u i) (entries_map b v i)) ∙ h)

  says_sum : (es fs : List Test) → AllZip Carries es fs → (u v : Value) → states_below n u ≡ true
      → states_below n v ≡ true → eq_step Sum es (relabelled b u) (relabelled b v) ≡ true
      → eq_step Sum fs (relabelled c u) (relabelled c v) ≡ true
  says_sum es fs r u v hu hv h =
      (λ i. (index_map c u i == index_map c v i) && test_at fs (index_map c u i) (inner_map c u i)
      (inner_map c v i)) ∙ by (sym (λ i. (index_map b u i == index_map b v i) && test_at es
      (index_map b u i) (inner_map b u i) (inner_map b v i)) ∙ h)
    where
      by : ((index u == index v) && test_at es (index u) (relabelled b (inner u))
          (relabelled b (inner v))) ≡ true
          → ((index u == index v) && test_at fs (index u) (relabelled c (inner u))
          (relabelled c (inner v))) ≡ true
      by h =
          let p = and_parts (index u == index v) (test_at es (index u) (relabelled b (inner u))
          (relabelled b (inner v))) h in
          and_from (index u == index v) (test_at fs (index u) (relabelled c (inner u))
          (relabelled c (inner v))) p.0 ((test_at-carries es fs (index u) r).says (inner u)
          (inner v) (inner_below n u hu) (inner_below n v hv) p.1)

  says_step : (m : Node) (es fs : List Test) → AllZip Carries es fs → (u v : Value)
      → states_below n u ≡ true → states_below n v ≡ true
      → eq_step m es (relabelled b u) (relabelled b v) ≡ true
      → eq_step m fs (relabelled c u) (relabelled c v) ≡ true
  says_step State es fs r u v hu hv h = same_states u v hu hv h
  says_step (Constant labels) es fs r u v hu hv h = same_labels u v h
  says_step Naturals es fs r u v hu hv h = same_labels u v h
  says_step Product es fs r u v hu hv h = says_parts (each_place es) (each_place fs)
      (λ us vs hu hv h. each_carries es fs us vs r hu hv h) u v hu hv h
  says_step (Power labels) es fs r u v hu hv h = says_parts (pointwise (test_at es 0))
      (pointwise (test_at fs 0)) (every_carries (test_at es 0) (test_at fs 0)
      (test_at-carries es fs 0 r)) u v hu hv h
  says_step Sum es fs r u v hu hv h = says_sum es fs r u v hu hv h
  says_step Powerset es fs r u v hu hv h = says_parts (same_members (test_at es 0))
      (same_members (test_at fs 0)) (members_carry (test_at es 0) (test_at fs 0)
      (test_at-carries es fs 0 r)) u v hu hv h
  says_step Bag es fs r u v hu hv h = says_entries (test_at es 0) (test_at fs 0)
      (test_at-carries es fs 0 r) u v hu hv h
  says_step Distribution es fs r u v hu hv h = says_entries (test_at es 0) (test_at fs 0)
      (test_at-carries es fs 0 r) u v hu hv h
  says_step Integers es fs r u v hu hv h = says_entries (test_at es 0) (test_at fs 0)
      (test_at-carries es fs 0 r) u v hu hv h
  says_step Rationals es fs r u v hu hv h = says_entries (test_at es 0) (test_at fs 0)
      (test_at-carries es fs 0 r) u v hu hv h

  eq_step-carries : (m : Node) (es fs : List Test) → AllZip Carries es fs
      → Carries (eq_step m es) (eq_step m fs)
  eq_step-carries m es fs r = record {
    finer_is = eq_step-equivalence m es (finer_all es fs r);
    coarser_is = eq_step-equivalence m fs (coarser_all es fs r);
    says = says_step m es fs r;
  }

  -- what is equal under b is equal under c
  pub eq-coarser : (t : Nodes) (p : ℕ) (u v : Value) → states_below n u ≡ true
      → states_below n v ≡ true → are_equal t p (relabelled b u) (relabelled b v) ≡ true
      → are_equal t p (relabelled c u) (relabelled c v) ≡ true
  eq-coarser t p = (fold-related Carries no_test no_test eq_step eq_step no_test-carries
      eq_step-carries t p).says
