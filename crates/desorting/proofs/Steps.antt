-- One layer: agreement of classes against equality of values, at each kind of node.
use Rattle.std.proofs.Common.{◌≡◌, ℕ, Bool, true, false, List, [], ◌∷◌, map, refl, sym, ◌∙◌, subst, true≢false, ⊎_elim, Contains}
use Rattle.std.specs.Prelude.{◌==◌}
use Rattle.std.specs.Cmp.Lexicographic.{pointwise}
use Rattle.std.specs.List.{list_all, zip, AllZip}
use Rattle.std.proofs.lemmas.Bool.{and_parts, and_from, or_cases, eqb-true, eq-eqb, or_left, or_right}
use Rattle.typing.specs.declared.value.Value.{Value}
use Rattle.typing.specs.Values.{relabelled}
use Rattle.typing.specs.Layers.{Place}
use Rattle.typing.specs.Equality.{Test, each_place, has, same_members}
use Rattle.powerset_iface.specs.Sets.{SameSet, has as has_class}
use Rattle.functor_terms.proofs.Folds.{first_in, rest_in}
use Rattle.typing.proofs.Tests.{bools_agree}

-- R says that a child has a class, E whether two children at a node are equal
module _ (R : Place → ℕ → Type 0) (b : List ℕ) (E : ℕ → Test) where
  abbrev pub equal_at : ℕ → Value → Value → Bool
  equal_at q u w = E q (relabelled b u) (relabelled b w)

  -- children of one class are equal
  abbrev pub ClassesEqual : ℕ → Type 0
  ClassesEqual q = (u w : Value) (c : ℕ) → R (q, u) c → R (q, w) c → equal_at q u w ≡ true

  -- equal children are of one class
  abbrev pub EqualsMeet : ℕ → Type 0
  EqualsMeet q = (u w : Value) (c d : ℕ) → R (q, u) c → R (q, w) d → equal_at q u w ≡ true → c ≡ d

  abbrev pub at_node : ℕ → List Value → List Place
  at_node q us = map (λ u. (q, u)) us

  -- products
  pub product-equal : (qs : List ℕ) (us ws : List Value) (cs : List ℕ)
      → ((q : ℕ) → Contains qs q → ClassesEqual q) → AllZip R (zip qs us) cs
      → AllZip R (zip qs ws) cs
      → each_place (map E qs) (map (relabelled b) us) (map (relabelled b) ws) ≡ true
  product-equal [] us ws cs h x y = refl
  product-equal (q ∷ qs) [] [] cs h x y = refl
  product-equal (q ∷ qs) [] (w ∷ ws) [] h x y = absurd y
  product-equal (q ∷ qs) [] (w ∷ ws) (c ∷ cs) h x y = absurd x
  product-equal (q ∷ qs) (u ∷ us) [] [] h x y = absurd x
  product-equal (q ∷ qs) (u ∷ us) [] (c ∷ cs) h x y = absurd y
  product-equal (q ∷ qs) (u ∷ us) (w ∷ ws) [] h x y = absurd x
  product-equal (q ∷ qs) (u ∷ us) (w ∷ ws) (c ∷ cs) h x y =
      and_from (equal_at q u w) (each_place (map E qs) (map (relabelled b) us)
      (map (relabelled b) ws)) (h q (first_in q qs) u w c x.0 y.0)
      (product-equal qs us ws cs (λ r k. h r (rest_in q qs r k)) x.1 y.1)

  -- tuples whose images are equal have the same classes in order
  pub product-agree : (qs : List ℕ) (us ws : List Value) (cs ds : List ℕ)
      → ((q : ℕ) → Contains qs q → EqualsMeet q) → AllZip R (zip qs us) cs → AllZip R (zip qs ws) ds
      → each_place (map E qs) (map (relabelled b) us) (map (relabelled b) ws) ≡ true → cs ≡ ds
  product-agree [] us ws [] [] h x y e = refl
  product-agree [] us ws [] (d ∷ ds) h x y e = absurd y
  product-agree [] us ws (c ∷ cs) ds h x y e = absurd x
  product-agree (q ∷ qs) [] [] [] [] h x y e = refl
  product-agree (q ∷ qs) [] [] [] (d ∷ ds) h x y e = absurd y
  product-agree (q ∷ qs) [] [] (c ∷ cs) ds h x y e = absurd x
  product-agree (q ∷ qs) [] (w ∷ ws) cs ds h x y e = absurd (true≢false (sym e))
  product-agree (q ∷ qs) (u ∷ us) [] cs ds h x y e = absurd (true≢false (sym e))
  product-agree (q ∷ qs) (u ∷ us) (w ∷ ws) [] ds h x y e = absurd x
  product-agree (q ∷ qs) (u ∷ us) (w ∷ ws) (c ∷ cs) [] h x y e = absurd y
  product-agree (q ∷ qs) (u ∷ us) (w ∷ ws) (c ∷ cs) (d ∷ ds) h x y e =
      let p = and_parts (equal_at q u w) (each_place (map E qs) (map (relabelled b) us)
      (map (relabelled b) ws)) e in
      λ i. h q (first_in q qs) u w c d x.0 y.0 p.0 i ∷ product-agree qs us ws cs ds
      (λ r k. h r (rest_in q qs r k)) x.1 y.1 p.1 i

  module _ (q : ℕ) where
    -- powers
    pub power-equal : (us ws : List Value) (cs : List ℕ) → ClassesEqual q
        → AllZip R (at_node q us) cs → AllZip R (at_node q ws) cs
        → pointwise (E q) (map (relabelled b) us) (map (relabelled b) ws) ≡ true
    power-equal [] [] cs h x y = refl
    power-equal [] (w ∷ ws) [] h x y = absurd y
    power-equal [] (w ∷ ws) (c ∷ cs) h x y = absurd x
    power-equal (u ∷ us) [] [] h x y = absurd x
    power-equal (u ∷ us) [] (c ∷ cs) h x y = absurd y
    power-equal (u ∷ us) (w ∷ ws) [] h x y = absurd x
    power-equal (u ∷ us) (w ∷ ws) (c ∷ cs) h x y = and_from (equal_at q u w)
        (pointwise (E q) (map (relabelled b) us) (map (relabelled b) ws)) (h u w c x.0 y.0)
        (power-equal us ws cs h x.1 y.1)

    -- powers whose images are equal have the same classes in order
    pub power-agree : (us ws : List Value) (cs ds : List ℕ) → EqualsMeet q
        → AllZip R (at_node q us) cs → AllZip R (at_node q ws) ds
        → pointwise (E q) (map (relabelled b) us) (map (relabelled b) ws) ≡ true → cs ≡ ds
    power-agree [] [] [] [] h x y e = refl
    power-agree [] [] [] (d ∷ ds) h x y e = absurd y
    power-agree [] [] (c ∷ cs) ds h x y e = absurd x
    power-agree [] (w ∷ ws) cs ds h x y e = absurd (true≢false (sym e))
    power-agree (u ∷ us) [] cs ds h x y e = absurd (true≢false (sym e))
    power-agree (u ∷ us) (w ∷ ws) [] ds h x y e = absurd x
    power-agree (u ∷ us) (w ∷ ws) (c ∷ cs) [] h x y e = absurd y
    power-agree (u ∷ us) (w ∷ ws) (c ∷ cs) (d ∷ ds) h x y e =
        let p = and_parts (equal_at q u w) (pointwise (E q) (map (relabelled b) us)
        (map (relabelled b) ws)) e in
        λ i. h u w c d x.0 y.0 p.0 i ∷ power-agree us ws cs ds h x.1 y.1 p.1 i

    -- a class that occurs has an equal element
    met : (ws : List Value) (ds : List ℕ) (u : Value) (c : ℕ) → ClassesEqual q
        → AllZip R (at_node q ws) ds → R (q, u) c → has_class c ds ≡ true
        → has (E q) (map (relabelled b) ws) (relabelled b u) ≡ true
    met [] [] u c h y r e = absurd (true≢false (sym e))
    met [] (d ∷ ds) u c h y r e = absurd y
    met (w ∷ ws) [] u c h y r e = absurd y
    met (w ∷ ws) (d ∷ ds) u c h y r e =
        ⊎_elim (λ here. or_left (equal_at q w u) (has (E q) (map (relabelled b) ws)
        (relabelled b u)) (h w u c (subst (λ k. R (q, w) k) (eqb-true d c here) y.0) r))
        (λ later. or_right (equal_at q w u) (has (E q) (map (relabelled b) ws) (relabelled b u))
        (met ws ds u c h y.1 r later))
        (or_cases (d == c) (has_class c ds) e)

    pub covered-equal : (us ws : List Value) (cs ds : List ℕ) → ClassesEqual q
        → AllZip R (at_node q us) cs → AllZip R (at_node q ws) ds → ((c : ℕ) → has_class c cs ≡ true
        → has_class c ds ≡ true)
        → list_all (has (E q) (map (relabelled b) ws)) (map (relabelled b) us) ≡ true
    covered-equal [] ws cs ds h x y e = refl
    covered-equal (u ∷ us) ws [] ds h x y e = absurd x
    covered-equal (u ∷ us) ws (c ∷ cs) ds h x y e =
        and_from (has (E q) (map (relabelled b) ws) (relabelled b u))
        (list_all (has (E q) (map (relabelled b) ws)) (map (relabelled b) us))
        (met ws ds u c h y x.0 (e c (or_left (c == c) (has_class c cs) (eq-eqb c c refl))))
        (covered-equal us ws cs ds h x.1 y
        (λ k later. e k (or_right (c == k) (has_class k cs) later)))

    -- sets with the same classes have equal images
    pub members-equal : (us ws : List Value) (cs ds : List ℕ) → ClassesEqual q
        → AllZip R (at_node q us) cs → AllZip R (at_node q ws) ds → SameSet cs ds
        → same_members (E q) (map (relabelled b) us) (map (relabelled b) ws) ≡ true
    members-equal us ws cs ds h x y same =
        and_from (list_all (has (E q) (map (relabelled b) ws)) (map (relabelled b) us))
        (list_all (has (E q) (map (relabelled b) us)) (map (relabelled b) ws))
        (covered-equal us ws cs ds h x y (λ c e. sym (same c) ∙ e)) (covered-equal ws us ds cs h y x
        (λ c e. same c ∙ e))

    -- an equal element has its class
    class_met : (ws : List Value) (ds : List ℕ) (u : Value) (c : ℕ) → EqualsMeet q
        → AllZip R (at_node q ws) ds → R (q, u) c
        → has (E q) (map (relabelled b) ws) (relabelled b u) ≡ true → has_class c ds ≡ true
    class_met [] [] u c h y r e = absurd (true≢false (sym e))
    class_met [] (d ∷ ds) u c h y r e = absurd y
    class_met (w ∷ ws) [] u c h y r e = absurd y
    class_met (w ∷ ws) (d ∷ ds) u c h y r e =
        ⊎_elim (λ here. or_left (d == c) (has_class c ds) (eq-eqb d c (h w u d c y.0 r here)))
        (λ later. or_right (d == c) (has_class c ds) (class_met ws ds u c h y.1 r later))
        (or_cases (equal_at q w u) (has (E q) (map (relabelled b) ws) (relabelled b u)) e)

    covered-agree : (us ws : List Value) (cs ds : List ℕ) (c : ℕ) → EqualsMeet q
        → AllZip R (at_node q us) cs → AllZip R (at_node q ws) ds
        → list_all (has (E q) (map (relabelled b) ws)) (map (relabelled b) us) ≡ true
        → has_class c cs ≡ true → has_class c ds ≡ true
    covered-agree [] ws [] ds c h x y e k = absurd (true≢false (sym k))
    covered-agree [] ws (d ∷ cs) ds c h x y e k = absurd x
    covered-agree (u ∷ us) ws [] ds c h x y e k = absurd x
    covered-agree (u ∷ us) ws (d ∷ cs) ds c h x y e k =
        let p = and_parts (has (E q) (map (relabelled b) ws) (relabelled b u))
        (list_all (has (E q) (map (relabelled b) ws)) (map (relabelled b) us)) e in
        ⊎_elim (λ here. subst (λ n. has_class n ds ≡ true) (eqb-true d c here)
        (class_met ws ds u d h y x.0 p.0)) (λ later. covered-agree us ws cs ds c h x.1 y p.1
        later) (or_cases (d == c) (has_class c cs) k)

    -- sets whose images are equal have the same classes
    pub members-agree : (us ws : List Value) (cs ds : List ℕ) → EqualsMeet q
        → AllZip R (at_node q us) cs → AllZip R (at_node q ws) ds
        → same_members (E q) (map (relabelled b) us) (map (relabelled b) ws) ≡ true → SameSet cs ds
    members-agree us ws cs ds h x y e c =
        let p = and_parts (list_all (has (E q) (map (relabelled b) ws)) (map (relabelled b) us))
        (list_all (has (E q) (map (relabelled b) us)) (map (relabelled b) ws)) e in
        bools_agree (has_class c cs) (has_class c ds) (covered-agree us ws cs ds c h x y p.0)
        (covered-agree ws us ds cs c h y x p.1)
