-- Rescaling keeps equality, order and normal values: first where it goes by the kind of node, for
-- any values, and then for values that fit.
use Rattle.std.proofs.Common.{◌≡◌, ℕ, ◌-◌, ◌≤◌, Bool, true, false, not, ◌&&◌, ◌||◌, List, [], ◌∷◌, ◌++◌, map, refl, sym, ap, ◌∙◌}
use Rattle.std.specs.Prelude.{ℤ, pos, ◌+ℤ◌, ◌==◌, if◌then◌else◌}
use Rattle.std.specs.Cmp.Lexicographic.{pointwise, slice_cmp}
use Rattle.std.specs.List.{list_all, AllZip}
use Rattle.std.specs.Ordering.{int_eq, nat_cmp, ordering_then, is_lt}
use Rattle.std.specs.declared.cmp.Ordering.{Ordering}
use Rattle.std.specs.declared.cmp.Ordering.TheVariants.{Less, Equal, Greater}
use Rattle.std.proofs.lemmas.Bool.{eqb-true}
use Rattle.std.proofs.lemmas.List.{map-append}
use Rattle.std.proofs.lemmas.List.Folds.{list_all-map}
use Rattle.functor_terms.specs.declared.node.Node.{Node}
use Rattle.functor_terms.specs.declared.node.Node.TheVariants.{State, Constant, Naturals, Product, Sum, Power, Powerset, Bag, Distribution, Integers, Rationals}
use Rattle.functor_terms.specs.Terms.{Nodes}
use Rattle.functor_terms.proofs.Folds.{fold-related}
use Rattle.typing.specs.declared.value.Value.{Value}
use Rattle.typing.specs.declared.value.Value.TheVariants as value
use Rattle.typing.specs.Values.{index, inner, parts, entries}
use Rattle.typing.specs.Equality.{Test, no_test, test_at, each_place, has, same_members, total, the_sum, same_totals, eq_step, are_equal}
use Rattle.typing.specs.Fits.{fits}
use Rattle.typing.specs.Order.{Form, no_form, form_at, each_cmp, entry_cmp, cmp_step, ascends, each_normal, is_normal_list, is_normal_sum, normal_step, form_step, form, compare, is_normal}
use Rattle.typing.proofs.OrderLaws.{equal_numbers}
use Rattle.rescaling.specs.Rescaled.{Rescale, no_rescale, rescale_at, rescaled_places, rescaled_weight, rescaled_entries, rescaled}
use Rattle.rescaling.proofs.Numbers.{KeepsNumbers, weight-keeps}
use Rattle.rescaling.proofs.Levels.{by_child, all_same}
use Rattle.rescaling.proofs.ByNode.{formed_step, formed, tuple_parts, set_parts, inj_index, inj_inner, weights_entries, rescaled-formed}

-- ---- equality

-- the test says the same before and after
record KeepsEquality (e : Test) (n : Rescale) : Type 0 where
  pub same : (u v : Value) → e (n u) (n v) ≡ e u v

none_equal : KeepsEquality no_test no_rescale
none_equal = record { same = λ u v. refl }

at_equal :
    (es : List Test) (ns : List Rescale) (k : ℕ) → AllZip KeepsEquality es ns →
    KeepsEquality (test_at es k) (rescale_at ns k)
at_equal [] [] k z = none_equal
at_equal [] (n ∷ ns) k z = absurd z
at_equal (e ∷ es) [] k z = absurd z
at_equal (e ∷ es) (n ∷ ns) k z = by (k == 0) (at_equal es ns (k - 1) z.1)
  where
    by :
        (b : Bool) → KeepsEquality (test_at es (k - 1)) (rescale_at ns (k - 1)) →
        KeepsEquality (if b then e else test_at es (k - 1)) (if b then n else rescale_at ns (k - 1))
    by true later = z.0
    by false later = later

places_equal :
    (es : List Test) (ns : List Rescale) → AllZip KeepsEquality es ns → (us vs : List Value) →
    each_place es (rescaled_places ns us) (rescaled_places ns vs) ≡ each_place es us vs
places_equal [] [] z us vs = refl
places_equal [] (n ∷ ns) z us vs = absurd z
places_equal (e ∷ es) [] z us vs = absurd z
places_equal (e ∷ es) (n ∷ ns) z [] [] = refl
places_equal (e ∷ es) (n ∷ ns) z [] (v ∷ vs) = refl
places_equal (e ∷ es) (n ∷ ns) z (u ∷ us) [] = refl
places_equal (e ∷ es) (n ∷ ns) z (u ∷ us) (v ∷ vs) =
    λ i. z.0.same u v i && places_equal es ns z.1 us vs i

module _ (e : Test) (n : Rescale) (keeps : KeepsEquality e n) where
  lists_equal : (us vs : List Value) → pointwise e (map n us) (map n vs) ≡ pointwise e us vs
  lists_equal [] [] = refl
  lists_equal [] (v ∷ vs) = refl
  lists_equal (u ∷ us) [] = refl
  lists_equal (u ∷ us) (v ∷ vs) = λ i. keeps.same u v i && lists_equal us vs i

  has_equal : (us : List Value) (a : Value) → has e (map n us) (n a) ≡ has e us a
  has_equal [] a = refl
  has_equal (u ∷ us) a = λ i. keeps.same u a i || has_equal us a i

  covered_equal :
      (us vs : List Value) → list_all (has e (map n vs)) (map n us) ≡ list_all (has e vs) us
  covered_equal us vs =
      list_all-map (has e (map n vs)) n us
      ∙ all_same (λ u. has e (map n vs) (n u)) (has e vs) us (has_equal vs)

  members_equal : (us vs : List Value) → same_members e (map n us) (map n vs) ≡ same_members e us vs
  members_equal us vs = λ i. covered_equal us vs i && covered_equal vs us i

  -- weights by f, which keeps sums
  module _ (f : ℤ → ℤ) (numbers : KeepsNumbers f) where
    abbrev weighed : Value × ℤ → Value × ℤ
    weighed w = (n w.0, f w.1)

    counted : (b : Bool) (w : ℤ) → (if b then f w else pos 0) ≡ f (if b then w else pos 0)
    counted true w = refl
    counted false w = sym numbers.none

    totals_equal :
        (ws : List (Value × ℤ)) (a : Value) →
        total the_sum e (map weighed ws) (n a) ≡ f (total the_sum e ws a)
    totals_equal [] a = sym numbers.none
    totals_equal (w ∷ ws) a =
        (λ i. (if keeps.same w.0 a i then f w.1 else pos 0) +ℤ totals_equal ws a i)
        ∙ ap (λ x. x +ℤ f (total the_sum e ws a)) (counted (e w.0 a) w.1)
        ∙ sym (numbers.sums (if e w.0 a then w.1 else pos 0) (total the_sum e ws a))

    weights_equal :
        (us vs : List (Value × ℤ)) →
        same_totals the_sum e (map weighed us) (map weighed vs) ≡ same_totals the_sum e us vs
    weights_equal us vs =
        let after : Value × ℤ → Bool = λ w.
        int_eq (total the_sum e (map weighed us) w.0) (total the_sum e (map weighed vs) w.0) in
        let before : Value × ℤ → Bool = λ w.
        int_eq (total the_sum e us w.0) (total the_sum e vs w.0) in
        ap (list_all after) (sym (map-append weighed us vs))
        ∙ list_all-map after weighed (us ++ vs)
        ∙ all_same (λ w. after (weighed w)) before (us ++ vs)
        (λ w. (λ i. int_eq (totals_equal us w.0 i) (totals_equal vs w.0 i))
        ∙ numbers.equal (total the_sum e us w.0) (total the_sum e vs w.0))

module _ (k : ℕ) (some : 1 ≤ k) where
  module _ (es : List Test) (ns : List Rescale) (z : AllZip KeepsEquality es ns) where
    -- the tests of two parts of a sum, by their indices
    chosen_equal :
        (i j : ℕ) (u v : Value) →
        ((i == j) && test_at es i (rescale_at ns i u) (rescale_at ns j v))
        ≡ ((i == j) && test_at es i u v)
    chosen_equal i j u v = by (i == j) refl
      where
        by :
            (b : Bool) → (i == j) ≡ b →
            (b && test_at es i (rescale_at ns i u) (rescale_at ns j v)) ≡ (b && test_at es i u v)
        by false e = refl
        by true e =
            ap (λ o. test_at es i (rescale_at ns i u) (rescale_at ns o v)) (sym (eqb-true i j e))
            ∙ (at_equal es ns i z).same u v

    sum_equal :
        (u v : Value) → eq_step Sum es (formed_step k Sum ns u) (formed_step k Sum ns v)
        ≡ eq_step Sum es u v
    sum_equal u v =
        let x : Value = rescale_at ns (index u) (inner u) in
        let y : Value = rescale_at ns (index v) (inner v) in
        (λ i. (inj_index (index u) x i == inj_index (index v) y i)
        && test_at es (inj_index (index u) x i) (inj_inner (index u) x i)
        (inj_inner (index v) y i))
        ∙ chosen_equal (index u) (index v) (inner u) (inner v)

    weighed_equal :
        (m : Node) (us vs : List (Value × ℤ)) →
        same_totals the_sum (test_at es 0)
        (entries (value.Weights (rescaled_entries k m (rescale_at ns 0) us)))
        (entries (value.Weights (rescaled_entries k m (rescale_at ns 0) vs)))
        ≡ same_totals the_sum (test_at es 0) us vs
    weighed_equal m us vs =
        (λ i. same_totals the_sum (test_at es 0)
        (weights_entries (rescaled_entries k m (rescale_at ns 0) us) i)
        (weights_entries (rescaled_entries k m (rescale_at ns 0) vs) i))
        ∙ weights_equal (test_at es 0) (rescale_at ns 0) (at_equal es ns 0 z)
        (rescaled_weight k m) (weight-keeps k m some) us vs

    node_equal :
        (m : Node) (u v : Value) →
        eq_step m es (formed_step k m ns u) (formed_step k m ns v) ≡ eq_step m es u v
    node_equal State u v = refl
    node_equal (Constant labels) u v = refl
    node_equal Naturals u v = refl
    node_equal Product u v =
        (λ i. each_place es (tuple_parts (rescaled_places ns (parts u)) i)
        (tuple_parts (rescaled_places ns (parts v)) i))
        ∙ places_equal es ns z (parts u) (parts v)
    node_equal Sum u v = sum_equal u v
    node_equal (Power labels) u v =
        (λ i. pointwise (test_at es 0) (tuple_parts (by_child ns (parts u)) i)
        (tuple_parts (by_child ns (parts v)) i))
        ∙ lists_equal (test_at es 0) (rescale_at ns 0) (at_equal es ns 0 z) (parts u) (parts v)
    node_equal Powerset u v =
        (λ i. same_members (test_at es 0) (set_parts (by_child ns (parts u)) i)
        (set_parts (by_child ns (parts v)) i))
        ∙ members_equal (test_at es 0) (rescale_at ns 0) (at_equal es ns 0 z) (parts u) (parts v)
    node_equal Bag u v = weighed_equal Bag (entries u) (entries v)
    node_equal Distribution u v = weighed_equal Distribution (entries u) (entries v)
    node_equal Integers u v = weighed_equal Integers (entries u) (entries v)
    node_equal Rationals u v = weighed_equal Rationals (entries u) (entries v)

  step_equal :
      (m : Node) (es : List Test) (ns : List Rescale) → AllZip KeepsEquality es ns →
      KeepsEquality (eq_step m es) (formed_step k m ns)
  step_equal m es ns z = record { same = node_equal es ns z m }

  formed-equal :
      (t : Nodes) (p : ℕ) (u v : Value) →
      are_equal t p (formed k t p u) (formed k t p v) ≡ are_equal t p u v
  formed-equal t p =
      (fold-related KeepsEquality no_test no_rescale eq_step (formed_step k) none_equal step_equal
      t p).same

  -- values that fit are equal after rescaling exactly where they were before
  pub rescaled-equal :
      (t : Nodes) (p : ℕ) (u v : Value) → fits t p u ≡ true → fits t p v ≡ true →
      are_equal t p (rescaled k t p u) (rescaled k t p v) ≡ are_equal t p u v
  rescaled-equal t p u v hu hv =
      (λ i. are_equal t p (rescaled-formed k t p u hu i) (rescaled-formed k t p v hv i))
      ∙ formed-equal t p u v

-- ---- order

-- the order and the normal values are the same before and after
record KeepsOrder (c : Form) (n : Rescale) : Type 0 where
  pub order : (u v : Value) → c.compare (n u) (n v) ≡ c.compare u v
  pub normal : (v : Value) → c.is_normal (n v) ≡ c.is_normal v

none_order : KeepsOrder no_form no_rescale
none_order = record { order = λ u v. refl; normal = λ v. refl }

at_order :
    (fs : List Form) (ns : List Rescale) (k : ℕ) → AllZip KeepsOrder fs ns →
    KeepsOrder (form_at fs k) (rescale_at ns k)
at_order [] [] k z = none_order
at_order [] (n ∷ ns) k z = absurd z
at_order (f ∷ fs) [] k z = absurd z
at_order (f ∷ fs) (n ∷ ns) k z = by (k == 0) (at_order fs ns (k - 1) z.1)
  where
    by :
        (b : Bool) → KeepsOrder (form_at fs (k - 1)) (rescale_at ns (k - 1)) →
        KeepsOrder (if b then f else form_at fs (k - 1)) (if b then n else rescale_at ns (k - 1))
    by true later = z.0
    by false later = later

places_order :
    (fs : List Form) (ns : List Rescale) → AllZip KeepsOrder fs ns → (us vs : List Value) →
    each_cmp fs (rescaled_places ns us) (rescaled_places ns vs) ≡ each_cmp fs us vs
places_order [] [] z us vs = refl
places_order [] (n ∷ ns) z us vs = absurd z
places_order (f ∷ fs) [] z us vs = absurd z
places_order (f ∷ fs) (n ∷ ns) z [] [] = refl
places_order (f ∷ fs) (n ∷ ns) z [] (v ∷ vs) = refl
places_order (f ∷ fs) (n ∷ ns) z (u ∷ us) [] = refl
places_order (f ∷ fs) (n ∷ ns) z (u ∷ us) (v ∷ vs) =
    λ i. ordering_then (z.0.order u v i) (places_order fs ns z.1 us vs i)

places_normal :
    (fs : List Form) (ns : List Rescale) → AllZip KeepsOrder fs ns → (vs : List Value) →
    each_normal fs (rescaled_places ns vs) ≡ each_normal fs vs
places_normal [] [] z vs = refl
places_normal [] (n ∷ ns) z vs = absurd z
places_normal (f ∷ fs) [] z vs = absurd z
places_normal (f ∷ fs) (n ∷ ns) z [] = refl
places_normal (f ∷ fs) (n ∷ ns) z (v ∷ vs) =
    λ i. z.0.normal v i && places_normal fs ns z.1 vs i

module _ (c : Form) (n : Rescale) (keeps : KeepsOrder c n) where
  lists_order :
      (us vs : List Value) → slice_cmp c.compare (map n us) (map n vs) ≡ slice_cmp c.compare us vs
  lists_order [] [] = refl
  lists_order [] (v ∷ vs) = refl
  lists_order (u ∷ us) [] = refl
  lists_order (u ∷ us) (v ∷ vs) = λ i. ordering_then (keeps.order u v i) (lists_order us vs i)

  lists_normal : (vs : List Value) → list_all c.is_normal (map n vs) ≡ list_all c.is_normal vs
  lists_normal vs =
      list_all-map c.is_normal n vs ∙ all_same (λ v. c.is_normal (n v)) c.is_normal vs keeps.normal

  lists_ascend : (vs : List Value) → ascends c.compare (map n vs) ≡ ascends c.compare vs
  lists_ascend [] = refl
  lists_ascend (v ∷ []) = refl
  lists_ascend (u ∷ v ∷ vs) = λ i. is_lt (keeps.order u v i) && lists_ascend (v ∷ vs) i

  sets_normal : (vs : List Value) → is_normal_list c (map n vs) ≡ is_normal_list c vs
  sets_normal vs = λ i. lists_ascend vs i && lists_normal vs i

  module _ (f : ℤ → ℤ) (numbers : KeepsNumbers f) where
    abbrev made : Value × ℤ → Value × ℤ
    made w = (n w.0, f w.1)

    entries_order :
        (us vs : List (Value × ℤ)) →
        slice_cmp (entry_cmp c.compare) (map made us) (map made vs)
        ≡ slice_cmp (entry_cmp c.compare) us vs
    entries_order [] [] = refl
    entries_order [] (v ∷ vs) = refl
    entries_order (u ∷ us) [] = refl
    entries_order (u ∷ us) (v ∷ vs) =
        λ i. ordering_then (ordering_then (keeps.order u.0 v.0 i) (numbers.order u.1 v.1 i))
        (entries_order us vs i)

    firsts_made : (es : List (Value × ℤ)) → map (λ e. e.0) (map made es) ≡ map n (map (λ e. e.0) es)
    firsts_made [] = refl
    firsts_made (e ∷ es) = ap (λ l. n e.0 ∷ l) (firsts_made es)

    nonzero_made :
        (es : List (Value × ℤ)) →
        list_all (λ e. not (int_eq e.1 (pos 0))) (map made es)
        ≡ list_all (λ e. not (int_eq e.1 (pos 0))) es
    nonzero_made [] = refl
    nonzero_made (e ∷ es) =
        let one = ap (int_eq (f e.1)) (sym numbers.none) ∙ numbers.equal e.1 (pos 0) in
        λ i. not (one i) && nonzero_made es i

    sums_normal : (es : List (Value × ℤ)) → is_normal_sum c (map made es) ≡ is_normal_sum c es
    sums_normal es =
        let firsts = ap (is_normal_list c) (firsts_made es) ∙ sets_normal (map (λ e. e.0) es) in
        λ i. firsts i && nonzero_made es i

-- numbers that tie are one number
nat_ties : (i j : ℕ) (x y : Ordering) → (i ≡ j → x ≡ y) →
    ordering_then (nat_cmp i j) x ≡ ordering_then (nat_cmp i j) y
nat_ties i j x y h = by (nat_cmp i j) (λ e. h (equal_numbers i j e))
  where
    by : (o : Ordering) → (o ≡ Equal → x ≡ y) → ordering_then o x ≡ ordering_then o y
    by Less h = refl
    by Greater h = refl
    by Equal h = h refl

module _ (k : ℕ) (some : 1 ≤ k) where
  module _ (fs : List Form) (ns : List Rescale) (z : AllZip KeepsOrder fs ns) where
    sum_order :
        (u v : Value) → cmp_step Sum fs (formed_step k Sum ns u) (formed_step k Sum ns v)
        ≡ cmp_step Sum fs u v
    sum_order u v =
        let i : ℕ = index u in
        let j : ℕ = index v in
        let x : Value = rescale_at ns i (inner u) in
        let y : Value = rescale_at ns j (inner v) in
        (λ o. ordering_then (nat_cmp (inj_index i x o) (inj_index j y o))
        ((form_at fs (inj_index i x o)).compare (inj_inner i x o) (inj_inner j y o)))
        ∙ nat_ties i j ((form_at fs i).compare x y) ((form_at fs i).compare (inner u) (inner v))
        (λ e. ap (λ o. (form_at fs i).compare x (rescale_at ns o (inner v))) (sym e)
        ∙ (at_order fs ns i z).order (inner u) (inner v))

    weighed_order :
        (m : Node) (us vs : List (Value × ℤ)) →
        slice_cmp (entry_cmp (form_at fs 0).compare)
        (entries (value.Weights (rescaled_entries k m (rescale_at ns 0) us)))
        (entries (value.Weights (rescaled_entries k m (rescale_at ns 0) vs)))
        ≡ slice_cmp (entry_cmp (form_at fs 0).compare) us vs
    weighed_order m us vs =
        (λ i. slice_cmp (entry_cmp (form_at fs 0).compare)
        (weights_entries (rescaled_entries k m (rescale_at ns 0) us) i)
        (weights_entries (rescaled_entries k m (rescale_at ns 0) vs) i))
        ∙ entries_order (form_at fs 0) (rescale_at ns 0) (at_order fs ns 0 z)
        (rescaled_weight k m) (weight-keeps k m some) us vs

    node_order :
        (m : Node) (u v : Value) →
        cmp_step m fs (formed_step k m ns u) (formed_step k m ns v) ≡ cmp_step m fs u v
    node_order State u v = refl
    node_order (Constant labels) u v = refl
    node_order Naturals u v = refl
    node_order Product u v =
        (λ i. each_cmp fs (tuple_parts (rescaled_places ns (parts u)) i)
        (tuple_parts (rescaled_places ns (parts v)) i))
        ∙ places_order fs ns z (parts u) (parts v)
    node_order Sum u v = sum_order u v
    node_order (Power labels) u v =
        (λ i. slice_cmp (form_at fs 0).compare (tuple_parts (by_child ns (parts u)) i)
        (tuple_parts (by_child ns (parts v)) i))
        ∙ lists_order (form_at fs 0) (rescale_at ns 0) (at_order fs ns 0 z) (parts u) (parts v)
    node_order Powerset u v =
        (λ i. slice_cmp (form_at fs 0).compare (set_parts (by_child ns (parts u)) i)
        (set_parts (by_child ns (parts v)) i))
        ∙ lists_order (form_at fs 0) (rescale_at ns 0) (at_order fs ns 0 z) (parts u) (parts v)
    node_order Bag u v = weighed_order Bag (entries u) (entries v)
    node_order Distribution u v = weighed_order Distribution (entries u) (entries v)
    node_order Integers u v = weighed_order Integers (entries u) (entries v)
    node_order Rationals u v = weighed_order Rationals (entries u) (entries v)

    weighed_normal :
        (m : Node) (es : List (Value × ℤ)) →
        is_normal_sum (form_at fs 0)
        (entries (value.Weights (rescaled_entries k m (rescale_at ns 0) es)))
        ≡ is_normal_sum (form_at fs 0) es
    weighed_normal m es =
        ap (is_normal_sum (form_at fs 0))
        (weights_entries (rescaled_entries k m (rescale_at ns 0) es))
        ∙ sums_normal (form_at fs 0) (rescale_at ns 0) (at_order fs ns 0 z) (rescaled_weight k m)
        (weight-keeps k m some) es

    node_normal :
        (m : Node) (v : Value) → normal_step m fs (formed_step k m ns v) ≡ normal_step m fs v
    node_normal State v = refl
    node_normal (Constant labels) v = refl
    node_normal Naturals v = refl
    node_normal Product v =
        ap (each_normal fs) (tuple_parts (rescaled_places ns (parts v)))
        ∙ places_normal fs ns z (parts v)
    node_normal Sum v =
        let x : Value = rescale_at ns (index v) (inner v) in
        (λ i. (form_at fs (inj_index (index v) x i)).is_normal (inj_inner (index v) x i))
        ∙ (at_order fs ns (index v) z).normal (inner v)
    node_normal (Power labels) v =
        ap (list_all (form_at fs 0).is_normal) (tuple_parts (by_child ns (parts v)))
        ∙ lists_normal (form_at fs 0) (rescale_at ns 0) (at_order fs ns 0 z) (parts v)
    node_normal Powerset v =
        ap (is_normal_list (form_at fs 0)) (set_parts (by_child ns (parts v)))
        ∙ sets_normal (form_at fs 0) (rescale_at ns 0) (at_order fs ns 0 z) (parts v)
    node_normal Bag v = weighed_normal Bag (entries v)
    node_normal Distribution v = weighed_normal Distribution (entries v)
    node_normal Integers v = weighed_normal Integers (entries v)
    node_normal Rationals v = weighed_normal Rationals (entries v)

  step_order :
      (m : Node) (fs : List Form) (ns : List Rescale) → AllZip KeepsOrder fs ns →
      KeepsOrder (form_step m fs) (formed_step k m ns)
  step_order m fs ns z = record { order = node_order fs ns z m; normal = node_normal fs ns z m }

  formed-order : (t : Nodes) (p : ℕ) → KeepsOrder (form t p) (formed k t p)
  formed-order t p =
      fold-related KeepsOrder no_form no_rescale form_step (formed_step k) none_order step_order t p

  -- values that fit compare after rescaling as they did before
  pub rescaled-order :
      (t : Nodes) (p : ℕ) (u v : Value) → fits t p u ≡ true → fits t p v ≡ true →
      compare t p (rescaled k t p u) (rescaled k t p v) ≡ compare t p u v
  rescaled-order t p u v hu hv =
      (λ i. compare t p (rescaled-formed k t p u hu i) (rescaled-formed k t p v hv i))
      ∙ (formed-order t p).order u v

  -- and they are normal exactly where they were before
  pub rescaled-normal :
      (t : Nodes) (p : ℕ) (v : Value) → fits t p v ≡ true →
      is_normal t p (rescaled k t p v) ≡ is_normal t p v
  rescaled-normal t p v h =
      ap (is_normal t p) (rescaled-formed k t p v h) ∙ (formed-order t p).normal v
