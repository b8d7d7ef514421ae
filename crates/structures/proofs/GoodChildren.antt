-- The children of a structure that fits: they fit, and their nodes are later.
use Rattle.std.proofs.Common.{◌≡◌, ℕ, zero, suc, ◌-◌, ◌<◌, Bool, true, false, List, [], ◌∷◌, length, map, Some, slice_get, Contains, refl, sym, ap, ◌∙◌, subst, true≢false, ⊎_elim, arith}
use Rattle.std.specs.Prelude.{ℤ, slice_index, ◌==◌, if◌then◌else◌}
use Rattle.std.specs.List.{list_all, zip}
use Rattle.std.proofs.lemmas.Bool.{and_parts, and_from, cases_lt}
use Rattle.std.proofs.lemmas.List.{length-map}
use Rattle.std.proofs.lemmas.List.Folds.{list_all-map}
use Rattle.std.proofs.lemmas.Option.{same_Some, none-some}
use Rattle.functor_terms.specs.declared.node.LabelSet.{LabelSet}
use Rattle.functor_terms.specs.declared.node.Node.{Node}
use Rattle.functor_terms.specs.declared.node.Node.TheVariants.{State, Constant, Naturals, Product, Sum, Power, Powerset, Bag, Distribution, Integers, Rationals}
use Rattle.functor_terms.specs.Terms.{label_count}
use Rattle.typing.specs.declared.value.Value.{Value, Value-F, out-Value}
use Rattle.typing.specs.Values.{index, inner, parts, entries, parts_in, inner_in, index_in, entries_in}
use Rattle.typing.specs.Fits.{Check, fits_level, fits_step, check_at, each_fits}
use Rattle.typing.specs.Layers.{Place, at_child, weighed, child_places}
use Rattle.structures.proofs.AtChild.{at_child-within, at_child-past, picked_in}
use Rattle.typing.proofs.TermFacts.{not_zero}
use Rattle.functor_terms.proofs.Folds.{first_in, rest_in}

-- what passes the k-th check shows that there is one
pub check_within : (fs : List Check) (k : ℕ) (v : Value) → check_at fs k v ≡ true → k < length fs
check_within [] k v h = absurd (true≢false (sym h))
check_within (f ∷ fs) zero v h = omega arith
check_within (f ∷ fs) (suc k) v h =
    let one : suc k - 1 ≡ k = omega arith in
    let later : check_at fs k v ≡ true =
    sym (ap (λ o. (if o then f else check_at fs (suc k - 1)) v) (not_zero k)
    ∙ ap (λ n. check_at fs n v) one)
    ∙ h in
    omega (arith, check_within fs k v later)

-- the k-th check of a list of checks, one for each node
check_at-map : (f : ℕ → Check) (qs : List ℕ) (k : ℕ) → k < length qs
    → check_at (map f qs) k ≡ f (slice_index qs k)
check_at-map f [] k h = absurd (omega arith)
check_at-map f (q ∷ qs) zero h = refl
check_at-map f (q ∷ qs) (suc k) h =
    let one : suc k - 1 ≡ k = omega arith in
    ap (λ o. if o then f q else check_at (map f qs) (suc k - 1)) (not_zero k)
    ∙ ap (check_at (map f qs)) one ∙ check_at-map f qs k (omega arith)

module _ (f : ℕ → Check) (B : Value → Bool) (qs : List ℕ) where
  -- a child at one of the nodes, which passes its check
  pub record IsGood (x : Place) : Type 0 where
    pub node : Contains qs x.0
    pub fit : f x.0 x.1 ≡ true
    pub below : B x.1 ≡ true

  abbrev AreGood : List Place → Type 0
  AreGood places = (i : ℕ) (x : Place) → slice_get places i ≡ Some x → IsGood x

  none_good : AreGood []
  none_good i x e = absurd (none-some x e)

  one_good : (y : Place) (ys : List Place) → IsGood y → AreGood ys → AreGood (y ∷ ys)
  one_good y ys h hs zero x e = subst IsGood (same_Some y x e) h
  one_good y ys h hs (suc i) x e = hs i x e

  -- what passes the k-th check
  picked_good : (k : ℕ) (v : Value) → check_at (map f qs) k v ≡ true → B v ≡ true
      → IsGood (slice_index qs k, v)
  picked_good k v h b =
      let inside : k < length qs = subst (λ m. k < m) (length-map qs f) (check_within (map f qs) k v
      h) in
      record {
        node = picked_in qs k inside;
        fit =
            sym (ap (λ (g : Check). g v) (check_at-map f qs k inside)) ∙ h;
        below = b;
      }

  each_good :
      (k : ℕ) (us : List Value) → list_all (check_at (map f qs) k) us ≡ true →
      list_all B us ≡ true → AreGood (map (λ u. (slice_index qs k, u)) us)
  each_good k [] h b = none_good
  each_good k (u ∷ us) h b =
      let p = and_parts (check_at (map f qs) k u) (list_all (check_at (map f qs) k) us) h in
      let q = and_parts (B u) (list_all B us) b in
      one_good _ (map (λ u. (slice_index qs k, u)) us) (picked_good k u p.0 q.0)
      (each_good k us p.1 q.1)

  -- values at the k-th node, each of which passes the k-th check
  at_good :
      (k : ℕ) (us : List Value) → list_all (check_at (map f qs) k) us ≡ true →
      list_all B us ≡ true → AreGood (at_child qs k us)
  at_good k us h b =
      ⊎_elim (λ w. subst AreGood (sym (at_child-within qs k us w)) (each_good k us h b))
      (λ w. subst AreGood (sym (at_child-past qs k us w)) none_good) (cases_lt k (length qs))

  -- a test of the values that have weights
  of_weighed :
      (g : Value → Bool) (v : Value) → list_all (λ (e : Value × ℤ). g e.0) (entries v) ≡ true →
      list_all g (weighed v) ≡ true
  of_weighed g v h = list_all-map g (λ (e : Value × ℤ). e.0) (entries v) ∙ h

zip_good : (f : ℕ → Check) (B : Value → Bool) (all qs : List ℕ) (us : List Value)
    → ((q : ℕ) → Contains qs q → Contains all q) → each_fits (map f qs) us ≡ true
    → list_all (B) us ≡ true → AreGood f B all (zip qs us)
zip_good f B all [] us w h b = none_good f B all
zip_good f B all (q ∷ qs) [] w h b = none_good f B all
zip_good f B all (q ∷ qs) (u ∷ us) w h b =
    let p = and_parts (f q u) (each_fits (map f qs) us) h in
    let c = and_parts (B u) (list_all (B) us) b in
    one_good f B all (q, u) (zip qs us) (record {
      node = w q (first_in q qs);
      fit = p.0;
      below =
          c.0;
    }) (zip_good f B all qs us (λ r k. w r (rest_in q qs r k)) p.1 c.1)

-- the children of a structure that fits, at a node that is no State node
module _ (f : ℕ → Check) (B : Value → Bool) (qs : List ℕ) (p : ℕ) (v : Value)
    (in_parts : list_all B (parts v) ≡ true) (in_inner : B (inner v) ≡ true)
    (in_entries : list_all (λ e. B e.0) (entries v) ≡ true) where
  abbrev Goal : Node → Type 0
  Goal m = fits_step m (map f qs) v ≡ true → AreGood f B qs (child_places m qs p v)

  wrong : {A : Type 0} → false ≡ true → A
  wrong e = absurd (true≢false (sym e))

  set_parts : (x : Value-F Value) → fits_level Powerset (map f qs) x ≡ true
      → list_all (check_at (map f qs) 0) (parts_in x) ≡ true
  set_parts (Value-F.Set vs) h = h
  set_parts (Value-F.State i) h = wrong h
  set_parts (Value-F.Label i) h = wrong h
  set_parts (Value-F.Tuple vs) h = wrong h
  set_parts (Value-F.Inj k u) h = wrong h
  set_parts (Value-F.Weights es) h = wrong h

  product_parts : (x : Value-F Value) → fits_level Product (map f qs) x ≡ true
      → each_fits (map f qs) (parts_in x) ≡ true
  product_parts (Value-F.Tuple vs) h = h
  product_parts (Value-F.Set vs) h = wrong h
  product_parts (Value-F.State i) h = wrong h
  product_parts (Value-F.Label i) h = wrong h
  product_parts (Value-F.Inj k u) h = wrong h
  product_parts (Value-F.Weights es) h = wrong h

  weight_parts : (x : Value-F Value) → fits_level Bag (map f qs) x ≡ true
      → list_all (λ e. check_at (map f qs) 0 e.0) (entries_in x) ≡ true
  weight_parts (Value-F.Weights es) h = h
  weight_parts (Value-F.State i) h = wrong h
  weight_parts (Value-F.Label i) h = wrong h
  weight_parts (Value-F.Tuple vs) h = wrong h
  weight_parts (Value-F.Set vs) h = wrong h
  weight_parts (Value-F.Inj k u) h = wrong h

  sum_part : (x : Value-F Value) → fits_level Sum (map f qs) x ≡ true
      → check_at (map f qs) (index_in x) (inner_in v x) ≡ true
  sum_part (Value-F.Inj k u) h = h
  sum_part (Value-F.State i) h = wrong h
  sum_part (Value-F.Label i) h = wrong h
  sum_part (Value-F.Tuple vs) h = wrong h
  sum_part (Value-F.Set vs) h = wrong h
  sum_part (Value-F.Weights es) h = wrong h

  module _ (labels : LabelSet) where
    power_parts : (x : Value-F Value) → fits_level (Power labels) (map f qs) x ≡ true
        → list_all (check_at (map f qs) 0) (parts_in x) ≡ true
    power_parts (Value-F.Tuple vs) h = (and_parts (length vs == label_count labels)
        (list_all (check_at (map f qs) 0) vs) h).1
    power_parts (Value-F.Set vs) h = wrong h
    power_parts (Value-F.State i) h = wrong h
    power_parts (Value-F.Label i) h = wrong h
    power_parts (Value-F.Inj k u) h = wrong h
    power_parts (Value-F.Weights es) h = wrong h

  keys :
      list_all (λ (e : Value × ℤ). check_at (map f qs) 0 e.0) (entries v) ≡ true →
      AreGood f B qs (at_child qs 0 (weighed v))
  keys h =
      at_good f B qs 0 (weighed v) (of_weighed f B qs (check_at (map f qs) 0) v h)
      (of_weighed f B qs B v in_entries)

  -- the children of what fits, fit
  pub children_good : (m : Node) → (m ≡ State → ⊥) → Goal m
  children_good State other h = absurd (other refl)
  children_good (Constant labels) other h = none_good f B qs
  children_good Naturals other h = none_good f B qs
  children_good Product other h = zip_good f B qs qs (parts v) (λ q c. c)
      (product_parts (out-Value v) h) in_parts
  children_good Sum other h =
      at_good f B qs (index v) (inner v ∷ [])
      (and_from (check_at (map f qs) (index v) (inner v)) true (sum_part (out-Value v) h) refl)
      (and_from (B (inner v)) true in_inner refl)
  children_good (Power labels) other h =
      at_good f B qs 0 (parts v) (power_parts labels (out-Value v) h) in_parts
  children_good Powerset other h =
      at_good f B qs 0 (parts v) (set_parts (out-Value v) h) in_parts
  children_good Bag other h = keys (weight_parts (out-Value v) h)
  children_good Distribution other h = keys (weight_parts (out-Value v) h)
  children_good Integers other h = keys (weight_parts (out-Value v) h)
  children_good Rationals other h = keys (weight_parts (out-Value v) h)
