-- What the text of a value spells at a node over children at which values are written.
use Rattle.std.proofs.Common.{◌≡◌, ℕ, suc, ◌+◌, ◌-◌, ◌^◌, ◌<◌, ◌≤◌, Bool, true, false, ◌&&◌, List, [], ◌∷◌, length, map, Some, None, refl, sym, ap, ◌∙◌, subst, arith, true≢false}
use Rattle.std.specs.Prelude.{◌==◌, if◌then◌else◌, Ok, ℤ, pos, int_lt, unsigned_abs, decimal, nat_le, replicate, IsTrue}
use Rattle.std.specs.List.{list_all, AllByRecursion, AllZip}
use Rattle.std.specs.Ordering.{int_eq}
use Rattle.std.proofs.lemmas.Bool.{and_parts, leb-true, eq-eqb}
use Rattle.std.proofs.lemmas.Bool.Decides.{nat_tests}
use Rattle.std.proofs.lemmas.List.Sums.{sum_by-cons}
use Rattle.std.proofs.lemmas.List.{length-map}
use Rattle.file_cut.specs.declared.tree.Tree.{Tree}
use Rattle.file_cut.specs.declared.tree.Tree.TheVariants as tree
use Rattle.file_cut.specs.declared.tree.Tree.TheViews as trees
use Rattle.functor_terms.specs.declared.node.Node.{Node}
use Rattle.functor_terms.specs.declared.node.Node.TheVariants.{State, Constant, Naturals, Product, Sum, Power, Powerset, Bag, Distribution, Integers, Rationals}
use Rattle.functor_terms.specs.declared.node.LabelSet.{LabelSet}
use Rattle.functor_terms.specs.Terms.{AreLabels, HasLabels, takes, number_below}
use Rattle.functor_terms.specs.Words.{AreNames}
use Rattle.typing.specs.declared.kind.TypeKind.TheVariants.{WrongShape, WrongCount, MissingKey, BadIndex}
use Rattle.typing.specs.declared.value.Value.{Value, out-Value}
use Rattle.typing.specs.declared.value.Value.TheVariants as value
use Rattle.typing.specs.declared.value.Value.TheViews.{outs-Tuple, outs-Inj, outs-Set, outs-Weights}
use Rattle.typing.specs.Values.{index, inner, parts, entries, states_below}
use Rattle.typing.specs.Fits.{Check, check_at, each_fits, fits_step}
use Rattle.typing.specs.Bounds.{absolute_sum, are_positive, is_within, each_holds, entries_hold, joint_weight, weights_step}
use Rattle.typing.proofs.MapLaws.{parts_below, inner_below, entries_below}
use Rattle.typing.proofs.KeptWeights.{parts_within, inner_within, entries_within}
use Rattle.typing.proofs.NormalLaws.{same_value, set_shape, product_shape, power_shape, sum_shape, weight_shape, IsWeighted, bag_weighted, distribution_weighted, integers_weighted, rationals_weighted}
use Rattle.fitting.specs.declared.fitted.Fitted.{Fitted, Fitted-F}
use Rattle.fitting.specs.declared.fitted.Fitted.TheVariants as fitted
use Rattle.fitting.specs.declared.fitted.Fitted.TheViews as shown
use Rattle.fitting.specs.Levels.{parts_in as tree_parts_in, branch_in, entries_in as tree_entries_in}
use Rattle.fitting.specs.Fitting.{Fit, needs, demands, found, made, fit_at, places, filled, all_held, empty_slots, power_of, set_of, is_from_zero}
use Rattle.fitting.specs.Scaling.{Scale, scale_at, scaled_places, scaled_level, scaled_step}
use Rattle.fitting.proofs.FitSound.{places-suc, scaled-suc}
use Rattle.structure_writer.specs.Text.{Write, write_at, listed, in_braces, in_parentheses, part_text, part_texts, keyed_texts, entry_texts, weights_text, write_step}
use Rattle.structure_writer.specs.Spelled.{free_entries, free_weights, free_step, DividesAll}
use Rattle.structure_writer.proofs.Marks.{IsTextOf, braces-text, tuple-text, inj-text}
use Rattle.structure_writer.proofs.Numbers.{decimal-is, decimal-below, decimal-name, weight-is}
use Rattle.structure_writer.proofs.Steps.{parts-suc}
use Rattle.structure_writer.proofs.Written.{all_divide, entries_divide, divides_of, power_count, IsWritten, IsTested, Writes, state_written, label_written, number_written}
use Rattle.structure_writer.proofs.WrittenLists.{members, IsEntry, entries-of, powers, all-held}

-- l is the common denominator, the states have these names, and children a are known by what is
-- said of values there
module _ (l : ℕ) (some : 1 ≤ l) (small : l ≤ 2 ^ 40) (names : List (List ℕ))
    (are : AreNames names) (n : ℕ) {A : Type 0} (W : A → Write) (G : A → Fit) (S : A → Scale)
    (X Y : A → Check) where
  -- values at a child are written
  abbrev pub IsGood : A → Type 0
  IsGood a = Writes l names n (W a) (G a) (S a) (X a) (Y a)

  -- values at the node m over children are written
  abbrev pub NodeWrites : Node → List A → Type 0
  NodeWrites m xs =
      Writes l names (suc n) (write_step l names m (map W xs)) (free_step names m (map G xs))
      (scaled_step l m (map S xs)) (fits_step m (map X xs)) (weights_step l m (map Y xs))

  -- values that all pass the tests at a child
  each_written : (a : A) → IsGood a → (vs : List Value) → list_all (X a) vs ≡ true
      → list_all (Y a) vs ≡ true → list_all (states_below (length names)) vs ≡ true
      → list_all (is_within (2 ^ 106)) vs ≡ true
      → AllByRecursion (IsWritten l n (W a) (G a) (S a)) vs
  each_written a good [] x y b w = tt
  each_written a good (v ∷ vs) x y b w =
      let p = and_parts (X a v) (list_all (X a) vs) x in
      let q = and_parts (Y a v) (list_all (Y a) vs) y in
      let r = and_parts (states_below (length names) v)
      (list_all (states_below (length names)) vs) b in
      let s = and_parts (is_within (2 ^ 106) v) (list_all (is_within (2 ^ 106)) vs) w in (
        good v (record { fitting = p.0; weighted = q.0; below = r.0; within = s.0 }),
        each_written a good vs p.1 q.1 r.1 s.1,
      )

  -- ---- sets

  set_written : (a : A) → IsGood a → NodeWrites Powerset (a ∷ [])
  set_written a good v t =
      let shape = set_shape (X a ∷ []) (out-Value v) t.fitting in
      let m = members l n (W a) (G a) (S a) (parts v)
      (each_written a good (parts v) shape.1 t.weighted (parts_below (length names) v t.below)
      (parts_within (2 ^ 106) v t.within)) in
      record {
        tree = tree.Braces m.entries;
        fitted = fitted.Set m.fitted;
        text = in_braces (listed (map (W a) (parts v)));
        is = refl;
        piece = braces-text n (map (W a) (parts v)) m.entries m.pieces;
        read =
            ap (λ o. needs o WrongShape (set_of (G a)))
            (ap tree_entries_in (trees.outs-Braces m.entries))
            ∙ (λ i. demands (m.alone i) WrongShape (made fitted.Set (m.read i)));
        back =
            ap (scaled_level l Powerset (S a ∷ [])) (shown.outs-Set m.fitted)
            ∙ ap value.Set m.back
            ∙ sym (same_value v (value.Set (parts v)) (shape.0 ∙ sym (outs-Set (parts v))));
        divides =
            divides_of l (fitted.Set m.fitted) (Fitted-F.Set m.fitted) (shown.outs-Set m.fitted)
            (all_divide l m.fitted m.divides);
      }

  -- ---- powers

  power_written : (labels : LabelSet) → AreLabels labels → (a : A) → IsGood a
      → NodeWrites (Power labels) (a ∷ [])
  power_written labels are_labels a good v t =
      let shape = power_shape labels (X a ∷ []) (out-Value v) t.fitting in
      let count = power_count labels (X a ∷ []) v t.fitting in
      let m = powers l n (W a) (G a) (S a) labels are_labels 0 (parts v) (omega (arith, count))
      (each_written a good (parts v) shape.1 t.weighted (parts_below (length names) v t.below)
      (parts_within (2 ^ 106) v t.within)) in
      let slots : filled labels (G a) (empty_slots labels) m.entries
      ≡ Ok (map (λ f. Some f) m.fitted) =
      ap (λ k. filled labels (G a) (replicate k None) m.entries) (sym count) ∙ m.read [] refl in
      record {
        tree = tree.Braces m.entries;
        fitted = fitted.Tuple m.fitted;
        text = in_braces (listed (keyed_texts labels (W a) 0 (parts v)));
        is = refl;
        piece = braces-text n (keyed_texts labels (W a) 0 (parts v)) m.entries m.pieces;
        read =
            ap (λ o. needs o WrongShape (power_of labels (G a)))
            (ap tree_entries_in (trees.outs-Braces m.entries))
            ∙ (λ i. demands (m.keyed i) WrongShape (found (slots i)
            (λ slots. needs (all_held slots) MissingKey (λ vs. Ok (fitted.Tuple vs)))))
            ∙ ap (λ o. needs o MissingKey (λ vs. Ok (fitted.Tuple vs))) (all-held m.fitted);
        back =
            ap (scaled_level l (Power labels) (S a ∷ [])) (shown.outs-Tuple m.fitted)
            ∙ ap value.Tuple m.back
            ∙ sym (same_value v (value.Tuple (parts v)) (shape.0 ∙ sym (outs-Tuple (parts v))));
        divides =
            divides_of l (fitted.Tuple m.fitted) (Fitted-F.Tuple m.fitted)
            (shown.outs-Tuple m.fitted) (all_divide l m.fitted m.divides);
      }

  -- ---- weights

  -- the weights of entries are texts of weights
  abbrev IsNatural : Node → List (Value × ℤ) → Type 0
  IsNatural m es = is_from_zero m ≡ true → are_positive es ≡ true

  each_entry : (m : Node) (a : A) → IsGood a → (es : List (Value × ℤ))
      → list_all (λ e. X a e.0) es ≡ true → entries_hold (Y a) es ≡ true
      → list_all (λ e. states_below (length names) e.0) es ≡ true
      → list_all (λ e. is_within (2 ^ 106) e.0) es ≡ true → absolute_sum es ≤ 2 ^ 106
      → IsNatural m es → AllByRecursion (IsEntry l n (W a) (G a) (S a) m) es
  each_entry m a good [] x y b w sum natural = tt
  each_entry m a good (e ∷ es) x y b w sum natural =
      let p = and_parts (X a e.0) (list_all (λ (e : Value × ℤ). X a e.0) es) x in
      let q = and_parts (Y a e.0) (entries_hold (Y a) es) y in
      let r = and_parts (states_below (length names) e.0)
      (list_all (λ (e : Value × ℤ). states_below (length names) e.0) es) b in
      let s = and_parts (is_within (2 ^ 106) e.0)
      (list_all (λ (e : Value × ℤ). is_within (2 ^ 106) e.0) es) w in
      let split : absolute_sum (e ∷ es) ≡ unsigned_abs e.1 + absolute_sum es =
      sum_by-cons (λ (w : Value × ℤ). unsigned_abs w.1) e es in
      let both : is_from_zero m ≡ true
      → (int_lt (pos 0) e.1 ≡ true) × (are_positive es ≡ true) =
      λ h. and_parts (int_lt (pos 0) e.1) (are_positive es) (natural h) in (
        (
          good e.0 (record { fitting = p.0; weighted = q.0; below = r.0; within = s.0 }),
          weight-is l some small m e.1 (omega (arith, split, sum)) (λ h. (both h).0),
        ),
        each_entry m a good es p.1 q.1 r.1 s.1 (omega (arith, split, sum)) (λ h. (both h).1),
      )

  -- what a node with weights says
  record HasWeights (m : Node) : Type 0 where
    pub written : (ws : List Write) (v : Value) → write_step l names m ws v ≡ weights_text l m ws v
    pub read : (gs : List Fit) → free_step names m gs ≡ free_weights m gs
    pub shape : IsWeighted m
    pub natural :
        (ys : List Check) (v : Value) → weights_step l m ys v ≡ true → IsNatural m (entries v)
    pub each : (ys : List Check) (v : Value) → weights_step l m ys v ≡ true
        → entries_hold (check_at ys 0) (entries v) ≡ true

  weights_written : (m : Node) → HasWeights m → (a : A) → IsGood a → NodeWrites m (a ∷ [])
  weights_written m has a good v t =
      let shape = weight_shape (X a ∷ []) (out-Value v)
      (sym (has.shape (X a ∷ []) (out-Value v)) ∙ t.fitting) in
      let bounds = entries_within (2 ^ 106) v t.within in
      let es = entries-of l n (W a) (G a) (S a) m (entries v)
      (each_entry m a good (entries v) shape.1 (has.each (Y a ∷ []) v t.weighted)
      (entries_below (length names) v t.below) bounds.0
      (leb-true (absolute_sum (entries v)) (2 ^ 106) bounds.1)
      (has.natural (Y a ∷ []) v t.weighted)) in
      record {
        tree = tree.Braces es.entries;
        fitted = fitted.Weights es.fitted;
        text = in_braces (listed (entry_texts l m (W a) (entries v)));
        is = has.written (W a ∷ []) v;
        piece = braces-text n (entry_texts l m (W a) (entries v)) es.entries es.pieces;
        read =
            ap (λ (g : Fit). g (tree.Braces es.entries)) (has.read (G a ∷ []))
            ∙ ap (λ o. needs o WrongShape (free_entries m (G a)))
            (ap tree_entries_in (trees.outs-Braces es.entries))
            ∙ (λ i. demands (es.weighed i) WrongShape (made fitted.Weights (es.read i)));
        back =
            ap (scaled_level l m (S a ∷ [])) (shown.outs-Weights es.fitted)
            ∙ ap value.Weights es.back
            ∙ sym (same_value v (value.Weights (entries v))
            (shape.0 ∙ sym (outs-Weights (entries v))));
        divides =
            divides_of l (fitted.Weights es.fitted) (Fitted-F.Weights es.fitted)
            (shown.outs-Weights es.fitted) (entries_divide l es.fitted es.divides);
      }

  bag_has : HasWeights Bag
  bag_has = record {
    written = λ ws v. refl;
    read = λ gs. refl;
    shape = bag_weighted;
    natural = λ ys v h e.
        (and_parts (are_positive (entries v)) (entries_hold (check_at ys 0) (entries v)) h).0;
    each = λ ys v h.
        (and_parts (are_positive (entries v)) (entries_hold (check_at ys 0) (entries v)) h).1;
  }

  distribution_parts : (ys : List Check) (v : Value) → weights_step l Distribution ys v ≡ true
      → (are_positive (entries v) ≡ true)
      × ((int_eq (joint_weight Distribution (entries v)) (pos l) ≡ true)
      × (entries_hold (check_at ys 0) (entries v) ≡ true))
  distribution_parts ys v h = by (are_positive (entries v))
      (int_eq (joint_weight Distribution (entries v)) (pos l))
      (entries_hold (check_at ys 0) (entries v)) h
    where
      by : (a b c : Bool) → (a && b && c) ≡ true → (a ≡ true) × ((b ≡ true) × (c ≡ true))
      by true true true h = (refl, (refl, refl))
      by true true false h = cc
      by true false c h = cc
      by false b c h = cc

  distribution_has : HasWeights Distribution
  distribution_has = record {
    written = λ ws v. refl;
    read = λ gs. refl;
    shape = distribution_weighted;
    natural = λ ys v h e. (distribution_parts ys v h).0;
    each = λ ys v h. (distribution_parts ys v h).1.1;
  }

  integers_has : HasWeights Integers
  integers_has = record {
    written = λ ws v. refl;
    read = λ gs. refl;
    shape = integers_weighted;
    natural = λ ys v h e. absurd (true≢false (sym e));
    each = λ ys v h. h;
  }

  rationals_has : HasWeights Rationals
  rationals_has = record {
    written = λ ws v. refl;
    read = λ gs. refl;
    shape = rationals_weighted;
    natural = λ ys v h e. absurd (true≢false (sym e));
    each = λ ys v h. h;
  }

  -- ---- products

  -- what the parts of a product spell, each at its own place
  record ArePlaces (xs : List A) (vs : List Value) : Type 0 where
    pub trees : List Tree
    pub fitted : List Fitted
    pub pieces : AllZip (IsTextOf n) (part_texts (map W xs) 0 vs) trees
    pub count : length trees ≡ length (map G xs)
    pub read : places (map G xs) 0 trees ≡ Ok fitted
    pub back : scaled_places (map S xs) 0 fitted ≡ vs
    pub divides : AllByRecursion (DividesAll l) fitted

  places_written : (xs : List A) → AllByRecursion IsGood xs → (vs : List Value)
      → each_fits (map X xs) vs ≡ true → each_holds (map Y xs) vs ≡ true
      → list_all (states_below (length names)) vs ≡ true
      → list_all (is_within (2 ^ 106)) vs ≡ true → ArePlaces xs vs
  places_written [] good [] x y b w = record {
    trees = [];
    fitted = [];
    pieces = tt;
    count = refl;
    read = refl;
    back = refl;
    divides = tt;
  }
  places_written [] good (v ∷ vs) x y b w = absurd (true≢false (sym x))
  places_written (a ∷ xs) good [] x y b w = absurd (true≢false (sym x))
  places_written (a ∷ xs) good (v ∷ vs) x y b w =
      let p = and_parts (X a v) (each_fits (map X xs) vs) x in
      let q = and_parts (Y a v) (each_holds (map Y xs) vs) y in
      let r = and_parts (states_below (length names) v)
      (list_all (states_below (length names)) vs) b in
      let s = and_parts (is_within (2 ^ 106) v) (list_all (is_within (2 ^ 106)) vs) w in
      let h = good.0 v (record { fitting = p.0; weighted = q.0; below = r.0; within = s.0 }) in
      let rest = places_written xs good.1 vs p.1 q.1 r.1 s.1 in
      record {
        trees = h.tree ∷ rest.trees;
        fitted = h.fitted ∷ rest.fitted;
        pieces = (
          subst (λ (text : List ℕ). IsTextOf n text h.tree) (sym h.is) h.piece,
          subst (λ (texts : List (List ℕ)). AllZip (IsTextOf n) texts rest.trees)
              (sym (parts-suc (W a) (map W xs) 0 vs)) rest.pieces,
        );
        count = ap suc rest.count;
        read =
            (λ i. found (h.read i) (λ v. made (λ vs. v ∷ vs)
            ((places-suc l 0 (G a) (map G xs) 0 rest.trees ∙ rest.read) i)));
        back =
            (λ i. h.back i
            ∷ (scaled-suc l 0 (S a) (map S xs) 0 rest.fitted ∙ rest.back) i);
        divides = (h.divides, rest.divides);
      }

  product_written : (xs : List A) → 2 ≤ length xs → AllByRecursion IsGood xs
      → NodeWrites Product xs
  product_written xs two good v t =
      let shape = product_shape (map X xs) (out-Value v) t.fitting in
      let m = places_written xs good (parts v) shape.1 t.weighted
      (parts_below (length names) v t.below) (parts_within (2 ^ 106) v t.within) in
      let many : 2 ≤ length m.trees = omega (arith, two, m.count, length-map xs G) in
      record {
        tree = tree.Tuple m.trees;
        fitted = fitted.Tuple m.fitted;
        text = in_parentheses (listed (part_texts (map W xs) 0 (parts v)));
        is = refl;
        piece = tuple-text n (part_texts (map W xs) 0 (parts v)) m.trees many m.pieces;
        read =
            ap (λ o. needs o WrongShape (λ us. demands (length us == length (map G xs)) WrongCount
            (made fitted.Tuple (places (map G xs) 0 us))))
            (ap tree_parts_in (trees.outs-Tuple m.trees))
            ∙ (λ i. demands (eq-eqb (length m.trees) (length (map G xs)) m.count i) WrongCount
            (made fitted.Tuple (m.read i)));
        back =
            ap (scaled_level l Product (map S xs)) (shown.outs-Tuple m.fitted)
            ∙ ap value.Tuple m.back
            ∙ sym (same_value v (value.Tuple (parts v)) (shape.0 ∙ sym (outs-Tuple (parts v))));
        divides =
            divides_of l (fitted.Tuple m.fitted) (Fitted-F.Tuple m.fitted)
            (shown.outs-Tuple m.fitted) (all_divide l m.fitted m.divides);
      }

  -- ---- sums

  -- what a value at the k-th child spells, and that there is such a child
  record IsPart (xs : List A) (k : ℕ) (v : Value) : Type 0 where
    pub written :
        IsWritten l n (write_at (map W xs) k) (fit_at (map G xs) k) (scale_at (map S xs) k) v
    pub below : k < length (map G xs)

  part_written : (xs : List A) → AllByRecursion IsGood xs → (k : ℕ) (v : Value)
      → IsTested names (check_at (map X xs) k) (check_at (map Y xs) k) v → IsPart xs k v
  part_written [] good k v t = absurd (true≢false (sym t.fitting))
  part_written (a ∷ xs) good k v t = by (k == 0) refl t (part_written xs good.1 (k - 1) v)
    where
      later : (k : ℕ) (m : ℕ) → (k == 0) ≡ false → k - 1 < m → k < suc m
      later k m h low = grind (arith, nat_tests)

      first : (k : ℕ) (m : ℕ) → (k == 0) ≡ true → k < suc m
      first k m h = grind (arith, nat_tests)

      by : (b : Bool) → (k == 0) ≡ b
          → IsTested names (if b then X a else check_at (map X xs) (k - 1))
          (if b then Y a else check_at (map Y xs) (k - 1)) v
          → (IsTested names (check_at (map X xs) (k - 1)) (check_at (map Y xs) (k - 1)) v
          → IsPart xs (k - 1) v) → IsPart (a ∷ xs) k v
      by true e t rest =
          record {
            written =
                subst (λ (b : Bool). IsWritten l n (if b then W a else write_at (map W xs) (k - 1))
                (if b then G a else fit_at (map G xs) (k - 1))
                (if b then S a else scale_at (map S xs) (k - 1)) v) (sym e) (good.0 v t);
            below = first k (length (map G xs)) e;
          }
      by false e t rest =
          let h = rest t in
          record {
            written =
                subst (λ (b : Bool). IsWritten l n (if b then W a else write_at (map W xs) (k - 1))
                (if b then G a else fit_at (map G xs) (k - 1))
                (if b then S a else scale_at (map S xs) (k - 1)) v) (sym e) h.written;
            below = later k (length (map G xs)) e h.below;
          }

  sum_written : (xs : List A) → length xs ≤ 256 → AllByRecursion IsGood xs → NodeWrites Sum xs
  sum_written xs few good v t =
      let k : ℕ = index v in
      let shape = sum_shape (map X xs) v (out-Value v) t.fitting in
      let h = part_written xs good k (inner v) (record {
        fitting = shape.1;
        weighted = t.weighted;
        below = inner_below (length names) v t.below;
        within = inner_within (2 ^ 106) v t.within;
      }) in
      let u = h.written in
      let less : k < 10 ^ 64 = omega (arith, h.below, few, length-map xs G) in
      record {
        tree = tree.Inj (decimal k) u.tree;
        fitted = fitted.Inj k u.fitted;
        text = part_text k u.text;
        is = ap (part_text k) u.is;
        piece =
            inj-text n (decimal k) u.text u.tree (decimal-name k less) (decimal-is k less).digits
            u.piece;
        read =
            ap (λ o. needs o WrongShape (λ b. needs (number_below (length (map G xs)) b.0) BadIndex
            (λ k. made (fitted.Inj k) (fit_at (map G xs) k b.1))))
            (ap branch_in (trees.outs-Inj (decimal k) u.tree))
            ∙ ap (λ o. needs o BadIndex (λ k. made (fitted.Inj k) (fit_at (map G xs) k u.tree)))
            (decimal-below (length (map G xs)) k less h.below)
            ∙ ap (made (fitted.Inj k)) u.read;
        back =
            ap (scaled_level l Sum (map S xs)) (shown.outs-Inj k u.fitted)
            ∙ ap (value.Inj k) u.back
            ∙ sym (same_value v (value.Inj k (inner v)) (shape.0 ∙ sym (outs-Inj k (inner v))));
        divides =
            divides_of l (fitted.Inj k u.fitted) (Fitted-F.Inj k u.fitted)
            (shown.outs-Inj k u.fitted) u.divides;
      }

  -- ---- all nodes

  none : (k : ℕ) → IsTrue (k == 0) → k ≡ 0
  none k h = grind (arith, nat_tests)

  one_alone : (k : ℕ) → IsTrue (k == 1) → k ≡ 1
  one_alone k h = grind (arith, nat_tests)

  two : (k : ℕ) → IsTrue (nat_le 2 k) → 2 ≤ k
  two k h = grind (arith, nat_tests)

  -- a node over one child
  over_one : (m : Node) (xs : List A) → IsTrue (length xs == 1) → AllByRecursion IsGood xs
      → ((a : A) → IsGood a → NodeWrites m (a ∷ [])) → NodeWrites m xs
  over_one m [] arity good h = absurd (omega (arith, one_alone 0 arity))
  over_one m (a ∷ []) arity good h = h a good.0
  over_one m (a ∷ b ∷ xs) arity good h =
      absurd (omega (arith, one_alone (length (a ∷ b ∷ xs)) arity))

  -- a node over children that are written is written
  pub node-written : (m : Node) (xs : List A) → IsTrue (takes m (length xs)) → HasLabels m
      → length xs ≤ 256 → AllByRecursion IsGood xs → NodeWrites m xs
  node-written State xs arity labels few good =
      state_written l names are (suc n) (map W xs) (map G xs) (map S xs) (map X xs) (map Y xs)
  node-written (Constant ls) xs arity labels few good =
      label_written l names are (suc n) ls labels (map W xs) (map G xs) (map S xs) (map X xs)
      (map Y xs)
  node-written Naturals xs arity labels few good =
      number_written l names are (suc n) (map W xs) (map G xs) (map S xs) (map X xs) (map Y xs)
  node-written Product xs arity labels few good =
      product_written xs (two (length xs) arity) good
  node-written Sum xs arity labels few good = sum_written xs few good
  node-written (Power ls) xs arity labels few good =
      over_one (Power ls) xs arity good (power_written ls labels)
  node-written Powerset xs arity labels few good = over_one Powerset xs arity good set_written
  node-written Bag xs arity labels few good =
      over_one Bag xs arity good (weights_written Bag bag_has)
  node-written Distribution xs arity labels few good =
      over_one Distribution xs arity good (weights_written Distribution distribution_has)
  node-written Integers xs arity labels few good =
      over_one Integers xs arity good (weights_written Integers integers_has)
  node-written Rationals xs arity labels few good =
      over_one Rationals xs arity good (weights_written Rationals rationals_has)
