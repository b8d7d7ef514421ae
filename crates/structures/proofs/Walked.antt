-- One step of the walk keeps its facts.
use Rattle.std.proofs.Common.{◌≡◌, ℕ, zero, suc, ◌+◌, ◌<◌, ◌≤◌, ◌^◌, Bool, true, false, not, cond, List, [], ◌∷◌, ◌++◌, length, map, take, drop, Some, slice_get, refl, sym, ap, ◌∙◌, subst, ⊎_elim, inl, inr, arith, length-append}
use Rattle.std.specs.Prelude.{◌⊎◌, unwrap_or}
use Rattle.std.specs.List.{list_all, AllByRecursion, AllZip}
use Rattle.functor_terms.specs.declared.node.Node.{Node}
use Rattle.functor_terms.specs.declared.node.Node.TheVariants.{State}
use Rattle.functor_terms.specs.Terms.{Nodes, IsTerm, node_at}
use Rattle.typing.specs.declared.value.Value.{Value}
use Rattle.typing.specs.Values.{state, states_below}
use Rattle.typing.specs.Fits.{fits}
use Rattle.typing.specs.Bounds.{is_within}
use Rattle.typing.specs.Layers.{Place, leaves_of, layers_in, is_state_at, added, sorted_in, edges_in, sorted_count, roots_of}
use Rattle.typing.proofs.StableLaws.{each_of}
use Rattle.edge_store.specs.Edges.{chosen}
use Rattle.structures.specs.Structures.{repeated, sources_from}
use Rattle.structures.specs.Walk.{targets_of, LeadsTo, IsWalked}
use Rattle.structures.proofs.Expands.{drop_at}
use Rattle.structures.proofs.Chosen.{length-repeated, chosen-append, chosen-repeated, chosen-other, chosen-past, sources-snoc, take_next, later_test}
use Rattle.structures.proofs.Sound.{IsSound, kept_at, either_at, layer_at, first_part, drop-append, added-append, kid_sound, layer_later, over-at, all_kept, kids_lead, fits_inside}
use Rattle.std.proofs.lemmas.Option.{same_Some, none-some, slice_get_within}
use Rattle.std.proofs.lemmas.List.{append-nil}

length-take : {X : Type 0} (xs : List X) (i : ℕ) → i ≤ length xs → length (take i xs) ≡ i
length-take [] zero h = refl
length-take [] (suc i) h = absurd (omega arith)
length-take (x ∷ xs) zero h = refl
length-take (x ∷ xs) (suc i) h = ap suc (length-take xs i (omega arith))

take_first :
    {X : Type 0} (xs ys : List X) (i : ℕ) → i ≤ length xs → take i (xs ++ ys) ≡ take i xs
take_first [] [] zero h = refl
take_first [] (y ∷ ys) zero h = refl
take_first [] ys (suc i) h = absurd (omega arith)
take_first (x ∷ xs) ys zero h = refl
take_first (x ∷ xs) ys (suc i) h = ap (λ l. x ∷ l) (take_first xs ys i (omega arith))

-- a target for each child
pub targets_count : (t : Nodes) (n : ℕ) (kids : List Place)
    → length (targets_of t n kids) ≡ length kids
targets_count t n [] = refl
targets_count t n (x ∷ xs) = by (λ m. targets_count t m xs) (is_state_at t x)
  where
    by :
        ((m : ℕ) → length (targets_of t m xs) ≡ length xs) → (b : Bool) →
        length (cond b (unwrap_or (state x.1) 0 ∷ targets_of t n xs)
        (n ∷ targets_of t (n + 1) xs)) ≡ suc (length xs)
    by later true = ap suc (later n)
    by later false = ap suc (later (n + 1))

-- numbers below a bound
abbrev AreBelow : ℕ → List ℕ → Type 0
AreBelow n ks = AllByRecursion (λ k. k < n) ks

below_more : (n m : ℕ) (ks : List ℕ) → n ≤ m → AreBelow n ks → AreBelow m ks
below_more n m [] h b = tt
below_more n m (k ∷ ks) h b = (omega (arith, h, b.0), below_more n m ks h b.1)

below-append : (n : ℕ) (ks js : List ℕ) → AreBelow n ks → AreBelow n js → AreBelow n (ks ++ js)
below-append n [] js a b = b
below-append n (k ∷ ks) js a b = (a.0, below-append n ks js a.1 b)

module _
    (t : Nodes) (values : List Value) (is : IsTerm t) (places : List Place)
    (sources targets : List ℕ) (at : ℕ) (walked : IsWalked t values places sources targets at)
    (x : Place) (here : slice_get places at ≡ Some x) where
  abbrev n : ℕ
  n = length values

  abbrev more : List Place
  more = layers_in t (leaves_of t x)

  abbrev count : ℕ
  count = length (leaves_of t x)

  abbrev new : List ℕ
  new = targets_of t (length places) (leaves_of t x)

  abbrev new_sources : List ℕ
  new_sources = sources ++ repeated at count

  abbrev new_targets : List ℕ
  new_targets = targets ++ new

  sound : IsSound t is n x
  sound =
      let f = walked.fit at x here in record { fit = f.0; below = f.1; within = f.2 }

  inside : at < length places
  inside = slice_get_within places at x here

  before : length (take at places) ≡ at
  before = length-take places at (omega (arith, inside))

  leads :
      AllZip (λ w k. LeadsTo (node_at t w.0) n (places ++ more) w k) (leaves_of t x) new
  leads = kids_lead t is n places (leaves_of t x) (kid_sound t is n x sound)

  new_count : length new ≡ count
  new_count = targets_count t (length places) (leaves_of t x)

  target_inside :
      (all : List Place) → n ≤ length all → (m : Node) (w : Place) (k : ℕ) →
      LeadsTo m n all w k → k < length all
  target_inside all h State w k (i, is_i, in_i, same) = omega (arith, in_i, same, h)
  target_inside all h m w k e = slice_get_within all k w e

  targets_inside :
      (all : List Place) (ws : List Place) (ks : List ℕ) →
      AllZip (λ w k. LeadsTo (node_at t w.0) n all w k) ws ks → n ≤ length all →
      AreBelow (length all) ks
  targets_inside all [] [] h e = tt
  targets_inside all [] (k ∷ ks) h e = absurd h
  targets_inside all (w ∷ ws) [] h e = absurd h
  targets_inside all (w ∷ ws) (k ∷ ks) h e =
      (target_inside all e (node_at t w.0) w k h.0, targets_inside all ws ks h.1 e)

  -- what is chosen of the edges with the new ones
  chosen_both :
      (y : ℕ) → chosen y new_sources new_targets
      ≡ chosen y sources targets ++ chosen y (repeated at count) new
  chosen_both y = chosen-append y sources (repeated at count) targets new walked.one_each

  chosen_old : (y : ℕ) → y < at → chosen y new_sources new_targets ≡ chosen y sources targets
  chosen_old y h =
      chosen_both y
      ∙ ap (λ l. chosen y sources targets ++ l) (chosen-other y at count new (later_test at y h))
      ∙ append-nil (chosen y sources targets)

  chosen_new : chosen at new_sources new_targets ≡ new
  chosen_new =
      let none : chosen at sources targets ≡ [] =
      ap (λ l. chosen at l targets) walked.by_source
      ∙ chosen-past t at 0 (take at places) (omega (arith, before)) targets in
      chosen_both at ∙ ap (λ l. l ++ chosen at (repeated at count) new) none
      ∙ chosen-repeated at count new new_count

  kept_sources : new_sources ≡ sources_from t 0 (take (at + 1) (places ++ more))
  kept_sources =
      let first : take (at + 1) (places ++ more) ≡ take at places ++ x ∷ [] =
      take_first places more (at + 1) (omega (arith, inside)) ∙ take_next places at x here in
      let number : 0 + length (take at places) ≡ at = omega (arith, before) in
      sym (ap (λ l. sources_from t 0 l) first ∙ sources-snoc t 0 (take at places) x
      ∙ ap (λ k. sources_from t 0 (take at places) ++ repeated k count) number
      ∙ ap (λ l. l ++ repeated at count) (sym walked.by_source))

  earlier_or_now : (y : ℕ) → y < at + 1 → (y < at) ⊎ (y ≡ at)
  earlier_or_now y h = grind arith

  old :
      (y : ℕ) (z : Place) → y < at → slice_get (places ++ more) y ≡ Some z →
      AllZip (λ w k. LeadsTo (node_at t w.0) n (places ++ more) w k) (leaves_of t z)
      (chosen y new_sources new_targets)
  old y z h e =
      let linked = walked.linked y z h (first_part places more y z (omega (arith, inside)) e) in
      subst
      (λ ks. AllZip (λ w k. LeadsTo (node_at t w.0) n (places ++ more) w k) (leaves_of t z) ks)
      (sym (chosen_old y h))
      (all_kept t is n places more (leaves_of t z) (chosen y sources targets) linked)

  now :
      (y : ℕ) (z : Place) → y ≡ at → slice_get (places ++ more) y ≡ Some z →
      AllZip (λ w k. LeadsTo (node_at t w.0) n (places ++ more) w k) (leaves_of t z)
      (chosen y new_sources new_targets)
  now y z same e =
      let this : x ≡ z =
      same_Some x z (sym (kept_at places more at x here)
      ∙ ap (slice_get (places ++ more)) (sym same) ∙ e) in
      let those : chosen y new_sources new_targets ≡ new =
      ap (λ k. chosen k new_sources new_targets) same ∙ chosen_new in
      subst
      (λ w. AllZip (λ w k. LeadsTo (node_at t w.0) n (places ++ more) w k) (leaves_of t w)
      (chosen y new_sources new_targets)) this
      (subst
      (λ ks. AllZip (λ w k. LeadsTo (node_at t w.0) n (places ++ more) w k) (leaves_of t x) ks)
      (sym those) leads)

  -- one place more is walked
  pub walked_step : IsWalked t values (places ++ more) new_sources new_targets (at + 1)
  walked_step = record {
    rooted = λ i v e. kept_at places more i (0, v) (walked.rooted i v e);
    fit = λ y z e. ⊎_elim (λ old. walked.fit y z old)
        (λ new. let good = (layer_later t is n x sound new.0 z new.1).2 in
        (good.fit, good.below, good.within)) (either_at places more y z e);
    enough = omega (arith, walked.enough, length-append places more);
    at_layers = λ y z e. ⊎_elim (λ old. walked.at_layers y z old)
        (λ new. inr (layer_at t (leaves_of t x) new.0 z new.1)) (either_at places more y z e);
    by_source = kept_sources;
    one_each =
        omega (
          arith,
          length-append targets new,
          length-append sources (repeated at count),
          walked.one_each,
          new_count,
          length-repeated at count,
        );
    inside =
        let larger : length places ≤ length (places ++ more) =
        omega (arith, length-append places more) in
        below-append (length (places ++ more)) targets new
        (below_more (length places) (length (places ++ more)) targets larger walked.inside)
        (targets_inside (places ++ more) (leaves_of t x) new leads
        (omega (arith, walked.enough, larger)));
    linked = λ y z h e.
        ⊎_elim (λ earlier. old y z earlier e) (λ same. now y z same e) (earlier_or_now y h);
    counted =
        let rest : List Place = drop (at + 1) places in
        let behind :
        added (map (sorted_in t) (drop (at + 1) (places ++ more)))
        ≡ added (map (sorted_in t) rest) + added (map (sorted_in t) more) =
        ap (λ l. added (map (sorted_in t) l))
        (drop-append places more (at + 1) (omega (arith, inside)))
        ∙ added-append (sorted_in t) rest more in
        let all :
        added (map (sorted_in t) (drop at places))
        ≡ sorted_in t x + added (map (sorted_in t) rest) =
        ap (λ l. added (map (sorted_in t) l)) (drop_at places at x here) in
        let one : sorted_in t x ≡ 1 + added (map (sorted_in t) more) =
        over-at t is n 0 (λ y counts. 1 + added counts) x sound in
        omega (arith, behind, all, one, walked.counted);
    edged =
        let rest : List Place = drop (at + 1) places in
        let behind :
        added (map (edges_in t) (drop (at + 1) (places ++ more)))
        ≡ added (map (edges_in t) rest) + added (map (edges_in t) more) =
        ap (λ l. added (map (edges_in t) l))
        (drop-append places more (at + 1) (omega (arith, inside)))
        ∙ added-append (edges_in t) rest more in
        let all :
        added (map (edges_in t) (drop at places))
        ≡ edges_in t x + added (map (edges_in t) rest) =
        ap (λ l. added (map (edges_in t) l)) (drop_at places at x here) in
        let one : edges_in t x ≡ count + added (map (edges_in t) more) =
        over-at t is n 0 (λ y counts. length (leaves_of t y) + added counts) x sound in
        omega (arith, behind, all, one, new_count, length-append targets new, walked.edged);
  }

-- each structure counts itself
at_least :
    (t : Nodes) (is : IsTerm t) (n : ℕ) (xs : List Place) →
    ((i : ℕ) (x : Place) → slice_get xs i ≡ Some x → IsSound t is n x) →
    length xs ≤ added (map (sorted_in t) xs)
at_least t is n [] h = omega arith
at_least t is n (x ∷ xs) h =
    let one :
    sorted_in t x ≡ 1 + added (map (sorted_in t) (layers_in t (leaves_of t x))) =
    over-at t is n 0 (λ y counts. 1 + added counts) x (h 0 x refl) in
    omega (arith, one, at_least t is n xs (λ i y e. h (suc i) y e))

dropped_at :
    {X : Type 0} (xs : List X) (k i : ℕ) (x : X) → slice_get (drop k xs) i ≡ Some x →
    slice_get xs (k + i) ≡ Some x
dropped_at [] zero i x e = absurd (none-some x e)
dropped_at [] (suc k) i x e = absurd (none-some x e)
dropped_at (y ∷ ys) zero i x e =
    let zeroth : i ≡ 0 + i = omega arith in subst (λ j. slice_get (y ∷ ys) j ≡ Some x) zeroth e
dropped_at (y ∷ ys) (suc k) i x e =
    let next : suc (k + i) ≡ suc k + i = omega arith in
    subst (λ j. slice_get (y ∷ ys) j ≡ Some x) next (dropped_at ys k i x e)

length-drop : {X : Type 0} (xs : List X) (k : ℕ) → length xs ≤ k + length (drop k xs)
length-drop [] k = omega arith
length-drop (x ∷ xs) zero = omega arith
length-drop (x ∷ xs) (suc k) = omega (arith, length-drop xs k)

module _
    (t : Nodes) (values : List Value) (is : IsTerm t) (places : List Place)
    (sources targets : List ℕ) (at : ℕ)
    (walked : IsWalked t values places sources targets at) where
  -- there are no more places than structures in the values
  pub few_places : length places ≤ sorted_count t values
  few_places =
      let sound : (i : ℕ) (x : Place) → slice_get places i ≡ Some x →
      IsSound t is (length values) x =
      λ i x e. let f = walked.fit i x e in
      record { fit = f.0; below = f.1; within = f.2 } in
      let least : length (drop at places) ≤ added (map (sorted_in t) (drop at places)) =
      at_least t is (length values) (drop at places)
      (λ i x e. sound (at + i) x (dropped_at places at i x e)) in
      omega (arith, least, length-drop places at, walked.counted)

  -- the node of a place is one of the term
  pub node_inside : (y : ℕ) (x : Place) → slice_get places y ≡ Some x → x.0 < length t
  node_inside y x e = fits_inside t x.0 x.1 (walked.fit y x e).0

-- what one structure adds
pub few_layers : (t : Nodes) (places : List Place) → length (layers_in t places) ≤ length places
few_layers t [] = omega arith
few_layers t (x ∷ xs) = by (is_state_at t x) (few_layers t xs)
  where
    by :
        (b : Bool) → length (layers_in t xs) ≤ length xs →
        length (cond (not b) (x ∷ layers_in t xs) (layers_in t xs)) ≤ suc (length xs)
    by true h = omega arith
    by false h = omega arith

-- at the start
module _
    (t : Nodes) (values : List Value) (fitting : list_all (fits t 0) values ≡ true)
    (in_range : list_all (states_below (length values)) values ≡ true)
    (in_bounds : list_all (is_within (2 ^ 106)) values ≡ true) where
  root_of :
      (vs : List Value) (i : ℕ) (v : Value) → slice_get vs i ≡ Some v →
      slice_get (roots_of vs) i ≡ Some (0, v)
  root_of [] i v e = absurd (none-some v e)
  root_of (u ∷ us) zero v e = ap (λ (w : Value). Some (0, w)) (same_Some u v e)
  root_of (u ∷ us) (suc i) v e = root_of us i v e

  value_at :
      (vs : List Value) (i : ℕ) (x : Place) → slice_get (roots_of vs) i ≡ Some x →
      (v : Value) × (slice_get vs i ≡ Some v) × ((0, v) ≡ x)
  value_at [] i x e = absurd (none-some x e)
  value_at (u ∷ us) zero x e = (u, refl, same_Some (0, u) x e)
  value_at (u ∷ us) (suc i) x e = value_at us i x e

  roots_count : (vs : List Value) → length (roots_of vs) ≡ length vs
  roots_count [] = refl
  roots_count (v ∷ vs) = ap suc (roots_count vs)

  none_taken : (xs : List Place) → take 0 xs ≡ []
  none_taken [] = refl
  none_taken (x ∷ xs) = refl

  -- before the first place the places are the roots
  pub walked_start : IsWalked t values (roots_of values) [] [] 0
  walked_start = record {
    rooted = root_of values;
    fit = λ y x e.
        let (v, at_v, is_v) = value_at values y x e in
        subst
        (λ (z : Place). (fits t z.0 z.1 ≡ true) × (states_below (length values) z.1 ≡ true)
        × (is_within (2 ^ 106) z.1 ≡ true)) is_v (
          each_of (fits t 0) values fitting y v at_v,
          each_of (states_below (length values)) values in_range y v at_v,
          each_of (is_within (2 ^ 106)) values in_bounds y v at_v,
        );
    enough = omega (arith, roots_count values);
    at_layers = λ y x e.
        let (v, at_v, is_v) = value_at values y x e in inl (ap (λ (z : Place). z.0) (sym is_v));
    by_source = sym (ap (λ l. sources_from t 0 l) (none_taken (roots_of values)));
    one_each = refl;
    inside = tt;
    linked = λ y x h e. absurd (omega (arith, h));
    counted = omega arith;
    edged = omega arith;
  }
