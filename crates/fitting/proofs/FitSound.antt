-- What a tree denotes fits its node, once it is scaled, and speaks of named states alone.
use Rattle.std.proofs.Common.{◌≡◌, ℕ, suc, ◌+◌, ◌-◌, ◌<◌, Bool, true, false, ◌&&◌, ◌||◌, List, [], ◌∷◌, length, map, refl, sym, ap, ◌∙◌, subst, true≢false, arith}
use Rattle.std.specs.Prelude.{Some, None, Ok, ◌==◌, if◌then◌else◌, nat_lt, nat_le, ℤ}
use Rattle.std.specs.List.{AllByRecursion, list_all, list_any}
use Rattle.std.specs.Char.{is_ascii_digit}
use Rattle.std.specs.Str.Parse.{digits_value}
use Rattle.std.proofs.lemmas.Bool.{and_parts, and_from, lt-ltb, ltb-true, eqb-true, or_parts, eq-eqb}
use Rattle.std.proofs.lemmas.List.{length-map, length-replicate}
use Rattle.std.proofs.lemmas.List.Quantifiers.{position-Some}
use Rattle.std.proofs.lemmas.Option.{same_Some, none-some}
use Rattle.file_cut.specs.declared.tree.Tree.{Tree}
use Rattle.file_cut.specs.declared.tree.Entry.{Entry}
use Rattle.functor_terms.specs.declared.node.Node.{Node}
use Rattle.functor_terms.specs.declared.node.Node.TheVariants.{State, Constant, Naturals, Product, Sum, Power, Powerset, Bag, Distribution, Integers, Rationals}
use Rattle.functor_terms.specs.declared.node.LabelSet.{LabelSet}
use Rattle.functor_terms.specs.declared.node.LabelSet.TheVariants.{Listed, Below}
use Rattle.functor_terms.specs.Words.{is_same_word, place_of}
use Rattle.functor_terms.specs.Terms.{Nodes, label_count, label_number, number_below, is_number_below}
use Rattle.functor_terms.specs.Lists.{Zip3}
use Rattle.functor_terms.proofs.Folds.{fold-related3}
use Rattle.weights.specs.Numerals.{is_digits, number_of}
use Rattle.typing.specs.declared.kind.TypeKind.TheVariants.{UnknownState, NotALabel, WrongShape, WrongCount, MissingKey, BadIndex}
use Rattle.typing.specs.declared.value.Value.{Value, Value-F, out-Value}
use Rattle.typing.specs.declared.value.Value.TheVariants as value
use Rattle.typing.specs.declared.value.Value.TheViews.{outs-State, outs-Label, outs-Tuple, outs-Inj, outs-Set, outs-Weights}
use Rattle.typing.specs.Values.{states_below}
use Rattle.typing.specs.Fits.{Check, no_check, check_at, each_fits, fits_level, fits_step, fits}
use Rattle.typing.proofs.MapLaws.{below_out, layer_below}
use Rattle.fitting.specs.declared.fitted.Fitted.{Fitted, Fitted-F, out-Fitted, fold_out-Fitted, map-Fitted}
use Rattle.fitting.specs.declared.fitted.Fitted.TheVariants as fitted
use Rattle.fitting.specs.declared.fitted.Fitted.TheViews as shown
use Rattle.fitting.specs.declared.fitted.Weight.{Weight}
use Rattle.fitting.specs.Levels.{word, parts, branch, entries, held, weight_tree}
use Rattle.fitting.specs.Fitting.{Fit, needs, demands, found, made, no_fit, fit_at, each, places, state_fit, label_fit, number_fit, number_limit, product_fit, sum_fit, power_fit, power_of, is_keyed, filled, all_held, empty_slots, set_fit, set_of, is_alone, weights_fit, weights_of, has_weight, entry_fit, weight_fit, fit_step, fitting}
use Rattle.fitting.specs.Scaling.{over_step, over_bound, is_over, Scale, no_scale, scale_at, scaled_places, scaled_level, scaled_step, scaled, scaled_weight}
use Rattle.fitting.proofs.Inversions.{ok_same, err_ok, needs-ok, demands-ok, found-ok, made-ok, each-good, filled-good, held-good, empty-good}
use Rattle.typing.proofs.TermFacts.{not_zero}
use Rattle.fitting.proofs.ScaleFacts.{scale_at-suc}

-- one level of `over_bound`
pub over_out : (f : Fitted) (x : Fitted-F Fitted) → out-Fitted f ≡ x
    → over_bound f ≡ over_step (map-Fitted Fitted Bool over_bound x)
over_out f x e = fold_out-Fitted Bool over_step f
    ∙ ap (λ (y : Fitted-F Fitted). over_step (map-Fitted Fitted Bool over_bound y)) e

-- l is the denominator, n the number of names
module _ (l n : ℕ) where
  -- the value passes, and its states are below n
  abbrev Holds : Check → Value → Type 0
  Holds x v = (x v ≡ true) × (states_below n v ≡ true)

  -- what is not over a bound holds once it is scaled
  abbrev IsGood : Check → Scale → Fitted → Type 0
  IsGood x s f = over_bound f ≡ false → Holds x (s f)

  -- so is what a tree denotes
  record IsSound (g : Fit) (x : Check) (s : Scale) : Type 0 where
    pub sound : (u : Tree) (f : Fitted) → g u ≡ Ok f → IsGood x s f

  none_sound : IsSound no_fit no_check no_scale
  none_sound = record { sound = λ u f e over. absurd (err_ok WrongShape f e) }

  at_sound : (gs : List Fit) (xs : List Check) (ss : List Scale) (k : ℕ) → Zip3 IsSound gs xs ss
      → IsSound (fit_at gs k) (check_at xs k) (scale_at ss k)
  at_sound [] [] [] k z = none_sound
  at_sound [] [] (s ∷ ss) k z = absurd z
  at_sound [] (x ∷ xs) ss k z = absurd z
  at_sound (g ∷ gs) [] ss k z = absurd z
  at_sound (g ∷ gs) (x ∷ xs) [] k z = absurd z
  at_sound (g ∷ gs) (x ∷ xs) (s ∷ ss) k z = by (k == 0) (at_sound gs xs ss (k - 1) z.1)
    where
      by : (o : Bool) → IsSound (fit_at gs (k - 1)) (check_at xs (k - 1)) (scale_at ss (k - 1))
          → IsSound (if o then g else fit_at gs (k - 1)) (if o then x else check_at xs (k - 1))
          (if o then s else scale_at ss (k - 1))
      by true later = z.0
      by false later = later

  -- a value by its level
  at_level : (x : Check) (v : Value) (y : Value-F Value) → out-Value v ≡ y → layer_below n y ≡ true
      → states_below n v ≡ true
  at_level x v y o h = below_out n v ∙ ap (layer_below n) o ∙ h

  -- lists of good trees
  module _ (x : Check) (s : Scale) where
    list_good : (fs : List Fitted) → AllByRecursion (IsGood x s) fs
        → list_any (λ b. b) (map over_bound fs) ≡ false
        → (list_all x (map s fs) ≡ true)
        × (list_all (λ b. b) (map (states_below n) (map s fs)) ≡ true)
    list_good [] all over = (refl, refl)
    list_good (f ∷ fs) all over =
        let p = or_parts (over_bound f) (list_any (λ b. b) (map over_bound fs)) over in
        let here = all.0 p.0 in
        let rest = list_good fs all.1 p.1 in (
          and_from (x (s f)) (list_all x (map s fs)) here.0 rest.0,
          and_from (states_below n (s f))
              (list_all (λ b. b) (map (states_below n) (map s fs))) here.1 rest.1,
        )

    abbrev weighed : Node → List (Fitted × Weight) → List (Value × ℤ)
    weighed m es = map (λ e. (s e.0, scaled_weight l m e.1)) es

    abbrev tested : List (Value × ℤ) → List (Bool × ℤ)
    tested vs = map (λ e. (states_below n e.0, e.1)) vs

    abbrev overs : List (Fitted × Weight) → List (Bool × Weight)
    overs es = map (λ e. (over_bound e.0, e.1)) es

    entries_good : (m : Node) (es : List (Fitted × Weight))
        → AllByRecursion (λ e. IsGood x s e.0) es
        → list_any (λ e. e.0 || is_over e.1) (overs es) ≡ false
        → (list_all (λ e. x e.0) (weighed m es) ≡ true)
        × (list_all (λ e. e.0) (tested (weighed m es)) ≡ true)
    entries_good m [] all over = (refl, refl)
    entries_good m (e ∷ es) all over =
        let p = or_parts (over_bound e.0 || is_over e.1)
        (list_any (λ e. e.0 || is_over e.1) (overs es)) over in
        let q = or_parts (over_bound e.0) (is_over e.1) p.0 in
        let here = all.0 q.0 in
        let rest = entries_good m es all.1 p.1 in (
          and_from (x (s e.0)) (list_all (λ e. x e.0) (weighed m es)) here.0 rest.0,
          and_from (states_below n (s e.0))
              (list_all (λ e. e.0) (tested (weighed m es))) here.1 rest.1,
        )

  -- a state
  state_sound : (names : List (List ℕ)) (xs : List Check) (ss : List Scale) → length names ≡ n
      → (u : Tree) (f : Fitted) → state_fit names u ≡ Ok f
      → IsGood (fits_step State xs) (scaled_step l State ss) f
  state_sound names xs ss many u f e over =
      let (w, e1, f1) = needs-ok (word u) WrongShape
      (λ w. needs (place_of w names) UnknownState (λ i. Ok (fitted.State i))) f e in
      let (i, e2, f2) = needs-ok (place_of w names) UnknownState (λ i. Ok (fitted.State i)) f f1 in
      let inside : i < n = subst (λ k. i < k) many
      (position-Some (is_same_word w) names i [] e2).0 in
      let is : scaled_step l State ss f ≡ value.State i =
      ap (scaled_step l State ss) (sym (ok_same (fitted.State i) f f2))
      ∙ ap (scaled_level l State ss) (shown.outs-State i) in
      subst (λ (v : Value). Holds (fits_step State xs) v) (sym is) (
        ap (fits_level State xs) (outs-State i),
        at_level (fits_step State xs) (value.State i) (Value-F.State i) (outs-State i)
            (lt-ltb i n inside),
      )

  below_some : (b : Bool) (k j : ℕ) → (if b then Some k else None) ≡ Some j → (b ≡ true) × (k ≡ j)
  below_some true k j e = (refl, same_Some k j e)
  below_some false k j e = absurd (none-some j e)

  -- the number below n of a word is below n
  number-below : (m : ℕ) (w : List ℕ) (k : ℕ) → number_below m w ≡ Some k → k < m
  number-below m w k e =
      let (h, same) = below_some (is_number_below m w) (digits_value 10 w) k e in
      let less = ltb-true (digits_value 10 w) m
      (and_parts (nat_lt 0 (length w) && list_all is_ascii_digit w)
      (nat_lt (digits_value 10 w) m) h).1 in
      subst (λ j. j < m) same less

  label-below : (labels : LabelSet) (w : List ℕ) (k : ℕ) → label_number labels w ≡ Some k
      → k < label_count labels
  label-below (Listed words) w k e = (position-Some (is_same_word w) words k [] e).0
  label-below (Below m) w k e = number-below m w k e

  -- a label
  label_sound : (labels : LabelSet) (xs : List Check) (ss : List Scale) (u : Tree) (f : Fitted)
      → label_fit labels u ≡ Ok f → IsGood (fits_step (Constant labels) xs)
      (scaled_step l (Constant labels) ss) f
  label_sound labels xs ss u f e over =
      let (w, e1, f1) = needs-ok (word u) WrongShape
      (λ w. needs (label_number labels w) NotALabel (λ k. Ok (fitted.Label k))) f e in
      let (k, e2, f2) = needs-ok (label_number labels w) NotALabel
      (λ k. Ok (fitted.Label k)) f f1 in
      let is : scaled_step l (Constant labels) ss f ≡ value.Label k =
      ap (scaled_step l (Constant labels) ss) (sym (ok_same (fitted.Label k) f f2))
      ∙ ap (scaled_level l (Constant labels) ss) (shown.outs-Label k) in
      subst (λ (v : Value). Holds (fits_step (Constant labels) xs) v) (sym is) (
        ap (fits_level (Constant labels) xs) (outs-Label k)
            ∙ lt-ltb k (label_count labels) (label-below labels w k e2),
        at_level (fits_step (Constant labels) xs) (value.Label k) (Value-F.Label k)
            (outs-Label k) refl,
      )

  -- a whole number
  number_sound : (xs : List Check) (ss : List Scale) (u : Tree) (f : Fitted) → number_fit u ≡ Ok f
      → IsGood (fits_step Naturals xs) (scaled_step l Naturals ss) f
  number_sound xs ss u f e over =
      let (w, e1, f1) = needs-ok (word u) WrongShape
      (λ w. demands (is_digits w) NotALabel
      (Ok (if nat_le (number_of w) number_limit then fitted.Label
      (number_of w) else fitted.OverBound))) f e in
      let (e2, f2) = demands-ok (is_digits w) NotALabel
      (Ok (if nat_le (number_of w) number_limit then fitted.Label
      (number_of w) else fitted.OverBound)) f f1 in
      by w (nat_le (number_of w) number_limit) refl
      (ok_same (if nat_le (number_of w) number_limit then fitted.Label
      (number_of w) else fitted.OverBound) f f2)
    where
      by : (w : List ℕ) (b : Bool) → nat_le (number_of w) number_limit ≡ b
          → (if b then fitted.Label (number_of w) else fitted.OverBound) ≡ f
          → Holds (fits_step Naturals xs) (scaled_step l Naturals ss f)
      by w true small same =
          let is : scaled_step l Naturals ss f ≡ value.Label (number_of w) =
          ap (scaled_step l Naturals ss) (sym same)
          ∙ ap (scaled_level l Naturals ss) (shown.outs-Label (number_of w)) in
          subst (λ (v : Value). Holds (fits_step Naturals xs) v) (sym is) (
            ap (fits_level Naturals xs) (outs-Label (number_of w))
                ∙ small,
            at_level (fits_step Naturals xs) (value.Label (number_of w))
                (Value-F.Label (number_of w)) (outs-Label (number_of w)) refl,
          )
      by w false large same = absurd (true≢false (sym
          (ap over_bound (sym same) ∙ over_out fitted.OverBound Fitted-F.OverBound
          shown.outs-OverBound) ∙ over))

  fit_at-suc : (g : Fit) (gs : List Fit) (k : ℕ) → fit_at (g ∷ gs) (suc k) ≡ fit_at gs k
  fit_at-suc g gs k = ap (λ b. if b then g else fit_at gs (suc k - 1)) (not_zero k)
      ∙ ap (fit_at gs) (let e : suc k - 1 ≡ k = omega arith in e)

  -- the places behind the first
  pub places-suc : (g : Fit) (gs : List Fit) (k : ℕ) (us : List Tree)
      → places (g ∷ gs) (suc k) us ≡ places gs k us
  places-suc g gs k [] = refl
  places-suc g gs k (u ∷ us) =
      let next : places (g ∷ gs) (suc k + 1) us ≡ places gs (k + 1) us =
      ap (λ j. places (g ∷ gs) j us) (let e : suc k + 1 ≡ suc (k + 1) = omega arith in e)
      ∙ places-suc g gs (k + 1) us in
      λ i. found (fit_at-suc g gs k i u) (λ v. made (λ vs. v ∷ vs) (next i))

  -- the places behind the first have their own children
  pub scaled-suc : (s : Scale) (ss : List Scale) (k : ℕ) (fs : List Fitted)
      → scaled_places (s ∷ ss) (suc k) fs ≡ scaled_places ss k fs
  scaled-suc s ss k [] = refl
  scaled-suc s ss k (f ∷ fs) =
      let next : scaled_places (s ∷ ss) (suc k + 1) fs ≡ scaled_places ss (k + 1) fs =
      ap (λ j. scaled_places (s ∷ ss) j fs) (let e : suc k + 1 ≡ suc (k + 1) = omega arith in e)
      ∙ scaled-suc s ss (k + 1) fs in
      λ i. scale_at-suc s ss k i f ∷ next i

  -- a part for each place
  places_sound : (gs : List Fit) (xs : List Check) (ss : List Scale) → Zip3 IsSound gs xs ss
      → (us : List Tree) (fs : List Fitted) → length us ≡ length gs → places gs 0 us ≡ Ok fs
      → list_any (λ b. b) (map over_bound fs) ≡ false
      → (each_fits xs (scaled_places ss 0 fs) ≡ true)
      × (list_all (λ b. b) (map (states_below n) (scaled_places ss 0 fs)) ≡ true)
  places_sound [] [] [] z [] fs same e over = let is = ok_same [] fs e in
      subst (λ (hs : List Fitted). (each_fits [] (scaled_places [] 0 hs) ≡ true)
      × (list_all (λ b. b) (map (states_below n) (scaled_places [] 0 hs)) ≡ true)) is (refl, refl)
  places_sound [] [] [] z (u ∷ us) fs same e over = absurd (omega arith)
  places_sound [] [] (s ∷ ss) z us fs same e over = absurd z
  places_sound [] (x ∷ xs) ss z us fs same e over = absurd z
  places_sound (g ∷ gs) [] ss z us fs same e over = absurd z
  places_sound (g ∷ gs) (x ∷ xs) [] z us fs same e over = absurd z
  places_sound (g ∷ gs) (x ∷ xs) (s ∷ ss) z [] fs same e over = absurd (omega arith)
  places_sound (g ∷ gs) (x ∷ xs) (s ∷ ss) z (u ∷ us) fs same e over =
      let (f, e1, f1) = found-ok (g u) (λ v. made (λ vs. v ∷ vs) (places (g ∷ gs) 1 us)) fs e in
      let (hs, e2, is) = made-ok (λ (vs : List Fitted). f ∷ vs) (places (g ∷ gs) 1 us) fs f1 in
      let p = or_parts (over_bound f) (list_any (λ b. b) (map over_bound hs))
      (ap (λ (vs : List Fitted). list_any (λ b. b) (map over_bound vs)) is ∙ over) in
      let here = z.0.sound u f e1 p.0 in
      let after = places_sound gs xs ss z.1 us hs (omega arith)
      (sym (places-suc g gs 0 us) ∙ e2) p.1 in
      let rest = subst (λ (vs : List Value). (each_fits xs vs ≡ true)
      × (list_all (λ b. b) (map (states_below n) vs) ≡ true))
      (sym (scaled-suc s ss 0 hs)) after in
      subst (λ (vs : List Fitted). (each_fits (x ∷ xs) (scaled_places (s ∷ ss) 0 vs) ≡ true)
      × (list_all (λ b. b) (map (states_below n) (scaled_places (s ∷ ss) 0 vs)) ≡ true)) is (
        and_from (x (s f)) (each_fits xs (scaled_places (s ∷ ss) 1 hs)) here.0 rest.0,
        and_from (states_below n (s f))
            (list_all (λ b. b) (map (states_below n) (scaled_places (s ∷ ss) 1 hs))) here.1 rest.1,
      )

  module _ (gs : List Fit) (xs : List Check) (ss : List Scale) (z : Zip3 IsSound gs xs ss) where
    first : IsSound (fit_at gs 0) (check_at xs 0) (scale_at ss 0)
    first = at_sound gs xs ss 0 z

    abbrev Good : Fitted → Type 0
    Good = IsGood (check_at xs 0) (scale_at ss 0)

    product_sound : (u : Tree) (f : Fitted) → product_fit gs u ≡ Ok f
        → IsGood (fits_step Product xs) (scaled_step l Product ss) f
    product_sound u f e over =
        let (us, e1, f1) = needs-ok (parts u) WrongShape
        (λ us. demands (length us == length gs) WrongCount (made fitted.Tuple (places gs 0 us)))
        f e in
        let (e2, f2) = demands-ok (length us == length gs) WrongCount
        (made fitted.Tuple (places gs 0 us)) f f1 in
        let (fs, e3, same) = made-ok fitted.Tuple (places gs 0 us) f f2 in
        let vs : List Value = scaled_places ss 0 fs in
        let is : scaled_step l Product ss f ≡ value.Tuple vs =
        ap (scaled_step l Product ss) (sym same)
        ∙ ap (scaled_level l Product ss) (shown.outs-Tuple fs) in
        let none : list_any (λ b. b) (map over_bound fs) ≡ false =
        sym (ap over_bound (sym same) ∙ over_out (fitted.Tuple fs) (Fitted-F.Tuple fs)
        (shown.outs-Tuple fs)) ∙ over in
        let w = places_sound gs xs ss z us fs (eqb-true (length us) (length gs) e2) e3 none in
        subst (λ (v : Value). Holds (fits_step Product xs) v) (sym is) (
          ap (fits_level Product xs) (outs-Tuple vs)
              ∙ w.0,
          at_level (fits_step Product xs) (value.Tuple vs) (Value-F.Tuple vs)
              (outs-Tuple vs) w.1,
        )

    sum_sound : (u : Tree) (f : Fitted) → sum_fit gs u ≡ Ok f
        → IsGood (fits_step Sum xs) (scaled_step l Sum ss) f
    sum_sound u f e over =
        let (b, e1, f1) = needs-ok (branch u) WrongShape
        (λ b. needs (number_below (length gs) b.0) BadIndex
        (λ k. made (fitted.Inj k) (fit_at gs k b.1))) f e in
        let (k, e2, f2) = needs-ok (number_below (length gs) b.0) BadIndex
        (λ k. made (fitted.Inj k) (fit_at gs k b.1)) f f1 in
        let (h, e3, same) = made-ok (fitted.Inj k) (fit_at gs k b.1) f f2 in
        let v : Value = scale_at ss k h in
        let is : scaled_step l Sum ss f ≡ value.Inj k v = ap (scaled_step l Sum ss) (sym same)
        ∙ ap (scaled_level l Sum ss) (shown.outs-Inj k h) in
        let none : over_bound h ≡ false =
        sym (ap over_bound (sym same) ∙ over_out (fitted.Inj k h) (Fitted-F.Inj k h)
        (shown.outs-Inj k h)) ∙ over in
        let w = (at_sound gs xs ss k z).sound b.1 h e3 none in
        subst (λ (v : Value). Holds (fits_step Sum xs) v) (sym is) (
          ap (fits_level Sum xs) (outs-Inj k v)
              ∙ w.0,
          at_level (fits_step Sum xs) (value.Inj k v) (Value-F.Inj k v) (outs-Inj k v) w.1,
        )

    power_sound : (labels : LabelSet) (u : Tree) (f : Fitted) → power_fit labels gs u ≡ Ok f
        → IsGood (fits_step (Power labels) xs) (scaled_step l (Power labels) ss) f
    power_sound labels u f e over =
        let (es, e1, f1) = needs-ok (entries u) WrongShape (power_of labels (fit_at gs 0)) f e in
        let (e2, f2) = demands-ok (list_all is_keyed es) WrongShape
        (found (filled labels (fit_at gs 0) (empty_slots labels) es)
        (λ slots. needs (all_held slots) MissingKey (λ vs. Ok (fitted.Tuple vs)))) f f1 in
        let (slots, e3, f3) = found-ok (filled labels (fit_at gs 0) (empty_slots labels) es)
        (λ slots. needs (all_held slots) MissingKey (λ vs. Ok (fitted.Tuple vs))) f f2 in
        let (fs, e4, f4) = needs-ok (all_held slots) MissingKey (λ vs. Ok (fitted.Tuple vs)) f f3 in
        let same : fitted.Tuple fs ≡ f = ok_same (fitted.Tuple fs) f f4 in
        let full = filled-good labels (fit_at gs 0) Good first.sound es (empty_slots labels) slots
        (empty-good Good (label_count labels)) e3 in
        let all = held-good Good slots fs full.0 e4 in
        let vs : List Value = map (scale_at ss 0) fs in
        let is : scaled_step l (Power labels) ss f ≡ value.Tuple vs =
        ap (scaled_step l (Power labels) ss) (sym same)
        ∙ ap (scaled_level l (Power labels) ss) (shown.outs-Tuple fs) in
        let none : list_any (λ b. b) (map over_bound fs) ≡ false =
        sym (ap over_bound (sym same) ∙ over_out (fitted.Tuple fs) (Fitted-F.Tuple fs)
        (shown.outs-Tuple fs)) ∙ over in
        let w = list_good (check_at xs 0) (scale_at ss 0) fs all.0 none in
        let mapped : length vs ≡ length fs = rw length-map in
        let many : length vs ≡ label_count labels = mapped ∙ all.1 ∙ full.1
        ∙ length-replicate (label_count labels) None in
        subst (λ (v : Value). Holds (fits_step (Power labels) xs) v) (sym is) (
          ap (fits_level (Power labels) xs) (outs-Tuple vs)
              ∙ and_from (length vs == label_count labels) (list_all (check_at xs 0) vs)
              (eq-eqb (length vs) (label_count labels) many) w.0,
          at_level (fits_step (Power labels) xs) (value.Tuple vs) (Value-F.Tuple vs)
              (outs-Tuple vs) w.1,
        )

    set_sound : (u : Tree) (f : Fitted) → set_fit gs u ≡ Ok f
        → IsGood (fits_step Powerset xs) (scaled_step l Powerset ss) f
    set_sound u f e over =
        let (es, e1, f1) = needs-ok (entries u) WrongShape (set_of (fit_at gs 0)) f e in
        let (e2, f2) = demands-ok (list_all is_alone es) WrongShape
        (made fitted.Set (each (λ e. fit_at gs 0 (held e)) es)) f f1 in
        let (fs, e3, same) = made-ok fitted.Set (each (λ e. fit_at gs 0 (held e)) es) f f2 in
        let all = each-good (λ e. fit_at gs 0 (held e)) Good
        (λ e h q. first.sound (held e) h q) es fs e3 in
        let vs : List Value = map (scale_at ss 0) fs in
        let is : scaled_step l Powerset ss f ≡ value.Set vs =
        ap (scaled_step l Powerset ss) (sym same)
        ∙ ap (scaled_level l Powerset ss) (shown.outs-Set fs) in
        let none : list_any (λ b. b) (map over_bound fs) ≡ false =
        sym (ap over_bound (sym same) ∙ over_out (fitted.Set fs) (Fitted-F.Set fs)
        (shown.outs-Set fs)) ∙ over in
        let w = list_good (check_at xs 0) (scale_at ss 0) fs all none in
        subst (λ (v : Value). Holds (fits_step Powerset xs) v) (sym is) (
          ap (fits_level Powerset xs) (outs-Set vs)
              ∙ w.0,
          at_level (fits_step Powerset xs) (value.Set vs) (Value-F.Set vs)
              (outs-Set vs) w.1,
        )

    -- weights, at each of their nodes
    weights_sound : (m : Node) → ((vs : List (Value × ℤ))
        → fits_level m xs (Value-F.Weights vs) ≡ list_all (λ e. check_at xs 0 e.0) vs)
        → (u : Tree) (f : Fitted) → weights_fit m gs u ≡ Ok f
        → IsGood (fits_step m xs) (scaled_step l m ss) f
    weights_sound m weighted u f e over =
        let (es, e1, f1) = needs-ok (entries u) WrongShape (weights_of m (fit_at gs 0)) f e in
        let (e2, f2) = demands-ok (list_all (has_weight m) es) WrongShape
        (made fitted.Weights (each (entry_fit m (fit_at gs 0)) es)) f f1 in
        let (fs, e3, same) = made-ok fitted.Weights (each (entry_fit m (fit_at gs 0)) es) f f2 in
        let all = each-good (entry_fit m (fit_at gs 0)) (λ w. Good w.0) entry es fs e3 in
        let vs : List (Value × ℤ) = weighed (check_at xs 0) (scale_at ss 0) m fs in
        let is : scaled_step l m ss f ≡ value.Weights vs = ap (scaled_step l m ss) (sym same)
        ∙ ap (scaled_level l m ss) (shown.outs-Weights fs) in
        let none : list_any (λ e. e.0 || is_over e.1) (overs (check_at xs 0) (scale_at ss 0) fs)
        ≡ false = sym (ap over_bound (sym same) ∙ over_out (fitted.Weights fs)
        (Fitted-F.Weights fs) (shown.outs-Weights fs)) ∙ over in
        let w = entries_good (check_at xs 0) (scale_at ss 0) m fs all none in
        subst (λ (v : Value). Holds (fits_step m xs) v) (sym is) (
          ap (fits_level m xs) (outs-Weights vs) ∙ weighted vs
              ∙ w.0,
          at_level (fits_step m xs) (value.Weights vs) (Value-F.Weights vs)
              (outs-Weights vs) w.1,
        )
      where
        entry : (e : Entry) (w : Fitted × Weight) → entry_fit m (fit_at gs 0) e ≡ Ok w → Good w.0
        entry e w q =
            let (h, e1, f1) = found-ok (fit_at gs 0 (held e))
            (λ v. made (λ w. (v, w)) (weight_fit m (weight_tree e))) w q in
            let (k, e2, same) = made-ok (λ (c : Weight). (h, c))
            (weight_fit m (weight_tree e)) w f1 in
            subst (λ (c : Fitted × Weight). Good c.0) same (first.sound (held e) h e1)

  step_sound : (names : List (List ℕ)) → length names ≡ n
      → (m : Node) (gs : List Fit) (xs : List Check) (ss : List Scale) → Zip3 IsSound gs xs ss
      → IsSound (fit_step names m gs) (fits_step m xs) (scaled_step l m ss)
  step_sound names many State gs xs ss z = record { sound = state_sound names xs ss many }
  step_sound names many (Constant labels) gs xs ss z = record { sound = label_sound labels xs ss }
  step_sound names many Naturals gs xs ss z = record { sound = number_sound xs ss }
  step_sound names many Product gs xs ss z = record { sound = product_sound gs xs ss z }
  step_sound names many Sum gs xs ss z = record { sound = sum_sound gs xs ss z }
  step_sound names many (Power labels) gs xs ss z = record { sound = power_sound gs xs ss z labels }
  step_sound names many Powerset gs xs ss z = record { sound = set_sound gs xs ss z }
  step_sound names many Bag gs xs ss z =
      record { sound = weights_sound gs xs ss z Bag (λ vs. refl) }
  step_sound names many Distribution gs xs ss z =
      record { sound = weights_sound gs xs ss z Distribution (λ vs. refl) }
  step_sound names many Integers gs xs ss z =
      record { sound = weights_sound gs xs ss z Integers (λ vs. refl) }
  step_sound names many Rationals gs xs ss z =
      record { sound = weights_sound gs xs ss z Rationals (λ vs. refl) }

-- what a tree denotes fits its node, and speaks of states that have names
pub fitting-sound : (l : ℕ) (t : Nodes) (names : List (List ℕ)) (p : ℕ) (u : Tree) (f : Fitted)
    → fitting t names p u ≡ Ok f → over_bound f ≡ false
    → (fits t p (scaled l t p f) ≡ true) × (states_below (length names) (scaled l t p f) ≡ true)
fitting-sound l t names p u f e over =
    (fold-related3 (IsSound l (length names)) no_fit no_check no_scale (fit_step names) fits_step
    (scaled_step l) (none_sound l (length names))
    (step_sound l (length names) names refl) t p).sound u f e over
