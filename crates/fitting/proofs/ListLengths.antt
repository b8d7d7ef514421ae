-- The lists of what a tree denotes are no longer than its text.
use Rattle.std.proofs.Common.{◌≡◌, ℕ, suc, ◌+◌, ◌-◌, Bool, true, false, List, [], ◌∷◌, length, map, refl, sym, ap, ◌∙◌, subst, arith}
use Rattle.std.specs.Prelude.{Some, Ok, ◌==◌, if◌then◌else◌, nat_le, slice_set}
use Rattle.std.specs.List.{AllByRecursion, list_all}
use Rattle.std.proofs.lemmas.Bool.{and_from, le-leb}
use Rattle.file_cut.specs.Tokens.{marks}
use Rattle.file_cut.specs.Trees.{open_limit}
use Rattle.file_cut.specs.declared.tree.Tree.{Tree}
use Rattle.file_cut.specs.declared.tree.Entry.{Entry}
use Rattle.functor_terms.specs.declared.node.Node.{Node}
use Rattle.functor_terms.specs.declared.node.Node.TheVariants.{State, Constant, Naturals, Product, Sum, Power, Powerset, Bag, Distribution, Integers, Rationals}
use Rattle.functor_terms.specs.declared.node.LabelSet.{LabelSet}
use Rattle.functor_terms.specs.Terms.{Nodes, label_count, label_number, number_below}
use Rattle.functor_terms.specs.Words.{place_of}
use Rattle.functor_terms.proofs.Folds.{fold-all}
use Rattle.typing.specs.declared.kind.TypeKind.TheVariants.{UnknownState, NotALabel, WrongShape, WrongCount, RepeatedKey, MissingKey, BadIndex}
use Rattle.weights.specs.Numerals.{is_digits, number_of}
use Rattle.fitting.specs.declared.fitted.Fitted.{Fitted, Fitted-F, out-Fitted, fold_out-Fitted, map-Fitted}
use Rattle.fitting.specs.declared.fitted.Fitted.TheVariants as fitted
use Rattle.fitting.specs.declared.fitted.Fitted.TheViews as shown
use Rattle.fitting.specs.declared.fitted.Weight.{Weight}
use Rattle.fitting.specs.Levels.{word, parts, branch, entries, held, key, weight_tree}
use Rattle.fitting.specs.Fitting.{Found, Fit, needs, demands, found, made, no_fit, fit_at, each, places, state_fit, label_fit, number_fit, number_limit, product_fit, sum_fit, power_fit, power_of, is_keyed, is_free, filled, all_held, empty_slots, Slots, set_fit, set_of, is_alone, weights_fit, weights_of, has_weight, entry_fit, weight_fit, fit_step, fitting}
use Rattle.fitting.specs.Scaling.{lists_step, lists_within}
use Rattle.fitting.specs.Laws.{ListsAreShort}
use Rattle.fitting.proofs.Inversions.{ok_same, err_ok, needs-ok, demands-ok, found-ok, made-ok, SlotHolds, set-good, held-good, empty-good}
use Rattle.fitting.proofs.TreeLengths.{marks-few, IsInside, IsEntryInside, inside-opened}

module _ (n : ℕ) where
  abbrev IsGood : Fitted → Type 0
  IsGood f = lists_within n f ≡ true

  -- what is read of a tree that is inside has short lists
  record ReadsShort (g : Fit) : Type 0 where
    pub short : (u : Tree) (f : Fitted) → IsInside n u → g u ≡ Ok f → IsGood f

  lists_out :
      (f : Fitted) (x : Fitted-F Fitted) → out-Fitted f ≡ x
      → lists_within n f ≡ lists_step n (map-Fitted Fitted Bool (lists_within n) x)
  lists_out f x e =
      fold_out-Fitted Bool (lists_step n) f
      ∙ ap (λ (y : Fitted-F Fitted). lists_step n (map-Fitted Fitted Bool (lists_within n) y)) e

  list_good : (fs : List Fitted) → AllByRecursion IsGood fs
      → list_all (λ b. b) (map (lists_within n) fs) ≡ true
  list_good [] all = refl
  list_good (f ∷ fs) all =
      and_from (lists_within n f) (list_all (λ b. b) (map (lists_within n) fs)) all.0
      (list_good fs all.1)

  abbrev tested : List (Fitted × Weight) → List (Bool × Weight)
  tested es = map (λ e. (lists_within n e.0, e.1)) es

  entries_good : (es : List (Fitted × Weight)) → AllByRecursion (λ w. IsGood w.0) es
      → list_all (λ e. e.0) (tested es) ≡ true
  entries_good [] all = refl
  entries_good (e ∷ es) all =
      and_from (lists_within n e.0) (list_all (λ e. e.0) (tested es)) all.0 (entries_good es all.1)

  tested_length : (es : List (Fitted × Weight)) → length (tested es) ≡ length es
  tested_length [] = refl
  tested_length (e ∷ es) = ap suc (tested_length es)

  none_short : ReadsShort no_fit
  none_short = record { short = λ u f i e. absurd (err_ok WrongShape f e) }

  at_short : (gs : List Fit) (k : ℕ) → AllByRecursion ReadsShort gs → ReadsShort (fit_at gs k)
  at_short [] k all = none_short
  at_short (g ∷ gs) k all = by (k == 0) (at_short gs (k - 1) all.1)
    where
      by : (o : Bool) → ReadsShort (fit_at gs (k - 1))
          → ReadsShort (if o then g else fit_at gs (k - 1))
      by true later = all.0
      by false later = later

  -- what each element gives, and that there are as many
  each-good :
      {A B : Type 0} (g : A → Found B) (P : A → Type 0) (Q : B → Type 0)
      → ((a : A) (b : B) → P a → g a ≡ Ok b → Q b) → (xs : List A) (bs : List B)
      → AllByRecursion P xs → each g xs ≡ Ok bs → AllByRecursion Q bs × (length bs ≡ length xs)
  each-good {B = B} g P Q h [] bs all e =
      let is = ok_same [] bs e in
      (subst (λ (l : List B). AllByRecursion Q l) is tt, sym (ap length is))
  each-good {B = B} g P Q h (a ∷ xs) bs all e =
      let (y, r, e1) = found-ok (g a) (λ y. made (λ ys. y ∷ ys) (each g xs)) bs e in
      let (ys, r2, is) = made-ok (λ (zs : List B). y ∷ zs) (each g xs) bs e1 in
      let rest = each-good g P Q h xs ys all.1 r2 in (
        subst (λ (l : List B). AllByRecursion Q l) is (h a y all.0 r, rest.0),
        sym (ap length is) ∙ ap suc rest.1,
      )

  state_short : (names : List (List ℕ)) (u : Tree) (f : Fitted) → state_fit names u ≡ Ok f
      → IsGood f
  state_short names u f e =
      let named : List ℕ → Found Fitted = λ w.
      needs (place_of w names) UnknownState (λ i. Ok (fitted.State i)) in
      let (w, e1, f1) = needs-ok (word u) WrongShape named f e in
      let (i, e2, f2) = needs-ok (place_of w names) UnknownState (λ i. Ok (fitted.State i)) f f1 in
      lists_out f (Fitted-F.State i)
      (ap out-Fitted (sym (ok_same (fitted.State i) f f2)) ∙ shown.outs-State i)

  label_short : (labels : LabelSet) (u : Tree) (f : Fitted) → label_fit labels u ≡ Ok f → IsGood f
  label_short labels u f e =
      let named : List ℕ → Found Fitted = λ w.
      needs (label_number labels w) NotALabel (λ k. Ok (fitted.Label k)) in
      let (w, e1, f1) = needs-ok (word u) WrongShape named f e in
      let (k, e2, f2) = needs-ok (label_number labels w) NotALabel
      (λ k. Ok (fitted.Label k)) f f1 in
      lists_out f (Fitted-F.Label k)
      (ap out-Fitted (sym (ok_same (fitted.Label k) f f2)) ∙ shown.outs-Label k)

  number_short : (u : Tree) (f : Fitted) → number_fit u ≡ Ok f → IsGood f
  number_short u f e =
      let number : List ℕ → Fitted = λ w.
      if nat_le (number_of w) number_limit then fitted.Label
      (number_of w) else fitted.OverBound in
      let (w, e1, f1) =
      needs-ok (word u) WrongShape (λ w. demands (is_digits w) NotALabel (Ok (number w))) f e in
      let (e2, f2) = demands-ok (is_digits w) NotALabel (Ok (number w)) f f1 in
      by (number_of w) (nat_le (number_of w) number_limit) (ok_same (number w) f f2)
    where
      by : (k : ℕ) (b : Bool) → (if b then fitted.Label k else fitted.OverBound) ≡ f → IsGood f
      by k true is = lists_out f (Fitted-F.Label k) (ap out-Fitted (sym is) ∙ shown.outs-Label k)
      by k false is = lists_out f Fitted-F.OverBound (ap out-Fitted (sym is) ∙ shown.outs-OverBound)

  module _ (gs : List Fit) (all : AllByRecursion ReadsShort gs) where
    first : (u : Tree) (f : Fitted) → IsInside n u → fit_at gs 0 u ≡ Ok f → IsGood f
    first = (at_short gs 0 all).short

    places_short :
        (k : ℕ) (us : List Tree) (fs : List Fitted) → AllByRecursion (IsInside n) us
        → places gs k us ≡ Ok fs → AllByRecursion IsGood fs
    places_short k [] fs i e = subst (λ (l : List Fitted). AllByRecursion IsGood l)
        (ok_same [] fs e) tt
    places_short k (u ∷ us) fs i e =
        let (f, e1, f1) =
        found-ok (fit_at gs k u) (λ v. made (λ vs. v ∷ vs) (places gs (k + 1) us)) fs e in
        let (hs, e2, is) = made-ok (λ (vs : List Fitted). f ∷ vs) (places gs (k + 1) us) fs f1 in
        subst (λ (l : List Fitted). AllByRecursion IsGood l) is
        ((at_short gs k all).short u f i.0 e1, places_short (k + 1) us hs i.1 e2)

    product_short : (u : Tree) (f : Fitted) → IsInside n u → product_fit gs u ≡ Ok f → IsGood f
    product_short u f i e =
        let counted : List Tree → Found Fitted = λ us.
        demands (length us == length gs) WrongCount (made fitted.Tuple (places gs 0 us)) in
        let (us, e1, f1) = needs-ok (parts u) WrongShape counted f e in
        let (e2, f2) =
        demands-ok (length us == length gs) WrongCount
        (made fitted.Tuple (places gs 0 us)) f f1 in
        let (fs, e3, is) = made-ok fitted.Tuple (places gs 0 us) f f2 in
        lists_out f (Fitted-F.Tuple fs) (ap out-Fitted (sym is) ∙ shown.outs-Tuple fs)
        ∙ list_good fs (places_short 0 us fs ((inside-opened n u i).of_parts us e1) e3)

    sum_short : (u : Tree) (f : Fitted) → IsInside n u → sum_fit gs u ≡ Ok f → IsGood f
    sum_short u f i e =
        let placed : List ℕ × Tree → ℕ → Found Fitted =
        λ b k. made (fitted.Inj k) (fit_at gs k b.1) in
        let (b, e1, f1) =
        needs-ok (branch u) WrongShape
        (λ b. needs (number_below (length gs) b.0) BadIndex (placed b)) f e in
        let (k, e2, f2) = needs-ok (number_below (length gs) b.0) BadIndex (placed b) f f1 in
        let (h, e3, is) = made-ok (fitted.Inj k) (fit_at gs k b.1) f f2 in
        lists_out f (Fitted-F.Inj k h) (ap out-Fitted (sym is) ∙ shown.outs-Inj k h)
        ∙ (at_short gs k all).short b.1 h ((inside-opened n u i).of_branch b e1) e3

    filled_short :
        (labels : LabelSet) (es : List Entry) (slots out : Slots)
        → AllByRecursion (IsEntryInside n) es → AllByRecursion (SlotHolds IsGood) slots
        → filled labels (fit_at gs 0) slots es ≡ Ok out → AllByRecursion (SlotHolds IsGood) out
    filled_short labels [] slots out i held e =
        subst (λ (l : Slots). AllByRecursion (SlotHolds IsGood) l) (ok_same slots out e) held
    filled_short labels (x ∷ es) slots out i held e =
        let go : ℕ → Fitted → Found Slots = λ k v.
        filled labels (fit_at gs 0) (slice_set slots k (Some v)) es in
        let at : Tree → ℕ → Found Slots = λ u k.
        demands (is_free slots k) RepeatedKey (found (fit_at gs 0 u) (go k)) in
        let labelled : List ℕ → Tree → Found Slots = λ w u.
        needs (label_number labels w) NotALabel (at u) in
        let (w, e1, f1) =
        needs-ok (key x) WrongShape (λ w. needs (weight_tree x) WrongShape (labelled w)) out
        e in
        let (u, e2, f2) = needs-ok (weight_tree x) WrongShape (labelled w) out f1 in
        let (k, e3, f3) = needs-ok (label_number labels w) NotALabel (at u) out f2 in
        let (e4, f4) =
        demands-ok (is_free slots k) RepeatedKey (found (fit_at gs 0 u) (go k)) out f3 in
        let (v, e5, f5) = found-ok (fit_at gs 0 u) (go k) out f4 in
        filled_short labels es (slice_set slots k (Some v)) out i.1
        (set-good (SlotHolds IsGood) slots k (Some v) held (first u v (i.0.second u e2) e5)) f5

    power_short : (labels : LabelSet) (u : Tree) (f : Fitted) → IsInside n u
        → power_fit labels gs u ≡ Ok f → IsGood f
    power_short labels u f i e =
        let (es, e1, f1) = needs-ok (entries u) WrongShape (power_of labels (fit_at gs 0)) f e in
        let full : Slots → Found Fitted = λ slots.
        needs (all_held slots) MissingKey (λ vs. Ok (fitted.Tuple vs)) in
        let read : Found Slots = filled labels (fit_at gs 0) (empty_slots labels) es in
        let (e2, f2) = demands-ok (list_all is_keyed es) WrongShape (found read full) f f1 in
        let (slots, e3, f3) = found-ok read full f f2 in
        let (fs, e4, f4) = needs-ok (all_held slots) MissingKey (λ vs. Ok (fitted.Tuple vs)) f f3 in
        let kept =
        filled_short labels es (empty_slots labels) slots
        ((inside-opened n u i).of_entries es e1).0
        (empty-good IsGood (label_count labels)) e3 in
        lists_out f (Fitted-F.Tuple fs)
        (ap out-Fitted (sym (ok_same (fitted.Tuple fs) f f4)) ∙ shown.outs-Tuple fs)
        ∙ list_good fs (held-good IsGood slots fs kept e4).0

    set_short : (u : Tree) (f : Fitted) → IsInside n u → set_fit gs u ≡ Ok f → IsGood f
    set_short u f i e =
        let (es, e1, f1) = needs-ok (entries u) WrongShape (set_of (fit_at gs 0)) f e in
        let read : Found (List Fitted) = each (λ e. fit_at gs 0 (held e)) es in
        let (e2, f2) = demands-ok (list_all is_alone es) WrongShape (made fitted.Set read) f f1 in
        let (fs, e3, is) = made-ok fitted.Set read f f2 in
        let good =
        each-good (λ e. fit_at gs 0 (held e)) (IsEntryInside n) IsGood
        (λ e h w q. first (held e) h w.first q) es fs
        ((inside-opened n u i).of_entries es e1).0 e3 in
        lists_out f (Fitted-F.Set fs) (ap out-Fitted (sym is) ∙ shown.outs-Set fs)
        ∙ list_good fs good.0

    weights_short : (m : Node) (u : Tree) (f : Fitted) → IsInside n u → weights_fit m gs u ≡ Ok f
        → IsGood f
    weights_short m u f i e =
        let (es, e1, f1) = needs-ok (entries u) WrongShape (weights_of m (fit_at gs 0)) f e in
        let read : Found (List (Fitted × Weight)) = each (entry_fit m (fit_at gs 0)) es in
        let (e2, f2) =
        demands-ok (list_all (has_weight m) es) WrongShape (made fitted.Weights read) f f1 in
        let (fs, e3, is) = made-ok fitted.Weights read f f2 in
        let here = (inside-opened n u i).of_entries es e1 in
        let good =
        each-good (entry_fit m (fit_at gs 0)) (IsEntryInside n)
        (λ w. IsGood w.0) one es fs here.0
        e3 in
        lists_out f (Fitted-F.Weights fs) (ap out-Fitted (sym is) ∙ shown.outs-Weights fs)
        ∙ and_from (list_all (λ e. e.0) (tested fs)) (nat_le (length (tested fs)) n)
        (entries_good fs good.0)
        (le-leb (length (tested fs)) n (omega (arith, here.1, good.1, tested_length fs)))
      where
        one :
            (e : Entry) (w : Fitted × Weight) → IsEntryInside n e
            → entry_fit m (fit_at gs 0) e ≡ Ok w → IsGood w.0
        one e w i q =
            let (h, e1, f1) =
            found-ok (fit_at gs 0 (held e))
            (λ v. made (λ w. (v, w)) (weight_fit m (weight_tree e))) w q in
            let (k, e2, same) =
            made-ok (λ (c : Weight). (h, c)) (weight_fit m (weight_tree e)) w f1 in
            subst (λ (c : Fitted × Weight). IsGood c.0) same (first (held e) h i.first e1)

  step_short :
      (names : List (List ℕ)) (m : Node) (gs : List Fit) → AllByRecursion ReadsShort gs
      → ReadsShort (fit_step names m gs)
  step_short names State gs all = record { short = λ u f i e. state_short names u f e }
  step_short names (Constant labels) gs all = record { short = λ u f i e. label_short labels u f e }
  step_short names Naturals gs all = record { short = λ u f i e. number_short u f e }
  step_short names Product gs all = record { short = product_short gs all }
  step_short names Sum gs all = record { short = sum_short gs all }
  step_short names (Power labels) gs all = record { short = power_short gs all labels }
  step_short names Powerset gs all = record { short = set_short gs all }
  step_short names Bag gs all = record { short = weights_short gs all Bag }
  step_short names Distribution gs all = record { short = weights_short gs all Distribution }
  step_short names Integers gs all = record { short = weights_short gs all Integers }
  step_short names Rationals gs all = record { short = weights_short gs all Rationals }

  fitting_short : (t : Nodes) (names : List (List ℕ)) (p : ℕ) → ReadsShort (fitting t names p)
  fitting_short t names p = fold-all ReadsShort no_fit (fit_step names) none_short
      (step_short names) t p

-- no list in what a line denotes has more entries than the line has bytes
pub lists-short : ListsAreShort
lists-short line head tree t names f (rest, marked, spelled) e n few =
    let all : suc (suc (length rest)) ≡ length (marks line) = sym (ap length marked) in
    (fitting_short n t names 0).short tree f
    (record {
      depth = open_limit;
      tokens = rest;
      few = omega (arith, all, marks-few line, few);
      spelled = spelled;
    }) e
