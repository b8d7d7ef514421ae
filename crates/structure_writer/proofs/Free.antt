-- What is fitted within the bounds is fitted without them.
use Rattle.std.proofs.Common.{◌≡◌, ℕ, zero, suc, ◌+◌, ◌-◌, Bool, true, false, not, ◌&&◌, List, [], ◌∷◌, length, map, Option, Some, None, Result, Ok, Err, refl, sym, ap, ◌∙◌, true≢false}
use Rattle.std.specs.Prelude.{◌==◌, ◌||◌, if◌then◌else◌, nat_le, slice_set, drop, option_and_then}
use Rattle.std.specs.Option.{option_map_or}
use Rattle.std.specs.List.{list_all, list_any, AllZip}
use Rattle.std.proofs.lemmas.Bool.{or_parts}
use Rattle.std.proofs.lemmas.Option.{none-some, same_Some}
use Rattle.std.proofs.lemmas.Slice.Zip.{AllZip-long}
use Rattle.file_cut.specs.declared.tree.Tree.{Tree}
use Rattle.file_cut.specs.declared.tree.Entry.{Entry}
use Rattle.functor_terms.specs.declared.node.Node.{Node}
use Rattle.functor_terms.specs.declared.node.Node.TheVariants.{State, Constant, Naturals, Product, Sum, Power, Powerset, Bag, Distribution, Integers, Rationals}
use Rattle.functor_terms.specs.declared.node.LabelSet.{LabelSet}
use Rattle.functor_terms.specs.Terms.{Nodes, label_number, number_below}
use Rattle.functor_terms.proofs.Folds.{fold-related}
use Rattle.weights.specs.Numerals.{Form, is_form, is_within, is_below_zero, fraction_of, is_digits, number_of, form_of, has_sign, form_reading, reading_of}
use Rattle.weights.specs.declared.numeral.Numeral.{Numeral}
use Rattle.weights.specs.declared.fault.NumeralFault.{NumeralFault}
use Rattle.weights.specs.declared.fault.NumeralFault.TheVariants as numeral_fault
use Rattle.typing.specs.declared.kind.TypeKind.TheVariants.{NotALabel, WrongShape, WrongCount, RepeatedKey, MissingKey, BadIndex, NotANumber, Negative}
use Rattle.fitting.specs.declared.fitted.Fitted.{Fitted, Fitted-F}
use Rattle.fitting.specs.declared.fitted.Fitted.TheVariants as fitted
use Rattle.fitting.specs.declared.fitted.Fitted.TheViews as shown
use Rattle.fitting.specs.declared.fitted.Weight.{Weight}
use Rattle.fitting.specs.declared.fitted.Weight.TheVariants as weight
use Rattle.fitting.specs.Levels.{word, parts, branch, entries, held, key, weight_tree}
use Rattle.fitting.specs.Fitting.{Found, Fit, needs, demands, found, made, each, no_fit, fit_at, places, number_limit, number_fit, product_fit, sum_fit, is_keyed, is_free, Slots, filled, all_held, empty_slots, power_of, power_fit, is_alone, set_of, set_fit, is_from_zero, weighed, weight_fit, has_weight, entry_fit, weights_of, weights_fit, fit_step, fitting}
use Rattle.fitting.specs.Scaling.{is_over, over_bound}
use Rattle.fitting.proofs.Inversions.{ok_same, err_ok, needs-ok, demands-ok, found-ok, made-ok}
use Rattle.structure_writer.specs.Spelled.{fraction_if, fraction_spelled, free_number, free_weight, free_entry, free_entries, free_weights, free_step, free_fitting}
use Rattle.fitting.proofs.FitSound.{over_out}

-- a test of images
list_any-map : {X Y : Type 0} (test : Y → Bool) (f : X → Y) (xs : List X)
    → list_any test (map f xs) ≡ list_any (λ x. test (f x)) xs
list_any-map test f [] = refl
list_any-map test f (x ∷ xs) = ap (λ b. test (f x) || b) (list_any-map test f xs)

-- ---- numbers

module _ (negative : Bool) where
  form_free : (form : Form) (n : Numeral) → form_reading negative form ≡ Ok n
      → fraction_if negative form ≡ Some n
  form_free form n e = by (is_form form) (is_within form) e
    where
      same : (m n : Numeral) → ◌≡◌ {A = Result Numeral NumeralFault} (Ok m) (Ok n) → m ≡ n
      same m n e = cc

      never : (f : NumeralFault) → ◌≡◌ {A = Result Numeral NumeralFault} (Err f) (Ok n) → ⊥
      never f e = cc

      by : (a b : Bool)
          → ◌≡◌ {A = Result Numeral NumeralFault}
          (if a then (if b then Ok (fraction_of negative form)
          else Err (numeral_fault.OverBound (is_below_zero negative form)))
          else Err numeral_fault.NotANumber) (Ok n)
          → (if a then Some (fraction_of negative form) else None) ≡ Some n
      by true true e = ap (λ (m : Numeral). Some m) (same (fraction_of negative form) n e)
      by true false e =
          absurd (never (numeral_fault.OverBound (is_below_zero negative form)) e)
      by false b e = absurd (never numeral_fault.NotANumber e)

  text_free : (o : Option Form) (n : Numeral)
      → option_map_or (form_reading negative) o (Err numeral_fault.NotANumber) ≡ Ok n
      → option_and_then (fraction_if negative) o ≡ Some n
  text_free None n e = absurd (never e)
    where
      never : ◌≡◌ {A = Result Numeral NumeralFault} (Err numeral_fault.NotANumber) (Ok n) → ⊥
      never e = cc
  text_free (Some form) n e = form_free form n e

-- a numeral within the bounds spells its fraction
reading_free : (w : List ℕ) (n : Numeral) → reading_of w ≡ Ok n → fraction_spelled w ≡ Some n
unfolding reading_of
reading_free w n e =
    text_free (has_sign w) (form_of (if has_sign w then drop 1 w else w)) n e

not_over : (c : Weight) → weight.OverBound ≡ c → is_over c ≡ false → ⊥
not_over c e h = true≢false (ap is_over e ∙ h)

-- a weight within the bounds is read without them
weight_free : (m : Node) (o : Option Tree) (c : Weight) → weight_fit m o ≡ Ok c
    → is_over c ≡ false → free_weight m o ≡ Ok c
weight_free m None c e h = e
weight_free m (Some u) c e h =
    let (w, e1, f1) = needs-ok (word u) WrongShape (λ w. weighed m (reading_of w)) c e in
    ap (λ o. needs o WrongShape
    (λ w. needs (fraction_spelled w) NotANumber (λ n. weighed m (Ok n)))) e1
    ∙ by w (reading_of w) refl f1
  where
    by : (w : List ℕ) (r : Result Numeral NumeralFault) → reading_of w ≡ r
        → weighed m r ≡ Ok c
        → needs (fraction_spelled w) NotANumber (λ n. weighed m (Ok n)) ≡ Ok c
    by w (Err numeral_fault.NotANumber) k f = absurd (err_ok NotANumber c f)
    by w (Err (numeral_fault.OverBound negative)) k f =
        let (t, g) = demands-ok (not (is_from_zero m && negative)) Negative
        (Ok weight.OverBound) c f in
        absurd (not_over c (ok_same weight.OverBound c g) h)
    by w (Ok n) k f =
        ap (λ o. needs o NotANumber (λ n. weighed m (Ok n))) (reading_free w n k) ∙ f

-- ---- nodes

-- some of them is over its bound
abbrev some_over : List Fitted → Bool
some_over fs = list_any (λ b. b) (map over_bound fs)

-- what the first reads within the bounds is read by the second
pub record IsFreed (g h : Fit) : Type 0 where
  pub freed : (u : Tree) (f : Fitted) → g u ≡ Ok f → over_bound f ≡ false → h u ≡ Ok f

none_freed : IsFreed no_fit no_fit
none_freed = record { freed = λ u f e over. e }

at_freed : (gs hs : List Fit) (k : ℕ) → AllZip IsFreed gs hs → IsFreed (fit_at gs k) (fit_at hs k)
at_freed [] [] k z = none_freed
at_freed [] (h ∷ hs) k z = absurd z
at_freed (g ∷ gs) [] k z = absurd z
at_freed (g ∷ gs) (h ∷ hs) k z = by (k == 0) (at_freed gs hs (k - 1) z.1)
  where
    by : (b : Bool) → IsFreed (fit_at gs (k - 1)) (fit_at hs (k - 1))
        → IsFreed (if b then g else fit_at gs (k - 1)) (if b then h else fit_at hs (k - 1))
    by true later = z.0
    by false later = later

-- elements in order
each_freed : {A B : Type 0} (g h : A → Found B) (P : B → Bool)
    → ((x : A) (y : B) → g x ≡ Ok y → P y ≡ false → h x ≡ Ok y) → (xs : List A) (ys : List B)
    → each g xs ≡ Ok ys → list_any P ys ≡ false → each h xs ≡ Ok ys
each_freed g h P free [] ys e over = e
each_freed {B = B} g h P free (x ∷ xs) ys e over =
    let (y, e1, f1) = found-ok (g x) (λ y. made (λ ys. y ∷ ys) (each g xs)) ys e in
    let (zs, e2, is) = made-ok (λ (zs : List B). y ∷ zs) (each g xs) ys f1 in
    let p = or_parts (P y) (list_any P zs)
    (ap (λ (l : List B). list_any P l) is ∙ over) in
    (λ i. found (free x y e1 p.0 i)
    (λ y. made (λ ys. y ∷ ys) (each_freed g h P free xs zs e2 p.1 i)))
    ∙ ap (λ (l : List B). Ok l) is

places_freed : (gs hs : List Fit) → AllZip IsFreed gs hs → (k : ℕ) (us : List Tree)
    (fs : List Fitted) → places gs k us ≡ Ok fs → some_over fs ≡ false → places hs k us ≡ Ok fs
places_freed gs hs z k [] fs e over = e
places_freed gs hs z k (u ∷ us) fs e over =
    let (f, e1, f1) =
    found-ok (fit_at gs k u) (λ v. made (λ vs. v ∷ vs) (places gs (k + 1) us)) fs e in
    let (rest, e2, is) = made-ok (λ (vs : List Fitted). f ∷ vs) (places gs (k + 1) us) fs f1 in
    let p = or_parts (over_bound f) (some_over rest)
    (ap (λ (l : List Fitted). some_over l) is ∙ over) in
    (λ i. found ((at_freed gs hs k z).freed u f e1 p.0 i)
    (λ v. made (λ vs. v ∷ vs) (places_freed gs hs z (k + 1) us rest e2 p.1 i)))
    ∙ ap (λ (l : List Fitted). Ok l) is

-- ---- powers

-- the value in a slot is over its bound
abbrev slot_over : Option Fitted → Bool
slot_over o = option_map_or over_bound o false

-- where a free slot takes a value, none is over its bound before
set_over : (slots : Slots) (k : ℕ) (v : Fitted) → is_free slots k ≡ true
    → list_any slot_over (slice_set slots k (Some v)) ≡ false
    → (over_bound v ≡ false) × (list_any slot_over slots ≡ false)
set_over [] k v free h = absurd (true≢false (sym free))
set_over (None ∷ slots) zero v free h = or_parts (over_bound v) (list_any slot_over slots) h
set_over (Some x ∷ slots) zero v free h = absurd (true≢false (sym free))
set_over (s ∷ slots) (suc k) v free h =
    let p = or_parts (slot_over s) (list_any slot_over (slice_set slots k (Some v))) h in
    let rest = set_over slots k v free p.1 in
    (rest.0, (λ i. p.0 i || rest.1 i))

module _ (labels : LabelSet) (g h : Fit) (free : IsFreed g h) where
  filled_freed : (es : List Entry) (slots out : Slots) → filled labels g slots es ≡ Ok out
      → list_any slot_over out ≡ false
      → (filled labels h slots es ≡ Ok out) × (list_any slot_over slots ≡ false)
  filled_freed [] slots out e over =
      (e, ap (list_any slot_over) (ok_same slots out e) ∙ over)
  filled_freed (entry ∷ es) slots out e over =
      let (w, e1, f1) = needs-ok (key entry) WrongShape
      (λ w. needs (weight_tree entry) WrongShape
      (λ u. needs (label_number labels w) NotALabel
      (λ k. demands (is_free slots k) RepeatedKey
      (found (g u) (λ v. filled labels g (slice_set slots k (Some v)) es))))) out e in
      let (u, e2, f2) = needs-ok (weight_tree entry) WrongShape
      (λ u. needs (label_number labels w) NotALabel
      (λ k. demands (is_free slots k) RepeatedKey
      (found (g u) (λ v. filled labels g (slice_set slots k (Some v)) es)))) out f1 in
      let (k, e3, f3) = needs-ok (label_number labels w) NotALabel
      (λ k. demands (is_free slots k) RepeatedKey
      (found (g u) (λ v. filled labels g (slice_set slots k (Some v)) es))) out f2 in
      let (e4, f4) = demands-ok (is_free slots k) RepeatedKey
      (found (g u) (λ v. filled labels g (slice_set slots k (Some v)) es)) out f3 in
      let (v, e5, f5) = found-ok (g u) (λ v. filled labels g (slice_set slots k (Some v)) es) out
      f4 in
      let rest = filled_freed es (slice_set slots k (Some v)) out f5 over in
      let p = set_over slots k v e4 rest.1 in (
        (λ i. needs (e1 i) WrongShape (λ w. needs (e2 i) WrongShape
            (λ u. needs (label_number labels w) NotALabel
            (λ k. demands (is_free slots k) RepeatedKey
            (found (h u) (λ v. filled labels h (slice_set slots k (Some v)) es))))))
            ∙ (λ i. needs (e3 i) NotALabel (λ k. demands (is_free slots k) RepeatedKey
            (found (h u) (λ v. filled labels h (slice_set slots k (Some v)) es))))
            ∙ (λ i. demands (e4 i) RepeatedKey
            (found (free.freed u v e5 p.0 i)
            (λ v. filled labels h (slice_set slots k (Some v)) es)))
            ∙ rest.0,
        p.1,
      )

-- what slots hold is over its bound where a slot is
held_over : (slots : Slots) (fs : List Fitted) → all_held slots ≡ Some fs
    → list_any slot_over slots ≡ some_over fs
held_over [] fs e = ap some_over (same_Some [] fs e)
held_over (None ∷ slots) fs e = absurd (none-some fs e)
held_over (Some v ∷ slots) fs e = by (all_held slots) refl (λ us q. held_over slots us q) e
  where
    by : (o : Option (List Fitted)) → all_held slots ≡ o
        → ((us : List Fitted) → all_held slots ≡ Some us
        → list_any slot_over slots ≡ some_over us)
        → option_map_or (λ us. Some (v ∷ us)) o None ≡ Some fs
        → list_any slot_over (Some v ∷ slots) ≡ some_over fs
    by None q rest e = absurd (none-some fs e)
    by (Some us) q rest e =
        ap (λ b. over_bound v || b) (rest us q) ∙ ap some_over (same_Some (v ∷ us) fs e)

-- ---- terms

module _ (gs hs : List Fit) (z : AllZip IsFreed gs hs) where
  first : IsFreed (fit_at gs 0) (fit_at hs 0)
  first = at_freed gs hs 0 z

  number_freed : IsFreed number_fit free_number
  number_freed = record {
    freed = λ u f e over.
        let (w, e1, f1) = needs-ok (word u) WrongShape
        (λ w. demands (is_digits w) NotALabel (Ok (if nat_le (number_of w) number_limit
        then fitted.Label (number_of w) else fitted.OverBound))) f e in
        let (e2, f2) = demands-ok (is_digits w) NotALabel
        (Ok (if nat_le (number_of w) number_limit
        then fitted.Label (number_of w) else fitted.OverBound)) f f1 in
        let is = by w (nat_le (number_of w) number_limit) f (ok_same _ f f2) over in
        ap (λ o. needs o WrongShape
        (λ w. demands (is_digits w) NotALabel (Ok (fitted.Label (number_of w))))) e1
        ∙ ap (λ b. demands b NotALabel (Ok (fitted.Label (number_of w)))) e2
        ∙ ap (λ (h : Fitted). Ok h) is;
  }
    where
      by : (w : List ℕ) (b : Bool) (f : Fitted)
          → (if b then fitted.Label (number_of w) else fitted.OverBound) ≡ f
          → over_bound f ≡ false → fitted.Label (number_of w) ≡ f
      by w true f e over = e
      by w false f e over =
          absurd (true≢false (sym (over_out fitted.OverBound Fitted-F.OverBound
          shown.outs-OverBound) ∙ ap over_bound e ∙ over))

  product_freed : IsFreed (product_fit gs) (product_fit hs)
  product_freed = record {
    freed = λ u f e over.
        let (us, e1, f1) = needs-ok (parts u) WrongShape
        (λ us. demands (length us == length gs) WrongCount (made fitted.Tuple (places gs 0 us)))
        f e in
        let (e2, f2) = demands-ok (length us == length gs) WrongCount
        (made fitted.Tuple (places gs 0 us)) f f1 in
        let (fs, e3, same) = made-ok fitted.Tuple (places gs 0 us) f f2 in
        let none : some_over fs ≡ false =
        sym (ap over_bound (sym same) ∙ over_out (fitted.Tuple fs) (Fitted-F.Tuple fs)
        (shown.outs-Tuple fs)) ∙ over in
        let count : (length us == length hs) ≡ true =
        ap (λ n. length us == n) (AllZip-long IsFreed gs hs z) ∙ e2 in
        ap (λ o. needs o WrongShape
        (λ us. demands (length us == length hs) WrongCount (made fitted.Tuple (places hs 0 us)))) e1
        ∙ (λ i. demands (count i) WrongCount
        (made fitted.Tuple (places_freed gs hs z 0 us fs e3 none i)))
        ∙ ap (λ (h : Fitted). Ok h) same;
  }

  sum_freed : IsFreed (sum_fit gs) (sum_fit hs)
  sum_freed = record {
    freed = λ u f e over.
        let (b, e1, f1) = needs-ok (branch u) WrongShape
        (λ b. needs (number_below (length gs) b.0) BadIndex
        (λ k. made (fitted.Inj k) (fit_at gs k b.1))) f e in
        let (k, e2, f2) = needs-ok (number_below (length gs) b.0) BadIndex
        (λ k. made (fitted.Inj k) (fit_at gs k b.1)) f f1 in
        let (v, e3, same) = made-ok (fitted.Inj k) (fit_at gs k b.1) f f2 in
        let none : over_bound v ≡ false =
        sym (ap over_bound (sym same) ∙ over_out (fitted.Inj k v) (Fitted-F.Inj k v)
        (shown.outs-Inj k v)) ∙ over in
        ap (λ o. needs o WrongShape (λ b. needs (number_below (length hs) b.0) BadIndex
        (λ k. made (fitted.Inj k) (fit_at hs k b.1)))) e1
        ∙ ap (λ o. needs o BadIndex (λ k. made (fitted.Inj k) (fit_at hs k b.1)))
        (ap (λ n. number_below n b.0) (AllZip-long IsFreed gs hs z) ∙ e2)
        ∙ ap (made (fitted.Inj k)) ((at_freed gs hs k z).freed b.1 v e3 none)
        ∙ ap (λ (h : Fitted). Ok h) same;
  }

  power_freed : (labels : LabelSet) → IsFreed (power_fit labels gs) (power_fit labels hs)
  power_freed labels = record {
    freed = λ u f e over.
        let full : Slots → Found Fitted = λ slots.
        needs (all_held slots) MissingKey (λ vs. Ok (fitted.Tuple vs)) in
        let (es, e1, f1) = needs-ok (entries u) WrongShape (power_of labels (fit_at gs 0)) f e in
        let (e2, f2) = demands-ok (list_all is_keyed es) WrongShape
        (found (filled labels (fit_at gs 0) (empty_slots labels) es) full) f f1 in
        let (slots, e3, f3) = found-ok (filled labels (fit_at gs 0) (empty_slots labels) es)
        full f f2 in
        let (fs, e4, f4) = needs-ok (all_held slots) MissingKey (λ vs. Ok (fitted.Tuple vs)) f f3 in
        let same : fitted.Tuple fs ≡ f = ok_same (fitted.Tuple fs) f f4 in
        let none : some_over fs ≡ false =
        sym (ap over_bound (sym same) ∙ over_out (fitted.Tuple fs) (Fitted-F.Tuple fs)
        (shown.outs-Tuple fs)) ∙ over in
        let read = filled_freed labels (fit_at gs 0) (fit_at hs 0) first es (empty_slots labels)
        slots e3 (held_over slots fs e4 ∙ none) in
        ap (λ o. needs o WrongShape (power_of labels (fit_at hs 0))) e1
        ∙ (λ i. demands (e2 i) WrongShape (found (read.0 i) full)) ∙ f3;
  }

  set_freed : IsFreed (set_fit gs) (set_fit hs)
  set_freed = record {
    freed = λ u f e over.
        let (es, e1, f1) = needs-ok (entries u) WrongShape (set_of (fit_at gs 0)) f e in
        let (e2, f2) = demands-ok (list_all is_alone es) WrongShape
        (made fitted.Set (each (λ e. fit_at gs 0 (held e)) es)) f f1 in
        let (fs, e3, same) = made-ok fitted.Set (each (λ e. fit_at gs 0 (held e)) es) f f2 in
        let none : some_over fs ≡ false =
        sym (ap over_bound (sym same) ∙ over_out (fitted.Set fs) (Fitted-F.Set fs)
        (shown.outs-Set fs)) ∙ over in
        let read = each_freed (λ e. fit_at gs 0 (held e)) (λ e. fit_at hs 0 (held e)) over_bound
        (λ x y k q. first.freed (held x) y k q) es fs e3
        (sym (list_any-map (λ b. b) over_bound fs) ∙ none) in
        ap (λ o. needs o WrongShape (set_of (fit_at hs 0))) e1
        ∙ (λ i. demands (e2 i) WrongShape (made fitted.Set (read i)))
        ∙ ap (λ (h : Fitted). Ok h) same;
  }

  abbrev entry_over : Fitted × Weight → Bool
  entry_over w = over_bound w.0 || is_over w.1

  weights_freed : (m : Node) → IsFreed (weights_fit m gs) (free_weights m hs)
  weights_freed m = record {
    freed = λ u f e over.
        let (es, e1, f1) = needs-ok (entries u) WrongShape (weights_of m (fit_at gs 0)) f e in
        let (e2, f2) = demands-ok (list_all (has_weight m) es) WrongShape
        (made fitted.Weights (each (entry_fit m (fit_at gs 0)) es)) f f1 in
        let (fs, e3, same) = made-ok fitted.Weights (each (entry_fit m (fit_at gs 0)) es) f f2 in
        let none : list_any (λ w. w.0 || is_over w.1) (overs fs) ≡ false =
        sym (ap over_bound (sym same) ∙ over_out (fitted.Weights fs) (Fitted-F.Weights fs)
        (shown.outs-Weights fs)) ∙ over in
        let read = each_freed (entry_fit m (fit_at gs 0)) (free_entry m (fit_at hs 0)) entry_over
        entry es fs e3 (sym (list_any-map (λ (w : Bool × Weight). w.0 || is_over w.1)
        (λ (w : Fitted × Weight). (over_bound w.0, w.1)) fs) ∙ none) in
        ap (λ o. needs o WrongShape (free_entries m (fit_at hs 0))) e1
        ∙ (λ i. demands (e2 i) WrongShape (made fitted.Weights (read i)))
        ∙ ap (λ (h : Fitted). Ok h) same;
  }
    where
      overs : List (Fitted × Weight) → List (Bool × Weight)
      overs es = map (λ w. (over_bound w.0, w.1)) es

      entry : (e : Entry) (w : Fitted × Weight) → entry_fit m (fit_at gs 0) e ≡ Ok w
          → entry_over w ≡ false → free_entry m (fit_at hs 0) e ≡ Ok w
      entry e w q over =
          let (f, e1, f1) = found-ok (fit_at gs 0 (held e))
          (λ v. made (λ w. (v, w)) (weight_fit m (weight_tree e))) w q in
          let (c, e2, same) = made-ok (λ (c : Weight). (f, c))
          (weight_fit m (weight_tree e)) w f1 in
          let p = or_parts (over_bound f) (is_over c)
          (ap (λ (w : Fitted × Weight). entry_over w) same ∙ over) in
          (λ i. found (first.freed (held e) f e1 p.0 i)
          (λ v. made (λ w. (v, w)) (weight_free m (weight_tree e) c e2 p.1 i)))
          ∙ ap (λ (w : Fitted × Weight). Ok w) same

same_freed : (g : Fit) → IsFreed g g
same_freed g = record { freed = λ u f e over. e }

step_freed : (names : List (List ℕ)) (m : Node) (gs hs : List Fit) → AllZip IsFreed gs hs
    → IsFreed (fit_step names m gs) (free_step names m hs)
step_freed names State gs hs z = same_freed (fit_step names State gs)
step_freed names (Constant labels) gs hs z = same_freed (fit_step names (Constant labels) gs)
step_freed names Naturals gs hs z = number_freed gs hs z
step_freed names Product gs hs z = product_freed gs hs z
step_freed names Sum gs hs z = sum_freed gs hs z
step_freed names (Power labels) gs hs z = power_freed gs hs z labels
step_freed names Powerset gs hs z = set_freed gs hs z
step_freed names Bag gs hs z = weights_freed gs hs z Bag
step_freed names Distribution gs hs z = weights_freed gs hs z Distribution
step_freed names Integers gs hs z = weights_freed gs hs z Integers
step_freed names Rationals gs hs z = weights_freed gs hs z Rationals

-- what a tree denotes within the bounds it denotes without them
pub fitting-free : (t : Nodes) (names : List (List ℕ)) (p : ℕ) (u : Tree) (f : Fitted)
    → fitting t names p u ≡ Ok f → over_bound f ≡ false → free_fitting t names p u ≡ Ok f
fitting-free t names p =
    (fold-related IsFreed no_fit no_fit (fit_step names) (free_step names) none_freed
    (step_freed names) t p).freed
