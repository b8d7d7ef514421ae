-- What denotes something without the bounds fits with them, though a number may be over its bound.
use Rattle.std.proofs.Common.{◌≡◌, ℕ, zero, suc, ◌+◌, ◌-◌, ◌*◌, ◌≤◌, Bool, true, false, not, ◌&&◌, List, [], ◌∷◌, length, Option, Some, None, Ok, Err, refl, sym, ap, ◌∙◌, subst, arith, true≢false}
use Rattle.std.specs.Prelude.{◌==◌, ◌||◌, if◌then◌else◌, nat_lt, nat_le, slice_set, drop, option_and_then, is_none, ℤ, pos, negsuc, ◌*ℤ◌, int_lt}
use Rattle.std.specs.Option.{option_map_or}
use Rattle.std.specs.List.{list_all, AllZip}
use Rattle.std.proofs.Math.Nat.{mul-pos}
use Rattle.std.proofs.lemmas.Option.{none-some}
use Rattle.std.proofs.lemmas.Slice.Zip.{AllZip-long}
use Rattle.file_cut.specs.declared.tree.Tree.{Tree}
use Rattle.file_cut.specs.declared.tree.Entry.{Entry}
use Rattle.functor_terms.specs.declared.node.Node.{Node}
use Rattle.functor_terms.specs.declared.node.Node.TheVariants.{State, Constant, Naturals, Product, Sum, Power, Powerset, Bag, Distribution, Integers, Rationals}
use Rattle.functor_terms.specs.declared.node.LabelSet.{LabelSet}
use Rattle.functor_terms.specs.Terms.{Nodes, label_number, number_below}
use Rattle.functor_terms.proofs.Folds.{fold-related}
use Rattle.weights.specs.Fractions.{IsLowest}
use Rattle.weights.specs.Numerals.{Form, is_form, denominator_of, is_within, is_below_zero, signed, numerator_of, fraction_of, is_digits, number_of, form_of, has_sign, form_reading, bounded_reading, reading_of}
use Rattle.weights.specs.FractionLaws.{lowest_terms-IsLowest, never_negative}
use Rattle.weights.specs.declared.numeral.Numeral.{Numeral}
use Rattle.weights.specs.declared.fault.NumeralFault.TheVariants as numeral_fault
use Rattle.typing.specs.declared.kind.TypeKind.TheVariants.{NotALabel, WrongShape, WrongCount, RepeatedKey, MissingKey, BadIndex, NotANumber, Negative}
use Rattle.fitting.specs.declared.fitted.Fitted.{Fitted}
use Rattle.fitting.specs.declared.fitted.Fitted.TheVariants as fitted
use Rattle.fitting.specs.declared.fitted.Weight.{Weight}
use Rattle.fitting.specs.declared.fitted.Weight.TheVariants as weight
use Rattle.fitting.specs.Levels.{word, parts, branch, entries, held, key, weight_tree}
use Rattle.fitting.specs.Fitting.{Found, Fit, needs, demands, found, made, each, no_fit, fit_at, places, number_limit, number_fit, product_fit, sum_fit, is_keyed, is_free, Slots, filled, all_held, empty_slots, power_of, power_fit, is_alone, set_of, set_fit, is_from_zero, has_fractions, weighed, weight_fit, has_weight, entry_fit, weights_of, weights_fit, fit_step, fitting}
use Rattle.fitting.proofs.Inversions.{ok_same, needs-ok, demands-ok, found-ok, made-ok}
use Rattle.structure_writer.specs.Spelled.{fraction_if, fraction_spelled, free_number, free_weight, free_entry, free_entries, free_weights, free_step, free_fitting}
use Rattle.weights.specs.NumeralLaws.{denominator-positive}

-- ---- numbers

-- a fraction below 0 has a numerator below 0
below_zero : (p : ℤ) (m d q : ℕ) → 1 ≤ q → p *ℤ pos d ≡ negsuc m *ℤ pos q
    → int_lt p (pos 0) ≡ true
below_zero (negsuc a) m d q some e = refl
below_zero (pos a) m d q some e =
    absurd (never_negative (a * d) (suc m * q) (mul-pos (omega arith) some) e)

-- where the fraction of a form is not below 0, its reading is not told to be
not_below : (negative : Bool) (n d : ℕ) (r : Numeral)
    → IsLowest (signed negative n) d r.p r.q → int_lt r.p (pos 0) ≡ false
    → (negative && nat_lt 0 n) ≡ false
not_below false n d r is h = refl
not_below true zero d r is h = let e : nat_lt 0 0 ≡ false = refl in e
not_below true (suc n) d r is h =
    absurd (true≢false (sym (below_zero r.p n d r.q is.positive is.same) ∙ h))

-- what a word spells, its form and its sign
record IsCutForm (w : List ℕ) (n : Numeral) : Type 0 where
  pub form : Form
  pub found : form_of (if has_sign w then drop 1 w else w) ≡ Some form
  pub formed : is_form form ≡ true
  pub is : fraction_of (has_sign w) form ≡ n

some_numeral : (m n : Numeral) → ◌≡◌ {A = Option Numeral} (Some m) (Some n) → m ≡ n
some_numeral m n e = cc

no_numeral : (n : Numeral) → ◌≡◌ {A = Option Numeral} None (Some n) → ⊥
no_numeral n e = cc

cut_form : (w : List ℕ) (n : Numeral) → fraction_spelled w ≡ Some n → IsCutForm w n
cut_form w n e = by (form_of (if has_sign w then drop 1 w else w)) refl e
  where
    formed_by : (form : Form) → form_of (if has_sign w then drop 1 w else w) ≡ Some form
        → (b : Bool) → is_form form ≡ b
        → (if b then Some (fraction_of (has_sign w) form) else None) ≡ Some n → IsCutForm w n
    formed_by form found true h e = record {
      form = form;
      found = found;
      formed = h;
      is = some_numeral (fraction_of (has_sign w) form) n e;
    }
    formed_by form found false h e = absurd (no_numeral n e)

    by : (o : Option Form) → form_of (if has_sign w then drop 1 w else w) ≡ o
        → option_and_then (fraction_if (has_sign w)) o ≡ Some n → IsCutForm w n
    by None k e = absurd (no_numeral n e)
    by (Some form) k e = formed_by form k (is_form form) refl e

-- it is read by the bounds of its form
cut_reading : (w : List ℕ) (n : Numeral) (c : IsCutForm w n)
    → reading_of w ≡ bounded_reading (has_sign w) c.form
unfolding reading_of
cut_reading w n c =
    ap (λ o. option_map_or (form_reading (has_sign w)) o (Err numeral_fault.NotANumber)) c.found
    ∙ ap (λ (b : Bool). if b then bounded_reading (has_sign w) c.form
    else Err numeral_fault.NotANumber) c.formed

-- a weight without its bound
record IsLooseWeight (m : Node) (o : Option Tree) : Type 0 where
  pub weight : Weight
  pub read : weight_fit m o ≡ Ok weight

both_false : (a b c : Bool) → not (a && b) ≡ true → (b ≡ false → c ≡ false)
    → not (a && c) ≡ true
both_false false b c h f = refl
both_false true true c h f = absurd (true≢false (sym h))
both_false true false c h f = ap not (f refl)

-- a weight that is read without bounds is read, though it may be over its bound
weight_loose : (m : Node) (o : Option Tree) (c : Weight) → free_weight m o ≡ Ok c
    → IsLooseWeight m o
weight_loose m None c e = record { weight = c; read = e }
weight_loose m (Some u) c e =
    let (w, e1, f1) = needs-ok (word u) WrongShape
    (λ w. needs (fraction_spelled w) NotANumber (λ n. weighed m (Ok n))) c e in
    let (n, e2, f2) = needs-ok (fraction_spelled w) NotANumber (λ n. weighed m (Ok n)) c f1 in
    let k = cut_form w n e2 in
    let first = ap (λ o. needs o WrongShape (λ w. weighed m (reading_of w))) e1
    ∙ ap (weighed m) (cut_reading w n k) in
    by w n k (is_within k.form) first f2
  where
    by : (w : List ℕ) (n : Numeral) (k : IsCutForm w n) (b : Bool)
        → weight_fit m (Some u) ≡ weighed m (if b then Ok (fraction_of (has_sign w) k.form)
        else Err (numeral_fault.OverBound (is_below_zero (has_sign w) k.form)))
        → weighed m (Ok n) ≡ Ok c → IsLooseWeight m (Some u)
    by w n k true first f =
        record { weight = c; read = first ∙ ap (λ (n : Numeral). weighed m (Ok n)) k.is ∙ f }
    by w n k false first f =
        let (t, g) = demands-ok (not (is_from_zero m && int_lt n.p (pos 0))) Negative
        (demands (has_fractions m || (n.q == 1)) NotANumber (Ok (weight.Fraction n))) c f in
        let lowest : IsLowest (signed (has_sign w) (numerator_of k.form)) (denominator_of k.form)
        n.p n.q =
        subst (λ (r : Numeral). IsLowest (signed (has_sign w) (numerator_of k.form))
        (denominator_of k.form) r.p r.q) k.is
        (lowest_terms-IsLowest (signed (has_sign w) (numerator_of k.form)) (denominator_of k.form)
        (denominator-positive k.form k.formed)) in
        let natural = both_false (is_from_zero m) (int_lt n.p (pos 0))
        (is_below_zero (has_sign w) k.form) t
        (not_below (has_sign w) (numerator_of k.form) (denominator_of k.form) n lowest) in
        record {
          weight = weight.OverBound;
          read = first ∙ ap (λ b. demands b Negative (Ok weight.OverBound)) natural;
        }

-- ---- nodes

-- what the first reads, the second reads as something
pub record IsLoose (g h : Fit) : Type 0 where
  pub loose : (u : Tree) (f : Fitted) → g u ≡ Ok f → (k : Fitted) × (h u ≡ Ok k)

none_loose : IsLoose no_fit no_fit
none_loose = record { loose = λ u f e. (f, e) }

at_loose : (gs hs : List Fit) (k : ℕ) → AllZip IsLoose gs hs → IsLoose (fit_at gs k) (fit_at hs k)
at_loose [] [] k z = none_loose
at_loose [] (h ∷ hs) k z = absurd z
at_loose (g ∷ gs) [] k z = absurd z
at_loose (g ∷ gs) (h ∷ hs) k z = by (k == 0) (at_loose gs hs (k - 1) z.1)
  where
    by : (b : Bool) → IsLoose (fit_at gs (k - 1)) (fit_at hs (k - 1))
        → IsLoose (if b then g else fit_at gs (k - 1)) (if b then h else fit_at hs (k - 1))
    by true later = z.0
    by false later = later

each_loose : {A B : Type 0} (g h : A → Found B)
    → ((x : A) (y : B) → g x ≡ Ok y → (z : B) × (h x ≡ Ok z)) → (xs : List A) (ys : List B)
    → each g xs ≡ Ok ys → (zs : List B) × (each h xs ≡ Ok zs)
each_loose g h free [] ys e = (ys, e)
each_loose {B = B} g h free (x ∷ xs) ys e =
    let (y, e1, f1) = found-ok (g x) (λ y. made (λ ys. y ∷ ys) (each g xs)) ys e in
    let (rest, e2, is) = made-ok (λ (zs : List B). y ∷ zs) (each g xs) ys f1 in
    let (z, e3) = free x y e1 in
    let (zs, e4) = each_loose g h free xs rest e2 in
    (z ∷ zs, (λ i. found (e3 i) (λ y. made (λ ys. y ∷ ys) (e4 i))))

places_loose : (gs hs : List Fit) → AllZip IsLoose gs hs → (k : ℕ) (us : List Tree)
    (fs : List Fitted) → places gs k us ≡ Ok fs → (ks : List Fitted) × (places hs k us ≡ Ok ks)
places_loose gs hs z k [] fs e = (fs, e)
places_loose gs hs z k (u ∷ us) fs e =
    let (f, e1, f1) =
    found-ok (fit_at gs k u) (λ v. made (λ vs. v ∷ vs) (places gs (k + 1) us)) fs e in
    let (rest, e2, is) = made-ok (λ (vs : List Fitted). f ∷ vs) (places gs (k + 1) us) fs f1 in
    let (v, e3) = (at_loose gs hs k z).loose u f e1 in
    let (vs, e4) = places_loose gs hs z (k + 1) us rest e2 in
    (v ∷ vs, (λ i. found (e3 i) (λ v. made (λ vs. v ∷ vs) (e4 i))))

-- ---- powers

-- slots that are empty in the same places
abbrev Alike : Slots → Slots → Type 0
Alike = AllZip (λ a b. is_none a ≡ is_none b)

alike_free : (xs ys : Slots) (k : ℕ) → Alike xs ys → is_free xs k ≡ is_free ys k
alike_free [] [] k z = refl
alike_free [] (b ∷ ys) k z = absurd z
alike_free (a ∷ xs) [] k z = absurd z
alike_free (a ∷ xs) (b ∷ ys) zero z = z.0
alike_free (a ∷ xs) (b ∷ ys) (suc k) z = alike_free xs ys k z.1

alike_set : (xs ys : Slots) (k : ℕ) (f g : Fitted) → Alike xs ys
    → Alike (slice_set xs k (Some f)) (slice_set ys k (Some g))
alike_set [] [] k f g z = tt
alike_set [] (b ∷ ys) k f g z = absurd z
alike_set (a ∷ xs) [] k f g z = absurd z
alike_set (a ∷ xs) (b ∷ ys) zero f g z = (refl, z.1)
alike_set (a ∷ xs) (b ∷ ys) (suc k) f g z = (z.0, alike_set xs ys k f g z.1)

alike_own : (xs : Slots) → Alike xs xs
alike_own [] = tt
alike_own (a ∷ xs) = (refl, alike_own xs)

alike_held : (xs ys : Slots) (fs : List Fitted) → Alike xs ys → all_held xs ≡ Some fs
    → (gs : List Fitted) × (all_held ys ≡ Some gs)
alike_held [] [] fs z e = ([], refl)
alike_held [] (b ∷ ys) fs z e = absurd z
alike_held (a ∷ xs) [] fs z e = absurd z
alike_held (None ∷ xs) (b ∷ ys) fs z e = absurd (none-some fs e)
alike_held (Some f ∷ xs) (None ∷ ys) fs z e = absurd (true≢false (sym z.0))
alike_held (Some f ∷ xs) (Some g ∷ ys) fs z e =
    by (all_held xs) refl (λ us q. alike_held xs ys us z.1 q) e
  where
    by : (o : Option (List Fitted)) → all_held xs ≡ o
        → ((us : List Fitted) → all_held xs ≡ Some us
        → (gs : List Fitted) × (all_held ys ≡ Some gs))
        → option_map_or (λ us. Some (f ∷ us)) o None ≡ Some fs
        → (gs : List Fitted) × (all_held (Some g ∷ ys) ≡ Some gs)
    by None q rest e = absurd (none-some fs e)
    by (Some us) q rest e =
        let (gs, k) = rest us q in
        (g ∷ gs, ap (λ o. option_map_or (λ us. Some (g ∷ us)) o None) k)

module _ (labels : LabelSet) (g h : Fit) (free : IsLoose g h) where
  filled_loose : (es : List Entry) (xs ys out : Slots) → Alike xs ys
      → filled labels g xs es ≡ Ok out
      → (got : Slots) × (filled labels h ys es ≡ Ok got) × Alike out got
  filled_loose [] xs ys out z e =
      (ys, refl, subst (λ (l : Slots). Alike l ys) (ok_same xs out e) z)
  filled_loose (entry ∷ es) xs ys out z e =
      let (w, e1, f1) = needs-ok (key entry) WrongShape
      (λ w. needs (weight_tree entry) WrongShape
      (λ u. needs (label_number labels w) NotALabel
      (λ k. demands (is_free xs k) RepeatedKey
      (found (g u) (λ v. filled labels g (slice_set xs k (Some v)) es))))) out e in
      let (u, e2, f2) = needs-ok (weight_tree entry) WrongShape
      (λ u. needs (label_number labels w) NotALabel
      (λ k. demands (is_free xs k) RepeatedKey
      (found (g u) (λ v. filled labels g (slice_set xs k (Some v)) es)))) out f1 in
      let (k, e3, f3) = needs-ok (label_number labels w) NotALabel
      (λ k. demands (is_free xs k) RepeatedKey
      (found (g u) (λ v. filled labels g (slice_set xs k (Some v)) es))) out f2 in
      let (e4, f4) = demands-ok (is_free xs k) RepeatedKey
      (found (g u) (λ v. filled labels g (slice_set xs k (Some v)) es)) out f3 in
      let (v, e5, f5) = found-ok (g u) (λ v. filled labels g (slice_set xs k (Some v)) es) out
      f4 in
      let (x, e6) = free.loose u v e5 in
      let (got, e7, alike) = filled_loose es (slice_set xs k (Some v)) (slice_set ys k (Some x)) out
      (alike_set xs ys k v x z) f5 in
      let room : is_free ys k ≡ true = sym (alike_free xs ys k z) ∙ e4 in (
        got,
        (λ i. needs (e1 i) WrongShape (λ w. needs (e2 i) WrongShape
            (λ u. needs (label_number labels w) NotALabel
            (λ k. demands (is_free ys k) RepeatedKey
            (found (h u) (λ v. filled labels h (slice_set ys k (Some v)) es))))))
            ∙ (λ i. needs (e3 i) NotALabel (λ k. demands (is_free ys k) RepeatedKey
            (found (h u) (λ v. filled labels h (slice_set ys k (Some v)) es))))
            ∙ (λ i. demands (room i) RepeatedKey
            (found (e6 i) (λ v. filled labels h (slice_set ys k (Some v)) es)))
            ∙ e7,
        alike,
      )

-- ---- terms

module _ (gs hs : List Fit) (z : AllZip IsLoose gs hs) where
  first : IsLoose (fit_at gs 0) (fit_at hs 0)
  first = at_loose gs hs 0 z

  number_loose : IsLoose free_number number_fit
  number_loose = record {
    loose = λ u f e.
        let (w, e1, f1) = needs-ok (word u) WrongShape
        (λ w. demands (is_digits w) NotALabel (Ok (fitted.Label (number_of w)))) f e in
        let (e2, f2) = demands-ok (is_digits w) NotALabel (Ok (fitted.Label (number_of w))) f
        f1 in (
          if nat_le (number_of w) number_limit then fitted.Label (number_of w)
              else fitted.OverBound,
          ap (λ o. needs o WrongShape (λ w. demands (is_digits w) NotALabel
              (Ok (if nat_le (number_of w) number_limit
              then fitted.Label (number_of w) else fitted.OverBound)))) e1
              ∙ ap (λ b. demands b NotALabel (Ok (if nat_le (number_of w) number_limit
              then fitted.Label (number_of w) else fitted.OverBound))) e2,
        );
  }

  product_loose : IsLoose (product_fit gs) (product_fit hs)
  product_loose = record {
    loose = λ u f e.
        let (us, e1, f1) = needs-ok (parts u) WrongShape
        (λ us. demands (length us == length gs) WrongCount (made fitted.Tuple (places gs 0 us)))
        f e in
        let (e2, f2) = demands-ok (length us == length gs) WrongCount
        (made fitted.Tuple (places gs 0 us)) f f1 in
        let (fs, e3, same) = made-ok fitted.Tuple (places gs 0 us) f f2 in
        let (ks, e4) = places_loose gs hs z 0 us fs e3 in
        let count : (length us == length hs) ≡ true =
        ap (λ n. length us == n) (AllZip-long IsLoose gs hs z) ∙ e2 in (
          fitted.Tuple ks,
          ap (λ o. needs o WrongShape (λ us. demands (length us == length hs) WrongCount
              (made fitted.Tuple (places hs 0 us)))) e1
              ∙ (λ i. demands (count i) WrongCount (made fitted.Tuple (e4 i))),
        );
  }

  sum_loose : IsLoose (sum_fit gs) (sum_fit hs)
  sum_loose = record {
    loose = λ u f e.
        let (b, e1, f1) = needs-ok (branch u) WrongShape
        (λ b. needs (number_below (length gs) b.0) BadIndex
        (λ k. made (fitted.Inj k) (fit_at gs k b.1))) f e in
        let (k, e2, f2) = needs-ok (number_below (length gs) b.0) BadIndex
        (λ k. made (fitted.Inj k) (fit_at gs k b.1)) f f1 in
        let (v, e3, same) = made-ok (fitted.Inj k) (fit_at gs k b.1) f f2 in
        let (x, e4) = (at_loose gs hs k z).loose b.1 v e3 in (
          fitted.Inj k x,
          ap (λ o. needs o WrongShape (λ b. needs (number_below (length hs) b.0) BadIndex
              (λ k. made (fitted.Inj k) (fit_at hs k b.1)))) e1
              ∙ ap (λ o. needs o BadIndex (λ k. made (fitted.Inj k) (fit_at hs k b.1)))
              (ap (λ n. number_below n b.0) (AllZip-long IsLoose gs hs z) ∙ e2)
              ∙ ap (made (fitted.Inj k)) e4,
        );
  }

  power_loose : (labels : LabelSet) → IsLoose (power_fit labels gs) (power_fit labels hs)
  power_loose labels = record {
    loose = λ u f e.
        let full : Slots → Found Fitted = λ slots.
        needs (all_held slots) MissingKey (λ vs. Ok (fitted.Tuple vs)) in
        let (es, e1, f1) = needs-ok (entries u) WrongShape (power_of labels (fit_at gs 0)) f e in
        let (e2, f2) = demands-ok (list_all is_keyed es) WrongShape
        (found (filled labels (fit_at gs 0) (empty_slots labels) es) full) f f1 in
        let (slots, e3, f3) = found-ok (filled labels (fit_at gs 0) (empty_slots labels) es)
        full f f2 in
        let (fs, e4, f4) = needs-ok (all_held slots) MissingKey (λ vs. Ok (fitted.Tuple vs)) f f3 in
        let (got, e5, alike) = filled_loose labels (fit_at gs 0) (fit_at hs 0) first es
        (empty_slots labels) (empty_slots labels) slots (alike_own (empty_slots labels)) e3 in
        let (ks, e6) = alike_held slots got fs alike e4 in (
          fitted.Tuple ks,
          ap (λ o. needs o WrongShape (power_of labels (fit_at hs 0))) e1
              ∙ (λ i. demands (e2 i) WrongShape (found (e5 i) full))
              ∙ ap (λ o. needs o MissingKey (λ vs. Ok (fitted.Tuple vs))) e6,
        );
  }

  set_loose : IsLoose (set_fit gs) (set_fit hs)
  set_loose = record {
    loose = λ u f e.
        let (es, e1, f1) = needs-ok (entries u) WrongShape (set_of (fit_at gs 0)) f e in
        let (e2, f2) = demands-ok (list_all is_alone es) WrongShape
        (made fitted.Set (each (λ e. fit_at gs 0 (held e)) es)) f f1 in
        let (fs, e3, same) = made-ok fitted.Set (each (λ e. fit_at gs 0 (held e)) es) f f2 in
        let (ks, e4) = each_loose (λ e. fit_at gs 0 (held e)) (λ e. fit_at hs 0 (held e))
        (λ x y q. first.loose (held x) y q) es fs e3 in (
          fitted.Set ks,
          ap (λ o. needs o WrongShape (set_of (fit_at hs 0))) e1
              ∙ (λ i. demands (e2 i) WrongShape (made fitted.Set (e4 i))),
        );
  }

  weights_loose : (m : Node) → IsLoose (free_weights m gs) (weights_fit m hs)
  weights_loose m = record {
    loose = λ u f e.
        let (es, e1, f1) = needs-ok (entries u) WrongShape (free_entries m (fit_at gs 0)) f e in
        let (e2, f2) = demands-ok (list_all (has_weight m) es) WrongShape
        (made fitted.Weights (each (free_entry m (fit_at gs 0)) es)) f f1 in
        let (fs, e3, same) = made-ok fitted.Weights (each (free_entry m (fit_at gs 0)) es) f f2 in
        let (ks, e4) = each_loose (free_entry m (fit_at gs 0)) (entry_fit m (fit_at hs 0)) entry es
        fs e3 in (
          fitted.Weights ks,
          ap (λ o. needs o WrongShape (weights_of m (fit_at hs 0))) e1
              ∙ (λ i. demands (e2 i) WrongShape (made fitted.Weights (e4 i))),
        );
  }
    where
      entry : (e : Entry) (w : Fitted × Weight) → free_entry m (fit_at gs 0) e ≡ Ok w
          → (x : Fitted × Weight) × (entry_fit m (fit_at hs 0) e ≡ Ok x)
      entry e w q =
          let (f, e1, f1) = found-ok (fit_at gs 0 (held e))
          (λ v. made (λ w. (v, w)) (free_weight m (weight_tree e))) w q in
          let (c, e2, same) = made-ok (λ (c : Weight). (f, c))
          (free_weight m (weight_tree e)) w f1 in
          let (k, e3) = first.loose (held e) f e1 in
          let read = weight_loose m (weight_tree e) c e2 in (
            (k, read.weight),
            (λ i. found (e3 i) (λ v. made (λ w. (v, w)) (read.read i))),
          )

same_loose : (g : Fit) → IsLoose g g
same_loose g = record { loose = λ u f e. (f, e) }

step_loose : (names : List (List ℕ)) (m : Node) (gs hs : List Fit) → AllZip IsLoose gs hs
    → IsLoose (free_step names m gs) (fit_step names m hs)
step_loose names State gs hs z = same_loose (fit_step names State gs)
step_loose names (Constant labels) gs hs z = same_loose (fit_step names (Constant labels) gs)
step_loose names Naturals gs hs z = number_loose gs hs z
step_loose names Product gs hs z = product_loose gs hs z
step_loose names Sum gs hs z = sum_loose gs hs z
step_loose names (Power labels) gs hs z = power_loose gs hs z labels
step_loose names Powerset gs hs z = set_loose gs hs z
step_loose names Bag gs hs z = weights_loose gs hs z Bag
step_loose names Distribution gs hs z = weights_loose gs hs z Distribution
step_loose names Integers gs hs z = weights_loose gs hs z Integers
step_loose names Rationals gs hs z = weights_loose gs hs z Rationals

-- what a tree denotes without the bounds, it is fitted to something with them
pub fitting-loose : (t : Nodes) (names : List (List ℕ)) (p : ℕ) (u : Tree) (f : Fitted)
    → free_fitting t names p u ≡ Ok f → (k : Fitted) × (fitting t names p u ≡ Ok k)
fitting-loose t names p =
    (fold-related IsLoose no_fit no_fit (free_step names) (fit_step names) none_loose
    (step_loose names) t p).loose
