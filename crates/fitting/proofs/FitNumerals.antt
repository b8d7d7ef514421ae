-- The fractions in what a tree denotes are within the bounds of a numeral, and those of a bag or a
-- distribution are not below 0.
use Rattle.std.proofs.Common.{◌≡◌, ℕ, ◌-◌, ◌^◌, Bool, true, false, not, ◌&&◌, ◌||◌, List, [], ◌∷◌, map, refl, sym, ap, ◌∙◌, subst, true≢false}
use Rattle.std.specs.Prelude.{Option, Some, None, Result, Ok, Err, ◌==◌, if◌then◌else◌, nat_le, pos, int_lt, unsigned_abs, IfOk, IsTrue}
use Rattle.std.specs.List.{AllByRecursion, list_all}
use Rattle.std.proofs.lemmas.Bool.{and_from, le-leb}
use Rattle.file_cut.specs.declared.tree.Tree.{Tree}
use Rattle.functor_terms.specs.declared.node.Node.{Node}
use Rattle.functor_terms.specs.declared.node.Node.TheVariants.{State, Constant, Naturals, Product, Sum, Power, Powerset, Bag, Distribution, Integers, Rationals}
use Rattle.functor_terms.specs.declared.node.LabelSet.{LabelSet}
use Rattle.functor_terms.specs.Terms.{Nodes, label_number}
use Rattle.functor_terms.specs.Words.{place_of}
use Rattle.functor_terms.proofs.Folds.{fold-all}
use Rattle.weights.specs.Numerals.{is_digits, number_of, reading_of, IsValueOf}
use Rattle.weights.specs.NumeralLaws.{reading_value}
use Rattle.weights.specs.declared.numeral.Numeral.{Numeral}
use Rattle.weights.specs.declared.fault.NumeralFault.{NumeralFault}
use Rattle.weights.specs.declared.fault.NumeralFault.TheVariants as numeral_fault
use Rattle.typing.specs.declared.kind.TypeKind.TheVariants.{UnknownState, NotALabel, WrongShape, NotANumber, Negative}
use Rattle.fitting.specs.declared.fitted.Fitted.{Fitted, Fitted-F, out-Fitted, fold_out-Fitted, map-Fitted}
use Rattle.fitting.specs.declared.fitted.Fitted.TheVariants as fitted
use Rattle.fitting.specs.declared.fitted.Fitted.TheViews as shown
use Rattle.fitting.specs.declared.fitted.Weight.{Weight}
use Rattle.fitting.specs.declared.fitted.Weight.TheVariants as weight
use Rattle.fitting.specs.Levels.{word}
use Rattle.fitting.specs.Fitting.{Found, Fit, needs, demands, no_fit, fit_at, state_fit, label_fit, number_fit, number_limit, is_from_zero, has_fractions, weighed, one, weight_fit, fit_step, fitting, Gives, product_fit, sum_fit, power_fit, set_fit, weights_fit}
use Rattle.fitting.specs.declared.fault.FitFault.{FitFault}
use Rattle.fitting.specs.Scaling.{is_numeral, numerals_step, are_numerals}
use Rattle.fitting.proofs.Inversions.{ok_same, err_ok, needs-ok, demands-ok}
use Rattle.fitting.proofs.Shapes.{product-ok, places-good, sum-ok, power-ok, set-ok, weights-ok}

-- one level of `are_numerals`
numerals_out :
    (f : Fitted) (x : Fitted-F Fitted) → out-Fitted f ≡ x
    → are_numerals f ≡ numerals_step (map-Fitted Fitted Bool are_numerals x)
numerals_out f x e =
    fold_out-Fitted Bool numerals_step f
    ∙ ap (λ (y : Fitted-F Fitted). numerals_step (map-Fitted Fitted Bool are_numerals y)) e

-- what passes the tests of a weight
pub record IsWeighed (m : Node) (n : Numeral) : Type 0 where
  pub natural : is_from_zero m ≡ true → int_lt n.p (pos 0) ≡ false

not_both : (a b : Bool) → not (a && b) ≡ true → a ≡ true → b ≡ false
not_both true true h e = absurd (true≢false (sym h))
not_both true false h e = refl
not_both false b h e = absurd (true≢false (sym e))

-- a weight that was read is over its bound, or the fraction of its word, which passes the tests
pub data Weighs (m : Node) (r : Result Numeral NumeralFault) (c : Weight) : Type 0 where
  over : c ≡ weight.OverBound → Weighs m r c
  fraction : (n : Numeral) → r ≡ Ok n → c ≡ weight.Fraction n → IsWeighed m n → Weighs m r c

weighed-ok :
    (m : Node) (r : Result Numeral NumeralFault) (c : Weight) → weighed m r ≡ Ok c → Weighs m r c
weighed-ok m (Err numeral_fault.NotANumber) c e = absurd (err_ok NotANumber c e)
weighed-ok m (Err (numeral_fault.OverBound negative)) c e =
    let (e1, f1) =
    demands-ok (not (is_from_zero m && negative)) Negative (Ok weight.OverBound) c e in
    over (sym (ok_same weight.OverBound c f1))
weighed-ok m (Ok n) c e =
    let below : Bool = int_lt n.p (pos 0) in
    let whole : Bool = has_fractions m || (n.q == 1) in
    let (e1, f1) =
    demands-ok (not (is_from_zero m && below)) Negative
    (demands whole NotANumber (Ok (weight.Fraction n))) c e in
    let (e2, f2) = demands-ok whole NotANumber (Ok (weight.Fraction n)) c f1 in
    fraction n refl (sym (ok_same (weight.Fraction n) c f2))
    (record { natural = λ h. not_both (is_from_zero m) below e1 h })

value_of : (r : Result Numeral NumeralFault) (w : List ℕ) (n : Numeral)
    → r ≡ Ok n → IfOk r (λ k. IsValueOf w k.p k.q) → IsValueOf w n.p n.q
value_of r w n e h = subst (λ q. IfOk q (λ k. IsValueOf w k.p k.q)) e h

-- the weight of an entry is a numeral, and not below 0 at bags and distributions
pub record IsRead (m : Node) (c : Weight) : Type 0 where
  pub numeral : is_numeral c ≡ true
  pub natural :
      is_from_zero m ≡ true → (n : Numeral) → c ≡ weight.Fraction n → int_lt n.p (pos 0) ≡ false

fraction_same : (n k : Numeral) → weight.Fraction n ≡ weight.Fraction k → n ≡ k
fraction_same n k e = cc

over_fraction : (n : Numeral) → weight.OverBound ≡ weight.Fraction n → ⊥
over_fraction n e = cc

-- a weight that is read is what its tree spells
pub weight-read : (m : Node) (o : Option Tree) (c : Weight) → weight_fit m o ≡ Ok c → IsRead m c
weight-read m None c e = subst (IsRead m) (ok_same one c e) (record {
  numeral = refl;
  natural = λ h n same. ap (λ (k : Numeral). int_lt k.p (pos 0)) (sym (fraction_same _ n same));
})
weight-read m (Some u) c e =
    let (w, e1, f1) = needs-ok (word u) WrongShape (λ w. weighed m (reading_of w)) c e in
    by w (weighed-ok m (reading_of w) c f1)
  where
    by : (w : List ℕ) → Weighs m (reading_of w) c → IsRead m c
    by w (over is) = record {
      numeral = ap is_numeral is;
      natural = λ h n same. absurd (over_fraction n (sym is ∙ same));
    }
    by w (fraction n e1 is tests) =
        let v : IsValueOf w n.p n.q = value_of (reading_of w) w n e1 (reading_value w) in
        record {
          numeral = ap is_numeral is ∙ and_from (nat_le 1 n.q)
              (nat_le n.q (2 ^ 40) && nat_le (unsigned_abs n.p) (2 ^ 40))
              (le-leb 1 n.q v.denoted.value.positive)
              (and_from (nat_le n.q (2 ^ 40)) (nat_le (unsigned_abs n.p) (2 ^ 40))
              (le-leb n.q (2 ^ 40) v.below) (le-leb (unsigned_abs n.p) (2 ^ 40) v.above));
          natural = λ h k same.
              ap (λ (j : Numeral). int_lt j.p (pos 0)) (sym (fraction_same n k (sym is ∙ same)))
              ∙ tests.natural h;
        }

abbrev IsGood : Fitted → Type 0
IsGood f = are_numerals f ≡ true

list_good :
    (fs : List Fitted) → AllByRecursion IsGood fs → list_all (λ b. b) (map are_numerals fs) ≡ true
list_good [] all = refl
list_good (f ∷ fs) all =
    and_from (are_numerals f) (list_all (λ b. b) (map are_numerals fs)) all.0 (list_good fs all.1)

abbrev tested : List (Fitted × Weight) → List (Bool × Weight)
tested es = map (λ e. (are_numerals e.0, e.1)) es

entries_good :
    (m : Node) (es : List (Fitted × Weight))
    → AllByRecursion (λ w. IsGood w.0 × IsRead m w.1) es
    → list_all (λ e. e.0 && is_numeral e.1) (tested es) ≡ true
entries_good m [] all = refl
entries_good m (e ∷ es) all =
    and_from (are_numerals e.0 && is_numeral e.1)
    (list_all (λ e. e.0 && is_numeral e.1) (tested es))
    (and_from (are_numerals e.0) (is_numeral e.1) all.0.0 all.0.1.numeral)
    (entries_good m es all.1)

-- what is read has numerals alone
record HasNumerals (g : Fit) : Type 0 where
  pub good : (u : Tree) (f : Fitted) → g u ≡ Ok f → IsGood f

none_good : HasNumerals no_fit
none_good = record { good = λ u f e. absurd (err_ok WrongShape f e) }

at_good : (gs : List Fit) (k : ℕ) → AllByRecursion HasNumerals gs → HasNumerals (fit_at gs k)
at_good [] k all = none_good
at_good (g ∷ gs) k all = by (k == 0) (at_good gs (k - 1) all.1)
  where
    by : (o : Bool) → HasNumerals (fit_at gs (k - 1))
        → HasNumerals (if o then g else fit_at gs (k - 1))
    by true later = all.0
    by false later = later

state_good : (names : List (List ℕ)) (u : Tree) (f : Fitted) → state_fit names u ≡ Ok f → IsGood f
state_good names u f e =
    let named : List ℕ → Found Fitted = λ w.
    needs (place_of w names) UnknownState (λ i. Ok (fitted.State i)) in
    let (w, e1, f1) = needs-ok (word u) WrongShape named f e in
    let (i, e2, f2) = needs-ok (place_of w names) UnknownState (λ i. Ok (fitted.State i)) f f1 in
    numerals_out f (Fitted-F.State i)
    (ap out-Fitted (sym (ok_same (fitted.State i) f f2)) ∙ shown.outs-State i)

label_good : (labels : LabelSet) (u : Tree) (f : Fitted) → label_fit labels u ≡ Ok f → IsGood f
label_good labels u f e =
    let named : List ℕ → Found Fitted = λ w.
    needs (label_number labels w) NotALabel (λ k. Ok (fitted.Label k)) in
    let (w, e1, f1) = needs-ok (word u) WrongShape named f e in
    let (k, e2, f2) = needs-ok (label_number labels w) NotALabel (λ k. Ok (fitted.Label k)) f f1 in
    numerals_out f (Fitted-F.Label k)
    (ap out-Fitted (sym (ok_same (fitted.Label k) f f2)) ∙ shown.outs-Label k)

number_good : (u : Tree) (f : Fitted) → number_fit u ≡ Ok f → IsGood f
number_good u f e =
    let number : List ℕ → Fitted = λ w.
    if nat_le (number_of w) number_limit then fitted.Label
    (number_of w) else fitted.OverBound in
    let (w, e1, f1) =
    needs-ok (word u) WrongShape (λ w. demands (is_digits w) NotALabel (Ok (number w))) f e in
    let (e2, f2) = demands-ok (is_digits w) NotALabel (Ok (number w)) f f1 in
    by (number_of w) (nat_le (number_of w) number_limit) (ok_same (number w) f f2)
  where
    by : (k : ℕ) (b : Bool) → (if b then fitted.Label k else fitted.OverBound) ≡ f → IsGood f
    by k true same = numerals_out f (Fitted-F.Label k)
        (ap out-Fitted (sym same) ∙ shown.outs-Label k)
    by k false same = numerals_out f Fitted-F.OverBound
        (ap out-Fitted (sym same) ∙ shown.outs-OverBound)

module _ (gs : List Fit) (all : AllByRecursion HasNumerals gs) where
  first : (u : Tree) (f : Fitted) → fit_at gs 0 u ≡ Ok f → IsGood f
  first = (at_good gs 0 all).good

  product_good : (u : Tree) (f : Fitted) → product_fit gs u ≡ Ok f → IsGood f
  product_good u f e =
      let w = product-ok gs u f e in
      numerals_out f (Fitted-F.Tuple w.values)
      (ap out-Fitted (sym w.is) ∙ shown.outs-Tuple w.values)
      ∙ list_good w.values
      (places-good gs IsGood (λ k. (at_good gs k all).good) 0 w.trees w.values w.read)

  sum_good : (u : Tree) (f : Fitted) → sum_fit gs u ≡ Ok f → IsGood f
  sum_good u f e =
      let w = sum-ok gs u f e in
      numerals_out f (Fitted-F.Inj w.index w.value)
      (ap out-Fitted (sym w.is) ∙ shown.outs-Inj w.index w.value)
      ∙ (at_good gs w.index all).good w.tree w.value w.read

  power_good : (labels : LabelSet) (u : Tree) (f : Fitted) → power_fit labels gs u ≡ Ok f → IsGood f
  power_good labels u f e =
      let w = power-ok gs IsGood first labels u f e in
      numerals_out f (Fitted-F.Tuple w.values)
      (ap out-Fitted (sym w.is) ∙ shown.outs-Tuple w.values)
      ∙ list_good w.values w.all

  set_good : (u : Tree) (f : Fitted) → set_fit gs u ≡ Ok f → IsGood f
  set_good u f e =
      let w = set-ok gs IsGood first u f e in
      numerals_out f (Fitted-F.Set w.values) (ap out-Fitted (sym w.is) ∙ shown.outs-Set w.values)
      ∙ list_good w.values w.all

  weights_good : (m : Node) (u : Tree) (f : Fitted) → weights_fit m gs u ≡ Ok f → IsGood f
  weights_good m u f e =
      let w = weights-ok gs IsGood first m (IsRead m) (weight-read m) u f e in
      numerals_out f (Fitted-F.Weights w.pairs)
      (ap out-Fitted (sym w.is) ∙ shown.outs-Weights w.pairs)
      ∙ entries_good m w.pairs w.all

step_good :
    (names : List (List ℕ)) (m : Node) (gs : List Fit) → AllByRecursion HasNumerals gs
    → HasNumerals (fit_step names m gs)
step_good names State gs all = record { good = state_good names }
step_good names (Constant labels) gs all = record { good = label_good labels }
step_good names Naturals gs all = record { good = number_good }
step_good names Product gs all = record { good = product_good gs all }
step_good names Sum gs all = record { good = sum_good gs all }
step_good names (Power labels) gs all = record { good = power_good gs all labels }
step_good names Powerset gs all = record { good = set_good gs all }
step_good names Bag gs all = record { good = weights_good gs all Bag }
step_good names Distribution gs all = record { good = weights_good gs all Distribution }
step_good names Integers gs all = record { good = weights_good gs all Integers }
step_good names Rationals gs all = record { good = weights_good gs all Rationals }

-- what a tree denotes has numerals within their bounds
pub fitting-numerals :
    (t : Nodes) (names : List (List ℕ)) (p : ℕ) (u : Tree) (f : Fitted)
    → fitting t names p u ≡ Ok f → are_numerals f ≡ true
fitting-numerals t names p =
    (fold-all HasNumerals no_fit (fit_step names) none_good (step_good names) t p).good

-- so has what a function answers that gives it
pub gives-numerals :
    (t : Nodes) (names : List (List ℕ)) (p : ℕ) (u : Tree) (r : Result Fitted FitFault)
    → Gives r (fitting t names p u) → IfOk r (λ f. IsTrue (are_numerals f))
gives-numerals t names p u (Ok f) g = fitting-numerals t names p u f g
gives-numerals t names p u (Err e) g = tt
